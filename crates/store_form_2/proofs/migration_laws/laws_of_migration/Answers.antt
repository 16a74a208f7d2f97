-- Answers to the goals of `laws_of_migration`.
use Rattle.std.proofs.Common.{refl}
use Rattle.base.specs.View.{part, viewed}
use Rattle.store_form_2.specs.ViewRecords.{is_same_view, latest_view, latest_views}
use Rattle.store_form_2.specs.Migrating.{built_in, each_of, migrated_requests, put_ranked, ranked, request_for}
use Rattle.store_form_2.proofs.Requests.{names_apart}
use Rattle.store_form_2.proofs.Sizes.{all_fit}
use Rattle.store_form_2.proofs.Earlier.{built_before}
use Rattle.store_form_2.proofs.migration_laws.laws_of_migration.Goals as goal

pub returns-clause-distinct : goal.returns-clause-distinct
returns-clause-distinct c = names_apart

pub returns-clause-both : goal.returns-clause-both
unfolding part viewed is_same_view latest_view latest_views built_in each_of migrated_requests put_ranked ranked request_for
returns-clause-both c = refl

pub returns-clause-swapped : goal.returns-clause-swapped
unfolding part viewed is_same_view latest_view latest_views built_in each_of migrated_requests put_ranked ranked request_for
returns-clause-swapped c = refl

pub returns-clause-changed : goal.returns-clause-changed
unfolding part viewed is_same_view latest_view latest_views built_in each_of migrated_requests put_ranked ranked request_for
returns-clause-changed c = refl

pub returns-clause-alone : goal.returns-clause-alone
unfolding part viewed is_same_view latest_view latest_views built_in each_of migrated_requests put_ranked ranked request_for
returns-clause-alone c = refl

pub returns-clause-names : goal.returns-clause-names
returns-clause-names c records graphs small i d l = (all_fit records graphs small i d l).name

pub returns-clause-commands : goal.returns-clause-commands
returns-clause-commands c records graphs small i d l = (all_fit records graphs small i d l).command

pub returns-clause-texts : goal.returns-clause-texts
returns-clause-texts c records graphs small i d l = (all_fit records graphs small i d l).text

pub returns-clause-artefacts : goal.returns-clause-artefacts
returns-clause-artefacts c records graphs small i d l = (all_fit records graphs small i d l).small

pub returns-clause-few : goal.returns-clause-few
returns-clause-few c records graphs small i d l = (all_fit records graphs small i d l).few

pub returns-clause-below : goal.returns-clause-below
returns-clause-below c records graphs small i d l = (all_fit records graphs small i d l).below

pub returns-clause-apart : goal.returns-clause-apart
returns-clause-apart c records graphs small i d l = (all_fit records graphs small i d l).apart

pub returns-clause-others : goal.returns-clause-others
returns-clause-others c records graphs small i d l = (all_fit records graphs small i d l).others

pub returns-clause-earlier : goal.returns-clause-earlier
returns-clause-earlier c = built_before
