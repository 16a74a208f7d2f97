-- Answers to the goals of `laws_of_journals`.
use Rattle.run_spec.proofs.Parts.{no_event, build_parts, all_compiled}
use Rattle.run_spec.proofs.Prefixes.{lawful_prefix}
use Rattle.run_laws.proofs.CleanCommits.{commits_true}
use Rattle.run_laws.proofs.CleanSettled.{request_clean, request_is_clean, made_settled, settle_is_clean}
use Rattle.run_laws.proofs.JournalStarted.{nothing_due, started_once}
use Rattle.run_laws.proofs.JournalSettled.{made_settled_so_far, asked, started_stale}
use Rattle.run_laws.proofs.journals.laws_of_journals.Goals as goal

pub returns-clause-compiles : goal.returns-clause-compiles
returns-clause-compiles c = λ setting events lawful. (build_parts setting events lawful).0

pub returns-clause-no_tests : goal.returns-clause-no_tests
returns-clause-no_tests c = λ setting events lawful. (build_parts setting events lawful).1

pub returns-clause-parts : goal.returns-clause-parts
returns-clause-parts c = all_compiled

pub returns-clause-no_file : goal.returns-clause-no_file
returns-clause-no_file c = no_event

pub returns-clause-fresh : goal.returns-clause-fresh
returns-clause-fresh c = nothing_due

pub returns-clause-prefix : goal.returns-clause-prefix
returns-clause-prefix c = lawful_prefix

pub returns-clause-asked : goal.returns-clause-asked
returns-clause-asked c = asked

pub returns-clause-stale : goal.returns-clause-stale
returns-clause-stale c = started_stale

pub returns-clause-once : goal.returns-clause-once
returns-clause-once c = started_once

pub returns-clause-made : goal.returns-clause-made
returns-clause-made c = made_settled_so_far

pub returns-clause-clean_asked : goal.returns-clause-clean_asked
returns-clause-clean_asked c = λ answer setting graph records. request_clean answer setting.graph graph setting.current records

pub returns-clause-clean_made : goal.returns-clause-clean_made
returns-clause-clean_made c = λ answer setting graph records. made_settled answer setting.graph graph setting.current records

pub returns-clause-commits : goal.returns-clause-commits
returns-clause-commits c = commits_true

pub returns-clause-clean_exactly : goal.returns-clause-clean_exactly
returns-clause-clean_exactly c = λ answer setting graph records. request_is_clean answer setting.graph graph setting.current records

pub returns-clause-clean_settled : goal.returns-clause-clean_settled
returns-clause-clean_settled c = λ answer setting graph records. settle_is_clean answer setting.graph graph setting.current records
