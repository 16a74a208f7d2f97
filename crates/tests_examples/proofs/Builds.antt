-- The examples of "The compiler and the clean build", by computation.
use Rattle.std.proofs.Common.{refl}
use Rattle.base.specs.Bytes.{text_bytes}
use Rattle.base.specs.Jobs.{all_built_bytes, built_bytes, compile_input, name_bytes}
use Rattle.base.specs.PresentGraph.{below}
use Rattle.run_spec.specs.ChildJournal.{built_at, has_all}
use Rattle.run_spec.specs.CleanBuild.{results_after}
use Rattle.run_spec.specs.Folds.{upto}
use Rattle.run_spec.specs.Settled.{settle}
use Rattle.tests_examples.specs.Builds.{CleanBuilds, CleanRequests, CompilerRequests}

pub compiler_requests : CompilerRequests
unfolding text_bytes all_built_bytes built_bytes compile_input name_bytes
compiler_requests = record { input = refl; words = refl; no_results = refl }

pub clean_builds : CleanBuilds
unfolding text_bytes all_built_bytes built_bytes compile_input name_bytes results_after
clean_builds = record { made = refl; refused = refl; of_made = refl }

pub clean_requests : CleanRequests
unfolding text_bytes all_built_bytes built_bytes compile_input name_bytes below results_after built_at has_all settle upto
clean_requests = record { second = refl; blocked = refl; recorded = refl; stale = refl; second_alone = refl; first_alone = refl }
