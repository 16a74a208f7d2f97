-- What was built where all files are made are the libraries of a clean build.
use Rattle.std.proofs.Common.{◌≡◌, ℕ, ◌<◌, Bool, true, false, List, [], length, Option, Some, None, Result, refl, sym, ap, subst, ◌∙◌}
use Rattle.std.specs.Prelude.{slice_get}
use Rattle.std.specs.Option.{option_map}
use Rattle.std.specs.List.{list_all}
use Rattle.std.proofs.lemmas.Bool.{false≢true}
use Rattle.std.proofs.lemmas.Option.{slice_get-get_or, slice_get-map}
use Rattle.base.specs.declared.graph.Entry.{Entry}
use Rattle.base.specs.declared.child.Request.{Request}
use Rattle.base.specs.declared.child.Exit.{Exit}
use Rattle.base.specs.declared.child.Event.{Event}
use Rattle.base.specs.Graphs.{IsGraph}
use Rattle.base.specs.PresentGraph.{below}
use Rattle.base.proofs.Below.{get_or-below, length-below}
use Rattle.outside.specs.Records.{Record}
use Rattle.outside.specs.Disks.{Image, Moments}
use Rattle.run_spec.specs.declared.statuses.FileStatus.{FileStatus}
use Rattle.run_spec.specs.ChildJournal.{Work, Lawful, Answered, progress_of, exit_at, built_file, artefact_after}
use Rattle.run_spec.specs.CleanBuild.{RecordsClean, built_of, clean_build}
use Rattle.run_spec.specs.CleanBuild as clean
use Rattle.run_spec.specs.Faithful.{IsFaithfulDisk}
use Rattle.run_spec.specs.Statuses.{status_of, status_at, statuses_of}
use Rattle.run_laws.proofs.CleanRanks.{filter_map-same}
use Rattle.run_laws.proofs.CleanSettled.{made_settled}
use Rattle.run_laws.proofs.JournalSettled.{made_settled_so_far}
use Rattle.run_spec.specs.Histories.{Order, World, IsReadable, work_over}
use Rattle.run_laws.proofs.RightRuns.{run_clean}
use Rattle.run_build.specs.Ran.{built_by, is_made}
use Rattle.run_spec.specs.declared.fault.RunFault.{RunFault}
use Rattle.run_build.proofs.BorrowedFiles.{item_at, made_at}
use Rattle.run_spec.specs.TestJournal.{TestPlan}
use Rattle.run_tests.specs.declared.build_and_test.Tested.{Tested}
use Rattle.run_tests.specs.Tested.{TestsOver, setting_after}
use Rattle.run_tests.specs.Libraries.{libraries}

-- a file that is fresh or compiled has an artefact
has_artefact : (keep_going : Bool) (exit : Option Exit) (artefact : Option (List ℕ)) → is_made (status_of keep_going exit artefact) ≡ true → (it : List ℕ) × (artefact ≡ Some it)
has_artefact keep_going exit (Some it) made = (it, refl)
has_artefact keep_going (Some exit) None made = absurd (false≢true made)
has_artefact true None None made = absurd (false≢true made)
has_artefact false None None made = absurd (false≢true made)

module _ (answer : Request → Exit) (work : Work) (is : IsGraph work.graph) (records : RecordsClean answer work.graph work.current) (events : List Event) (lawful : Lawful work events) (answered : Answered answer events)
    (all : list_all is_made (statuses_of work events) ≡ true) where
  abbrev same : ℕ → Type 0
  same position = built_file (slice_get work.graph position) (artefact_after work events position) ≡ built_of (slice_get (clean_build answer work.graph) position)

  each : (k : ℕ) → k < length work.graph → same k
  each k inside =
      let status : ℕ → FileStatus = status_at work (progress_of work events).ends in
      let rank : slice_get (below (length work.graph)) k ≡ Some k =
      slice_get-get_or (below (length work.graph)) k 0 (subst (λ (n : ℕ). k < n) (sym (length-below (length work.graph))) inside) ∙ ap (λ (p : ℕ). Some p) (get_or-below (length work.graph) k 0 inside) in
      let here : slice_get (statuses_of work events) k ≡ Some (status k) = slice_get-map status (below (length work.graph)) k ∙ ap (option_map status) rank in
      let made : is_made (status k) ≡ true = made_at (statuses_of work events) k (status k) all here in
      let artefact = has_artefact work.keep_going (exit_at (progress_of work events).ends k) (artefact_after work events k) made in
      let entry = item_at work.graph k inside in
      let clean_one : slice_get (clean_build answer work.graph) k ≡ Some (clean.Made (record { name = entry.0.name; artefact = artefact.0 })) =
      made_settled answer work.graph is work.current records k entry.0 artefact.0 entry.1 (made_settled_so_far answer work is events lawful answered k artefact.0 artefact.1) in
      ap (λ (o : Option Entry). built_file o (artefact_after work events k)) entry.1 ∙ ap (built_file (Some entry.0)) artefact.1 ∙ sym (ap built_of clean_one)

  pub built_clean : built_by work events ≡ libraries answer work.graph
  built_clean =
      filter_map-same (λ position. built_file (slice_get work.graph position) (artefact_after work events position)) (λ position. built_of (slice_get (clean_build answer work.graph) position)) (below (length work.graph)) 0
      (λ k within.
      let inside : k < length work.graph = subst (λ (n : ℕ). k < n) (length-below (length work.graph)) within in
      subst same (sym (get_or-below (length work.graph) k 0 inside)) (each k inside))

-- a world of this compiler, over these records
abbrev world_of : (Request → Exit) → (Image → List Record) → World
world_of answer records_of = record { compiler = answer; records_of = records_of; reading = λ words sources. None; plan = λ words sources. None }

-- from a disk of true records tests start over these libraries
pub tests_clean : (records_of : Image → List Record) (answer : Request → Exit) (order : Order) (plan : TestPlan) (result : Result Tested RunFault) (failed : Bool) (old new : Moments) (events : List Event) → IsReadable old.now →
    IsFaithfulDisk answer records_of old.now → (over : TestsOver records_of answer order plan result failed old new events) → (over.tests ≡ [] → ⊥) →
    (setting_after order plan (work_over records_of order old.now) over.compiled).built ≡ libraries answer order.graph
tests_clean records_of answer order plan result failed old new events readable faithful over some =
    let work : Work = work_over records_of order old.now in
    built_clean answer work over.builds.graph_form (run_clean (world_of answer records_of) order old.now over.builds.graph_form readable faithful) over.compiled over.builds.lawful over.builds.answered (over.made some)
