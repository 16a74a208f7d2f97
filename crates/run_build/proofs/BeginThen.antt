-- A build before its first event: its job and its statuses.
use Rattle.std.proofs.Common.{◌≡◌, ℕ, ◌<◌, ◌≤◌, Bool, true, false, not, ◌&&◌, zero, suc, cond, List, [], ◌∷◌, length, get_or, map, Option, Some, None, refl, sym, ap, ◌∙◌, is_some, arith}
use Rattle.std.specs.Prelude.{All}
use Rattle.std.specs.List.{list_all}
use Rattle.std.proofs.lemmas.Bool.{and_parts}
use Rattle.std.proofs.lemmas.List.Elements.{All-head, All-tail}
use Rattle.std.proofs.lemmas.List.{length-map, get_or-map, take_all}
use Rattle.base.specs.declared.file.FileName.{FileName}
use Rattle.base.specs.declared.graph.BuiltFile.{BuiltFile}
use Rattle.base.specs.declared.graph.Entry.{Entry}
use Rattle.base.specs.declared.child.Exit.{Exit}
use Rattle.base.specs.Graphs.{IsGraph}
use Rattle.base.specs.PresentGraph.{below}
use Rattle.run_spec.specs.declared.statuses.FileStatus.{FileStatus}
use Rattle.base.proofs.Below.{map-below_is}
use Rattle.outside.specs.Records.{Record, IsRecorded, deps_at}
use Rattle.run_scheduler.specs.declared.plans.Need.{Need}
use Rattle.run_scheduler.specs.declared.plans.Need.TheVariants.{Fresh, Stale, Later}
use Rattle.run_scheduler.specs.Plans.{is_fresh, is_later, need_at, ArePlanned}
use Rattle.run_spec.specs.ChildJournal.{Work, empty_progress, files_below, workload_of, or_else, has_all, output_at, exit_at, artefact_by, artefact_so_far}
use Rattle.run_spec.specs.Statuses.{status_of, status_at}
use Rattle.run_spec.proofs.BuiltLists.{has_all_at}
use Rattle.run_spec.specs.Commits.{work_of}
use Rattle.run_spec.proofs.Artefacts.{deps_before, artefact_free, stepwise}
use Rattle.run_build.proofs.Borrowed.{item_at, files_latest, deps_latest}
use Rattle.run_build.proofs.RecordsThen.{records_at_first}
use Rattle.run_build.proofs.Unchecked.{fits_as}
use Rattle.run_scheduler.specs.declared.build_scheduler.BuildScheduler.{BuildScheduler}
use Rattle.run_scheduler.specs.Machines.{IsWorkloadOf, is_checked}
use Rattle.run_build.specs.Statuses.{waiting_status, first_status, known_status, known_statuses}

nothing_ended : (at : ℕ) → output_at [] at ≡ None
unfolding output_at
nothing_ended at = refl

no_exit_yet : (at : ℕ) → exit_at [] at ≡ None
unfolding exit_at
no_exit_yet at = refl

or_nothing : (kept : Option (List ℕ)) → or_else kept None ≡ kept
or_nothing None = refl
or_nothing (Some artefact) = refl

fresh_isn't_later : (need : Need) → is_fresh need ≡ true → is_later need ≡ false
fresh_isn't_later Fresh h = refl
fresh_isn't_later Stale h = let nothing : ⊥ = cc in absurd nothing
fresh_isn't_later Later h = let nothing : ⊥ = cc in absurd nothing

is_true : (b : Bool) → not b ≡ false → b ≡ true
is_true true h = refl
is_true false h = let nothing : ⊥ = cc in absurd nothing

-- what follows from a test for each number below an end
list_all_then : (p q : ℕ → Bool) (end : ℕ) → ((x : ℕ) → x < end → p x ≡ true → q x ≡ true) → (xs : List ℕ) → All (λ x. x < end) xs → list_all p xs ≡ true → list_all q xs ≡ true
list_all_then p q end then [] below h = refl
list_all_then p q end then (x ∷ xs) below h =
    let parts = and_parts (p x) (list_all p xs) h in
    ap (λ (b : Bool). b && list_all q xs) (then x (All-head (λ y. y < end) x xs below) parts.0) ∙ list_all_then p q end then xs (All-tail (λ y. y < end) x xs below) parts.1

module _ (latest_of : FileName → Option Record) (graph : List Entry) (is : IsGraph graph) (needs : List Need)
    (plan : ArePlanned graph (IsRecorded latest_of graph) needs) (slots : ℕ) (keep_going : Bool) where
  abbrev s : Work
  s = work_of latest_of graph slots keep_going

  ordered : (position : ℕ) → All (λ dep. dep < position) (deps_at graph position)
  ordered = deps_before graph is

  -- what is fresh has an artefact from the start, where this holds of all that comes before
  free_to : (end : ℕ) → ((k : ℕ) → k < end → k < length graph → is_fresh (need_at needs k) ≡ true → is_some (artefact_by s [] k) ≡ true) → (at : ℕ) → at ≤ end → at < length graph → is_later (need_at needs at) ≡ false →
      has_all (artefact_by s []) (deps_at graph at) ≡ true
  unfolding has_all
  free_to end before at le lt sure =
      list_all_then (λ dep. is_fresh (need_at needs dep)) (λ dep. is_some (artefact_by s [] dep)) at (λ dep less fresh. before dep (omega (arith, less, le)) (omega (arith, less, lt)) fresh) (deps_at graph at) (ordered at)
      (is_true (list_all (λ dep. is_fresh (need_at needs dep)) (deps_at graph at)) (sym (plan.later at lt) ∙ sure))

  all_there : (at : ℕ) → has_all (artefact_by s []) (deps_at graph at) ≡ true → All (λ dep. is_some (artefact_so_far s [] dep) ≡ true) (deps_at graph at)
  all_there at all = has_all_at (artefact_so_far s []) (deps_at graph at) all

  made_free : (at : ℕ) → at < length graph → has_all (artefact_by s []) (deps_at graph at) ≡ true → is_later (need_at needs at) ≡ false → is_some (artefact_by s [] at) ≡ is_fresh (need_at needs at)
  made_free at lt all sure =
      let entry = item_at graph at lt in
      let files : List BuiltFile = files_below s [] at in
      ap is_some (artefact_free s ordered [] at lt all ∙ ap (or_else (s.current at files)) (nothing_ended at) ∙ or_nothing (s.current at files))
      ∙ sym (fits_as latest_of latest_of graph at entry.0 entry.1 refl files
      (files_latest graph latest_of slots keep_going empty_progress latest_of is (records_at_first s latest_of) (λ name. refl) at entry.0 entry.1 (all_there at all))
      (deps_latest graph latest_of slots keep_going empty_progress latest_of is (records_at_first s latest_of) (λ name. refl) at entry.0 entry.1 (all_there at all))
      (is_fresh (need_at needs at)) (plan.fresh at lt sure))

  made_to : (end : ℕ) (k : ℕ) → k < end → k < length graph → is_fresh (need_at needs k) ≡ true → is_some (artefact_by s [] k) ≡ true
  made_to zero k less lt h = absurd (omega (arith, less))
  made_to (suc end) k less lt h =
      let sure : is_later (need_at needs k) ≡ false = fresh_isn't_later (need_at needs k) h in
      made_free k lt (free_to end (made_to end) k (omega (arith, less)) lt sure) sure ∙ h

  free_of : (at : ℕ) → at < length graph → is_later (need_at needs at) ≡ false → has_all (artefact_by s []) (deps_at graph at) ≡ true
  free_of at lt sure = free_to at (made_to at) at (omega arith) lt sure

  pub is_workload : IsWorkloadOf (workload_of s) graph needs slots keep_going
  unfolding has_all
  is_workload = record {
    stepwise = stepwise s is;
    count = refl;
    deps = λ at lt. refl;
    slots = refl;
    keep_going = refl;
    free = λ at lt sure. free_of at lt sure;
    made = λ at lt sure. made_free at lt (free_of at lt sure) sure;
  }

  status_by : (need : Need) (kept : Option (List ℕ)) → (is_later need ≡ false → is_some kept ≡ is_fresh need) → first_status keep_going need ≡ cond (not (is_later need)) (status_of keep_going None kept) (waiting_status keep_going)
  status_by Later kept same = refl
  status_by Fresh (Some artefact) same = refl
  status_by Fresh None same = let h = same refl in let nothing : ⊥ = cc in absurd nothing
  status_by Stale (Some artefact) same = let h = same refl in let nothing : ⊥ = cc in absurd nothing
  status_by Stale None same = by keep_going where
    by : (b : Bool) → waiting_status b ≡ status_of b None None
    by true = refl
    by false = refl

  -- a fresh file is fresh, and another one waits
  pub first_statuses_are : (machine : BuildScheduler) → ((at : ℕ) → at < length graph → is_checked machine at ≡ not (is_later (need_at needs at))) → map (first_status keep_going) needs ≡ known_statuses s [] machine
  first_statuses_are machine checked =
      let count : length (map (first_status keep_going) needs) ≡ length graph = length-map needs (first_status keep_going) ∙ plan.as_many in
      sym (map-below_is (known_status s [] machine) (map (first_status keep_going) needs) (length graph) (omega (arith, count)) each ∙ take_all (length graph) (map (first_status keep_going) needs) (omega (arith, count))) where
        each : (k : ℕ) (d : FileStatus) → k < length graph → get_or (map (first_status keep_going) needs) k d ≡ known_status s [] machine k
        each k d lt =
            get_or-map (first_status keep_going) needs k Later d (omega (arith, lt, plan.as_many))
            ∙ status_by (need_at needs k) (artefact_so_far s [] k) (λ sure. made_free k lt (free_of k lt sure) sure)
            ∙ ap (λ (e : Option Exit). cond (not (is_later (need_at needs k))) (status_of keep_going e (artefact_so_far s [] k)) (waiting_status keep_going)) (sym (no_exit_yet k))
            ∙ ap (λ (b : Bool). cond b (status_at s [] k) (waiting_status keep_going)) (sym (checked k lt))
