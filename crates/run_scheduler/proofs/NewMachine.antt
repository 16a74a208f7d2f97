-- A new machine is in step with a build of which nothing has happened.
use Rattle.std.proofs.Common.{◌≡◌, ◌≢◌, ℕ, ◌+◌, ◌<◌, nat_lt, Bool, true, false, not, ◌&&◌, ◌||◌, cond, List, [], length, map, get_or, take, refl, sym, ap, ap₂, subst, ◌∙◌, arith, inl, inr}
use Rattle.std.specs.Prelude.{All, Option}
use Rattle.std.specs.Option.{option_map_or}
use Rattle.std.proofs.lemmas.Bool.{cond-true, cond-false, lt-ltb, le-ltb, true≢false, false≢true}
use Rattle.std.proofs.lemmas.Option.{slice_get_cases}
use Rattle.std.proofs.lemmas.List.Elements.{All-nil}
use Rattle.base.specs.declared.graph.Entry.{Entry}
use Rattle.base.specs.Graphs.{IsGraph, IsEntryAt}
use Rattle.outside.specs.Records.{deps_at}
use Rattle.base_collections.specs.Positions.{has}
use Rattle.order.specs.Counts.{undone}
use Rattle.order.specs.Waits.{AreWaitingFiles}
use Rattle.order.specs.declared.files.ReadyFiles.{ReadyFiles}
use Rattle.order.proofs.Takes.{none_here, one_here, others_same}
use Rattle.order.proofs.WaitSteps.{waits_same, waits_as}
use Rattle.order.proofs.Times.{count_more}
use Rattle.run_spec.specs.Moves.{Workload, empty_schedule}
use Rattle.run_scheduler.specs.declared.plans.Need.{Need}
use Rattle.run_scheduler.specs.declared.plans.Need.TheVariants.{Fresh, Stale, Later}
use Rattle.run_scheduler.specs.Plans.{is_fresh, is_stale, is_later, need_at}
use Rattle.run_spec.specs.Steps.{running_child}
use Rattle.run_spec.specs.declared.child.Child.{Child}
use Rattle.run_scheduler.specs.Counts.{AreCountedTo}
use Rattle.run_scheduler.specs.declared.build_scheduler.BuildScheduler.{BuildScheduler}
use Rattle.run_scheduler.specs.Machines.{is_checked, is_first_fault, files_of, IsWorkloadOf, IsMachineOf}

pub deps_within : (graph : List Entry) → IsGraph graph → (at : ℕ) → at < length graph → All (λ dep. dep < length graph) (deps_at graph at)
deps_within graph is at lt = elim ((slice_get_cases graph at).1) [
  | inl found ↦
      let entry : IsEntryAt graph at found.0 = subst (IsEntryAt graph at) found.3 (is.each at found.0 lt) in
      let before : All (λ dep. dep < length graph) found.0.deps = λ k d low. omega (arith, entry.before k d low) in
      subst (All (λ dep. dep < length graph)) (sym (ap (λ (o : Option Entry). option_map_or (λ (e : Entry). e.deps) o []) found.2)) before
  | inr none ↦ absurd (omega (arith, none.0))
]

pub undone_first : (made : List Bool) → 0 ≡ undone (λ dep. get_or made dep false) []
unfolding undone
undone_first made = refl

-- one more dependency is counted if it isn't made
pub undone_step : (made : List Bool) (deps : List ℕ) (i count more : ℕ) (b : Bool) → i < length deps → get_or made (get_or deps i 0) false ≡ b → count ≡ undone (λ dep. get_or made dep false) (take i deps) → more ≡ count + cond b 0 1
    → more ≡ undone (λ dep. get_or made dep false) (take (i + 1) deps)
unfolding undone
undone_step made deps i count more b lt is before next =
    let here : cond {A = ℕ} (not (get_or made (get_or deps i 0) false)) 1 0 ≡ cond {A = ℕ} b 0 1 = ap (λ (t : Bool). cond {A = ℕ} (not t) 1 0) is ∙ turned b in
    omega (arith, count_more (λ dep. not (get_or made dep false)) deps i lt, here)
  where
    turned : (t : Bool) → cond {A = ℕ} (not t) 1 0 ≡ cond {A = ℕ} t 0 1
    turned true = refl
    turned false = refl

none_so_far : (deps : List ℕ) (at : ℕ) → cond {A = List ℕ} (nat_lt at 0) deps [] ≡ []
none_so_far deps at = cond-false (nat_lt at 0) deps [] (le-ltb at 0 (omega arith))

-- a file that needs no check depends on what it may
pub counted_none : (graph : List Entry) (checked made : List Bool) (later : ReadyFiles) (at : ℕ) → get_or checked at false ≡ true → AreCountedTo graph checked made later at → AreCountedTo graph checked made later (at + 1)
counted_none graph checked made later at is counted =
    waits_same later (length graph) (λ k. cond (nat_lt k at) (deps_at graph k) []) (λ k. cond (nat_lt k (at + 1)) (deps_at graph k) []) (λ k. not (get_or checked k false)) (λ k. get_or made k false)
    (λ k low waits. others_same (deps_at graph k) at k (λ e. true≢false (sym waits ∙ ap (λ i. not (get_or checked i false)) e ∙ ap not is))) counted

-- what one more file depends on is noted
pub counted_one : (graph : List Entry) (checked made : List Bool) (old new : ReadyFiles) (at missing : ℕ) (deps : List ℕ) → deps ≡ deps_at graph at → missing ≡ undone (λ dep. get_or made dep false) deps
    → ((count : ℕ) (before after : ℕ → List ℕ) (waits done : ℕ → Bool) → AreWaitingFiles old count before waits done → before at ≡ [] → after at ≡ deps → ((k : ℕ) → k ≢ at → after k ≡ before k) → missing ≡ undone done deps
    → AreWaitingFiles new count after waits done)
    → AreCountedTo graph checked made old at → AreCountedTo graph checked made new (at + 1)
counted_one graph checked made old new at missing deps same counts more counted =
    more (length graph) (λ k. cond (nat_lt k at) (deps_at graph k) []) (λ k. cond (nat_lt k (at + 1)) (deps_at graph k) []) (λ k. not (get_or checked k false)) (λ k. get_or made k false) counted
    (none_here (deps_at graph at) at) (one_here (deps_at graph at) at ∙ sym same) (λ k ne. others_same (deps_at graph k) at k ne) counts

-- at first nothing is noted of what files depend on
pub counted_first : (graph : List Entry) (checked made waiting : List Bool) (later : ReadyFiles) → length waiting ≡ length graph → ((k : ℕ) → k < length graph → get_or waiting k false ≡ not (get_or checked k false))
    → ((done : ℕ → Bool) → AreWaitingFiles later (length waiting) (λ file. []) (λ file. get_or waiting file false) done) → AreCountedTo graph checked made later 0
counted_first graph checked made waiting later many same is =
    let here : AreWaitingFiles later (length graph) (λ file. []) (λ file. get_or waiting file false) (λ k. get_or made k false) =
    subst (λ (n : ℕ). AreWaitingFiles later n (λ file. []) (λ file. get_or waiting file false) (λ k. get_or made k false)) many (is (λ k. get_or made k false)) in
    waits_same later (length graph) (λ file. []) (λ k. cond (nat_lt k 0) (deps_at graph k) []) (λ k. not (get_or checked k false)) (λ k. get_or made k false) (λ k low waits. none_so_far (deps_at graph k) k)
    (waits_as later (length graph) (λ file. []) (λ file. get_or waiting file false) (λ k. not (get_or checked k false)) (λ k. get_or made k false) (λ k low. sym (same k low)) here)

stale_ready : (need : Need) → is_stale need ≡ (not (is_later need) && (not false && not (is_fresh need)))
stale_ready Fresh = refl
stale_ready Stale = refl
stale_ready Later = refl

fresh_made : (need : Need) (made : Bool) → (is_later need ≡ false → made ≡ is_fresh need) → is_fresh need ≡ (not (is_later need) && made)
fresh_made Fresh made same = sym (same refl)
fresh_made Stale made same = sym (same refl)
fresh_made Later made same = refl

not_later : (later : Bool) → not later ≡ true → later ≡ false
not_later true h = absurd (false≢true h)
not_later false h = refl

pub in_step_new : (new : BuildScheduler) (graph : List Entry) (needs : List Need) (limit : ℕ) (goes_on : Bool) (workload : Workload) → new.limit ≡ limit → new.keep_going ≡ goes_on → new.is_halted ≡ false → new.is_stopped ≡ false → new.children.items ≡ []
    → length new.made.items ≡ length graph → ((at : ℕ) → at < length graph → get_or new.checked.items at false ≡ not (is_later (need_at needs at)))
    → ((at : ℕ) → at < length graph → get_or new.made.items at false ≡ is_fresh (need_at needs at)) → ((at : ℕ) → at < length graph → has new.ready at ≡ is_stale (need_at needs at))
    → AreCountedTo graph new.checked.items new.made.items new.later (length graph) → IsWorkloadOf workload graph needs limit goes_on → IsMachineOf new workload empty_schedule
unfolding is_checked is_first_fault files_of
in_step_new new graph needs limit goes_on workload same_limit same_keep halted stopped none count checked fresh stale counted of_workload =
    let low : (k : ℕ) → k < workload.count → k < length graph = λ k lt. omega (arith, of_workload.count) in
    record {
      stepwise = of_workload.stepwise;
      count = of_workload.count ∙ sym count;
      slots = of_workload.slots ∙ sym same_limit;
      keep_going = of_workload.keep_going ∙ sym same_keep;
      halted = sym (ap₂ (λ (a b : Bool). a || b) halted stopped);
      running = sym (ap (map running_child) none);
      started = subst (λ (xs : List Child). All (λ child. get_or new.checked.items child.position false ≡ true) xs) (sym none) (All-nil (λ (child : Child). get_or new.checked.items child.position false ≡ true));
      untaken = λ at lt unchecked. refl;
      free = λ at lt is. of_workload.free at (low at lt) (not_later (is_later (need_at needs at)) (sym (checked at (low at lt)) ∙ is));
      made = λ at lt. fresh at (low at lt) ∙ fresh_made (need_at needs at) (workload.is_made [] at) (of_workload.made at (low at lt)) ∙ ap (λ b. b && workload.is_made [] at) (sym (checked at (low at lt)));
      later = subst (λ (n : ℕ). AreWaitingFiles new.later n workload.deps (λ at. not (get_or new.checked.items at false)) (λ at. get_or new.made.items at false)) (sym of_workload.count)
          (waits_same new.later (length graph) (λ k. cond (nat_lt k (length graph)) (deps_at graph k) []) workload.deps (λ k. not (get_or new.checked.items k false)) (λ k. get_or new.made.items k false)
          (λ k lt waits. of_workload.deps k lt ∙ sym (cond-true (nat_lt k (length graph)) (deps_at graph k) [] (lt-ltb k (length graph) lt))) counted);
      ready = λ at lt. stale at (low at lt) ∙ stale_ready (need_at needs at)
          ∙ ap₂ (λ (a b : Bool). a && (not false && not b)) (sym (checked at (low at lt))) (sym (fresh at (low at lt)));
    }
