-- The ends of runs, event after event.
use Rattle.std.proofs.Common.{◌≡◌, ℕ, zero, suc, Bool, true, false, eqb, cond, List, [], ◌∷◌, ◌++◌, map, Option, Some, None, refl, sym, ap, ◌∙◌, arith}
use Rattle.std.proofs.Math.ListN.{set}
use Rattle.std.specs.Prelude.{slice_get}
use Rattle.std.specs.Option.{option_or}
use Rattle.std.specs.List.{list_all}
use Rattle.std.proofs.lemmas.Bool.{cond-true, cond-false, eq-eqb, ne_eqb}
use Rattle.std.proofs.lemmas.List.{append-nil}
use Rattle.base.specs.declared.child.Exit.{Exit}
use Rattle.base.specs.declared.child.Event.{Event}
use Rattle.base.specs.declared.child.Event.TheVariants.{Started, Ended}
use Rattle.base.specs.declared.child.Request.{Request}
use Rattle.run_spec.specs.Moves.{position_of}
use Rattle.testbench_runs.specs.declared.runs.TestRun.{TestRun}
use Rattle.testbench_runs.specs.declared.ends.RunEnd.{RunEnd}
use Rattle.testbench_runs.specs.Verdicts.{ended_run, unstarted_run, is_passed_verdict}
use Rattle.run_spec.specs.TestJournal.{TestSetting, TestProgress, TestExit, after_test, after_tests, empty_tests, progress_of_tests, exits_of, new_exits, passed_at, has_passed}
use Rattle.run_spec.proofs.TestSteps.{progress_more}
use Rattle.run_tests.specs.Results.{run_exit, run_end, run_ends, test_ends}

-- runs with the same exits have the same ends
ends_same : (f g : ℕ → Option Exit) (runs : List TestRun) → ((k : ℕ) → f k ≡ g k) → run_ends f runs ≡ run_ends g runs
ends_same f g [] h = refl
ends_same f g (run ∷ runs) h =
    ap (λ (o : Option Exit). run_end run o ∷ run_ends (λ k. f (suc k)) runs) (h 0)
    ∙ ap (λ (l : List RunEnd). run_end run (g 0) ∷ l) (ends_same (λ k. f (suc k)) (λ k. g (suc k)) runs (λ k. h (suc k)))

-- the run at a position has an exit now, and no other run changes
ends_set : (f g : ℕ → Option Exit) (runs : List TestRun) (at : ℕ) (run : TestRun) (exit : Exit) → slice_get runs at ≡ Some run → g at ≡ Some exit → ((k : ℕ) → (at ≡ k → ⊥) → g k ≡ f k)
    → set (run_ends f runs) at (ended_run run exit) ≡ run_ends g runs
ends_set f g [] at run exit there here others = let nothing : ⊥ = cc in absurd nothing
ends_set f g (first ∷ rest) zero run exit there here others =
    let same : first ≡ run = cc in
    ap (λ (r : TestRun). ended_run r exit ∷ run_ends (λ k. f (suc k)) rest) (sym same)
    ∙ ap (λ (l : List RunEnd). ended_run first exit ∷ l) (ends_same (λ k. f (suc k)) (λ k. g (suc k)) rest (λ k. sym (others (suc k) (λ h. omega (arith, h)))))
    ∙ ap (λ (o : Option Exit). run_end first o ∷ run_ends (λ k. g (suc k)) rest) (sym here)
ends_set f g (first ∷ rest) (suc at) run exit there here others =
    ap (λ (l : List RunEnd). run_end first (f 0) ∷ l) (ends_set (λ k. f (suc k)) (λ k. g (suc k)) rest at run exit there here (λ k h. others (suc k) (λ e. h (omega (arith, e)))))
    ∙ ap (λ (o : Option Exit). run_end first o ∷ run_ends (λ k. g (suc k)) rest) (sym (others 0 (λ h. omega (arith, h))))

or_cond : (b : Bool) (x : Exit) (o p : Option Exit) → option_or (cond b (Some x) o) p ≡ cond b (Some x) (option_or o p)
or_cond true x o p = refl
or_cond false x o p = refl

-- the exit of each position after one more
exit_more : (exits : List TestExit) (one : TestExit) (k : ℕ) → run_exit (exits ++ one ∷ []) k ≡ cond (eqb one.position k) (Some one.exit) (run_exit exits k)
unfolding run_exit
exit_more [] one k = refl
exit_more (first ∷ rest) one k =
    let own : Option Exit = cond (eqb first.position k) (Some first.exit) None in
    ap (λ (o : Option Exit). option_or o own) (exit_more rest one k) ∙ or_cond (eqb one.position k) one.exit (run_exit rest k) own

none_ended : (f : ℕ → Option Exit) (runs : List TestRun) → ((k : ℕ) → f k ≡ None) → map unstarted_run runs ≡ run_ends f runs
none_ended f [] h = refl
none_ended f (run ∷ runs) h =
    ap (λ (l : List RunEnd). unstarted_run run ∷ l) (none_ended (λ k. f (suc k)) runs (λ k. h (suc k)))
    ∙ ap (λ (o : Option Exit). run_end run o ∷ run_ends (λ k. f (suc k)) runs) (sym (h 0))

-- none has an exit at first
pub found_at_first : (setting : TestSetting) → map unstarted_run setting.plan.runs ≡ test_ends setting []
unfolding run_exit after_tests
found_at_first setting = none_ended (run_exit (progress_of_tests setting []).ends) setting.plan.runs (λ k. refl)

module _ (setting : TestSetting) (events : List Event) where
  abbrev progress : TestProgress
  progress = progress_of_tests setting events

  -- the exits after one more event
  pub exits_then : (event : Event) → (progress_of_tests setting (events ++ event ∷ [])).ends ≡ progress.ends ++ new_exits progress event
  unfolding after_test
  exits_then event = ap (λ (b : TestProgress). b.ends) (progress_more setting empty_tests events event)

  abbrev ends_by : List TestExit → List RunEnd
  ends_by exits = run_ends (run_exit exits) setting.plan.runs

  pub found_started : (ticket : ℕ) (request : Request) → test_ends setting (events ++ Started ticket request ∷ []) ≡ test_ends setting events
  found_started ticket request = ap ends_by (exits_then (Started ticket request) ∙ append-nil progress.ends)

  -- if a run ends, the ends so far get its end at its position
  pub found_ended : (found : List RunEnd) (ticket at : ℕ) (run : TestRun) (exit : Exit) → found ≡ test_ends setting events → position_of ticket progress.schedule.running ≡ Some at → slice_get setting.plan.runs at ≡ Some run
      → set found at (ended_run run exit) ≡ test_ends setting (events ++ Ended ticket exit ∷ [])
  found_ended found ticket at run exit is there run_is =
      let one : TestExit = record { position = at; exit = exit } in
      let exits : (progress_of_tests setting (events ++ Ended ticket exit ∷ [])).ends ≡ progress.ends ++ one ∷ [] =
      exits_then (Ended ticket exit) ∙ ap (λ (o : Option ℕ). progress.ends ++ exits_of o exit) there in
      ap (λ (l : List RunEnd). set l at (ended_run run exit)) is
      ∙ ends_set (run_exit progress.ends) (run_exit (progress.ends ++ one ∷ [])) setting.plan.runs at run exit run_is
      (exit_more progress.ends one at ∙ cond-true (eqb at at) (Some exit) (run_exit progress.ends at) (eq-eqb at at refl))
      (λ k other. exit_more progress.ends one k ∙ cond-false (eqb at k) (Some exit) (run_exit progress.ends k) (ne_eqb at k other))
      ∙ ap ends_by (sym exits)

-- whether the run of a ticket has passed, by the verdicts of its end
pub passed_is : (setting : TestSetting) (there : Option ℕ) (at : ℕ) (run : TestRun) (exit : Exit) (end : RunEnd) (ok : Bool) → there ≡ Some at → slice_get setting.plan.runs at ≡ Some run → end ≡ ended_run run exit
    → ok ≡ list_all is_passed_verdict end.verdicts → passed_at setting there exit ≡ ok
passed_is setting there at run exit end ok position run_is end_is ok_is =
    ap (λ (o : Option ℕ). passed_at setting o exit) position ∙ ap (λ (o : Option TestRun). has_passed o exit) run_is ∙ sym (ap (λ (e : RunEnd). list_all is_passed_verdict e.verdicts) end_is) ∙ sym ok_is
