-- What lawful moves keep true of running children: each was started once, its file isn't made, and all dependencies of
-- that file are made.
use Rattle.std.proofs.Common.{◌≡◌, ℕ, ◌<◌, Bool, true, false, not, ◌||◌, ◌&&◌, eqb, ltb, List, [], ◌∷◌, ◌++◌, length, get_or, Option, Some, None, refl, sym, ap, subst, ◌∙◌, arith, inl, inr}
use Rattle.std.specs.Prelude.{All}
use Rattle.std.specs.List.{list_all, list_any}
use Rattle.std.proofs.lemmas.Bool.{cases_Bool, eqb-true, eq-eqb, ne_eqb, cond-true, cond-false, and_parts, not-true, or_left, or_right}
use Rattle.std.proofs.lemmas.List.Elements.{All-nil, All-head, All-tail, All-cons, All-push, All-weaker}
use Rattle.std.proofs.lemmas.List.Folds.{list_any-append}
use Rattle.std.proofs.lemmas.Option.{none-some, same_Some}
use Rattle.run_spec.specs.Moves.{Workload, SchedulerState, RunningChild, EndedChild, empty_schedule, Move, Starts, Ends, Loses, Halts, IsStepwise, is_taken, is_made_so_far, is_startable, next_start, start_now, position_of, without_child, ended_child, after_move, after_moves, IsLawfulMove, LawfulMoves}
use Rattle.run_laws.proofs.JournalProgress.{first_at}

-- an end of a child of the file at a position
abbrev pub is_end_of : ℕ → EndedChild → Bool
is_end_of position end = eqb end.position position

-- no two run for one file
abbrev pub AreApart : List RunningChild → Type 0
AreApart [] = Unit {0}
AreApart (child ∷ children) = All (λ other. other.position ≡ child.position → ⊥) children × AreApart children

pub record AreOrderly (workload : Workload) (schedule : SchedulerState) : Type 0 where
  pub within : All (λ child. child.position < workload.count) schedule.running
  pub taken : All (λ child. is_taken schedule child.position ≡ true) schedule.running
  pub ends_taken : All (λ end. is_taken schedule end.position ≡ true) schedule.ended
  pub apart : AreApart schedule.running
  pub unmade : All (λ child. is_made_so_far workload schedule child.position ≡ false) schedule.running
  pub unended : All (λ child. list_any (is_end_of child.position) schedule.ended ≡ false) schedule.running
  pub ready : All (λ child. list_all (is_made_so_far workload schedule) (workload.deps child.position) ≡ true) schedule.running

-- what is taken stays taken
still_taken : (taken more : List ℕ) (position : ℕ) → list_any (λ other. eqb other position) taken ≡ true → list_any (λ other. eqb other position) (taken ++ more) ≡ true
still_taken taken more position is = list_any-append (λ other. eqb other position) taken more ∙ or_left _ _ is

now_taken : (taken : List ℕ) (position : ℕ) → list_any (λ other. eqb other position) (taken ++ position ∷ []) ≡ true
now_taken taken position = list_any-append (λ other. eqb other position) taken (position ∷ []) ∙ or_right _ _ (or_left _ _ (eq-eqb position position refl))

not_both : true ≡ false → ⊥
not_both h = cc

-- a file that wasn't taken has no end
pub none_ended : (schedule : SchedulerState) (position : ℕ) → is_taken schedule position ≡ false → (ends : List EndedChild) → All (λ end. is_taken schedule end.position ≡ true) ends → list_any (is_end_of position) ends ≡ false
none_ended schedule position untaken [] all = refl
none_ended schedule position untaken (end ∷ ends) all =
    elim (cases_Bool (eqb end.position position)) [
      | inl t ↦
          let here : is_taken schedule position ≡ true = subst (λ (p : ℕ). is_taken schedule p ≡ true) (eqb-true end.position position t) (All-head (λ e. is_taken schedule e.position ≡ true) end ends all) in
          absurd (not_both (sym here ∙ untaken))
      | inr f ↦ rw f (none_ended schedule position untaken ends (All-tail (λ e. is_taken schedule e.position ≡ true) end ends all))
    ]

-- and none runs for it
none_there : (schedule : SchedulerState) (position : ℕ) → is_taken schedule position ≡ false → (children : List RunningChild) → All (λ child. is_taken schedule child.position ≡ true) children → All (λ child. child.position ≡ position → ⊥) children
none_there schedule position untaken children all =
    All-weaker (λ child. is_taken schedule child.position ≡ true) (λ child. child.position ≡ position → ⊥)
    (λ child taken same. not_both (sym taken ∙ ap (is_taken schedule) same ∙ untaken)) children all

-- one more child keeps all children apart if the others run for other files
apart_with : (children : List RunningChild) (child : RunningChild) → AreApart children → All (λ other. other.position ≡ child.position → ⊥) children → AreApart (children ++ child ∷ [])
apart_with [] child apart others = (All-nil (λ other. other.position ≡ child.position → ⊥), tt)
apart_with (first ∷ children) child apart others = (
  All-push (λ other. other.position ≡ first.position → ⊥) children child apart.0 (λ same. All-head (λ other. other.position ≡ child.position → ⊥) first children others (sym same)),
  apart_with children child apart.1 (All-tail (λ other. other.position ≡ child.position → ⊥) first children others),
)

-- a property of all running children holds of the rest without a ticket
pub All-without : (P : RunningChild → Type 0) (ticket : ℕ) (children : List RunningChild) → All P children → All P (without_child ticket children)
All-without P ticket [] all = all
All-without P ticket (child ∷ children) all =
    elim (cases_Bool (eqb child.ticket ticket)) [
      | inl t ↦ subst (All P) (sym (cond-true (eqb child.ticket ticket) children (child ∷ without_child ticket children) t)) (All-tail P child children all)
      | inr f ↦ subst (All P) (sym (cond-false (eqb child.ticket ticket) children (child ∷ without_child ticket children) f))
          (All-cons P child (without_child ticket children) (All-head P child children all) (All-without P ticket children (All-tail P child children all)))
    ]

apart_without : (ticket : ℕ) (children : List RunningChild) → AreApart children → AreApart (without_child ticket children)
apart_without ticket [] apart = apart
apart_without ticket (child ∷ children) apart =
    elim (cases_Bool (eqb child.ticket ticket)) [
      | inl t ↦ subst AreApart (sym (cond-true (eqb child.ticket ticket) children (child ∷ without_child ticket children) t)) apart.1
      | inr f ↦ subst AreApart (sym (cond-false (eqb child.ticket ticket) children (child ∷ without_child ticket children) f))
          (All-without (λ other. other.position ≡ child.position → ⊥) ticket children apart.0, apart_without ticket children apart.1)
    ]

-- a property of all running children holds of the child of a ticket
pub found_child : (P : RunningChild → Type 0) (ticket position : ℕ) (children : List RunningChild) → position_of ticket children ≡ Some position → All P children → (child : RunningChild) × (child.position ≡ position) × P child
found_child P ticket position [] is all = absurd (none-some position is)
found_child P ticket position (child ∷ children) is all =
    elim (cases_Bool (eqb child.ticket ticket)) [
      | inl t ↦ (child, same_Some child.position position (sym (cond-true (eqb child.ticket ticket) (Some child.position) (position_of ticket children) t) ∙ is), All-head P child children all)
      | inr f ↦ found_child P ticket position children (sym (cond-false (eqb child.ticket ticket) (Some child.position) (position_of ticket children) f) ∙ is) (All-tail P child children all)
    ]

-- the children that remain without a ticket run for other files
others_elsewhere : (ticket position : ℕ) (children : List RunningChild) → AreApart children → position_of ticket children ≡ Some position → All (λ other. other.position ≡ position → ⊥) (without_child ticket children)
others_elsewhere ticket position [] apart is = absurd (none-some position is)
others_elsewhere ticket position (child ∷ children) apart is =
    elim (cases_Bool (eqb child.ticket ticket)) [
      | inl t ↦
          let same : child.position ≡ position = same_Some child.position position (sym (cond-true (eqb child.ticket ticket) (Some child.position) (position_of ticket children) t) ∙ is) in
          subst (All (λ other. other.position ≡ position → ⊥)) (sym (cond-true (eqb child.ticket ticket) children (child ∷ without_child ticket children) t))
          (subst (λ (p : ℕ). All (λ other. other.position ≡ p → ⊥) children) same apart.0)
      | inr f ↦
          let rest : position_of ticket children ≡ Some position = sym (cond-false (eqb child.ticket ticket) (Some child.position) (position_of ticket children) f) ∙ is in
          let found = found_child (λ other. other.position ≡ child.position → ⊥) ticket position children rest apart.0 in
          subst (All (λ other. other.position ≡ position → ⊥)) (sym (cond-false (eqb child.ticket ticket) children (child ∷ without_child ticket children) f))
          (All-cons (λ other. other.position ≡ position → ⊥) child (without_child ticket children) (λ same. found.2 (found.1 ∙ sym same)) (others_elsewhere ticket position children apart.1 rest))
    ]

-- a child that runs has a position
position_there : (ticket : ℕ) (children : List RunningChild) → list_any (λ child. eqb child.ticket ticket) children ≡ true → (position : ℕ) × (position_of ticket children ≡ Some position)
position_there ticket [] runs = absurd (not_both (sym runs))
position_there ticket (child ∷ children) runs =
    elim (cases_Bool (eqb child.ticket ticket)) [
      | inl t ↦ (child.position, cond-true (eqb child.ticket ticket) (Some child.position) (position_of ticket children) t)
      | inr f ↦
          let rest = position_there ticket children (rw f at runs) in
          (rest.0, cond-false (eqb child.ticket ticket) (Some child.position) (position_of ticket children) f ∙ rest.1)
    ]

-- the parts of a position that may be started
pub startable_parts : (workload : Workload) (schedule : SchedulerState) (position : ℕ) → is_startable workload schedule position ≡ true →
    (is_taken schedule position ≡ false) × (is_made_so_far workload schedule position ≡ false) × (list_all (is_made_so_far workload schedule) (workload.deps position) ≡ true)
unfolding is_startable
startable_parts workload schedule position is =
    let outer = and_parts (not (is_taken schedule position) && not (is_made_so_far workload schedule position)) (list_all (is_made_so_far workload schedule) (workload.deps position)) is in
    let inner = and_parts (not (is_taken schedule position)) (not (is_made_so_far workload schedule position)) outer.0 in
    (not-true (is_taken schedule position) inner.0, not-true (is_made_so_far workload schedule position) inner.1, outer.1)

-- the position that is to be started now is one of the files, and may be started
pub started_now : (workload : Workload) (schedule : SchedulerState) (position : ℕ) → start_now workload schedule ≡ Some position → (position < workload.count) × (is_startable workload schedule position ≡ true)
unfolding next_start
started_now workload schedule position is =
    elim (cases_Bool (ltb (length schedule.running) workload.slots && not schedule.halted)) [
      | inl t ↦
          let next : next_start workload schedule ≡ Some position = sym (cond-true (ltb (length schedule.running) workload.slots && not schedule.halted) (next_start workload schedule) None t) ∙ is in
          let found = first_at (is_startable workload schedule) 0 workload.count position next in
          (omega (arith, found.1), found.2)
      | inr f ↦ absurd (none-some position (sym (cond-false (ltb (length schedule.running) workload.slots && not schedule.halted) (next_start workload schedule) None f) ∙ is))
    ]

or_none : (b : Bool) → (b || false) ≡ b
or_none true = refl
or_none false = refl

and_both : (a b : Bool) → a ≡ true → b ≡ true → (a && b) ≡ true
and_both a b x y = rw (x, y) refl

-- what two facts of all items say together
both_weaker : (P Q R : RunningChild → Type 0) (children : List RunningChild) → ((child : RunningChild) → P child → Q child → R child) → All P children → All Q children → All R children
both_weaker P Q R [] from p q = All-nil R
both_weaker P Q R (child ∷ children) from p q =
    All-cons R child children (from child (All-head P child children p) (All-head Q child children q)) (both_weaker P Q R children from (All-tail P child children p) (All-tail Q child children q))

-- one more end
abbrev with_ended : SchedulerState → EndedChild → List RunningChild → SchedulerState
with_ended schedule end running = record { taken = schedule.taken; running = running; ended = schedule.ended ++ end ∷ []; halted = schedule.halted }

or_other : (made good ok : Bool) → good ≡ false → (made || (good && ok)) ≡ made
or_other true good ok other = refl
or_other false good ok other = ap (λ (b : Bool). b && ok) other

module _ (workload : Workload) (wise : IsStepwise workload) (schedule : SchedulerState) (end : EndedChild) where
  -- what is made stays made
  pub still_made : (position : ℕ) → position < workload.count → is_made_so_far workload schedule position ≡ true → is_made_so_far workload (with_ended schedule end []) position ≡ true
  still_made position lt is = wise.by_end schedule.ended end position lt (wise.after_deps schedule.ended position lt is) ∙ or_left (is_made_so_far workload schedule position) (eqb end.position position && end.ok) is

  -- another file's end makes nothing of a file that has all that it depends on
  made_elsewhere : (position : ℕ) → position < workload.count → list_all (is_made_so_far workload schedule) (workload.deps position) ≡ true → (end.position ≡ position → ⊥) → is_made_so_far workload (with_ended schedule end []) position ≡ is_made_so_far workload schedule position
  made_elsewhere position lt all other =
      wise.by_end schedule.ended end position lt all ∙ or_other (is_made_so_far workload schedule position) (eqb end.position position) end.ok (ne_eqb end.position position other)

  all_made_still : (deps : List ℕ) → All (λ dep. dep < workload.count) deps → list_all (is_made_so_far workload schedule) deps ≡ true → list_all (is_made_so_far workload (with_ended schedule end [])) deps ≡ true
  all_made_still [] low all = refl
  all_made_still (dep ∷ deps) low all =
      let parts = and_parts (is_made_so_far workload schedule dep) (list_all (is_made_so_far workload schedule) deps) all in
      and_both (is_made_so_far workload (with_ended schedule end []) dep) (list_all (is_made_so_far workload (with_ended schedule end [])) deps)
      (still_made dep (All-head (λ d. d < workload.count) dep deps low) parts.0) (all_made_still deps (All-tail (λ d. d < workload.count) dep deps low) parts.1)

module _ (workload : Workload) (wise : IsStepwise workload) (schedule : SchedulerState) (is : AreOrderly workload schedule) where
  started_orderly : (position ticket : ℕ) → position < workload.count → is_startable workload schedule position ≡ true → AreOrderly workload (after_move workload schedule (Starts position ticket))
  unfolding after_move
  started_orderly position ticket lt start =
      let parts = startable_parts workload schedule position start in
      let child : RunningChild = record { ticket = ticket; position = position } in
      record {
        within = All-push (λ c. c.position < workload.count) schedule.running child is.within lt;
        taken = All-push (λ c. list_any (λ other. eqb other c.position) (schedule.taken ++ position ∷ []) ≡ true) schedule.running child
            (All-weaker (λ c. is_taken schedule c.position ≡ true) (λ c. list_any (λ other. eqb other c.position) (schedule.taken ++ position ∷ []) ≡ true) (λ c t. still_taken schedule.taken (position ∷ []) c.position t) schedule.running is.taken)
            (now_taken schedule.taken position);
        ends_taken = All-weaker (λ e. is_taken schedule e.position ≡ true) (λ e. list_any (λ other. eqb other e.position) (schedule.taken ++ position ∷ []) ≡ true) (λ e t. still_taken schedule.taken (position ∷ []) e.position t) schedule.ended is.ends_taken;
        apart = apart_with schedule.running child is.apart (none_there schedule position parts.0 schedule.running is.taken);
        unmade = All-push (λ c. is_made_so_far workload schedule c.position ≡ false) schedule.running child is.unmade parts.1;
        unended = All-push (λ c. list_any (is_end_of c.position) schedule.ended ≡ false) schedule.running child is.unended (none_ended schedule position parts.0 schedule.ended is.ends_taken);
        ready = All-push (λ c. list_all (is_made_so_far workload schedule) (workload.deps c.position) ≡ true) schedule.running child is.ready parts.2;
      }

  lost_orderly : (ticket : ℕ) (halted : Bool) → AreOrderly workload (record { taken = schedule.taken; running = without_child ticket schedule.running; ended = schedule.ended; halted = halted })
  lost_orderly ticket halted = record {
    within = All-without (λ c. c.position < workload.count) ticket schedule.running is.within;
    taken = All-without (λ c. is_taken schedule c.position ≡ true) ticket schedule.running is.taken;
    ends_taken = is.ends_taken;
    apart = apart_without ticket schedule.running is.apart;
    unmade = All-without (λ c. is_made_so_far workload schedule c.position ≡ false) ticket schedule.running is.unmade;
    unended = All-without (λ c. list_any (is_end_of c.position) schedule.ended ≡ false) ticket schedule.running is.unended;
    ready = All-without (λ c. list_all (is_made_so_far workload schedule) (workload.deps c.position) ≡ true) ticket schedule.running is.ready;
  }

  ended_orderly : (ticket position : ℕ) (ok : Bool) (output : List ℕ) (halted : Bool) → position_of ticket schedule.running ≡ Some position →
      AreOrderly workload (record { taken = schedule.taken; running = without_child ticket schedule.running; ended = schedule.ended ++ (record { position = position; ok = ok; output = output }) ∷ []; halted = halted })
  ended_orderly ticket position ok output halted at =
      let end : EndedChild = record { position = position; ok = ok; output = output } in
      let left : List RunningChild = without_child ticket schedule.running in
      let elsewhere = others_elsewhere ticket position schedule.running is.apart at in
      let found = found_child (λ c. is_taken schedule c.position ≡ true) ticket position schedule.running at is.taken in
      let taken : is_taken schedule position ≡ true = subst (λ (p : ℕ). is_taken schedule p ≡ true) found.1 found.2 in
      let lost = lost_orderly ticket halted in
      record {
        within = lost.within;
        taken = lost.taken;
        ends_taken = All-push (λ e. is_taken schedule e.position ≡ true) schedule.ended end is.ends_taken taken;
        apart = lost.apart;
        unmade = λ k d lt.
            let c : RunningChild = get_or left k d in
            made_elsewhere workload wise schedule end c.position (lost.within k d lt) (lost.ready k d lt) (λ same. elsewhere k d lt (sym same)) ∙ lost.unmade k d lt;
        unended = both_weaker (λ c. list_any (is_end_of c.position) schedule.ended ≡ false) (λ c. c.position ≡ position → ⊥) (λ c. list_any (is_end_of c.position) (schedule.ended ++ end ∷ []) ≡ false) left
            (λ c none other.
            list_any-append (is_end_of c.position) schedule.ended (end ∷ []) ∙ ap (λ (b : Bool). b || (eqb position c.position || false)) none ∙ ap (λ (b : Bool). b || false) (ne_eqb position c.position (λ same. other (sym same))))
            lost.unended elsewhere;
        ready = λ k d lt.
            let c : RunningChild = get_or left k d in
            all_made_still workload wise schedule end (workload.deps c.position) (λ j e l. omega (arith, wise.before c.position (lost.within k d lt) j e l, lost.within k d lt)) (lost.ready k d lt);
      }

  halted_orderly : (halted : Bool) → AreOrderly workload (record { taken = schedule.taken; running = schedule.running; ended = schedule.ended; halted = halted })
  halted_orderly halted = record { within = is.within; taken = is.taken; ends_taken = is.ends_taken; apart = is.apart; unmade = is.unmade; unended = is.unended; ready = is.ready }

  -- a lawful move keeps it
  orderly_then : (move : Move) → IsLawfulMove workload schedule move → AreOrderly workload (after_move workload schedule move)
  unfolding after_move
  orderly_then (Starts position ticket) lawful = let now = started_now workload schedule position lawful in started_orderly position ticket now.0 now.1
  orderly_then (Ends ticket ok output) lawful =
      let there = position_there ticket schedule.running lawful in
      subst (λ (ends : List EndedChild). AreOrderly workload (record { taken = schedule.taken; running = without_child ticket schedule.running; ended = schedule.ended ++ ends; halted = schedule.halted || (not workload.keep_going && not ok) }))
      (sym (ap (λ (p : Option ℕ). ended_child p ok output) there.1)) (ended_orderly ticket there.0 ok output (schedule.halted || (not workload.keep_going && not ok)) there.1)
  orderly_then (Loses ticket) lawful = lost_orderly ticket true
  orderly_then Halts lawful = halted_orderly true

pub orderly_at_first : (workload : Workload) → AreOrderly workload empty_schedule
orderly_at_first workload = record {
  within = All-nil (λ child. child.position < workload.count);
  taken = All-nil (λ child. is_taken empty_schedule child.position ≡ true);
  ends_taken = All-nil (λ end. is_taken empty_schedule end.position ≡ true);
  apart = tt;
  unmade = All-nil (λ child. is_made_so_far workload empty_schedule child.position ≡ false);
  unended = All-nil (λ child. list_any (is_end_of child.position) empty_schedule.ended ≡ false);
  ready = All-nil (λ child. list_all (is_made_so_far workload empty_schedule) (workload.deps child.position) ≡ true);
}

-- lawful moves keep it
pub orderly_after : (workload : Workload) → IsStepwise workload → (schedule : SchedulerState) → AreOrderly workload schedule → (moves : List Move) → LawfulMoves workload schedule moves → AreOrderly workload (after_moves workload schedule moves)
unfolding after_moves LawfulMoves
orderly_after workload wise schedule is [] lawful = is
orderly_after workload wise schedule is (move ∷ moves) lawful = orderly_after workload wise (after_move workload schedule move) (orderly_then workload wise schedule is move lawful.0) moves lawful.1
