-- Which of two faults comes first, event after event.
use Rattle.std.proofs.Common.{◌≡◌, ℕ, ◌+◌, ◌≤◌, Bool, true, false, not, ◌||◌, List, [], ◌∷◌, ◌++◌, length, Option, Some, None, Err, refl, sym, ap, ◌∙◌, arith, inl, inr}
use Rattle.std.specs.List.{list_any}
use Rattle.std.proofs.lemmas.Bool.{cases_Bool, cond-true, cond-false, or_parts, false≢true}
use Rattle.std.proofs.lemmas.List.{append-nil, length-append}
use Rattle.std.proofs.lemmas.List.Folds.{list_any-append}
use Rattle.std.proofs.lemmas.List.Sums.{take_while-cons}
use Rattle.base.specs.declared.child.Event.{Event}
use Rattle.base.specs.declared.child.Event.TheVariants.{Gone}
use Rattle.outside.specs.Records.{Record}
use Rattle.run_spec.specs.ChildJournal.{Work, is_gone}
use Rattle.run_spec.specs.Commits.{commits}
use Rattle.run_spec.proofs.Prefixes.{commits_prefix}
use Rattle.run_spec.specs.declared.fault.RunFault.{RunFault}
use Rattle.run_spec.specs.declared.fault.RunFault.TheVariants.{NoMemory, StartFailed, ChildLost, DiskFailed}
use Rattle.run_spec.specs.Faults.{with_fault, CountsStart}
use Rattle.run_build.specs.Faults.{before_loss, given_before_loss, is_of_disk, is_disk_failed, CountsCommit, ComesFirst}

abbrev goes_by : Event → Bool
goes_by event = not (is_gone event)

-- while none is lost all comes before the first loss
before_more : (events more : List Event) → list_any is_gone events ≡ false → before_loss (events ++ more) ≡ events ++ before_loss more
before_more [] more none = refl
before_more (event ∷ events) more none =
    let parts = or_parts (is_gone event) (list_any is_gone events) none in
    take_while-cons goes_by event (events ++ more) ∙ cond-true (goes_by event) (event ∷ before_loss (events ++ more)) [] (ap not parts.0)
    ∙ ap (λ (l : List Event). event ∷ l) (before_more events more parts.1)

-- what comes after a loss isn't before the first one
before_same : (events more : List Event) → list_any is_gone events ≡ true → before_loss (events ++ more) ≡ before_loss events
before_same [] more lost = absurd (false≢true lost)
before_same (event ∷ events) more lost =
    elim (cases_Bool (is_gone event)) [
      | inl gone ↦
          take_while-cons goes_by event (events ++ more) ∙ cond-false (goes_by event) (event ∷ before_loss (events ++ more)) [] (ap not gone)
          ∙ sym (take_while-cons goes_by event events ∙ cond-false (goes_by event) (event ∷ before_loss events) [] (ap not gone))
      | inr stays ↦
          take_while-cons goes_by event (events ++ more) ∙ cond-true (goes_by event) (event ∷ before_loss (events ++ more)) [] (ap not stays)
          ∙ ap (λ (l : List Event). event ∷ l) (before_same events more (sym (ap (λ (b : Bool). b || list_any is_gone events) stays) ∙ lost))
          ∙ sym (take_while-cons goes_by event events ∙ cond-true (goes_by event) (event ∷ before_loss events) [] (ap not stays))
    ]

module _ (s : Work) (events : List Event) where
  before_all : list_any is_gone events ≡ false → before_loss events ≡ events
  before_all none = ap before_loss (sym (append-nil events)) ∙ before_more events [] none ∙ append-nil events

  given_same : (more : List Event) → list_any is_gone events ≡ true → given_before_loss s (events ++ more) ≡ given_before_loss s events
  given_same more lost = ap (λ (l : List Event). length (commits s l)) (before_same events more lost)

  -- what is given before the first loss grows
  given_grows : (more : List Event) → given_before_loss s events ≤ given_before_loss s (events ++ more)
  given_grows more =
      elim (cases_Bool (list_any is_gone events)) [
        | inl lost ↦ omega (arith, given_same more lost)
        | inr none ↦
            let rest = commits_prefix s events (before_loss more) in
            let now : given_before_loss s events ≡ length (commits s events) = ap (λ (l : List Event). length (commits s l)) (before_all none) in
            let then : given_before_loss s (events ++ more) ≡ length (commits s events) + length rest.0 =
            ap (λ (l : List Event). length (commits s l)) (before_more events more none) ∙ ap length rest.1 ∙ length-append (commits s events) rest.0 in
            omega (arith, now, then)
      ]

  lost_still : (more : List Event) → list_any is_gone events ≡ true → list_any is_gone (events ++ more) ≡ true
  lost_still more lost = list_any-append is_gone events more ∙ ap (λ (b : Bool). b || list_any is_gone more) lost

  module _ (acknowledged : ℕ) (broken : Bool) where
    pub first_of_none : (first_fault : Option RunFault) → first_fault ≡ None → ComesFirst first_fault s events acknowledged broken
    first_of_none None none = tt
    first_of_none (Some fault) none = let nothing : ⊥ = cc in absurd nothing

    -- after one more event
    pub first_kept : (first_fault : Option RunFault) (event : Event) → ComesFirst first_fault s events acknowledged broken → ComesFirst first_fault s (events ++ event ∷ []) acknowledged broken
    first_kept None event is = tt
    first_kept (Some NoMemory) event is = tt
    first_kept (Some StartFailed) event is = tt
    first_kept (Some ChildLost) event is = record { lost = lost_still (event ∷ []) is.lost; before = omega (arith, is.before, given_same (event ∷ []) is.lost) }
    first_kept (Some DiskFailed) event is = record { breaks = is.breaks; before = omega (arith, is.before, given_grows (event ∷ [])) }

    -- where more is acknowledged, while the store was usable
    pub first_acknowledged : (first_fault : Option RunFault) (acknowledged' : ℕ) (broken' : Bool) → broken ≡ false → acknowledged ≤ acknowledged' → ComesFirst first_fault s events acknowledged broken → ComesFirst first_fault s events acknowledged' broken'
    first_acknowledged None acknowledged' broken' usable le is = tt
    first_acknowledged (Some NoMemory) acknowledged' broken' usable le is = tt
    first_acknowledged (Some StartFailed) acknowledged' broken' usable le is = tt
    first_acknowledged (Some ChildLost) acknowledged' broken' usable le is = record { lost = is.lost; before = omega (arith, is.before, le) }
    first_acknowledged (Some DiskFailed) acknowledged' broken' usable le is = absurd (false≢true (sym usable ∙ is.breaks))

    -- a start has failed, or something was out of memory
    pub first_start : (first_fault : Option RunFault) (fault : RunFault) (before now : ℕ) → first_fault ≡ None → CountsStart {T = ℕ} (Err fault) before now → ComesFirst (Some (with_fault first_fault fault)) s events acknowledged broken
    first_start (Some first) fault before now none cause = let nothing : ⊥ = cc in absurd nothing
    first_start None NoMemory before now none cause = tt
    first_start None StartFailed before now none cause = tt
    first_start None ChildLost before now none cause = absurd cause
    first_start None DiskFailed before now none cause = absurd cause

    -- a child is lost
    module _ (ticket : ℕ) where
      lost_now : list_any is_gone (events ++ Gone ticket ∷ []) ≡ true
      lost_now = list_any-append is_gone events (Gone ticket ∷ []) ∙ or_true (list_any is_gone events) where
        or_true : (b : Bool) → (b || true) ≡ true
        or_true true = refl
        or_true false = refl

      pub first_lost : (first_fault : Option RunFault) (fault : RunFault) → is_of_disk fault ≡ false → (first_fault ≡ None → (list_any is_gone events ≡ false) × (length (commits s events) ≤ acknowledged)) →
          ComesFirst first_fault s events acknowledged broken → ComesFirst (Some (with_fault first_fault fault)) s (events ++ Gone ticket ∷ []) acknowledged broken
      first_lost first_fault NoMemory kind none is = tt
      first_lost None StartFailed kind none is = tt
      first_lost None ChildLost kind none is =
          let there = none refl in
          let same : given_before_loss s (events ++ Gone ticket ∷ []) ≡ length (commits s events) = ap (λ (l : List Event). length (commits s l)) (before_more events (Gone ticket ∷ []) there.0 ∙ append-nil events) in
          record { lost = lost_now; before = omega (arith, same, there.1) }
      first_lost None DiskFailed kind none is = absurd (false≢true (sym kind))
      first_lost (Some first) StartFailed kind none is = first_kept (Some first) (Gone ticket) is
      first_lost (Some first) ChildLost kind none is = first_kept (Some first) (Gone ticket) is
      first_lost (Some first) DiskFailed kind none is = first_kept (Some first) (Gone ticket) is

-- a record isn't committed, once all before was
pub first_uncommitted : (s : Work) (events : List Event) (acknowledged : ℕ) (first_fault : Option RunFault) (broken : Bool) (event : Event) (one : Record) (fault : RunFault) (broken' : Bool) (before now : ℕ) → CountsCommit {T = Unit {0}} (Err fault) before now →
    broken' ≡ is_disk_failed {T = Unit {0}} (Err fault) → (first_fault ≡ None → list_any is_gone events ≡ false) → is_gone event ≡ false → acknowledged ≡ length (commits s events) →
    commits s (events ++ event ∷ []) ≡ commits s events ++ one ∷ [] → broken ≡ false → ComesFirst first_fault s events acknowledged broken → ComesFirst (Some (with_fault first_fault fault)) s (events ++ event ∷ []) (acknowledged + 0) broken'
first_uncommitted s events acknowledged first_fault broken event one NoMemory broken' before now cause breaks none here all more usable is = tt
first_uncommitted s events acknowledged first_fault broken event one StartFailed broken' before now cause breaks none here all more usable is = absurd cause
first_uncommitted s events acknowledged first_fault broken event one ChildLost broken' before now cause breaks none here all more usable is = absurd cause
first_uncommitted s events acknowledged None broken event one DiskFailed broken' before now cause breaks none here all more usable is =
    let still : list_any is_gone (events ++ event ∷ []) ≡ false = list_any-append is_gone events (event ∷ []) ∙ ap (λ (b : Bool). b || (is_gone event || false)) (none refl) ∙ ap (λ (b : Bool). b || false) here in
    let given : given_before_loss s (events ++ event ∷ []) ≡ length (commits s events) + 1 =
    ap (λ (l : List Event). length (commits s l)) (whole still) ∙ ap length more ∙ length-append (commits s events) (one ∷ []) in
    record { breaks = breaks; before = omega (arith, given, all) } where
      whole : list_any is_gone (events ++ event ∷ []) ≡ false → before_loss (events ++ event ∷ []) ≡ events ++ event ∷ []
      whole still = ap before_loss (sym (append-nil (events ++ event ∷ []))) ∙ before_more (events ++ event ∷ []) [] still ∙ append-nil (events ++ event ∷ [])
first_uncommitted s events acknowledged (Some first) broken event one DiskFailed broken' before now cause breaks none here all more usable is =
    first_acknowledged s (events ++ event ∷ []) acknowledged broken (Some first) (acknowledged + 0) broken' usable (omega arith) (first_kept s events acknowledged broken (Some first) event is)
