-- The moments of runs of steps.
use Rattle.std.proofs.Common.{◌≡◌, List, [], ◌∷◌, inl, inr, sym, subst}
use Rattle.std.specs.List.{AllByRecursion}
use Rattle.outside.specs.Disks.{DiskState, Image, Moments, EachImage, Goes, AtAnyMoment, NeverLoses}
use Rattle.outside.proofs.MomentLaws.{call_moments, joined_moments, at_present, call_loses_nothing, joined_losses}
use Rattle.store_journal.specs.Steps.{Step, Went}

-- each step hands P on, from the disk that it begins at to the images inside of it
abbrev pub HandsOn : (Image → Type 0) → DiskState → List Step → Type 0
HandsOn P disk [] = Unit {0}
HandsOn P disk (step ∷ steps) = (EachImage P disk → EachImage P step.during) × HandsOn P step.after steps

-- the first step failed, or it is the last
pub went_once : (step : Step) (steps : List Step) (old new : Moments) → Goes step.during old new → Went (step ∷ steps) old new
unfolding Went
went_once step steps old new goes = inl goes

-- the first step ended, and the others went from there
pub went_on : (step : Step) (steps : List Step) (old middle new : Moments) → Goes step.during old middle → middle.now ≡ step.after → Went steps middle new → Went (step ∷ steps) old new
unfolding Went
went_on step steps old middle new goes is went = inr (middle, goes, is, went)

-- what each image has at the start and inside of each step, each image has at any moment
pub went_moments : (steps : List Step) (old new : Moments) (P : Image → Type 0) → Went steps old new → EachImage P old.now → AllByRecursion (λ (step : Step). EachImage P step.during) steps → AtAnyMoment old new P
unfolding Went
went_moments [] old new P went before each = absurd went
went_moments (step ∷ steps) old new P (inl goes) before each = call_moments step.during old new P goes before each.0
went_moments (step ∷ steps) old new P (inr more) before each =
    let first = call_moments step.during old more.0 P more.1 before each.0 in
    joined_moments old more.0 new P first (went_moments steps more.0 new P more.3 (at_present old more.0 P first) each.1)

-- what each step hands on is never lost
pub went_loses : (steps : List Step) (old new : Moments) (P : Image → Type 0) → Went steps old new → HandsOn P old.now steps → NeverLoses old new P
unfolding Went
went_loses [] old new P went hands = absurd went
went_loses (step ∷ steps) old new P (inl goes) hands = call_loses_nothing step.during old new P goes hands.0
went_loses (step ∷ steps) old new P (inr more) hands =
    let rest : HandsOn P (more.0).now steps = subst (λ (disk : DiskState). HandsOn P disk steps) (sym more.2) hands.1 in
    joined_losses old more.0 new P (call_loses_nothing step.during old more.0 P more.1 hands.0) (went_loses steps more.0 new P more.3 rest)
