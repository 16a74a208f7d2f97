-- What was read, and then the rest.
use Rattle.std.proofs.Common.{◌≡◌, List, [], ◌∷◌, ◌++◌, Result, Ok, Err, refl, sym, ap}
use Rattle.std.proofs.lemmas.List.{append_assoc}
use Rattle.project_reading.specs.Reading.{SourceReading, before_others}

abbrev pub after : {T : Type 0} → List T → Result (List T) SourceReading → Result (List T) SourceReading
after got (Ok more) = Ok (got ++ more)
after got (Err reading) = Err reading

pub after_more : {T : Type 0} (got : List T) (one : T) (more : Result (List T) SourceReading) → after got (before_others one more) ≡ after (got ++ one ∷ []) more
after_more got one (Err reading) = refl
after_more {T} got one (Ok more) = ap (λ (all : List T). Ok all) (sym (append_assoc got (one ∷ []) more))
