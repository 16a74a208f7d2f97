use Rattle.std.proofs.Common.{suc}
use Rattle.std.specs.Option.{option_map_or}
use Rattle.store_form_2.specs.Locations.{IsUpTo, texts_in}
use Rattle.store_form_2.proofs.texts.find_text.Given as goal

abbrev pub invariant-loop-candidate : goal.invariant-loop-candidate
invariant-loop-candidate l = IsUpTo (texts_in l.segments.payloads l.texts) l.texts.fingerprints.fingerprints l.text l.candidate

abbrev pub decreases-loop-candidate : goal.decreases-loop-candidate
decreases-loop-candidate l = option_map_or (λ n. suc n) l.candidate 0
