use Rattle.std.proofs.Common.{◌≡◌, take}
use Rattle.passes_table.specs.Fingerprints.{with_text_fingerprints}
use Rattle.passes_table.proofs.fingerprints.with_texts.Given as goal

abbrev pub invariant-loop-text : goal.invariant-loop-text
invariant-loop-text l = l.all ≡ with_text_fingerprints l.fn.fingerprint (take l.text-index l.texts)
