use Rattle.std.proofs.Common.{◌≡◌, length, map, take}
use Rattle.store_form_2.specs.NodeContents.{contents_of}
use Rattle.store_form_2.specs.Locations.{IsContents, contents_in, texts_in}
use Rattle.store_form_2.proofs.taking.contents_of.Given as goal

abbrev pub invariant-loop-at : goal.invariant-loop-at
invariant-loop-at l = IsContents l.segments.payloads l.contents × (contents_in l.segments.payloads l.contents ≡ contents_of (take l.at l.segments.payloads)) × (map length (texts_in l.segments.payloads l.contents.texts) ≡ l.test)
