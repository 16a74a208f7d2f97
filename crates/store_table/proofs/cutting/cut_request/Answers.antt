use Rattle.std.proofs.Common.{◌≡◌, ℕ, List, ◌++◌, take, drop, sym, ap, ◌∙◌}
use Rattle.base_bytes.specs.Ranges.{counted_words}
use Rattle.base_bytes.specs.TextRefs.{ref_in_range}
use Rattle.base_bytes.specs.TextRefs.TextRef.{InFull}
use Rattle.store_table.specs.Cuts.{AreSameParts, IsWithout}
use Rattle.store_table.proofs.CutParts.{same_parts}
use Rattle.store_table.proofs.Cuts.{whole_again}
use Rattle.store_table.proofs.cutting.cut_request.Goals as goal

pub returns : goal.returns
returns c = λ borrowed there text full.
    let bytes : List ℕ = c.args.payload.now in
    let rest : List ℕ = c.in_ok-rest.rest in
    let without : IsWithout c.args.payload.now c.args.range c.in_ok-rest.rest = c.in_ok-rest.ensures in
    let same : AreSameParts c.args.payload.now c.args.draft c.in_ok-rest.rest c.in-Some.new = c.in-Some.ensures.same c.args.payload.now c.in_ok-rest.rest without in
    let words : counted_words c.in_ok-rest.rest c.in-Some.new.words ≡ counted_words c.args.payload.now c.args.draft.words =
    ap (counted_words c.in_ok-rest.rest) c.in-Some.ensures.words ∙ ap (λ (bs : List ℕ). counted_words bs c.args.draft.words) (sym c.bytes.ensures) ∙ c.if-not-has_same_words.ensures cc in
    record {
      file = there;
      text = ap (ref_in_range bytes) full ∙ ap (λ (t : List ℕ). InFull t) (sym text);
      whole = whole_again bytes rest c.args.range without ∙ ap (λ (t : List ℕ). take c.args.range.start c.in_ok-rest.rest ++ (t ++ drop c.args.range.start c.in_ok-rest.rest)) (sym text);
      parts = same_parts bytes rest c.args.draft c.in-Some.new c.args.number same words c.in-Some.ensures.source;
      source = c.in-Some.ensures.source;
    }
