use Rattle.std.proofs.Common.{◌≡◌, ◌≤◌, ℕ, List, drop, length, ap, subst, sym, ◌∙◌, arith, length-drop}
use Rattle.std.proofs.lemmas.List.{take_all}
use Rattle.store_codec.specs.Forms.{command_bytes}
use Rattle.base_bytes.specs.Ranges.{counted_words}
use Rattle.store_codec.proofs.Sized.{words_small}
use Rattle.store.specs.Words.{first_words}
use Rattle.store.proofs.words.spelled_in.Goals as goal

pub returns-clause-small : goal.returns-clause-small
returns-clause-small c =
    let bytes = c.args.bytes.now in
    let rest : c.bytes_in-rest.result.now ≡ drop c.args.range.start bytes = c.bytes_in-rest.ensures ∙ take_all (length bytes) (drop c.args.range.start bytes) (omega (arith, length-drop c.args.range.start bytes)) in
    let is : c.words_first.result.now ≡ command_bytes (counted_words c.args.bytes.now c.args.range) = c.words_first.ensures ∙ ap (λ (bs : List ℕ). command_bytes (first_words bs)) rest in
    subst (λ (bs : List ℕ). length bs ≤ 65796) (sym is) (words_small (counted_words c.args.bytes.now c.args.range) c.requires)
