-- A lane stops where its byte isn't a byte of a word.
use Rattle.std.proofs.Common.{ℕ, leb, cond, bit_and, refl}
use Rattle.std.proofs.lemmas.Simd.{zip2_splat, length-chunk}
use lib.Lanes.{chunk}
use Rattle.vhdl_spec.specs.Tokens.{is_word_byte}
use Rattle.vhdl_lex.proofs.Lanes.{joined, splat_is, by_lanes}
use Rattle.vhdl_lex.proofs.stops.word_mask.Goals as goal

pub returns : goal.returns
returns c =
    let v = chunk c.args.base 64 c.args.text.now in
    let long = length-chunk c.args.base 64 c.args.text.now c.requires in
    by_lanes is_word_byte c.args.text.now c.args.base _ _ _ c.requires c.type_inv.text refl
    (joined bit_and _ _ v (joined bit_and _ _ v
    (joined (λ a b. cond (leb a b) 255 0) _ _ v (splat_is v 64 26 long) (joined _ _ _ v (zip2_splat {Y = ℕ} _ v 64 32 long) (splat_is v 64 97 long)))
    (joined (λ a b. cond (leb a b) 255 0) _ _ v (splat_is v 64 10 long) (zip2_splat {Y = ℕ} _ v 64 48 long)))
    (zip2_splat {Y = ℕ} _ v 64 95 long)) refl
