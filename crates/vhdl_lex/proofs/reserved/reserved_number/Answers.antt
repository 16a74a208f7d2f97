-- The word at an offset of the table is the only one that can be there.
use Rattle.std.proofs.Common.{◌≡◌, ◌↔◌, IsTrue, List, ℕ, ◌+◌, ◌-◌, ◌<◌, ◌≤◌, length, slice_index, sym, ◌∙◌, ap, subst, arith}
use Rattle.std.proofs.lemmas.Bool.{eqb-true}
use Rattle.std.proofs.lemmas.List.{nil_from_length}
use Rattle.vhdl_spec.specs.Words.{is_reserved, lower_case}
use Rattle.vhdl_lex.specs.Buckets.{bucket_of}
use Rattle.vhdl_lex.specs.declared.reserved.TheConstants.{NUMBERS}
use Rattle.vhdl_lex.proofs.WordTable.{lower_is, number_within, number_is, decides, none_there, empty_is_not, bucket_small}
use Rattle.vhdl_lex.proofs.reserved.reserved_number.Goals as goal
use Rattle.vhdl_lex.proofs.reserved.reserved_number.Goals.{else-number-ne0-via-then-number-ne0+else-is_lowered, else-number-ne0-via-else-number-ne0}

pub returns-then-is_empty : goal.returns-then-is_empty
returns-then-is_empty c =
    let none : length c.args.word.now ≡ 0 = eqb-true (length c.args.word.now) 0 (sym c.is_empty.ensures ∙ c.if-is_empty.true) in
    ap is_reserved (nil_from_length c.args.word.now none) ∙ sym empty_is_not

pub number_at-number-requires : goal.number_at-number-requires
number_at-number-requires c = omega (arith, bucket_small c.args.word.now, c.bucket_of.ensures)

pub reserved_word-requires : goal.reserved_word-requires
reserved_word-requires c =
    let offset : c.bucket_of.result < 1024 = omega (arith, bucket_small c.args.word.now, c.bucket_of.ensures) in
    omega (arith, number_within c.bucket_of.result offset, c.number_at-number.ensures, c.if-number-ne0.true)

pub returns-then-is_lowered : goal.returns-then-is_lowered
returns-then-is_lowered c =
    let offset : c.bucket_of.result < 1024 = omega (arith, bucket_small c.args.word.now, c.bucket_of.ensures) in
    let within : c.number_at-number.result ≤ 115 = omega (arith, number_within c.bucket_of.result offset, c.number_at-number.ensures) in
    let same : lower_case c.args.word.now ≡ c.reserved_word.result.now = c.is_lowered.ensures.0 c.if-is_lowered.true in
    number_is c.args.word.now c.number_at-number.result c.if-number-ne0.true within (same ∙ (c.reserved_word.ensures ∙ sym (lower_is (c.number_at-number.result - 1) (omega (arith, within, c.if-number-ne0.true)))))

pub returns-else-number-ne0 : goal.returns-else-number-ne0
returns-else-number-ne0 c =
    let at_offset : slice_index NUMBERS (bucket_of c.args.word.now) ≡ c.number_at-number.result = ap (slice_index NUMBERS) (sym c.bucket_of.ensures) ∙ sym c.number_at-number.ensures in
    elim c.else-number-ne0.branch [
      | else-number-ne0-via-then-number-ne0+else-is_lowered w ↦
          let some : c.number_at-number.result ≡ (c.number_at-number.result - 1) + 1 = omega (arith, w.if-number-ne0.true) in
          let offset : c.bucket_of.result < 1024 = omega (arith, bucket_small c.args.word.now, c.bucket_of.ensures) in
          let within : c.number_at-number.result - 1 < 115 = omega (arith, number_within c.bucket_of.result offset, c.number_at-number.ensures, w.if-number-ne0.true) in
          let test = subst (λ (word : List ℕ). (IsTrue w.is_lowered.result ↔ (lower_case c.args.word.now ≡ word))) (w.reserved_word.ensures ∙ sym (lower_is (c.number_at-number.result - 1) within)) w.is_lowered.ensures in
          sym (decides c.args.word.now (c.number_at-number.result - 1) w.is_lowered.result (λ i. omega (arith, c.type_inv.word i)) within (at_offset ∙ some) test) ∙ w.if-is_lowered.false
      | else-number-ne0-via-else-number-ne0 w ↦
          sym (none_there c.args.word.now (λ i. omega (arith, c.type_inv.word i)) (at_offset ∙ w.if-number-ne0.false))
    ]
