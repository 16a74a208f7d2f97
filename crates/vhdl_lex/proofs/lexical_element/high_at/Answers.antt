-- A byte over 127 is the delimiter of byte order or no part of VHDL.
use Rattle.std.proofs.Common.{◌≡◌, ◌≢◌, ℕ, ◌+◌, ◌<◌, ◌≤◌, List, length, slice_index, sym, ◌∙◌, ap, subst, arith, ◌==◌}
use Rattle.std.proofs.lemmas.List.{get_or_past}
use Rattle.std.proofs.lemmas.Bool.Decides.{nat_tests}
use Rattle.vhdl_spec.specs.Tokens.{is_tick_at, row_at}
use Rattle.vhdl_lex.specs.LexicalElements.{Skips}
use Rattle.vhdl_spec.specs.Tokens.{token}
use Rattle.base.specs.declared.lexical.TokenKind.TheVariants.{High}
use Rattle.vhdl_lex.proofs.lexical_element.high_at.Goals as goal
use Rattle.std.proofs.lemmas.Bool.{eq-eqb}
use Rattle.vhdl_lex.proofs.lexical_element.high_at.Goals.{else-at-eq0-via-then-at-eq0+then-text-ge3+then-text+then-text-2+else-text-3, else-at-eq0-via-then-at-eq0+then-text-ge3+then-text+else-text-2, else-at-eq0-via-then-at-eq0+then-text-ge3+else-text, else-at-eq0-via-then-at-eq0+else-text-ge3, else-at-eq0-via-else-at-eq0}
use Rattle.vhdl_lex.proofs.Rows.{delimiter_row, high_row, first_high_row, second_high_row, third_high_row}
use Rattle.vhdl_lex.proofs.Longest.{delimiter_longest, delimiter_gap, high_longest}

at_zero : (text : List ℕ) (at n : ℕ) (byte : ℕ) → at ≡ 0 → slice_index text n ≡ byte → slice_index text (at + n) ≡ byte
at_zero text at n byte zero_is is = let same : at + n ≡ n = omega arith in ap (slice_index text) same ∙ is

pub returns-then-text-3 : goal.returns-then-text-3
returns-then-text-3 c = λ last. let text = c.args.text.now in let at = c.args.at in
    let zero_is : at ≡ 0 = c.if-at-eq0.true in
    let gap : Skips text last at (at + 3) = delimiter_gap text last at (at + 3) (delimiter_row (at == 0) (is_tick_at text last) (slice_index text at) (slice_index text (at + 1)) (slice_index text (at + 2)) (eq-eqb at 0 zero_is) (ap (slice_index text) zero_is ∙ c.if-text.true) (at_zero text at 1 0xBB zero_is c.if-text-2.true) (at_zero text at 2 0xBF zero_is c.if-text-3.true)) (delimiter_longest text at (omega (arith, c.if-text-ge3.true))) in
    let three : at + 3 ≡ 3 = omega arith in
    subst (λ (n : ℕ). Skips text last at n) three gap

pub returns-else-at-eq0 : goal.returns-else-at-eq0
returns-else-at-eq0 c = λ last. let text = c.args.text.now in let at = c.args.at in
    let past : (n : ℕ) → at ≡ 0 → length text < 3 → 2 ≤ n → slice_index text (at + n) ≢ 0xBF = λ n zero_is short far is. absurd (omega (arith, is, get_or_past text (at + n) 0 (omega arith))) in
    let first : row_at text last at ≡ token High = elim c.else-at-eq0.branch [
      | else-at-eq0-via-then-at-eq0+then-text-ge3+then-text+then-text-2+else-text-3 w ↦ (third_high_row (at == 0) (is_tick_at text last) (slice_index text at) (slice_index text (at + 1)) (slice_index text (at + 2)) c.requires.high (λ is. w.if-text-3.false (sym (ap (slice_index text) (ap (λ (n : ℕ). n + 2) w.if-at-eq0.true)) ∙ is)))
      | else-at-eq0-via-then-at-eq0+then-text-ge3+then-text+else-text-2 w ↦ (second_high_row (at == 0) (is_tick_at text last) (slice_index text at) (slice_index text (at + 1)) (slice_index text (at + 2)) c.requires.high (λ is. w.if-text-2.false (sym (ap (slice_index text) (ap (λ (n : ℕ). n + 1) w.if-at-eq0.true)) ∙ is)))
      | else-at-eq0-via-then-at-eq0+then-text-ge3+else-text w ↦ (first_high_row (at == 0) (is_tick_at text last) (slice_index text at) (slice_index text (at + 1)) (slice_index text (at + 2)) c.requires.high (λ is. w.if-text.false (sym (ap (slice_index text) w.if-at-eq0.true) ∙ is)))
      | else-at-eq0-via-then-at-eq0+else-text-ge3 w ↦ (third_high_row (at == 0) (is_tick_at text last) (slice_index text at) (slice_index text (at + 1)) (slice_index text (at + 2)) c.requires.high (past 2 w.if-at-eq0.true w.if-text-ge3.false (omega arith)))
      | else-at-eq0-via-else-at-eq0 w ↦ (high_row (at == 0) (is_tick_at text last) (slice_index text at) (slice_index text (at + 1)) (slice_index text (at + 2)) c.requires.high (grind (arith, nat_tests, w.if-at-eq0.false)))
    ] in
    record { first = first; longest = high_longest text at c.requires.within }
