-- Whether a lexical element of text has a form can be decided.
use Rattle.std.proofs.Common.{◌≡◌, ◌≢◌, ℕ, zero, suc, ◌+◌, ◌-◌, ◌<◌, ◌≤◌, Bool, true, false, not, List, slice_index, subst, inl, inr, ⊎_elim, arith}
use Rattle.std.proofs.str.Laws.{order}
use Rattle.base.specs.declared.lexical.TokenKind.TheVariants.{Word, Extended, Number, Str, Char, Tick, Symbol, High}
use Rattle.vhdl_spec.specs.Tokens.{Row, byte_order_mark, blank, line_comment, block_comment, tool_directive, token, quote, backslash, star, slash, is_line_end, EachByte, EndsComment, IsBlockComment, Inside, nothing, byte, pair, IsDelimited, HasForm, is_word_byte, is_number_byte}
use Rattle.vhdl_spec.proofs.Search.{Decided, both, denied, same_bool, same_number, at_most}

-- a fact about each number from one up to another
pub each_from : (P : ℕ → Type 0) → ((n : ℕ) → Decided (P n)) → (start end : ℕ) → Decided ((at : ℕ) → start ≤ at → at < end → P at)
each_from P decide start zero = inl (λ at from below. absurd (omega arith))
each_from P decide start (suc end) =
    ⊎_elim
    (λ each. ⊎_elim
    (λ holds. inl (λ at from below. ⊎_elim (λ h. each at from h) (λ h. let is : end ≡ at = omega arith in subst P is holds) (order at end)))
    (λ fails. ⊎_elim (λ h. inl (λ at from below. each at from (omega arith))) (λ h. inr (λ all. fails (all end h (omega arith)))) (order end start))
    (decide end))
    (λ none. inr (λ all. none (λ at from below. all at from (omega arith))))
    (each_from P decide start end)

decide_each : (test : ℕ → Bool) (text : List ℕ) (start end : ℕ) → Decided (EachByte test text start end)
decide_each test text start end = each_from (λ (at : ℕ). test (slice_index text at) ≡ true) (λ at. same_bool (test (slice_index text at)) true) start end

decide_ends : (text : List ℕ) (at : ℕ) → Decided (EndsComment text at)
decide_ends text at = both (same_number (slice_index text at) star) (same_number (slice_index text (at + 1)) slash)

-- the parts of a block comment that closes at an offset
abbrev Closed : List ℕ → ℕ → ℕ → ℕ → Type 0
Closed text start end close = EndsComment text close × (start + 2 ≤ close) × ((at : ℕ) → start + 2 ≤ at → at < close → EndsComment text at → ⊥) × (end ≡ close + 2)

decide_block : (text : List ℕ) (start end : ℕ) → Decided (IsBlockComment text start end)
decide_block text start end =
    let close = end - 2 in
    let ends = decide_ends text close in
    let after = at_most (start + 2) close in
    let next = each_from (λ (at : ℕ). EndsComment text at → ⊥) (λ at. denied (decide_ends text at)) (start + 2) close in
    let up_to = same_number end (close + 2) in
    ⊎_elim
    (λ (p : EndsComment text close × ((start + 2 ≤ close) × (((at : ℕ) → start + 2 ≤ at → at < close → EndsComment text at → ⊥) × (end ≡ close + 2)))). inl (record { close = close; closes = p.0; after = p.1.0; next = p.1.1.0; up_to = p.1.1.1 }))
    (λ none. inr (λ (block : IsBlockComment text start end).
    let is : block.close ≡ close = omega (arith, block.up_to) in
    none (subst (EndsComment text) is block.closes, (subst (λ (n : ℕ). start + 2 ≤ n) is block.after, (subst (λ (n : ℕ). (at : ℕ) → start + 2 ≤ at → at < n → EndsComment text at → ⊥) is block.next, subst (λ (n : ℕ). end ≡ n + 2) is block.up_to)))))
    (both ends (both after (both next up_to)))

-- the last step to an offset inside delimiters
pub data LastStep (delimiter : ℕ) (text : List ℕ) (start end : ℕ) : Type 0 where
  none_yet : end ≡ start → LastStep delimiter text start end
  last_byte : (at : ℕ) → Inside delimiter text start at → slice_index text at ≢ delimiter → is_line_end (slice_index text at) ≡ false → end ≡ at + 1 → LastStep delimiter text start end
  last_pair : (at : ℕ) → Inside delimiter text start at → slice_index text at ≡ delimiter → slice_index text (at + 1) ≡ delimiter → end ≡ at + 2 → LastStep delimiter text start end

pub last_step : {delimiter : ℕ} {text : List ℕ} {start end : ℕ} → Inside delimiter text start end → LastStep delimiter text start end
last_step (nothing is) = none_yet is
last_step (byte {at = at} inside other in_line up_to) = last_byte at inside other in_line up_to
last_step (pair {at = at} inside first second up_to) = last_pair at inside first second up_to

-- what a step of one byte, or of two, needs
abbrev ByteStep : ℕ → List ℕ → ℕ → ℕ → ℕ → Type 0
ByteStep delimiter text start end at = Inside delimiter text start at × ((slice_index text at ≢ delimiter) × ((is_line_end (slice_index text at) ≡ false) × (end ≡ at + 1)))

abbrev PairStep : ℕ → List ℕ → ℕ → ℕ → ℕ → Type 0
PairStep delimiter text start end at = Inside delimiter text start at × ((slice_index text at ≡ delimiter) × ((slice_index text (at + 1) ≡ delimiter) × (end ≡ at + 2)))

step_or_none : (delimiter : ℕ) (text : List ℕ) (start end : ℕ) → Decided (end ≡ start) → Decided (ByteStep delimiter text start end (end - 1)) → Decided (PairStep delimiter text start end (end - 2)) → Decided (Inside delimiter text start end)
step_or_none delimiter text start end (inl is) by_byte by_pair = inl (nothing is)
step_or_none delimiter text start end (inr other) (inl (inside, (not_delimiter, (in_line, up_to)))) by_pair = inl (byte inside not_delimiter in_line up_to)
step_or_none delimiter text start end (inr other) (inr no_byte) (inl (inside, (first, (second, up_to)))) = inl (pair inside first second up_to)
step_or_none delimiter text start end (inr other) (inr no_byte) (inr no_pair) =
    inr (λ inside. elim (last_step inside) [
      | none_yet is ↦ other is
      | last_byte at before not_delimiter in_line up_to ↦ let is : at ≡ end - 1 = omega arith in no_byte (subst (ByteStep delimiter text start end) is (before, (not_delimiter, (in_line, up_to))))
      | last_pair at before first second up_to ↦ let is : at ≡ end - 2 = omega arith in no_pair (subst (PairStep delimiter text start end) is (before, (first, (second, up_to))))
    ])

decide_inside : (delimiter : ℕ) (text : List ℕ) (start bound end : ℕ) → end < bound → Decided (Inside delimiter text start end)
decide_inside delimiter text start zero end below = absurd (omega arith)
decide_inside delimiter text start (suc bound) end below =
    let by_byte : Decided (ByteStep delimiter text start end (end - 1)) =
    ⊎_elim
    (λ (h : end ≡ (end - 1) + 1). both (decide_inside delimiter text start bound (end - 1) (omega arith)) (both (denied (same_number (slice_index text (end - 1)) delimiter)) (both (same_bool (is_line_end (slice_index text (end - 1))) false) (inl h))))
    (λ h. inr (λ p. h p.1.1.1))
    (same_number end ((end - 1) + 1))
    in
    let by_pair : Decided (PairStep delimiter text start end (end - 2)) =
    ⊎_elim
    (λ (h : end ≡ (end - 2) + 2). both (decide_inside delimiter text start bound (end - 2) (omega arith)) (both (same_number (slice_index text (end - 2)) delimiter) (both (same_number (slice_index text (end - 2 + 1)) delimiter) (inl h))))
    (λ h. inr (λ p. h p.1.1.1))
    (same_number end ((end - 2) + 2))
    in
    step_or_none delimiter text start end (same_number end start) by_byte by_pair

abbrev DelimitedParts : ℕ → List ℕ → ℕ → ℕ → ℕ → Type 0
DelimitedParts delimiter text start end close = Inside delimiter text (start + 1) close × ((slice_index text close ≡ delimiter) × (end ≡ close + 1))

decide_delimited : (delimiter : ℕ) (text : List ℕ) (start end : ℕ) → Decided (IsDelimited delimiter text start end)
decide_delimited delimiter text start end =
    let close = end - 1 in
    ⊎_elim
    (λ (p : DelimitedParts delimiter text start end close). inl (record { close = close; inside = p.0; closes = p.1.0; up_to = p.1.1 }))
    (λ none. inr (λ (delimited : IsDelimited delimiter text start end).
    let is : delimited.close ≡ close = omega (arith, delimited.up_to) in
    none (subst (DelimitedParts delimiter text start end) is (delimited.inside, (delimited.closes, delimited.up_to)))))
    (both (decide_inside delimiter text (start + 1) (suc close) close (omega arith)) (both (same_number (slice_index text close) delimiter) (same_number end (close + 1))))

pub decide_form : (row : Row) (text : List ℕ) (start end : ℕ) → Decided (HasForm row text start end)
decide_form byte_order_mark text start end = same_number end (start + 3)
decide_form blank text start end = same_number end (start + 1)
decide_form line_comment text start end = decide_each (λ byte. not (is_line_end byte)) text start end
decide_form block_comment text start end = decide_block text start end
decide_form tool_directive text start end = decide_each (λ byte. not (is_line_end byte)) text start end
decide_form (token Word) text start end = decide_each is_word_byte text start end
decide_form (token Extended) text start end = decide_delimited backslash text start end
decide_form (token Number) text start end = decide_each is_number_byte text start end
decide_form (token Str) text start end = decide_delimited quote text start end
decide_form (token Char) text start end = same_number end (start + 3)
decide_form (token Tick) text start end = same_number end (start + 1)
decide_form (token Symbol) text start end = same_number end (start + 1)
decide_form (token High) text start end = same_number end (start + 1)
