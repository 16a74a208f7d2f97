-- The bytes of a set, and the ranges that they stand for.
use Rattle.std.proofs.Common.{ℕ, ◌≡◌, ◌≢◌, ◌+◌, ◌-◌, ◌<◌, ◌≤◌, ◌==◌, zero, suc, false, true, cond, List, [], ◌∷◌, length, drop, get_or, Option, Some, None, arith, refl, sym, ap, ◌∙◌, ◌⊎◌, inl, inr}
use Rattle.std.specs.Prelude.{option_map}
use Rattle.std.proofs.lemmas.Option.{none-some}
use Rattle.std.proofs.lemmas.List.{drop_more, drop_all, drop-drop}
use Rattle.std.proofs.lemmas.Bool.{cases_Bool, cases_lt, eq-eqb, ne_eqb}
use Rattle.testbench_select.specs.Patterns.{closing, negation, ranges_of, before_closing, set_length, set_after, opened_set}

-- the bytes before a `]`, counted from an earlier offset
pub shifted : ℕ → Option ℕ → Option ℕ
shifted count found = option_map (λ n. count + n) found

one_more : (count : ℕ) (found : Option ℕ) → shifted count (option_map suc found) ≡ shifted (count + 1) found
unfolding shifted
one_more count None = refl
one_more count (Some n) = ap Some (omega arith)

-- a byte that isn't `]` is passed over
pub passed : (bytes : List ℕ) (i count : ℕ) → i < length bytes → get_or bytes i 0 ≢ closing → shifted count (before_closing (drop i bytes)) ≡ shifted (count + 1) (before_closing (drop (i + 1) bytes))
unfolding before_closing
passed bytes i count within other =
    ap (λ rest. shifted count (before_closing rest)) (drop_more bytes i 0 within)
    ∙ ap (λ b. shifted count (cond b (Some 0) (option_map suc (before_closing (drop (i + 1) bytes))))) (ne_eqb (get_or bytes i 0) closing other)
    ∙ one_more count (before_closing (drop (i + 1) bytes))

-- a `]` ends the set
pub found : (bytes : List ℕ) (i count : ℕ) → i < length bytes → get_or bytes i 0 ≡ closing → shifted count (before_closing (drop i bytes)) ≡ Some count
unfolding before_closing shifted
found bytes i count within here =
    ap (λ rest. shifted count (before_closing rest)) (drop_more bytes i 0 within)
    ∙ ap (λ b. shifted count (cond b (Some 0) (option_map suc (before_closing (drop (i + 1) bytes))))) (eq-eqb (get_or bytes i 0) closing here)
    ∙ ap Some (omega arith)

unshifted : (found : Option ℕ) → option_map suc found ≡ None → found ≡ None
unshifted None none = refl
unshifted (Some n) none = absurd (none-some (suc n) (sym none))

pub none_at_end : (bytes : List ℕ) → before_closing (drop (length bytes) bytes) ≡ None
unfolding before_closing
none_at_end bytes = ap before_closing (drop_all (length bytes) bytes (omega arith))

none_in_rest : (byte : ℕ) (bytes : List ℕ) → ((byte == closing) ≡ true) ⊎ ((byte == closing) ≡ false) → before_closing (byte ∷ bytes) ≡ None → before_closing bytes ≡ None
unfolding before_closing
none_in_rest byte bytes (inl here) none = absurd (none-some 0 (sym (sym (ap (λ b. cond b (Some 0) (option_map suc (before_closing bytes))) here) ∙ none)))
none_in_rest byte bytes (inr other) none = unshifted (before_closing bytes) (sym (ap (λ b. cond b (Some 0) (option_map suc (before_closing bytes))) other) ∙ none)

-- nor from a byte on that isn't `]`
pub none_before : (bytes : List ℕ) (end : ℕ) → 0 < end → end ≤ length bytes → get_or bytes (end - 1) 0 ≢ closing → before_closing (drop end bytes) ≡ None → before_closing (drop (end - 1) bytes) ≡ None
unfolding before_closing
none_before bytes end some within other none =
    ap before_closing (drop_more bytes (end - 1) 0 (omega (arith, some, within)))
    ∙ ap (λ b. cond b (Some 0) (option_map suc (before_closing (drop (end - 1 + 1) bytes)))) (ne_eqb (get_or bytes (end - 1) 0) closing other)
    ∙ ap (λ n. option_map suc (before_closing (drop n bytes))) (omega (arith, some)) ∙ ap (option_map suc) none

no_set : set_length [] ≡ None
unfolding set_length
no_set = refl

some_set : (byte : ℕ) (bytes : List ℕ) → set_length (byte ∷ bytes) ≡ option_map suc (before_closing bytes)
unfolding set_length
some_set byte bytes = refl

nothing_before : before_closing [] ≡ None
unfolding before_closing
nothing_before = refl

one_shifted : (found : Option ℕ) → shifted 1 found ≡ option_map suc found
unfolding shifted
one_shifted None = refl
one_shifted (Some n) = ap Some (omega arith)

-- the offset from which the search begins
pub begins_search : (bytes : List ℕ) (at : ℕ) → at ≤ length bytes → shifted (at + 1 - at) (before_closing (drop (at + 1) bytes)) ≡ set_length (drop at bytes)
begins_search bytes at within = ap (λ n. shifted n (before_closing (drop (at + 1) bytes))) (omega arith) ∙ one_shifted (before_closing (drop (at + 1) bytes)) ∙ by_size (cases_lt at (length bytes)) where
  by_size : ((at < length bytes) ⊎ (length bytes ≤ at)) → option_map suc (before_closing (drop (at + 1) bytes)) ≡ set_length (drop at bytes)
  by_size (inl some) = sym (ap set_length (drop_more bytes at 0 some) ∙ some_set (get_or bytes at 0) (drop (at + 1) bytes))
  by_size (inr none) = ap (λ rest. option_map suc (before_closing rest)) (drop_all (at + 1) bytes (omega (arith, none))) ∙ ap (option_map suc) nothing_before ∙ sym (ap set_length (drop_all at bytes none) ∙ no_set)

-- if bytes have no `]`, no suffix of them has one
none_dropped : (bytes : List ℕ) (n : ℕ) → before_closing bytes ≡ None → before_closing (drop n bytes) ≡ None
none_dropped bytes zero none = none
none_dropped [] (suc n) none = none
none_dropped (byte ∷ bytes) (suc n) none = none_dropped bytes n (none_in_rest byte bytes (cases_Bool (byte == closing)) none)

pub none_after : (bytes : List ℕ) (end at count : ℕ) → end ≤ at → before_closing (drop end bytes) ≡ None → shifted count (before_closing (drop at bytes)) ≡ None
unfolding shifted
none_after bytes end at count later none =
    ap (option_map (λ n. count + n)) (ap (λ n. before_closing (drop n bytes)) (omega (arith, later)) ∙ ap before_closing (sym (drop-drop (at - end) end bytes)) ∙ none_dropped (drop end bytes) (at - end) none)

-- the set that a `[` before an offset opens
pub opened_at : (bytes : List ℕ) (at : ℕ) → at < length bytes
    → opened_set (drop at bytes) ≡ cond (get_or bytes at 0 == negation) (set_after true 1 (drop (at + 1) bytes)) (set_after false 0 (drop at bytes))
unfolding opened_set
opened_at bytes at within = ap opened_set (drop_more bytes at 0 within) ∙ ap (λ rest. cond (get_or bytes at 0 == negation) (set_after true 1 (drop (at + 1) bytes)) (set_after false 0 rest)) (sym (drop_more bytes at 0 within))

pub none_opened : (bytes : List ℕ) (at : ℕ) → length bytes ≤ at → opened_set (drop at bytes) ≡ None
unfolding opened_set
none_opened bytes at past = ap opened_set (drop_all at bytes past)

-- no range in no byte
pub no_ranges : (bytes : List ℕ) → length bytes < 1 → ranges_of bytes ≡ []
unfolding ranges_of
no_ranges [] none = refl
no_ranges (byte ∷ bytes) none = absurd (omega (arith, none))
