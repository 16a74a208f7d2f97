-- The definitions at small texts, worked out by hand.
use Rattle.std.proofs.Common.{◌≡◌, true, false, [], ◌∷◌, ◌++◌, codes, refl}
use Rattle.vhdl_outline.specs.Calls.{is_same_sim, unquoted}

-- with blanks, with tabs and without either
asks : is_same_sim (codes "-- vunit: run_all_in_same_sim") ≡ true
asks = refl

asks_by_tabs : is_same_sim (codes "--" ++ (9 ∷ 32 ∷ codes "vunit:") ++ (9 ∷ codes "run_all_in_same_sim") ++ (32 ∷ 9 ∷ [])) ≡ true
asks_by_tabs = refl

asks_at_once : is_same_sim (codes "--vunit:run_all_in_same_sim") ≡ true
asks_at_once = refl

-- another comment, and more than the one word
asks_for_more : is_same_sim (codes "-- vunit: run_all_in_same_sim now") ≡ false
asks_for_more = refl

asks_apart : is_same_sim (codes "-- vunit : run_all_in_same_sim") ≡ false
asks_apart = refl

-- two quotes stand for one
quoted : unquoted (97 ∷ 34 ∷ 34 ∷ 98 ∷ []) ≡ 97 ∷ 34 ∷ 98 ∷ []
unfolding unquoted
quoted = refl

quoted_twice : unquoted (34 ∷ 34 ∷ 34 ∷ 34 ∷ []) ≡ 34 ∷ 34 ∷ []
unfolding unquoted
quoted_twice = refl
