-- What a row has after names were put into it.
use Rattle.std.proofs.Common.{◌≡◌, ℕ, zero, suc, ◌+◌, ◌/◌, ◌%◌, ◌<◌, ◌≤◌, true, false, ◌||◌, List, [], ◌∷◌, ◌++◌, Contains, length, nat_eq, map, take, get_or, replicate, ◌⊎◌, inl, inr, refl, sym, ◌∙◌, ap, subst, arith, append_assoc, eq-eqb}
use Rattle.std.specs.List.{AllZip, flat_map}
use Rattle.std.specs.Int.{bit_at}
use Rattle.std.specs.Str.{bytes_eq}
use Rattle.std.proofs.lemmas.Bool.{cases_lt, eqb-true}
use Rattle.std.proofs.lemmas.List.{get_or_past, get_or-replicate, length-replicate, map-append, take_more}
use Rattle.std.proofs.lemmas.List.Elements.{Contains-append_cases, Contains-append_left, Contains-append_right}
use Rattle.std.proofs.lemmas.Nat.Bits.{bit_at-zero}
use Rattle.vhdl_scope.specs.Bits.{row_has}
use Rattle.vhdl_scope.specs.Names.{name_of_number, number_of}
use Rattle.vhdl_scope.specs.Graph.{HasPut, IsRowOf}
use Rattle.vhdl_scope.proofs.KeyLemmas.{numbered, part_more}
use Rattle.vhdl_scope.proofs.LookLemmas.{in_either, left_in, one_of, right_in}
use Rattle.vhdl_scope.proofs.NameLemmas.{same_bytes, told_same}
use Rattle.vhdl_scope.proofs.ScopeLemmas.{zip_push}

-- one name was put
pub put_one : (names : List (List ℕ)) (name : List ℕ) (old new : List ℕ) (number : ℕ) → Contains names name → number ≡ number_of names name → length new ≡ length old → ((other : ℕ) → row_has new other ≡ (nat_eq other number || row_has old other)) → HasPut names (name ∷ []) old new
put_one names name old new number known is even bits = record {
  even = even;
  unchanged = λ (other : ℕ) told. right_in _ _ _ (bits other) told;
  put = λ (other : List ℕ) (there : Contains (name ∷ []) other). subst (λ (x : List ℕ). row_has new (number_of names x) ≡ true) (one_of name other there) itself;
  only = λ (other : ℕ) (told : row_has new other ≡ true). by_number other (in_either _ _ _ (bits other) told);
} where
  itself : row_has new (number_of names name) ≡ true
  itself = left_in _ _ _ (bits (number_of names name)) (eq-eqb _ _ (sym is))

  by_number : (other : ℕ) → (nat_eq other number ≡ true) ⊎ (row_has old other ≡ true) → (row_has old other ≡ true) ⊎ Contains (name ∷ []) (name_of_number names other)
  by_number other (inl told) =
      let same : name_of_number names other ≡ name = ap (name_of_number names) (eqb-true other number told ∙ is) ∙ (numbered bytes_eq same_bytes told_same names name [] known).1 in
      inr (zero, omega arith, sym same)
  by_number other (inr told) = inl told

pub put_none : (names : List (List ℕ)) (row : List ℕ) → HasPut names [] row row
put_none names row = record {
  even = refl;
  unchanged = λ (number : ℕ) told. told;
  put = λ (name : List ℕ) (there : Contains [] name). absurd (omega (arith, there.1));
  only = λ (number : ℕ) told. inl told;
}

pub put_both : (names first next : List (List ℕ)) (old mid new : List ℕ) → HasPut names first old mid → HasPut names next mid new → HasPut names (first ++ next) old new
put_both names first next old mid new one two = record {
  even = two.even ∙ one.even;
  unchanged = λ (number : ℕ) told. two.unchanged number (one.unchanged number told);
  put = λ (name : List ℕ) (there : Contains (first ++ next) name). by_part name (Contains-append_cases first next name there);
  only = λ (number : ℕ) (told : row_has new number ≡ true). by_row number (two.only number told);
} where
  by_part : (name : List ℕ) → Contains first name ⊎ Contains next name → row_has new (number_of names name) ≡ true
  by_part name (inl there) = two.unchanged (number_of names name) (one.put name there)
  by_part name (inr there) = two.put name there

  by_first : (number : ℕ) → (row_has old number ≡ true) ⊎ Contains first (name_of_number names number) → (row_has old number ≡ true) ⊎ Contains (first ++ next) (name_of_number names number)
  by_first number (inl told) = inl told
  by_first number (inr there) = inr (Contains-append_left first next (name_of_number names number) there)

  by_row : (number : ℕ) → (row_has mid number ≡ true) ⊎ Contains next (name_of_number names number) → (row_has old number ≡ true) ⊎ Contains (first ++ next) (name_of_number names number)
  by_row number (inl told) = by_first number (one.only number told)
  by_row number (inr there) = inr (Contains-append_right first next (name_of_number names number) there)

pub nothing : (words number : ℕ) → row_has (replicate words 0) number ≡ false
unfolding row_has
nothing words number = by_index (cases_lt (number / 64) words) where
  by_index : (number / 64 < words) ⊎ (words ≤ number / 64) → nat_eq (bit_at (get_or (replicate words 0) (number / 64) 0) (number % 64)) 1 ≡ false
  by_index (inl within) = rw (get_or-replicate {A = ℕ} words (number / 64) 0 0 within) (rw (bit_at-zero (number % 64)) refl)
  by_index (inr past) = let far : length (replicate {A = ℕ} words 0) ≤ number / 64 = omega (arith, length-replicate {A = ℕ} words 0) in rw (get_or_past (replicate words 0) (number / 64) 0 far) (rw (bit_at-zero (number % 64)) refl)

-- a row that began with nothing
pub row_is : (names some : List (List ℕ)) (words : ℕ) (row : List ℕ) → HasPut names some (replicate words 0) row → IsRowOf names words row some
row_is names some words row put = record {
  even = put.even ∙ length-replicate words 0;
  put = put.put;
  only = λ (number : ℕ) (told : row_has row number ≡ true). by_row number (put.only number told);
} where
  by_row : (number : ℕ) → (row_has (replicate words 0) number ≡ true) ⊎ Contains some (name_of_number names number) → Contains some (name_of_number names number)
  by_row number (inl told) = let never : false ≡ true = sym (nothing words number) ∙ told in let impossible : ⊥ = cc in absurd impossible
  by_row number (inr there) = there

-- more names were put into a row
pub row_more : (names some more : List (List ℕ)) (words : ℕ) (old new : List ℕ) → IsRowOf names words old some → HasPut names more old new → IsRowOf names words new (some ++ more)
row_more names some more words old new is put = record {
  even = put.even ∙ is.even;
  put = λ (name : List ℕ) (there : Contains (some ++ more) name). by_part name (Contains-append_cases some more name there);
  only = λ (number : ℕ) (told : row_has new number ≡ true). by_row number (put.only number told);
} where
  by_part : (name : List ℕ) → Contains some name ⊎ Contains more name → row_has new (number_of names name) ≡ true
  by_part name (inl there) = put.unchanged (number_of names name) (is.put name there)
  by_part name (inr there) = put.put name there

  by_row : (number : ℕ) → (row_has old number ≡ true) ⊎ Contains more (name_of_number names number) → Contains (some ++ more) (name_of_number names number)
  by_row number (inl told) = Contains-append_left some more (name_of_number names number) (is.only number told)
  by_row number (inr there) = Contains-append_right some more (name_of_number names number) there

-- one list more
pub zip_more : {X Y Z : Type 0} (R : X → Y → Type 0) (f : Z → Y) (before : List Y) (rows : List X) (row : X) (zs : List Z) (i : ℕ) (d : Z) → i < length zs → AllZip R rows (before ++ map f (take i zs)) → R row (f (get_or zs i d)) → AllZip R (rows ++ row ∷ []) (before ++ map f (take (i + 1) zs))
zip_more {X} {Y} R f before rows row zs i d within so_far one =
    subst (AllZip R (rows ++ row ∷ []))
    (append_assoc before (map f (take i zs)) (f (get_or zs i d) ∷ []) ∙ ap (λ (rest : List Y). before ++ rest) (sym (ap (map f) (take_more zs i d within) ∙ map-append f (take i zs) (get_or zs i d ∷ []))))
    (zip_push R rows (before ++ map f (take i zs)) row (f (get_or zs i d)) so_far one)

-- one list of lists more
pub zip_part : {X Y Z W : Type 0} (R : X → Y → Type 0) (f : Z → Y) (part : W → List Z) (rows : List X) (ws : List W) (i : ℕ) (d : W) → i < length ws → AllZip R rows (map f (flat_map part (take i ws)) ++ map f (part (get_or ws i d))) → AllZip R rows (map f (flat_map part (take (i + 1) ws)))
zip_part R f part rows ws i d within all =
    subst (AllZip R rows) (sym (ap (map f) (part_more part ws i d within) ∙ map-append f (flat_map part (take i ws)) (part (get_or ws i d)))) all

again : {X : Type 0} (k : ℕ) (x : X) → replicate (suc k) x ≡ replicate k x ++ x ∷ []
again zero x = refl
again (suc k) x = ap (λ rest. x ∷ rest) (again k x)

-- one same list more
pub zip_again : {X Y : Type 0} (R : X → Y → Type 0) (before : List Y) (rows : List X) (row : X) (k : ℕ) (y : Y) → AllZip R rows (before ++ replicate k y) → R row y → AllZip R (rows ++ row ∷ []) (before ++ replicate (k + 1) y)
zip_again {X} {Y} R before rows row k y so_far one =
    let next : k + 1 ≡ suc k = omega arith in
    subst (AllZip R (rows ++ row ∷ [])) (append_assoc before (replicate k y) (y ∷ []) ∙ ap (λ (rest : List Y). before ++ rest) (sym (again k y) ∙ ap (λ (n : ℕ). replicate n y) (sym next)))
    (zip_push R rows (before ++ replicate k y) row y so_far one)
