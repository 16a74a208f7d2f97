-- Texts that are found, and the numbers of texts.
use Rattle.std.proofs.Common.{◌≡◌, ◌≢◌, ℕ, ◌<◌, Bool, true, false, true≢false, not, List, [], ◌∷◌, ◌++◌, length, get_or, None, Some, Option, refl, sym, ap, ◌∙◌, arith, inl, inr, length-append}
use Rattle.std.specs.Prelude.{AllPairs, Contains, SomeIff, slice_get}
use Rattle.std.specs.Bool.{Decides}
use Rattle.std.specs.Cmp.{decided}
use Rattle.std.specs.List.{list_any}
use Rattle.std.specs.Str.{bytes_eq}
use Rattle.std.proofs.lemmas.Bool.{cases_lt}
use Rattle.std.proofs.lemmas.Bool.Decides.{nat_tests}
use Rattle.std.proofs.lemmas.List.{get_or_at, get_or_default, nil_from_length}
use Rattle.std.proofs.lemmas.Map.Views.{Contains-from_any, list_any-from_Contains}
use Rattle.std.proofs.lemmas.Option.{slice_get-get_or}
use Rattle.std.proofs.lemmas.Slice.Eq.{bytes_eq-Decides}
use Rattle.base_collections.specs.declared.splits.Split.{Split}
use Rattle.base_collections.specs.Splits.{AreSplit, reached}
use Rattle.base_collections.proofs.Reaching.{first_split}
use Rattle.base_bytes.specs.TextRefs.{TextRef, is_text_ref, told_text, with_text}
use Rattle.base_bytes.specs.TextRefs.TextRef.{ByNumber, InFull}
use Rattle.store_table.specs.Checked.{IsRefNumber, ref_number}

-- a test that decides equality passes for an item of a list exactly if the list contains the value
pub any_decides : {X : Type 0} {test : X → X → Bool} → ((a b : X) → Decides (test a b) (a ≡ b)) → (xs : List X) (x : X) → Decides (list_any (test x) xs) (Contains xs x)
any_decides {test = test} each xs x = (λ e. Contains-from_any (λ a b. (each a b).0) x xs e, λ has. list_any-from_Contains (decided test each) x xs has)

module _ (texts : List (List ℕ)) (splits : List Split) (are : AreSplit texts splits) (text : List ℕ) where
  pub found_there : (number : ℕ) → number < length splits → get_or texts number [] ≡ text → slice_get texts number ≡ Some text
  found_there number low same = slice_get-get_or texts number [] (omega (arith, low, are.as_many)) ∙ ap (λ (t : List ℕ). Some t) same

  pub not_there : (number : ℕ) → number ≡ reached splits text → get_or texts number [] ≢ text → ¬ Contains texts text
  not_there number is other has =
      let k : ℕ = has.0 in
      let here : get_or texts k [] ≡ text = get_or_default texts k [] text has.1 ∙ has.2 in
      let comes : reached splits text ≡ k = ap (reached splits) (sym here) ∙ are.each k [] has.1 in
      other (ap (λ (n : ℕ). get_or texts n []) (is ∙ comes) ∙ here)

  pub split_none : (split : Split) → length splits ≡ 0 → AreSplit (texts ++ text ∷ []) (splits ++ split ∷ [])
  split_none split none =
      let s : splits ≡ [] = nil_from_length splits none in
      let t : texts ≡ [] = nil_from_length texts (sym are.as_many ∙ none) in
      rw (s, t) (first_split text split)

-- no text occurs twice
pub texts_once : (texts : List (List ℕ)) (splits : List Split) → AreSplit texts splits → (i j : ℕ) → i < length texts → j < length texts → get_or texts i [] ≡ get_or texts j [] → i ≡ j
texts_once texts splits are i j a b e = sym (are.each i [] a) ∙ ap (reached splits) e ∙ are.each j [] b

-- nor does an item of a list without repeats
pub once_at : {X : Type 0} (xs : List X) (d : X) → AllPairs (λ a b. a ≢ b) xs → (i j : ℕ) → i < length xs → j < length xs → get_or xs i d ≡ get_or xs j d → i ≡ j
once_at xs d once i j a b e = elim (cases_lt i j) [
  | inl low ↦ absurd (once i j d low b e)
  | inr up ↦ elim (cases_lt j i) [
    | inl low ↦ absurd (once j i d low a (sym e))
    | inr down ↦ omega (arith, up, down)
  ]
]

not_true : (b : Bool) → not b ≡ true → b ≡ false
not_true true e = absurd cc
not_true false e = refl

pub is_new : (texts : List (List ℕ)) (text : List ℕ) → is_text_ref texts (InFull text) ≡ true → ¬ Contains texts text
is_new texts text e has = true≢false (sym ((any_decides bytes_eq-Decides texts text).1 has) ∙ not_true _ e)

pub new_is : (texts : List (List ℕ)) (text : List ℕ) → (¬ Contains texts text) → is_text_ref texts (InFull text) ≡ true
new_is texts text never = by (list_any (bytes_eq text) texts) refl
  where
    by : (b : Bool) → list_any (bytes_eq text) texts ≡ b → not b ≡ true
    by true e = absurd (never ((any_decides bytes_eq-Decides texts text).0 e))
    by false e = refl

-- the number of a new text
pub new_ref : (texts : List (List ℕ)) (text : List ℕ) (r : Option ℕ) (size : ℕ) → size ≡ length texts → SomeIff r (¬ Contains texts text) size → IsRefNumber texts (InFull text) r
new_ref texts text None size e is = λ f. is (is_new texts text f)
new_ref texts text (Some number) size e is = (new_is texts text is.0, is.1 ∙ e)

pub ref_there : (texts : List (List ℕ)) (source : TextRef) → is_text_ref texts source ≡ true → ref_number texts source < length (with_text texts source)
ref_there texts (ByNumber number) e = grind (arith, nat_tests)
ref_there texts (InFull text) e = omega (arith, length-append texts (text ∷ []))

pub ref_told : (texts : List (List ℕ)) (source : TextRef) → get_or (with_text texts source) (ref_number texts source) [] ≡ told_text texts source
ref_told texts (ByNumber number) = refl
ref_told texts (InFull text) = get_or_at texts text [] [] (length texts) refl

-- a text reference whose number is below the number of texts stands for the text with that number
pub ref_old : (texts : List (List ℕ)) (source : TextRef) → ref_number texts source < length texts → told_text texts source ≡ get_or texts (ref_number texts source) []
ref_old texts (ByNumber number) low = refl
ref_old texts (InFull text) low = absurd (omega (arith, low))
