-- Rows of the ends of a path, with one part more or one index more.
use Rattle.std.proofs.Common.{◌≡◌, ℕ, zero, suc, ◌+◌, ◌-◌, ◌<◌, ◌≤◌, Bool, true, false, ◌&&◌, ◌||◌, cond, List, [], ◌∷◌, ◌++◌, length, drop, get_or, set, refl, sym, ap, subst, ◌∙◌, arith, inl, inr}
use Rattle.std.specs.Prelude.{replicate}
use Rattle.std.specs.Borrow.{Bor}
use Rattle.std.proofs.lemmas.Bool.{cases_lt}
use Rattle.std.proofs.lemmas.List.{drop_more, drop_all, get_or-set_same, get_or-set_other, length-set}
use Rattle.testbench_select.specs.Segments.{is_match}
use Rattle.testbench_select.specs.Fits.{first_is, fits_pattern_parts}
use Rattle.project_file.specs.declared.paths.Part.{Part}
use Rattle.project_file.specs.PathRows.{texts_seen, fits_parts, IsRowFrom, IsRow, any_end}

module _ (before after : List (List ℕ) → Bool) (components : List (Bor (List ℕ))) (row : List Bool) (j : ℕ) (x : Bool) (within : j ≤ length components) where
  -- the index before those of the row's end is set
  pub set_last : IsRowFrom before after components (j + 1) row → x ≡ after (texts_seen (drop j components)) → IsRowFrom before after components j (set row j x)
  set_last is here = record {
    long = length-set row j x ∙ is.long;
    first = λ k low fits. get_or-set_other row j k x false (omega (arith, low)) ∙ is.first k (omega (arith, low)) fits;
    last = λ k high fits. elim (cases_lt j k) [
      | inr low ↦ let same : k ≡ j = omega (arith, low, high) in subst (λ n. get_or (set row j x) n false ≡ after (texts_seen (drop n components))) (sym same) (get_or-set_same row j x false (omega (arith, is.long, within)) ∙ here)
      | inl more ↦ get_or-set_other row j k x false (omega (arith, more)) ∙ is.last k (omega (arith, more)) fits
    ];
  }

  -- the index after those of the row's beginning is set
  pub set_first : IsRowFrom before after components j row → x ≡ before (texts_seen (drop j components)) → IsRowFrom before after components (j + 1) (set row j x)
  set_first is here = record {
    long = length-set row j x ∙ is.long;
    first = λ k low fits. elim (cases_lt k j) [
      | inl less ↦ get_or-set_other row j k x false (omega (arith, less)) ∙ is.first k less fits
      | inr high ↦ let same : k ≡ j = omega (arith, low, high) in subst (λ n. get_or (set row j x) n false ≡ before (texts_seen (drop n components))) (sym same) (get_or-set_same row j x false (omega (arith, is.long, within)) ∙ here)
    ];
    last = λ k high fits. get_or-set_other row j k x false (omega (arith, high)) ∙ is.last k (omega (arith, high)) fits;
  }

-- a row of one test alone
pub row_ends : (before after : List (List ℕ) → Bool) (components : List (Bor (List ℕ))) (row : List Bool) (file_index : ℕ) → length components < file_index → IsRowFrom before after components file_index row → IsRow before components row
row_ends before after components row file_index past is = record {
  long = is.long;
  first = λ k low fits. absurd (omega (arith, low));
  last = λ k high fits. is.first k (omega (arith, past, fits)) fits;
}

pub row_from : (before after : List (List ℕ) → Bool) (components : List (Bor (List ℕ))) (row : List Bool) → IsRowFrom before after components 0 row → IsRow after components row
row_from before after components row is = record {
  long = is.long;
  first = λ k low fits. absurd (omega (arith, low));
  last = is.last;
}

-- the components from an index on
components_at : (components : List (Bor (List ℕ))) (j : ℕ) (d : Bor (List ℕ)) → j < length components → texts_seen (drop j components) ≡ (get_or components j d).now ∷ texts_seen (drop (j + 1) components)
components_at components j d low = ap texts_seen (drop_more components j d low)

some_at : {X : Type 0} (xs : List X) (j : ℕ) → j < length xs → (x : X) × (drop j xs ≡ x ∷ drop (j + 1) xs)
some_at [] j low = absurd (omega (arith, low))
some_at (x ∷ xs) zero low = (x, refl)
some_at (x ∷ xs) (suc j) low =
    let more = some_at xs j (omega (arith, low)) in
    let next : suc (j + 1) ≡ suc j + 1 = omega arith in
    (more.0, more.1 ∙ ap (λ n. more.0 ∷ drop n (x ∷ xs)) next)

-- a part that stands for any number of components: one index more
pub any_step : (test : List (List ℕ) → Bool) (components : List (Bor (List ℕ))) (row : List Bool) (j : ℕ) (x : Bool) → j < length components → x ≡ (get_or row j false || get_or row (j + 1) false)
    → IsRowFrom test (any_end test) components (j + 1) row → IsRowFrom test (any_end test) components j (set row j x)
any_step test components row j x low is old =
    let (component, cut) = some_at components j low in
    let here : get_or row j false ≡ test (texts_seen (drop j components)) = old.first j (omega arith) (omega (arith, low)) in
    let next : get_or row (j + 1) false ≡ any_end test (texts_seen (drop (j + 1) components)) = old.last (j + 1) (omega arith) (omega (arith, low)) in
    let both : any_end test (texts_seen (drop j components)) ≡ (test (texts_seen (drop j components)) || any_end test (texts_seen (drop (j + 1) components))) =
    ap (any_end test) (ap texts_seen cut) ∙ ap (λ cs. test cs || any_end test (texts_seen (drop (j + 1) components))) (sym (ap texts_seen cut)) in
    set_last test (any_end test) components row j x (omega (arith, low)) old (is ∙ ap (λ b. b || get_or row (j + 1) false) here ∙ ap (λ b. test (texts_seen (drop j components)) || b) next ∙ sym both)

and_swap : (a b : Bool) → (a && b) ≡ (b && a)
and_swap true true = refl
and_swap true false = refl
and_swap false true = refl
and_swap false false = refl

-- a part that stands for one component: one index more
pub one_step : (right : List ℕ → Bool) (test : List (List ℕ) → Bool) (components : List (Bor (List ℕ))) (row : List Bool) (j : ℕ) (d : Bor (List ℕ)) (x : Bool) → j < length components
    → x ≡ (get_or row (j + 1) false && right (get_or components j d).now) → IsRowFrom (first_is right test) test components j row → IsRowFrom (first_is right test) test components (j + 1) (set row j x)
one_step right test components row j d x low is old =
    let next : get_or row (j + 1) false ≡ test (texts_seen (drop (j + 1) components)) = old.last (j + 1) (omega arith) (omega (arith, low)) in
    set_first (first_is right test) test components row j x (omega (arith, low)) old
    (is ∙ and_swap (get_or row (j + 1) false) (right (get_or components j d).now) ∙ ap (λ b. right (get_or components j d).now && b) next ∙ sym (ap (first_is right test) (components_at components j d low)))

-- and after the last component nothing is left
pub one_last : (right : List ℕ → Bool) (test : List (List ℕ) → Bool) (components : List (Bor (List ℕ))) (row : List Bool) (j : ℕ) → j ≤ length components → length components ≤ j
    → IsRowFrom (first_is right test) test components j row → IsRow (first_is right test) components (set row (length components) false)
one_last right test components row j within past old =
    let end : j ≡ length components = omega (arith, within, past) in
    let nothing : false ≡ first_is right test (texts_seen (drop (length components) components)) = sym (ap (λ cs. first_is right test (texts_seen cs)) (drop_all (length components) components (omega arith))) in
    let low : length components < length components + 1 = omega arith in
    let at_most : length components ≤ length components = omega arith in
    row_ends (first_is right test) test components (set row (length components) false) (length components + 1) low
    (set_first (first_is right test) test components row (length components) false at_most (subst (λ n. IsRowFrom (first_is right test) test components n row) end old) nothing)

-- the row of no parts
pub no_parts_row : (components : List (Bor (List ℕ))) → IsRow (fits_parts []) components (replicate (length components) false ++ true ∷ [])
unfolding fits_pattern_parts
no_parts_row [] = record { long = refl; first = λ k low fits. absurd (omega (arith, low)); last = at_end }
  where
    at_end : (k : ℕ) → 0 ≤ k → k ≤ 0 → get_or (true ∷ []) k false ≡ fits_parts [] (texts_seen (drop k []))
    at_end zero high fits = refl
    at_end (suc k) high fits = absurd (omega (arith, fits))
no_parts_row (component ∷ components) = record { long = omega (arith, (no_parts_row components).long); first = λ k low fits. absurd (omega (arith, low)); last = later (no_parts_row components).last }
  where
    later : ((k : ℕ) → 0 ≤ k → k ≤ length components → get_or (replicate (length components) false ++ true ∷ []) k false ≡ fits_parts [] (texts_seen (drop k components)))
        → (k : ℕ) → 0 ≤ k → k ≤ suc (length components) → get_or (false ∷ (replicate (length components) false ++ true ∷ [])) k false ≡ fits_parts [] (texts_seen (drop k (component ∷ components)))
    later rest zero high fits = refl
    later rest (suc k) high fits = rest k (omega arith) (omega (arith, fits))

-- a part more in front
pub more_parts : (parts : List Part) (i : ℕ) (part : Part) (components : List (Bor (List ℕ))) (row : List Bool) → i < length parts → part ≡ get_or parts i part
    → IsRow (λ cs. cond part.any (any_end (fits_parts (drop (i + 1) parts)) cs) (first_is (is_match part.pattern) (fits_parts (drop (i + 1) parts)) cs)) components row → IsRow (fits_parts (drop i parts)) components row
unfolding fits_pattern_parts
more_parts parts i part components row low is row_is =
    subst (λ ps. IsRow (fits_parts ps) components row) (sym (drop_more parts i part low ∙ ap (λ p. p ∷ drop (i + 1) parts) (sym is))) row_is

pub any_part : (parts : List Part) (i : ℕ) (part : Part) (components : List (Bor (List ℕ))) (row : List Bool) → i < length parts → part ≡ get_or parts i part → part.any ≡ true
    → IsRow (any_end (fits_parts (drop (i + 1) parts))) components row → IsRow (fits_parts (drop i parts)) components row
any_part parts i part components row low is any row_is =
    more_parts parts i part components row low is (subst (λ b. IsRow (λ cs. cond b (any_end (fits_parts (drop (i + 1) parts)) cs) (first_is (is_match part.pattern) (fits_parts (drop (i + 1) parts)) cs)) components row) (sym any) row_is)

pub one_part : (parts : List Part) (i : ℕ) (part : Part) (components : List (Bor (List ℕ))) (row : List Bool) → i < length parts → part ≡ get_or parts i part → part.any ≡ false
    → IsRow (first_is (is_match part.pattern) (fits_parts (drop (i + 1) parts))) components row → IsRow (fits_parts (drop i parts)) components row
one_part parts i part components row low is any row_is =
    more_parts parts i part components row low is (subst (λ b. IsRow (λ cs. cond b (any_end (fits_parts (drop (i + 1) parts)) cs) (first_is (is_match part.pattern) (fits_parts (drop (i + 1) parts)) cs)) components row) (sym any) row_is)

-- a loop that goes down is at an index before the end
pub one_down : (at end : ℕ) → at ≤ end → 0 < at → (at - 1 < end) × (at ≡ at - 1 + 1)
one_down at end within some = (omega (arith, within, some), omega (arith, some))
