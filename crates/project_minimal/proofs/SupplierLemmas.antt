-- A file more that supplies a unit of a name.
use Rattle.std.proofs.Common.{◌≡◌, ◌≢◌, ℕ, zero, suc, ◌+◌, ◌<◌, ◌≤◌, ◌==◌, Bool, true, false, not, cond, ◌&&◌, ◌||◌, List, [], ◌∷◌, ◌++◌, length, get_or, inl, inr, eqb, refl, sym, ◌∙◌, ap, subst, arith}
use Rattle.std.specs.List.{All, position_or_len}
use Rattle.std.proofs.lemmas.Bool.{cases_Bool, cases_eq, cases_lt, eq-eqb, ne_eqb}
use Rattle.std.proofs.lemmas.List.{get_or-set_same, get_or-set_other, length-set, length_push, get_or_append_left, get_or_at}
use Rattle.std.proofs.lemmas.List.Folds.{position_or_len_push}
use Rattle.std.proofs.lemmas.List.Sums.{passes_at_first}
use Rattle.std.proofs.lemmas.Bool.Decides.{nat_tests}
use Rattle.std.proofs.lemmas.Option.{get_or_from_slice_get}
use Rattle.base_collections.specs.OrderedKeys.{TakesNumber}
use Rattle.vhdl_units.specs.UnitKeys.{is_same_unit, units_decide}
use Rattle.vhdl_spec.proofs.SomeTests.{or_none}
use Rattle.project_minimal.specs.Suppliers.{FitFiles, HasPut, IsPaired, files_of, has_file, supplies, with_room}
use Rattle.vhdl_units.specs.declared.units.UnitKey.{UnitKey}
use Rattle.project_minimal.specs.declared.suppliers.Suppliers.{Suppliers}

nowhere : {X : Type 0} (xs : List X) (k : ℕ) (d : X) → length xs ≤ k → get_or xs k d ≡ d
nowhere [] k d past = refl
nowhere (x ∷ xs) zero d past = absurd (omega arith)
nowhere (x ∷ xs) (suc k) d past = nowhere xs k d (omega arith)

position_few : {X : Type 0} (p : X → Bool) (xs : List X) → position_or_len p xs ≤ length xs
position_few p [] = omega arith
position_few p (x ∷ xs) = elim (p x) as (λ b. cond (not b) (1 + position_or_len p xs) 0 ≤ suc (length xs)) [ true ↦ omega arith | false ↦ let rest = position_few p xs in omega arith ]

-- the list of the next number is empty, whether it is there or not
room_at : (number : ℕ) (files : List (List ℕ)) (k : ℕ) → get_or (with_room number files) k [] ≡ get_or files k []
room_at number files k = elim (eqb number (length files)) as (λ b. get_or (cond b (files ++ [] ∷ []) files) k [] ≡ get_or files k []) [ true ↦ pushed k | false ↦ refl ] where
  pushed : (k : ℕ) → get_or (files ++ [] ∷ []) k [] ≡ get_or files k []
  pushed k = elim (cases_lt k (length files)) [
    | inl low ↦ get_or_append_left files ([] ∷ []) [] k low
    | inr high ↦ elim (cases_eq k (length files)) [
      | inl same ↦ get_or_at files [] [] [] k (sym same) ∙ sym (nowhere files k [] high)
      | inr differ ↦ nowhere (files ++ [] ∷ []) k [] (omega (arith, length_push files [], high, differ)) ∙ sym (nowhere files k [] high)
    ]
  ]

room_length : (number : ℕ) (files : List (List ℕ)) → number ≤ length files → (number < length (with_room number files)) × (length files ≤ length (with_room number files)) × (length (with_room number files) ≤ length files + 1)
room_length number files few =
    elim (cases_eq number (length files)) [
      | inl same ↦
          let is : length (with_room number files) ≡ length files + 1 = ap (λ (b : Bool). length (cond b (files ++ [] ∷ []) files)) (eq-eqb number (length files) same) ∙ length_push files [] in
          (omega (arith, is, same), omega (arith, is), omega (arith, is))
      | inr differ ↦
          let is : length (with_room number files) ≡ length files = ap (λ (b : Bool). length (cond b (files ++ [] ∷ []) files)) (ne_eqb number (length files) differ) in
          (omega (arith, is, few, differ), omega (arith, is), omega (arith, is))
    ]

module _ (old new : Suppliers) (name : UnitKey) (file number : ℕ) (paired : IsPaired old)
    (number_is : number ≡ position_or_len (is_same_unit name) old.names) (takes : TakesNumber name number old.names new.names) (put : HasPut number file old.files.items new.files.items) where
  few : number ≤ length old.names
  few = omega (arith, number_is, position_few (is_same_unit name) old.names)

  sizes : (number < length (with_room number old.files.items)) × (length old.files.items ≤ length (with_room number old.files.items)) × (length (with_room number old.files.items) ≤ length old.files.items + 1)
  sizes = room_length number old.files.items (omega (arith, few, paired))

  new_size : length new.files.items ≡ length (with_room number old.files.items)
  new_size = ap (λ (rows : List (List ℕ)). length rows) put.is ∙ length-set (with_room number old.files.items) number put.row

  itself : is_same_unit name name ≡ true
  itself = (units_decide name name).1 refl

  pub here : position_or_len (is_same_unit name) new.names ≡ number
  here = elim (cases_lt number (length old.names)) [
    | inl low ↦ ap (position_or_len (is_same_unit name)) (takes.kept low) ∙ sym number_is
    | inr high ↦
        let at_end : position_or_len (is_same_unit name) old.names ≡ length old.names = omega (arith, number_is, few, high) in
        let pushed = position_or_len_push (is_same_unit name) old.names name in
        ap (position_or_len (is_same_unit name)) (takes.grown high) ∙ grind (arith, nat_tests, pushed, at_end, itself, number_is)
  ]

  at_number : get_or new.files.items number [] ≡ put.row
  at_number = ap (λ (rows : List (List ℕ)). get_or rows number []) put.is ∙ get_or-set_same (with_room number old.files.items) number put.row [] sizes.0

  elsewhere : (k : ℕ) → k ≢ number → get_or new.files.items k [] ≡ get_or old.files.items k []
  elsewhere k differ = ap (λ (rows : List (List ℕ)). get_or rows k []) put.is ∙ get_or-set_other (with_room number old.files.items) number k put.row [] differ ∙ room_at number old.files.items k

  has_here : (at : ℕ) → supplies new name at ≡ (supplies old name at || file == at)
  unfolding supplies
  has_here at =
      ap (λ (rows : List ℕ). has_file rows at) (ap (λ (k : ℕ). get_or new.files.items k []) here ∙ at_number)
      ∙ put.has at ∙ ap (λ (k : ℕ). has_file (get_or old.files.items k []) at || file == at) number_is

  -- another name has the same files
  same_files : (other : UnitKey) → is_same_unit other name ≡ false → files_of new other ≡ files_of old other
  same_files other differ = elim (cases_lt number (length old.names)) [
    | inl low ↦
        let rank = position_or_len (is_same_unit other) old.names in
        ap (λ (names : List UnitKey). get_or new.files.items (position_or_len (is_same_unit other) names) []) (takes.kept low)
        ∙ elsewhere rank (λ is.
        let passes : is_same_unit other (get_or old.names rank name) ≡ true = passes_at_first (is_same_unit other) old.names name (omega (arith, low, is)) in
        let found : get_or old.names rank name ≡ name = ap (λ (k : ℕ). get_or old.names k name) is ∙ ap (λ (names : List UnitKey). get_or names number name) (sym (takes.kept low)) ∙ get_or_from_slice_get new.names number name name takes.numbered in
        never (sym (ap (is_same_unit other) found) ∙ passes))
    | inr high ↦
        let rank = position_or_len (is_same_unit other) old.names in
        let pushed = position_or_len_push (is_same_unit other) old.names name in
        let most = position_few (is_same_unit other) old.names in
        elim (cases_lt rank (length old.names)) [
          | inl within ↦
              let same : position_or_len (is_same_unit other) new.names ≡ rank = ap (position_or_len (is_same_unit other)) (takes.grown high) ∙ grind (arith, nat_tests, pushed, within) in
              ap (λ (k : ℕ). get_or new.files.items k []) same ∙ elsewhere rank (λ is. omega (arith, within, is, high))
          | inr past ↦
              let at_end : rank ≡ length old.names = omega (arith, most, past) in
              let next : position_or_len (is_same_unit other) new.names ≡ length old.names + 1 = ap (position_or_len (is_same_unit other)) (takes.grown high) ∙ grind (arith, nat_tests, pushed, at_end, differ) in
              ap (λ (k : ℕ). get_or new.files.items k []) next ∙ nowhere new.files.items (length old.names + 1) [] (omega (arith, new_size, sizes.2, paired))
              ∙ sym (nowhere old.files.items rank [] (omega (arith, paired, past)))
        ]
  ] where
    never : is_same_unit other name ≡ true → ⊥
    never is = let contra : false ≡ true = sym differ ∙ is in cc

  -- the file supplies a unit of the name
  pub supplied : (other : UnitKey) (at : ℕ) → supplies new other at ≡ (supplies old other at || (is_same_unit other name && file == at))
  unfolding supplies
  supplied other at = elim (cases_Bool (is_same_unit other name)) [
    | inl same ↦
        let is : other ≡ name = (units_decide other name).0 same in
        subst (λ (n : UnitKey). supplies new n at ≡ (supplies old n at || file == at)) (sym is) (has_here at)
        ∙ ap (λ (b : Bool). supplies old other at || (b && file == at)) (sym same)
    | inr differ ↦
        ap (λ (rows : List ℕ). has_file rows at) (same_files other differ) ∙ sym (or_none (supplies old other at))
        ∙ ap (λ (b : Bool). supplies old other at || (b && file == at)) (sym differ)
  ]

  pub paired_now : IsPaired new
  paired_now = elim (cases_lt number (length old.names)) [
    | inl low ↦
        let room : length (with_room number old.files.items) ≡ length old.files.items = ap (λ (b : Bool). length (cond b (old.files.items ++ [] ∷ []) old.files.items)) (ne_eqb number (length old.files.items) (λ is. omega (arith, is, low, paired))) in
        omega (arith, new_size, room, paired, ap (λ (names : List UnitKey). length names) (takes.kept low))
    | inr high ↦
        let room : length (with_room number old.files.items) ≡ length old.files.items + 1 = ap (λ (b : Bool). length (cond b (old.files.items ++ [] ∷ []) old.files.items)) (eq-eqb number (length old.files.items) (omega (arith, few, high, paired))) ∙ length_push old.files.items [] in
        omega (arith, new_size, room, paired, ap (λ (names : List UnitKey). length names) (takes.grown high), length_push old.names name)
  ]

pub fit_put : (count file number : ℕ) (old new : Suppliers) (name : UnitKey) → IsPaired old → number ≡ position_or_len (is_same_unit name) old.names → TakesNumber name number old.names new.names → HasPut number file old.files.items new.files.items → All (λ (some : List ℕ). All (λ other. other < count) some) new.files.items → FitFiles count new
fit_put count file number old new name paired number_is takes put within = record { paired = paired_now old new name file number paired number_is takes put; within = within }

pub none_supplied : (suppliers : Suppliers) (name : UnitKey) (at : ℕ) → suppliers.files.items ≡ [] → supplies suppliers name at ≡ false
unfolding supplies
none_supplied suppliers name at none = ap (λ (rows : List (List ℕ)). has_file (get_or rows (position_or_len (is_same_unit name) suppliers.names) []) at) none
