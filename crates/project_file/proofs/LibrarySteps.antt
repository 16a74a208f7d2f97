-- Libraries after those before them.
use Rattle.std.proofs.Common.{◌≡◌, ℕ, ◌<◌, true, false, cond, List, [], ◌∷◌, ◌++◌, length, get_or, map, Some, Ok, Err, sym, ap, ◌∙◌, inl, inr}
use Rattle.std.specs.Prelude.{Contains, codes, slice_get}
use Rattle.std.specs.Str.{bytes_eq}
use Rattle.std.proofs.lemmas.Bool.{cases_Bool, cond-true, cond-false}
use Rattle.std.proofs.lemmas.List.{get_or-map, length-map}
use Rattle.std.proofs.lemmas.List.Folds.{list_any_at}
use Rattle.std.proofs.lemmas.Map.Views.{Contains-from_any}
use Rattle.std.proofs.lemmas.Slice.Eq.{bytes_eq-Decides}
use Rattle.std.proofs.lemmas.Option.{get_or_from_slice_get, slice_get_within}
use Rattle.base.specs.declared.file.FileName.{FileName}
use Rattle.base.specs.declared.project.ProjectFault.TheVariants.{WorkLibrary, DuplicateLibrary}
use Rattle.base_collections.specs.Numbers.{IsNumbered}
use Rattle.project_file.specs.Toml.{is_among, new_library}
use Rattle.project_file.specs.Libraries.{alone, libraries_of}

pub work_is : (before : List (List ℕ)) (library : List ℕ) → bytes_eq library (codes "work") ≡ true → new_library before library ≡ Err WorkLibrary
unfolding new_library
work_is before library work = cond-true (bytes_eq library (codes "work")) (Err WorkLibrary) (cond (is_among before library) (Err (DuplicateLibrary library)) (Ok library)) work

other_is : (before : List (List ℕ)) (library : List ℕ) → bytes_eq library (codes "work") ≡ false → new_library before library ≡ cond (is_among before library) (Err (DuplicateLibrary library)) (Ok library)
unfolding new_library
other_is before library other = cond-false (bytes_eq library (codes "work")) (Err WorkLibrary) (cond (is_among before library) (Err (DuplicateLibrary library)) (Ok library)) other

-- a library that is a key
pub came_is : (keys : List FileName) (library : List ℕ) (file_index : ℕ) → bytes_eq library (codes "work") ≡ false → slice_get keys file_index ≡ Some (alone library) → new_library (libraries_of keys) library ≡ Err (DuplicateLibrary library)
came_is keys library file_index other is =
    let low : file_index < length keys = slice_get_within keys file_index (alone library) is in
    let here : get_or (libraries_of keys) file_index library ≡ library = get_or-map (λ key. key.library) keys file_index (alone library) library low ∙ ap (λ (key : FileName). key.library) (get_or_from_slice_get keys file_index (alone library) (alone library) is) in
    let among : is_among (libraries_of keys) library ≡ true = list_any_at (bytes_eq library) (libraries_of keys) file_index library (rw length-map low) ((bytes_eq-Decides library (get_or (libraries_of keys) file_index library)).1 (sym here)) in
    other_is (libraries_of keys) library other ∙ cond-true (is_among (libraries_of keys) library) (Err (DuplicateLibrary library)) (Ok library) among

not_among : (keys : List FileName) (library : List ℕ) → keys ≡ map alone (libraries_of keys) → ¬ Contains keys (alone library) → is_among (libraries_of keys) library ≡ false
not_among keys library are new = elim (cases_Bool (is_among (libraries_of keys) library)) [
  | inl t ↦
      let has = Contains-from_any (λ x y. (bytes_eq-Decides x y).0) library (libraries_of keys) t in
      let low : has.0 < length keys = rw length-map at has.1 in
      absurd (new (has.0, low, ap (λ ks. get_or ks has.0 (alone library)) are ∙ get_or-map alone (libraries_of keys) has.0 library (alone library) has.1 ∙ ap alone has.2))
  | inr f ↦ f
]

-- a library that isn't, and is added
pub new_is : (keys new : List FileName) (library : List ℕ) (number : ℕ) → bytes_eq library (codes "work") ≡ false → keys ≡ map alone (libraries_of keys) → ¬ Contains keys (alone library) → IsNumbered (alone library) number keys new
    → (new_library (libraries_of keys) library ≡ Ok library) × (new ≡ keys ++ alone library ∷ [])
new_is keys new library number other are none is = (
  other_is (libraries_of keys) library other ∙ cond-false (is_among (libraries_of keys) library) (Err (DuplicateLibrary library)) (Ok library) (not_among keys library are none),
  elim is.grown [
    | inl same ↦
        let here : slice_get keys number ≡ Some (alone library) = ap (λ ks. slice_get ks number) (sym same) ∙ is.numbered in
        absurd (none (number, slice_get_within keys number (alone library) here, get_or_from_slice_get keys number (alone library) (alone library) here))
    | inr grown ↦ grown
  ],
)
