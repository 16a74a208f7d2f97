-- The names that a pattern matches, name after name, and what patterns match, pattern after pattern.
use Rattle.std.proofs.Common.{◌≡◌, ◌≢◌, ℕ, ◌+◌, ◌<◌, ◌≤◌, Bool, true, false, not, ◌&&◌, ◌||◌, cond, List, [], ◌∷◌, ◌++◌, length, take, drop, get_or, map, Ok, Err, Result, refl, sym, ap, subst, ◌∙◌, arith, inl, inr}
use Rattle.std.specs.Prelude.{All, AllPairs, Contains, filter}
use Rattle.std.specs.List.{list_any}
use Rattle.std.specs.Str.{bytes_eq}
use Rattle.std.proofs.Math.Path.{fun_ext}
use Rattle.std.proofs.lemmas.Bool.{cases_lt, false_from_ne_true}
use Rattle.std.proofs.lemmas.List.{get_or-map, length-map, get_or-take, length-take, map_push, append-nil, append_assoc, drop_more, drop_all, get_or_default}
use Rattle.std.proofs.lemmas.List.Elements.{filter_more, All-push}
use Rattle.std.proofs.lemmas.List.Folds.{list_any_at, list_any-append}
use Rattle.std.proofs.lemmas.Map.Views.{Contains-from_any}
use Rattle.std.proofs.lemmas.Slice.Eq.{bytes_eq-Decides}
use Rattle.testbench_select.specs.Fits.{ends_of, first_is, fits_pattern_parts}
use Rattle.base_collections.specs.Numbers.{NumbersBelow, IsAdded}
use Rattle.base.specs.declared.project.ProjectFault.{ProjectFault}
use Rattle.base.specs.declared.project.ProjectFault.TheVariants.{NothingMatches}
use Rattle.project_file.specs.declared.paths.Part.{Part}
use Rattle.project_file.specs.Paths.{components, is_any_components, is_component_of, matches_path}
use Rattle.project_file.specs.PathRows.{part_of, fits_parts}
use Rattle.project_file.specs.Toml.{is_among, matching_names}
use Rattle.project_file.specs.Libraries.{texts_at, AreIndices, AddsWanted, TakesMatching}

-- parsed parts match the same components as the written parts
parts_fit : (parts cs : List (List ℕ)) → fits_parts (map part_of parts) cs ≡ fits_pattern_parts is_any_components is_component_of parts cs
unfolding fits_pattern_parts
parts_fit [] [] = refl
parts_fit [] (c ∷ cs) = refl
parts_fit (part ∷ parts) cs = ap (λ (rest : List (List ℕ) → Bool). cond (is_any_components part) (list_any rest (ends_of cs)) (first_is (is_component_of part) rest cs)) (fun_ext (parts_fit parts))

pub pattern_is : (parts : List Part) (pattern path : List ℕ) (answer : Bool) → answer ≡ fits_parts parts (components path) → parts ≡ map part_of (components pattern) → answer ≡ matches_path pattern path
unfolding matches_path
pattern_is parts pattern path answer told are = told ∙ ap (λ ps. fits_parts ps (components path)) are ∙ parts_fit (components pattern) (components path)

kept_one : (here kept : Bool) (some others : Bool) → (some ≡ true → others ≡ true) → cond kept (here || some) some ≡ true → (here || others) ≡ true
kept_one true kept some others more is = refl
kept_one false true some others more is = more is
kept_one false false some others more is = more is

any_cond : (p : List ℕ → Bool) (b : Bool) (x : List ℕ) (xs : List (List ℕ)) → list_any p (cond b (x ∷ xs) xs) ≡ cond b (p x || list_any p xs) (list_any p xs)
any_cond p true x xs = refl
any_cond p false x xs = refl

-- what some of the kept items pass, some of all items pass
any_kept : (p q : List ℕ → Bool) (xs : List (List ℕ)) → list_any p (filter q xs) ≡ true → list_any p xs ≡ true
any_kept p q [] is = is
any_kept p q (x ∷ xs) is = kept_one (p x) (q x) (list_any p (filter q xs)) (list_any p xs) (any_kept p q xs) (sym (any_cond p (q x) x (filter q xs)) ∙ is)

-- a name that a test passes and that isn't there yet
abbrev pub takes : (List ℕ → Bool) → List (List ℕ) → List ℕ → Bool
takes test before name = test name && not (is_among before name)

or_nothing : (b : Bool) → (b || false) ≡ b
or_nothing true = refl
or_nothing false = refl

module _ (names : List (List ℕ)) (distinct : AllPairs (λ name other. name ≢ other) names) where
  -- a name has one index
  one_index : (a b : ℕ) → a < length names → b < length names → get_or names a [] ≡ get_or names b [] → a ≡ b
  one_index a b low_a low_b same = elim (cases_lt a b) [
    | inl less ↦ absurd (distinct a b [] less low_b same)
    | inr more ↦ elim (cases_lt b a) [
      | inl less ↦ absurd (distinct b a [] less low_a (sym same))
      | inr least ↦ omega (arith, more, least)
    ]
  ]

  -- no earlier name is the same
  not_before : (q : List ℕ → Bool) (i : ℕ) → i < length names → is_among (filter q (take i names)) (get_or names i []) ≡ false
  not_before q i low = false_from_ne_true _ (λ t.
      let has = Contains-from_any (λ x y. (bytes_eq-Decides x y).0) (get_or names i []) (take i names) (any_kept (bytes_eq (get_or names i [])) q (take i names) t) in
      let early : has.0 < i = omega (arith, has.1, length-take {A = List ℕ} i names) in
      let late : has.0 < length names = omega (arith, early, low) in
      let other : get_or names has.0 [] ≡ get_or names i [] = get_or_default names has.0 [] (get_or names i []) late ∙ sym (get_or-take i names has.0 (get_or names i []) early) ∙ has.2 in
      distinct has.0 i [] early low other)

  among_from : (indices : List ℕ) (i : ℕ) → Contains indices i → is_among (texts_at names indices) (get_or names i []) ≡ true
  among_from indices i has =
      let here : get_or (texts_at names indices) has.0 [] ≡ get_or names i [] = get_or-map (λ file_index. get_or names file_index []) indices has.0 i [] has.1 ∙ ap (λ n. get_or names n []) has.2 in
      list_any_at (bytes_eq (get_or names i [])) (texts_at names indices) has.0 [] (rw length-map has.1) ((bytes_eq-Decides _ _).1 (sym here))

  from_among : (indices : List ℕ) (i : ℕ) → i < length names → All (λ file_index. file_index < length names) indices → is_among (texts_at names indices) (get_or names i []) ≡ true → Contains indices i
  from_among indices i low each is =
      let has = Contains-from_any (λ x y. (bytes_eq-Decides x y).0) (get_or names i []) (texts_at names indices) is in
      let within : has.0 < length indices = rw length-map at has.1 in
      let here : get_or names (get_or indices has.0 i) [] ≡ get_or names i [] = sym (get_or-map (λ file_index. get_or names file_index []) indices has.0 i (get_or names i []) within) ∙ has.2 in
      (has.0, within, one_index (get_or indices has.0 i) i (each has.0 i within) low here)

  module _ (test : List ℕ → Bool) (before : List (List ℕ)) (i : ℕ) (low : i < length names) where
    none_taken : takes test before (get_or names i []) ≡ false → filter (takes test before) (take (i + 1) names) ≡ filter (takes test before) (take i names)
    none_taken none = filter_more (takes test before) names i [] low ∙ ap (λ b. filter (takes test before) (take i names) ++ cond b (get_or names i [] ∷ []) []) none ∙ append-nil (filter (takes test before) (take i names))

    one_taken : takes test before (get_or names i []) ≡ true → filter (takes test before) (take (i + 1) names) ≡ filter (takes test before) (take i names) ++ get_or names i [] ∷ []
    one_taken one = filter_more (takes test before) names i [] low ∙ ap (λ b. filter (takes test before) (take i names) ++ cond b (get_or names i [] ∷ []) []) one

    among_both : (indices : List ℕ) → texts_at names indices ≡ before ++ filter (takes test before) (take i names) → is_among (texts_at names indices) (get_or names i []) ≡ is_among before (get_or names i [])
    among_both indices is =
        ap (λ texts. is_among texts (get_or names i [])) is ∙ list_any-append (bytes_eq (get_or names i [])) before (filter (takes test before) (take i names))
        ∙ ap (λ b. is_among before (get_or names i []) || b) (not_before (takes test before) i low) ∙ or_nothing (is_among before (get_or names i []))

    -- a name that the pattern matches is added
    matched : (found new : NumbersBelow) (is_new : Bool) → AreIndices names found → texts_at names found.numbers ≡ before ++ filter (takes test before) (take i names) → test (get_or names i []) ≡ true → IsAdded is_new i found new
        → AreIndices names new × (texts_at names new.numbers ≡ before ++ filter (takes test before) (take (i + 1) names))
    matched found new true indices is matches added =
        let numbers : new.numbers ≡ found.numbers ++ i ∷ [] = ap (λ (n : NumbersBelow). n.numbers) added.1 in
        let not_there : is_among before (get_or names i []) ≡ false = sym (among_both found.numbers is) ∙ false_from_ne_true _ (λ t. added.0 (from_among found.numbers i low indices.each t)) in
        let one : takes test before (get_or names i []) ≡ true = rw (matches, not_there) in (
          record {
            size = subst (λ (n : NumbersBelow). length names ≤ n.size) (sym added.1) indices.size;
            each = subst (All (λ file_index. file_index < length names)) (sym numbers) (All-push (λ file_index. file_index < length names) found.numbers i indices.each low);
          },
          ap (texts_at names) numbers ∙ map_push (λ file_index. get_or names file_index []) found.numbers i ∙ ap (λ texts. texts ++ get_or names i [] ∷ []) is
              ∙ append_assoc before (filter (takes test before) (take i names)) (get_or names i [] ∷ []) ∙ ap (λ texts. before ++ texts) (sym (one_taken one)),
        )
    matched found new false indices is matches added =
        let there : is_among before (get_or names i []) ≡ true = sym (among_both found.numbers is) ∙ among_from found.numbers i added.0 in
        let none : takes test before (get_or names i []) ≡ false = rw (matches, there) in
        (subst (AreIndices names) (sym added.1) indices, ap (λ (n : NumbersBelow). texts_at names n.numbers) added.1 ∙ is ∙ ap (λ texts. before ++ texts) (sym (none_taken none)))

    -- another is passed over
    unmatched : (texts : List (List ℕ)) → texts ≡ before ++ filter (takes test before) (take i names) → test (get_or names i []) ≡ false → texts ≡ before ++ filter (takes test before) (take (i + 1) names)
    unmatched texts is other =
        let none : takes test before (get_or names i []) ≡ false = rw other in
        is ∙ ap (λ found. before ++ found) (sym (none_taken none))

    -- one name more
    pub taken_more : (found new : NumbersBelow) (wanted : Bool) → AreIndices names found → texts_at names found.numbers ≡ before ++ filter (takes test before) (take i names) → wanted ≡ test (get_or names i []) → AddsWanted wanted i found new
        → AreIndices names new × (texts_at names new.numbers ≡ before ++ filter (takes test before) (take (i + 1) names))
    taken_more found new true indices is wanted added = matched found new added.0 indices is (sym wanted) added.1
    taken_more found new false indices is wanted added =
        (subst (AreIndices names) (sym added) indices, unmatched (texts_at names new.numbers) (ap (λ (n : NumbersBelow). texts_at names n.numbers) added ∙ is) (sym wanted))

-- pattern after pattern
module _ (names patterns : List (List ℕ)) (i : ℕ) (d : List ℕ) (low : i < length patterns) (old new : NumbersBelow) (any : Bool) (whole : Result (List (List ℕ)) ProjectFault) (is : TakesMatching names (get_or patterns i d) old new any) (kept : matching_names names (texts_at names old.numbers) (drop i patterns) ≡ whole) where
  here : matching_names names (texts_at names old.numbers) (drop i patterns)
      ≡ cond any (matching_names names (texts_at names new.numbers) (drop (i + 1) patterns)) (Err (NothingMatches (get_or patterns i d)))
  unfolding matching_names
  here =
      ap (matching_names names (texts_at names old.numbers)) (drop_more patterns i d low)
      ∙ ap (λ b. cond b (matching_names names (texts_at names old.numbers ++ filter (takes (matches_path (get_or patterns i d)) (texts_at names old.numbers)) names) (drop (i + 1) patterns)) (Err (NothingMatches (get_or patterns i d)))) (sym is.some)
      ∙ ap (λ texts. cond any (matching_names names texts (drop (i + 1) patterns)) (Err (NothingMatches (get_or patterns i d)))) (sym is.found)

  pub goes_on : any ≡ true → matching_names names (texts_at names new.numbers) (drop (i + 1) patterns) ≡ whole
  goes_on some = sym (sym kept ∙ here ∙ ap (λ b. cond b (matching_names names (texts_at names new.numbers) (drop (i + 1) patterns)) (Err (NothingMatches (get_or patterns i d)))) some)

  pub stops : any ≡ false → whole ≡ Err (NothingMatches (get_or patterns i d))
  stops none = sym kept ∙ here ∙ ap (λ b. cond b (matching_names names (texts_at names new.numbers) (drop (i + 1) patterns)) (Err (NothingMatches (get_or patterns i d)))) none

pub all_taken : (names patterns : List (List ℕ)) (i : ℕ) (texts : List (List ℕ)) (whole : Result (List (List ℕ)) ProjectFault) → length patterns ≤ i → matching_names names texts (drop i patterns) ≡ whole → whole ≡ Ok texts
unfolding matching_names
all_taken names patterns i texts whole past kept = sym kept ∙ ap (matching_names names texts) (drop_all i patterns past)
