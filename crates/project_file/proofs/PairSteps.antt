-- Dependencies, table after table, over an index of names.
use Rattle.std.proofs.Common.{◌≡◌, ◌≢◌, ℕ, zero, suc, ◌+◌, ◌<◌, ◌≤◌, Bool, false, true≢false, ltb, List, [], ◌∷◌, ◌++◌, length, take, drop, get_or, map, Option, Some, None, Ok, Err, Result, refl, sym, ap, subst, ◌∙◌, arith, inl, inr}
use Rattle.std.specs.Prelude.{AllPairs, Contains, slice_get, position}
use Rattle.std.specs.Option.{ok_or}
use Rattle.std.specs.List.{position_or_len}
use Rattle.std.proofs.lemmas.Bool.{cases_Bool, cases_lt, cond-true, ltb-false}
use Rattle.std.proofs.lemmas.List.Quantifiers.{position-Some}
use Rattle.std.proofs.lemmas.List.{drop_more, drop_all, append-nil, append_assoc, get_or-map, length-map, map_push, take_more, get_or-take, length-take}
use Rattle.std.proofs.lemmas.Option.{get_or_from_slice_get, slice_get_within, none-some}
use Rattle.base_collections.specs.Numbers.{IsNumbered}
use Rattle.base_collections.specs.NameLaws.{names_decide}
use Rattle.toml.specs.Data.{Members}
use Rattle.base.specs.declared.file.FileName.{FileName}
use Rattle.base.specs.declared.memory.OrMemory.{OrMemory}
use Rattle.base.specs.declared.project.Pair.{Pair}
use Rattle.base.specs.declared.project.ProjectFile.{ProjectFile}
use Rattle.base.specs.declared.project.ProjectFault.{ProjectFault}
use Rattle.base.specs.declared.project.ProjectFault.TheVariants.{UnknownDependency}
use Rattle.base.specs.Names.{is_same_name}
use Rattle.project_file.specs.Csv.{then_read}
use Rattle.project_file.specs.Steps.{ReadsStep}
use Rattle.project_file.specs.Toml.{index_of_file, pair_of, pairs_of}
use Rattle.project_file.specs.Pairs.{names_of, IsIndexOf}
use Rattle.project_file.proofs.LibrarySum.{fault_ends, reads_same}

all_fail : {X : Type 0} (p : X → Bool) (xs : List X) → length xs ≤ position_or_len p xs → (k : ℕ) (d : X) → k < length xs → p (get_or xs k d) ≡ false
all_fail p [] past k d low = absurd (omega (arith, low))
all_fail p (x ∷ xs) past zero d low = elim (cases_Bool (p x)) [
  | inl t ↦ let no_room : suc (length xs) ≤ 0 = rw t at past in absurd (omega (arith, no_room))
  | inr f ↦ f
]
all_fail p (x ∷ xs) past (suc k) d low = elim (cases_Bool (p x)) [
  | inl t ↦ let no_room : suc (length xs) ≤ 0 = rw t at past in absurd (omega (arith, no_room))
  | inr f ↦ let less : suc (length xs) ≤ 1 + position_or_len p xs = rw f at past in all_fail p xs (omega (arith, less)) k d (omega (arith, low))
]

pub not_found : {X : Type 0} (p : X → Bool) (xs : List X) → position p xs ≡ None → (k : ℕ) (d : X) → k < length xs → p (get_or xs k d) ≡ false
not_found p xs none = elim (cases_Bool (ltb (position_or_len p xs) (length xs))) [
  | inl t ↦ absurd (none-some (position_or_len p xs) (sym none ∙ cond-true (ltb (position_or_len p xs) (length xs)) (Some (position_or_len p xs)) None t))
  | inr f ↦ all_fail p xs (ltb-false _ _ f)
]

-- where no two are the same, one has one index
one_index : {X : Type 0} (xs : List X) → AllPairs (λ a b. a ≢ b) xs → (a b : ℕ) (d : X) → a < length xs → b < length xs → get_or xs a d ≡ get_or xs b d → a ≡ b
one_index xs once a b d low_a low_b same = elim (cases_lt a b) [
  | inl less ↦ absurd (once a b d less low_b same)
  | inr more ↦ elim (cases_lt b a) [
    | inl less ↦ absurd (once b a d less low_a (sym same))
    | inr least ↦ omega (arith, more, least)
  ]
]

-- the first index of a name is the only one
position_at : (files : List ProjectFile) (name : FileName) (file_index : ℕ) (d : ProjectFile) → AllPairs (λ a b. a ≢ b) (names_of files) → file_index < length files → (get_or files file_index d).name ≡ name
    → position (λ file. is_same_name file.name name) files ≡ Some file_index
position_at files name file_index d once low at = by (position (λ file. is_same_name file.name name) files) refl
  where
    by : (found : Option ℕ) → position (λ file. is_same_name file.name name) files ≡ found → position (λ file. is_same_name file.name name) files ≡ Some file_index
    by None is =
        let no : is_same_name (get_or files file_index d).name name ≡ false = not_found (λ file. is_same_name file.name name) files is file_index d low in
        absurd (true≢false (sym ((names_decide (get_or files file_index d).name name).1 at) ∙ no))
    by (Some other) is =
        let there = position-Some (λ (file : ProjectFile). is_same_name file.name name) files other d is in
        let same : (get_or files other d).name ≡ (get_or files file_index d).name = (names_decide (get_or files other d).name name).0 there.1 ∙ sym at in
        let names : get_or (names_of files) other d.name ≡ get_or (names_of files) file_index d.name = get_or-map (λ (file : ProjectFile). file.name) files other d d.name there.0 ∙ same ∙ sym (get_or-map (λ (file : ProjectFile). file.name) files file_index d d.name low) in
        is ∙ ap Some (one_index (names_of files) once other file_index d.name (rw length-map there.0) (rw length-map low) names)

no_position : (files : List ProjectFile) (name : FileName) → ¬ Contains (names_of files) name → position (λ file. is_same_name file.name name) files ≡ None
no_position files name none = by (position (λ file. is_same_name file.name name) files) refl
  where
    by : (found : Option ℕ) → position (λ file. is_same_name file.name name) files ≡ found → position (λ file. is_same_name file.name name) files ≡ None
    by None is = is
    by (Some file_index) is =
        let d : ProjectFile = record { name = name; command = [] } in
        let there = position-Some (λ (file : ProjectFile). is_same_name file.name name) files file_index d is in
        absurd (none (file_index, rw length-map there.0, get_or-map (λ (file : ProjectFile). file.name) files file_index d name there.0 ∙ (names_decide (get_or files file_index d).name name).0 there.1))

pub index_is : (files : List ProjectFile) (keys : List FileName) (name : FileName) (file_index : ℕ) → IsIndexOf files keys → slice_get keys file_index ≡ Some name → index_of_file files name ≡ Ok file_index
unfolding index_of_file
index_is files keys name file_index is at =
    let d : ProjectFile = record { name = name; command = [] } in
    let named : file_index < length (names_of files) = subst (λ ks. file_index < length ks) is.names (slice_get_within keys file_index name at) in
    let low : file_index < length files = rw length-map at named in
    let here : (get_or files file_index d).name ≡ name = sym (get_or-map (λ (file : ProjectFile). file.name) files file_index d name low) ∙ ap (λ ks. get_or ks file_index name) (sym is.names) ∙ get_or_from_slice_get keys file_index name name at in
    ap (λ p. ok_or p (UnknownDependency name)) (position_at files name file_index d (subst (AllPairs (λ a b. a ≢ b)) is.names is.once) low here)

pub no_index : (files : List ProjectFile) (keys : List FileName) (name : FileName) → IsIndexOf files keys → ¬ Contains keys name → index_of_file files name ≡ Err (UnknownDependency name)
unfolding index_of_file
no_index files keys name is none = ap (λ p. ok_or p (UnknownDependency name)) (no_position files name (λ has. none (subst (λ ks. Contains ks name) (sym is.names) has)))

-- a name more
pub name_more : (files : List ProjectFile) (i : ℕ) (file : ProjectFile) (keys new : List FileName) (number : ℕ) → AllPairs (λ a b. a ≢ b) (names_of files) → i < length files → file ≡ get_or files i file → keys ≡ names_of (take i files)
    → IsNumbered file.name number keys new → new ≡ names_of (take (i + 1) files)
name_more files i file keys new number once low at are is =
    let next : names_of (take (i + 1) files) ≡ names_of (take i files) ++ file.name ∷ [] = ap names_of (take_more files i file low ∙ ap (λ f. take i files ++ f ∷ []) (sym at)) ∙ map_push (λ (file : ProjectFile). file.name) (take i files) file in
    elim is.grown [
      | inl same ↦
          let here : slice_get keys number ≡ Some file.name = ap (λ ks. slice_get ks number) (sym same) ∙ is.numbered in
          let within : number < length keys = slice_get_within keys number file.name here in
          let named : number < length (names_of (take i files)) = subst (λ ks. number < length ks) are within in
          let taken : number < length (take i files) = rw length-map at named in
          let early : number < i = omega (arith, taken, length-take {A = ProjectFile} i files) in
          let late : number < length files = omega (arith, early, low) in
          let before : (get_or files number file).name ≡ file.name =
          ap (λ (f : ProjectFile). f.name) (sym (get_or-take i files number file early)) ∙ sym (get_or-map (λ (f : ProjectFile). f.name) (take i files) number file file.name taken) ∙ ap (λ ks. get_or ks number file.name) (sym are) ∙ get_or_from_slice_get keys number file.name file.name here in
          absurd (once number i file.name early (rw length-map low) (get_or-map (λ (f : ProjectFile). f.name) files number file file.name late ∙ before ∙ ap (λ (f : ProjectFile). f.name) at ∙ sym (get_or-map (λ (f : ProjectFile). f.name) files i file file.name low)))
      | inr grown ↦ grown ∙ ap (λ ks. ks ++ file.name ∷ []) are ∙ sym next
    ]

-- a dependency more
module _ {V : Type 0} (see : V → Members) (files : List ProjectFile) (tables : List V) (i : ℕ) (table : V) (low : i < length tables) (at : table ≡ get_or tables i table) (pairs : List Pair) (whole : Result (List Pair) ProjectFault)
    (kept : then_read (pairs_of files (map see (drop i tables))) (λ more. Ok (pairs ++ more)) ≡ whole) where
  here : pairs_of files (map see (drop i tables)) ≡ then_read (pair_of files (see table)) (λ pair. then_read (pairs_of files (map see (drop (i + 1) tables))) (λ others. Ok (pair ∷ others)))
  unfolding pairs_of
  here = ap (λ ts. pairs_of files (map see ts)) (drop_more tables i table low ∙ ap (λ t. t ∷ drop (i + 1) tables) (sym at))

  joined : (pair : Pair) (rest : Result (List Pair) ProjectFault) → then_read rest (λ more. Ok ((pairs ++ pair ∷ []) ++ more)) ≡ then_read (then_read rest (λ others. Ok (pair ∷ others))) (λ more. Ok (pairs ++ more))
  joined pair (Ok more) = ap Ok (append_assoc pairs (pair ∷ []) more)
  joined pair (Err fault) = refl

  pub pair_more : (pair : Pair) (new : List Pair) → pair_of files (see table) ≡ Ok pair → new ≡ pairs ++ pair ∷ [] → then_read (pairs_of files (map see (drop (i + 1) tables))) (λ more. Ok (new ++ more)) ≡ whole
  pair_more pair new is grown =
      let rest = pairs_of files (map see (drop (i + 1) tables)) in
      ap (λ ps. then_read rest (λ more. Ok (ps ++ more))) grown ∙ joined pair rest ∙ ap (λ s. then_read s (λ more. Ok (pairs ++ more))) (sym (here ∙ ap (λ s. then_read s (λ pair. then_read rest (λ others. Ok (pair ∷ others)))) is)) ∙ kept

  pub pair_fails : (fault : OrMemory ProjectFault) → ReadsStep (pair_of files (see table)) (Err fault) → ReadsStep whole (Err fault)
  pair_fails fault is = reads_same _ _ (Err fault) kept (fault_ends _ (λ more. Ok (pairs ++ more)) fault (reads_same _ _ (Err fault) (sym here) (fault_ends _ _ fault is)))

pub pairs_all : {V : Type 0} (see : V → Members) (files : List ProjectFile) (tables : List V) (i : ℕ) (pairs : List Pair) (whole : Result (List Pair) ProjectFault) → length tables ≤ i
    → then_read (pairs_of files (map see (drop i tables))) (λ more. Ok (pairs ++ more)) ≡ whole → whole ≡ Ok pairs
unfolding pairs_of
pairs_all see files tables i pairs whole past kept = sym kept ∙ ap (λ ts. then_read (pairs_of files (map see ts)) (λ more. Ok (pairs ++ more))) (drop_all i tables past) ∙ ap Ok (append-nil pairs)
