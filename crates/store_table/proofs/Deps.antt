-- Products have different names exactly where the numbers of their names differ.
use Rattle.std.proofs.Common.{◌≡◌, ◌≢◌, ℕ, zero, suc, ◌+◌, ◌<◌, List, [], ◌∷◌, ◌++◌, length, map, take, get_or, refl, sym, ap, ◌∙◌, arith}
use Rattle.std.specs.Prelude.{All, AllPairs, Contains}
use Rattle.std.proofs.lemmas.List.{get_or-map, get_or-take, length-map, length-take, map-append, take_more}
use Rattle.std.proofs.lemmas.Option.{get_or_from_slice_get, slice_get_within}
use Rattle.base.specs.declared.file.FileName.{FileName}
use Rattle.base.specs.declared.graph.BuiltFile.{BuiltFile}
use Rattle.store_codec.specs.RecordTables.{no_product, product_at}
use Rattle.store_table.specs.declared.products.ProductRow.{ProductRow}
use Rattle.store_table.specs.Checked.{IsNameNumber, dep_names}
use Rattle.store_table.specs.Located.{IsProductRow, no_name, no_row, row_product, row_products}
use Rattle.store_table.proofs.Finding.{once_at}

module _ (names : List FileName) (texts : List (List ℕ)) (rows : List ProductRow) (once : AllPairs (λ a b. a ≢ b) names) (are : All (IsProductRow names texts) rows) where
  products : List BuiltFile
  products = row_products names texts rows

  -- the number of the name of a dependency, and the name
  number_at : List ℕ → ℕ → ℕ
  number_at deps k = (get_or rows (get_or deps k 0) no_row).name

  module _ (name : FileName) (number : ℕ) (named : IsNameNumber names name number) (deps : List ℕ) (there : All (λ dep. dep < length rows) deps) where
    name_low : (k : ℕ) → k < length deps → (get_or rows (get_or deps k 0) no_row).name < length names
    name_low k l = (are (get_or deps k 0) no_row (there k 0 l)).name

    -- of the k-th dependency
    dep_is : (k : ℕ) (d : BuiltFile) → k < length deps → (get_or (map (product_at (row_products names texts rows)) deps) k d).name ≡ get_or names (get_or rows (get_or deps k 0) no_row).name no_name
    dep_is k d l =
        ap (λ (f : BuiltFile). f.name) (get_or-map (product_at (row_products names texts rows)) deps k 0 d l)
        ∙ ap (λ (f : BuiltFile). f.name) (get_or-map (row_product names texts) rows (get_or deps k 0) no_row no_product (there k 0 l))

    dep_number : (k d : ℕ) → k < length deps → get_or (dep_names rows deps) k d ≡ (get_or rows (get_or deps k 0) no_row).name
    dep_number k d l = get_or-map (λ (dep : ℕ). (get_or rows dep no_row).name) deps k 0 d l

    own_is : get_or names number no_name ≡ name
    own_is = get_or_from_slice_get names number name no_name named

    pub names_apart : AllPairs (λ a b. a ≢ b) (number ∷ dep_names rows deps) → AllPairs (λ a b. a.name ≢ b.name) (map (product_at (row_products names texts rows)) deps)
    names_apart pairs i j d low high e =
        let size : length (map (product_at (row_products names texts rows)) deps) ≡ length deps = length-map deps (product_at (row_products names texts rows)) in
        let jl : j < length deps = omega (arith, high, size) in
        let il : i < length deps = omega (arith, low, jl) in
        let same : (get_or rows (get_or deps i 0) no_row).name ≡ (get_or rows (get_or deps j 0) no_row).name = once_at names no_name once _ _ (name_low i il) (name_low j jl) (sym (dep_is i d il) ∙ e ∙ dep_is j d jl) in
        pairs (suc i) (suc j) 0 (omega (arith, low)) (omega (arith, jl, length-map deps (λ (dep : ℕ). (get_or rows dep no_row).name))) (dep_number i 0 il ∙ same ∙ sym (dep_number j 0 jl))

    pub names_other : AllPairs (λ a b. a ≢ b) (number ∷ dep_names rows deps) → All (λ other. other.name ≢ name) (map (product_at (row_products names texts rows)) deps)
    names_other pairs k d high e =
        let kl : k < length deps = omega (arith, high, length-map deps (product_at (row_products names texts rows))) in
        let same : number ≡ (get_or rows (get_or deps k 0) no_row).name = once_at names no_name once _ _ (slice_get_within names number name named) (name_low k kl) (own_is ∙ sym e ∙ dep_is k d kl) in
        pairs 0 (suc k) 0 (omega arith) (omega (arith, kl, length-map deps (λ (dep : ℕ). (get_or rows dep no_row).name))) (same ∙ sym (dep_number k 0 kl))

    pub numbers_apart : AllPairs (λ a b. a.name ≢ b.name) (map (product_at (row_products names texts rows)) deps) → All (λ other. other.name ≢ name) (map (product_at (row_products names texts rows)) deps) → AllPairs (λ a b. a ≢ b) (number ∷ dep_names rows deps)
    numbers_apart apart others zero zero d low high e = absurd (omega (arith, low))
    numbers_apart apart others zero (suc j) d low high e =
        let jl : j < length deps = omega (arith, high, length-map deps (λ (dep : ℕ). (get_or rows dep no_row).name)) in
        others j no_product (omega (arith, jl, length-map deps (product_at (row_products names texts rows)))) (dep_is j no_product jl ∙ ap (λ (n : ℕ). get_or names n no_name) (sym (dep_number j d jl) ∙ sym e) ∙ own_is)
    numbers_apart apart others (suc i) zero d low high e = absurd (omega (arith, low))
    numbers_apart apart others (suc i) (suc j) d low high e =
        let jl : j < length deps = omega (arith, high, length-map deps (λ (dep : ℕ). (get_or rows dep no_row).name)) in
        let il : i < length deps = omega (arith, low, jl) in
        apart i j no_product (omega (arith, low)) (omega (arith, jl, length-map deps (product_at (row_products names texts rows))))
        (dep_is i no_product il ∙ ap (λ (n : ℕ). get_or names n no_name) (sym (dep_number i d il) ∙ e ∙ dep_number j d jl) ∙ sym (dep_is j no_product jl))

-- the names so far, with one more
pub more_names : (rows : List ProductRow) (name : ℕ) (deps : List ℕ) (k : ℕ) → k < length deps → (name ∷ dep_names rows (take k deps)) ++ (get_or rows (get_or deps k 0) no_row).name ∷ [] ≡ name ∷ dep_names rows (take (k + 1) deps)
more_names rows name deps k l =
    ap (λ (xs : List ℕ). name ∷ xs) (sym (ap (dep_names rows) (take_more deps k 0 l) ∙ map-append (λ (dep : ℕ). (get_or rows dep no_row).name) (take k deps) (get_or deps k 0 ∷ [])))

-- a name that is there already
pub name_twice : (rows : List ProductRow) (name : ℕ) (deps : List ℕ) (k x : ℕ) → k < length deps → (get_or rows (get_or deps k 0) no_row).name ≡ x → Contains (name ∷ dep_names rows (take k deps)) x → ¬ (AllPairs (λ a b. a ≢ b) (name ∷ dep_names rows deps))
name_twice rows name deps k x l is has pairs =
    pairs has.0 (suc k) x (omega (arith, has.1, length-map (take k deps) f, length-take k deps)) (omega (arith, l, length-map deps f)) (by has.0 has.1 ∙ has.2 ∙ sym here)
  where
    f : ℕ → ℕ
    f dep = (get_or rows dep no_row).name

    here : get_or (name ∷ dep_names rows deps) (suc k) x ≡ x
    here = get_or-map (λ (dep : ℕ). (get_or rows dep no_row).name) deps k 0 x l ∙ is

    by : (j : ℕ) → j < length (name ∷ dep_names rows (take k deps)) → get_or (name ∷ dep_names rows deps) j x ≡ get_or (name ∷ dep_names rows (take k deps)) j x
    by zero low = refl
    by (suc j) low =
        let size : length (map (λ (dep : ℕ). (get_or rows dep no_row).name) (take k deps)) ≡ length (take k deps) = length-map (take k deps) (λ (dep : ℕ). (get_or rows dep no_row).name) in
        let jl : j < k = omega (arith, low, size, length-take k deps, l) in
        get_or-map (λ (dep : ℕ). (get_or rows dep no_row).name) deps j 0 x (omega (arith, jl, l))
        ∙ ap (λ (n : ℕ). (get_or rows n no_row).name) (sym (get_or-take k deps j 0 jl))
        ∙ sym (get_or-map (λ (dep : ℕ). (get_or rows dep no_row).name) (take k deps) j 0 x (omega (arith, low, size)))
