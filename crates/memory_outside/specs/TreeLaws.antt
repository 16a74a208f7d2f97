-- Rising lists of paths: there is one for each set of paths, and that of a tree's files is what the tree lists.
use Rattle.std.proofs.Common.{ℕ, zero, suc, ◌≡◌, ◌<◌, ◌⊎◌, inl, inr, Bool, true, false, cond, List, [], ◌∷◌, length, filter, nat_eq, get_or, sym, ap, subst, refl, ◌∙◌, arith}
use Rattle.std.specs.Prelude.{IsSome, Some, Contains}
use Rattle.std.specs.List.{AllByRecursion}
use Rattle.std.specs.List.Sorted.{IsStrictlySortedBy}
use Rattle.std.specs.Ordering.{nat_cmp, match_ordering, ordering_reverse}
use Rattle.std.specs.declared.cmp.Ordering.{Ordering}
use Rattle.std.specs.declared.cmp.Ordering.TheVariants.{Less, Equal, Greater}
use Rattle.std.specs.BTreeSet.{insert_key}
use Rattle.std.specs.Cmp.Lexicographic.{pointwise, slice_cmp}
use Rattle.std.proofs.lemmas.Bool.{both_ways}
use Rattle.std.proofs.lemmas.Cmp.{nat_list_cmp_total, tied_itself}
use Rattle.std.proofs.lemmas.Slice.Eq.{bytes_eq-Decides}
use Rattle.std.proofs.lemmas.Map.Text.{is_eq-slice_cmp}
use Rattle.std.proofs.lemmas.Map.Keys.{sorted_head, sorted_tail}
use Rattle.std.proofs.lemmas.Map.Views.{All-insert_key}
use Rattle.std.proofs.lemmas.List.Elements.{All-filter, All-contains, All-contains_itself, All-weaker, filter_passes, All-from_recursion, Contains-append_right, Contains-append_cases}
use Rattle.base.specs.declared.file.NamedText.{NamedText}
use Rattle.outside.specs.Trees.{IsRising, IsListOf, Lists, is_listed}
use Rattle.memory_outside.specs.Trees.{file_at, paths_of, rising_paths, listed_of}

-- a path, as bytes
abbrev Path : Type 0
Path = List ℕ

-- the order of paths: byte by byte
abbrev cmp : Path → Path → Ordering
cmp = slice_cmp nat_cmp

-- each path comes before the next one, so no path occurs twice
abbrev Sorted : List Path → Type 0
Sorted paths = IsStrictlySortedBy (slice_cmp nat_cmp) paths

-- strictly sorted paths rise
pub rises : (paths : List Path) → Sorted paths → IsRising paths
rises [] sorted = tt
rises (path ∷ []) sorted = tt
rises (path ∷ next ∷ rest) sorted =
    ((sorted_head (slice_cmp nat_cmp) path (next ∷ rest) sorted).0, rises (next ∷ rest) (sorted_tail (slice_cmp nat_cmp) path (next ∷ rest) sorted))

-- no path is less than itself
not_less : (x : Path) → cmp x x ≡ Less → ⊥
not_less x less =
    let same : cmp x x ≡ Equal = tied_itself nat_list_cmp_total x in
    cc

-- the path of a list of one
only_in : (x p : Path) → Contains (x ∷ []) p → x ≡ p
only_in x p there = All-contains (λ y. x ≡ y) (x ∷ []) p (All-from_recursion (λ y. x ≡ y) (x ∷ []) (refl, tt)) there

-- no path is in no list
pub none_in : (p : Path) → Contains [] p → ⊥
none_in p there = let below = there.1 in omega arith

pub first_in : (x : Path) (xs : List Path) → Contains (x ∷ xs) x
first_in x xs = (0, omega arith, refl)

pub later_in : (x : Path) (xs : List Path) (p : Path) → Contains xs p → Contains (x ∷ xs) p
later_in x xs p there = Contains-append_right (x ∷ []) xs p there

first_or_later : (x : Path) (xs : List Path) (p : Path) → Contains (x ∷ []) p ⊎ Contains xs p → (x ≡ p) ⊎ Contains xs p
first_or_later x xs p (inl here) = inl (only_in x p here)
first_or_later x xs p (inr later) = inr later

pub in_cons : (x : Path) (xs : List Path) (p : Path) → Contains (x ∷ xs) p → (x ≡ p) ⊎ Contains xs p
in_cons x xs p there = first_or_later x xs p (Contains-append_cases (x ∷ []) xs p there)

-- what is in the rest of a sorted list is greater than its first
above_first : (x : Path) (xs : List Path) (p : Path) → AllByRecursion (λ y. cmp x y ≡ Less) xs → Contains xs p → cmp x p ≡ Less
above_first x xs p all there = All-contains (λ y. cmp x y ≡ Less) xs p (All-from_recursion (λ y. cmp x y ≡ Less) xs all) there

-- the first ones of two lists, each of which has the other's
heads_same : (x : Path) (xs : List Path) (y : Path) (ys : List Path)
    → AllByRecursion (λ z. cmp x z ≡ Less) xs → AllByRecursion (λ z. cmp y z ≡ Less) ys
    → (y ≡ x) ⊎ Contains ys x → (x ≡ y) ⊎ Contains xs y → x ≡ y
heads_same x xs y ys least other (inl is) there = sym is
heads_same x xs y ys least other (inr later) (inl is) = is
heads_same x xs y ys least other (inr later) (inr after) =
    absurd (not_less y (nat_list_cmp_total.trans y x y (above_first y ys x other later) (above_first x xs y least after)))

-- what is after the first of one list is after that of the other
tail_in : (x y : Path) (ys : List Path) (p : Path) → x ≡ y → cmp x p ≡ Less → (y ≡ p) ⊎ Contains ys p → Contains ys p
tail_in x y ys p first less (inl is) = absurd (not_less p (subst (λ z. cmp z p ≡ Less) (first ∙ is) less))
tail_in x y ys p first less (inr later) = later

-- two strictly sorted lists of the same paths are the same
pub same_sorted : (xs ys : List Path) → Sorted xs → Sorted ys → ((p : Path) → Contains xs p → Contains ys p) → ((p : Path) → Contains ys p → Contains xs p) → xs ≡ ys
unfolding IsStrictlySortedBy
same_sorted [] [] one other to from = refl
same_sorted [] (y ∷ ys) one other to from = absurd (none_in y (from y (first_in y ys)))
same_sorted (x ∷ xs) [] one other to from = absurd (none_in x (to x (first_in x xs)))
same_sorted (x ∷ xs) (y ∷ ys) one other to from =
    let first : x ≡ y = heads_same x xs y ys one.0 other.0 (in_cons y ys x (to x (first_in x xs))) (in_cons x xs y (from y (first_in y ys))) in
    let rest : xs ≡ ys = same_sorted xs ys one.1 other.1
    (λ p there. tail_in x y ys p first (above_first x xs p one.0 there) (in_cons y ys p (to p (later_in x xs p there))))
    (λ p there. tail_in y x xs p (sym first) (above_first y ys p other.0 there) (in_cons x xs p (from p (later_in y ys p there)))) in
    λ i. first i ∷ rest i

-- a path that comes before the first path of a sorted list comes before each later one
below_all : (k x : Path) (xs : List Path) → cmp k x ≡ Less → AllByRecursion (λ y. cmp x y ≡ Less) xs → AllByRecursion (λ y. cmp k y ≡ Less) xs
below_all k x [] less all = tt
below_all k x (y ∷ ys) less all = (nat_list_cmp_total.trans k x y less all.0, below_all k x ys less all.1)

all_inserted : (P : Path → Type 0) (xs : List Path) (k : Path) → AllByRecursion P xs → P k → AllByRecursion P (insert_key (slice_cmp nat_cmp) xs k)
all_inserted P [] k all here = (here, tt)
all_inserted P (x ∷ xs) k all here =
    elim (slice_cmp nat_cmp k x) as (λ r. AllByRecursion P (match_ordering r (k ∷ x ∷ xs) (x ∷ xs) (x ∷ insert_key (slice_cmp nat_cmp) xs k))) [
      | Less ↦ (here, all)
      | Equal ↦ all
      | Greater ↦ (all.0, all_inserted P xs k all.1 here)
    ]

-- a path put in at its index leaves a sorted list sorted
pub sorted_inserted : (xs : List Path) (k : Path) → Sorted xs → Sorted (insert_key (slice_cmp nat_cmp) xs k)
unfolding IsStrictlySortedBy
sorted_inserted [] k sorted = (tt, tt)
sorted_inserted (x ∷ xs) k sorted =
    (elim (slice_cmp nat_cmp k x) as (λ r. slice_cmp nat_cmp k x ≡ r → Sorted (match_ordering r (k ∷ x ∷ xs) (x ∷ xs) (x ∷ insert_key (slice_cmp nat_cmp) xs k))) [
      | Less ↦ λ is. ((is, below_all k x xs is sorted.0), sorted)
      | Equal ↦ λ is. sorted
      | Greater ↦ λ is. (all_inserted (λ y. cmp x y ≡ Less) xs k sorted.0 (nat_list_cmp_total.antisymm x k ∙ ap ordering_reverse is), sorted_inserted xs k sorted.1)
    ]) refl

-- paths that compare as equal are the same
pub same_path : (x y : Path) → cmp x y ≡ Equal → x ≡ y
same_path x y tied = (bytes_eq-Decides x y).0 (sym (is_eq-slice_cmp x y) ∙ rw tied refl)

-- the path is in
inserted_here : (xs : List Path) (k : Path) → Contains (insert_key (slice_cmp nat_cmp) xs k) k
inserted_here [] k = first_in k []
inserted_here (x ∷ xs) k =
    (elim (slice_cmp nat_cmp k x) as (λ r. slice_cmp nat_cmp k x ≡ r → Contains (match_ordering r (k ∷ x ∷ xs) (x ∷ xs) (x ∷ insert_key (slice_cmp nat_cmp) xs k)) k) [
      | Less ↦ λ is. first_in k (x ∷ xs)
      | Equal ↦ λ is. subst (Contains (x ∷ xs)) (sym (same_path k x is)) (first_in x xs)
      | Greater ↦ λ is. later_in x (insert_key (slice_cmp nat_cmp) xs k) k (inserted_here xs k)
    ]) refl

first_stays : (x : Path) (xs more : List Path) (p : Path) → (Contains xs p → Contains more p) → (x ≡ p) ⊎ Contains xs p → Contains (x ∷ more) p
first_stays x xs more p to (inl is) = subst (Contains (x ∷ more)) is (first_in x more)
first_stays x xs more p to (inr later) = later_in x more p (to later)

-- what was in is in
inserted_has : (xs : List Path) (k p : Path) → Contains xs p → Contains (insert_key (slice_cmp nat_cmp) xs k) p
inserted_has [] k p there = absurd (none_in p there)
inserted_has (x ∷ xs) k p there =
    elim (slice_cmp nat_cmp k x) as (λ r. Contains (match_ordering r (k ∷ x ∷ xs) (x ∷ xs) (x ∷ insert_key (slice_cmp nat_cmp) xs k)) p) [
      | Less ↦ later_in k (x ∷ xs) p there
      | Equal ↦ there
      | Greater ↦ first_stays x xs (insert_key (slice_cmp nat_cmp) xs k) p (inserted_has xs k p) (in_cons x xs p there)
    ]

-- nothing else is
inserted_from : (xs : List Path) (k p : Path) → Contains (insert_key (slice_cmp nat_cmp) xs k) p → (k ≡ p) ⊎ Contains xs p
inserted_from xs k p there =
    All-contains (λ y. (k ≡ y) ⊎ Contains xs y) (insert_key (slice_cmp nat_cmp) xs k) p
    (All-insert_key (slice_cmp nat_cmp) k (λ y. (k ≡ y) ⊎ Contains xs y) xs (All-weaker (Contains xs) (λ y. (k ≡ y) ⊎ Contains xs y) (λ y here. inr here) xs (All-contains_itself xs)) (inl refl)) there

-- sorting paths gives sorted ones
pub sorted_rising : (paths : List Path) → Sorted (rising_paths paths)
unfolding IsStrictlySortedBy
sorted_rising [] = tt
sorted_rising (path ∷ rest) = sorted_inserted (rising_paths rest) path (sorted_rising rest)

one_or_rest : (path : Path) (rest : List Path) (p : Path) → (Contains (rising_paths rest) p → Contains rest p) → (path ≡ p) ⊎ Contains (rising_paths rest) p → Contains (path ∷ rest) p
one_or_rest path rest p to (inl is) = subst (Contains (path ∷ rest)) is (first_in path rest)
one_or_rest path rest p to (inr later) = later_in path rest p (to later)

-- a path among the sorted ones is one of the paths
pub from_rising : (paths : List Path) (p : Path) → Contains (rising_paths paths) p → Contains paths p
from_rising [] p there = there
from_rising (path ∷ rest) p there = one_or_rest path rest p (from_rising rest p) (inserted_from (rising_paths rest) path p there)

put_in : (path : Path) (rest : List Path) (p : Path) → (Contains rest p → Contains (rising_paths rest) p) → (path ≡ p) ⊎ Contains rest p → Contains (rising_paths (path ∷ rest)) p
put_in path rest p to (inl is) = subst (Contains (rising_paths (path ∷ rest))) is (inserted_here (rising_paths rest) path)
put_in path rest p to (inr later) = inserted_has (rising_paths rest) path p (to later)

-- each path is among the sorted ones
pub to_rising : (paths : List Path) (p : Path) → Contains paths p → Contains (rising_paths paths) p
to_rising [] p there = there
to_rising (path ∷ rest) p there = put_in path rest p (to_rising rest p) (in_cons path rest p there)

-- a filter keeps what passes
pub filter_has : {X : Type 0} (p : X → Bool) (xs : List X) (x : X) (k : ℕ) → k < length xs → get_or xs k x ≡ x → p x ≡ true → Contains (filter p xs) x
filter_has p [] x k below is passes = absurd (omega arith)
filter_has p (y ∷ ys) x zero below is passes =
    let here : p y ≡ true = subst (λ z. p z ≡ true) (sym is) passes in
    rw here (0, omega arith, is)
filter_has p (y ∷ ys) x (suc k) below is passes =
    let rest : Contains (filter p ys) x = filter_has p ys x k (omega arith) is passes in
    elim (p y) as (λ b. Contains (cond b (y ∷ filter p ys) (filter p ys)) x) [ true ↦ Contains-append_right (y ∷ []) (filter p ys) x rest | false ↦ rest ]

-- what a filter keeps was there
pub filter_from : {X : Type 0} (p : X → Bool) (xs : List X) (x : X) → Contains (filter p xs) x → Contains xs x × (p x ≡ true)
filter_from p xs x there = (
  All-contains (Contains xs) (filter p xs) x (All-filter p (Contains xs) xs (All-contains_itself xs)) there,
  All-contains (λ y. p y ≡ true) (filter p xs) x (filter_passes p xs) there,
)

-- false isn't true
none_is_not : false ≡ true → ⊥
none_is_not e = both_ways false refl e

-- a path of the files has a file
pub has_file : (files : List NamedText) (path : Path) (k : ℕ) → k < length (paths_of files) → get_or (paths_of files) k path ≡ path → IsSome (file_at files path)
has_file [] path k below is = absurd (omega arith)
has_file (file ∷ rest) path zero below is = rw ((bytes_eq-Decides file.path path).1 is) refl
has_file (file ∷ rest) path (suc k) below is =
    let later : IsSome (file_at rest path) = has_file rest path k (omega arith) is in
    elim (pointwise nat_eq file.path path) as (λ b. IsSome (cond b (Some file.bytes) (file_at rest path))) [ true ↦ refl | false ↦ later ]

-- a file that counts or the files after it
path_at : (file : NamedText) (rest : List NamedText) (path : Path) (same : Bool) → pointwise nat_eq file.path path ≡ same → (IsSome (file_at rest path) → Contains (paths_of rest) path) → IsSome (cond same (Some file.bytes) (file_at rest path)) → Contains (paths_of (file ∷ rest)) path
path_at file rest path true is later there = (0, omega arith, (bytes_eq-Decides file.path path).0 is)
path_at file rest path false is later there = Contains-append_right (file.path ∷ []) (paths_of rest) path (later there)

-- the path of a file is one of the files'
pub has_path : (files : List NamedText) (path : Path) → IsSome (file_at files path) → Contains (paths_of files) path
has_path [] path there = absurd (none_is_not there)
has_path (file ∷ rest) path there = path_at file rest path (pointwise nat_eq file.path path) refl (has_path rest path) there

-- a listed path of the files is one that the tree lists
lists_it : (files : List NamedText) (path : Path) → Contains (listed_of files) path → Lists (file_at files) path
lists_it files path there =
    let both : Contains (paths_of files) path × (is_listed path ≡ true) = filter_from is_listed (paths_of files) path (from_rising (filter is_listed (paths_of files)) path there) in
    (has_file files path both.0.0 both.0.1 both.0.2, both.1)

it_is_listed : (files : List NamedText) (path : Path) → Lists (file_at files) path → Contains (listed_of files) path
it_is_listed files path listed =
    let there : Contains (paths_of files) path = has_path files path listed.0 in
    to_rising (filter is_listed (paths_of files)) path (filter_has is_listed (paths_of files) path there.0 there.1 there.2 listed.1)

-- the list of a tree over files
pub lists_of_files : (files : List NamedText) → IsListOf (file_at files) (listed_of files)
lists_of_files files = record {
  rising = rises (listed_of files) (sorted_rising (filter is_listed (paths_of files)));
  each = λ path. (lists_it files path, it_is_listed files path);
}
