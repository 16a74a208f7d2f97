-- Numbers in the order of the paths of their packages.
use Rattle.std.proofs.Common.{◌≡◌, suc, ℕ, ◌^◌, ◌<◌, ◌⊎◌, ⊎_elim, inl, inr, true, List, [], ◌∷◌, ◌++◌, length, map, refl, sym, ap, subst, ◌∙◌, arith}
use Rattle.std.specs.BTreeSet.{insert_key}
use Rattle.std.specs.Cmp.Lexicographic.{slice_cmp}
use Rattle.std.specs.Ordering.{nat_cmp, match_ordering, is_eq}
use Rattle.std.proofs.Common.{Ordering}
use Rattle.std.specs.declared.cmp.Ordering.TheVariants.{Less, Equal, Greater}
use Rattle.std.specs.List.{AllByRecursion}
use Rattle.std.specs.Str.{bytes_eq}
use Rattle.std.specs.Fmt.{decimal}
use Rattle.std.proofs.lemmas.Fmt.{decimal_injective}
use Rattle.std.proofs.lemmas.List.{append_cancel_left, append_cancel_right}
use Rattle.std.proofs.lemmas.Map.Text.{is_eq-slice_cmp}
use Rattle.memory_outside.specs.Trees.{rising_paths}
use Rattle.generated_sources.specs.ListedNumbers.{by_path, sorted_numbers}
use Rattle.generated_project.specs.Files.{package_path, source_end, source_folder}
use Rattle.generated_sources.proofs.Members.{AreApart, Has}
use Rattle.generated_sources.proofs.Naming.{bytes_same}
use Rattle.generated_sources.proofs.NoFaults.{small_had}

-- ## Their paths rise

module _ {X : Type 0} {Y : Type 0} (f : X → Y) where
  ordered_map : (o : Ordering) (a b c : List X) → map f (match_ordering o a b c) ≡ match_ordering o (map f a) (map f b) (map f c)
  ordered_map Less a b c = refl
  ordered_map Equal a b c = refl
  ordered_map Greater a b c = refl

inserted_paths : (numbers : List ℕ) (number : ℕ) → map package_path (insert_key by_path numbers number) ≡ insert_key (slice_cmp nat_cmp) (map package_path numbers) (package_path number)
inserted_paths [] number = refl
inserted_paths (n ∷ numbers) number =
    ordered_map package_path (by_path number n) (number ∷ n ∷ numbers) (n ∷ numbers) (n ∷ insert_key by_path numbers number)
    ∙ ap (λ (rest : List (List ℕ)). match_ordering (by_path number n) (package_path number ∷ package_path n ∷ map package_path numbers) (package_path n ∷ map package_path numbers) (package_path n ∷ rest)) (inserted_paths numbers number)

pub sorted_paths : (numbers : List ℕ) → map package_path (sorted_numbers numbers) ≡ rising_paths (map package_path numbers)
sorted_paths [] = refl
sorted_paths (number ∷ numbers) =
    inserted_paths (sorted_numbers numbers) number
    ∙ ap (λ (paths : List (List ℕ)). insert_key (slice_cmp nat_cmp) paths (package_path number)) (sorted_paths numbers)

-- ## They are the same numbers

same_path : (a b : ℕ) → a < 2 ^ 64 → b < 2 ^ 64 → by_path a b ≡ Equal → a ≡ b
same_path a b small few is =
    let test : bytes_eq (package_path a) (package_path b) ≡ true = sym (is_eq-slice_cmp (package_path a) (package_path b)) ∙ ap is_eq is in
    decimal_injective a b small few
    (append_cancel_right (decimal a) (decimal b) source_end
    (append_cancel_left source_folder (decimal a ++ source_end) (decimal b ++ source_end) (bytes_same (package_path a) (package_path b) test)))

which : (o : Ordering) → (o ≡ Less) ⊎ ((o ≡ Equal) ⊎ (o ≡ Greater))
which Less = inl refl
which Equal = inr (inl refl)
which Greater = inr (inr refl)

-- where a number isn't there yet, it comes before the first, or after it
placed : (number n : ℕ) (numbers : List ℕ) → number < 2 ^ 64 → n < 2 ^ 64 → (Has (n ∷ numbers) number → ⊥) →
    (insert_key by_path (n ∷ numbers) number ≡ number ∷ n ∷ numbers) ⊎ (insert_key by_path (n ∷ numbers) number ≡ n ∷ insert_key by_path numbers number)
placed number n numbers small few none =
    elim (which (by_path number n)) [
      | inl less ↦ inl (ap (λ (o : Ordering). match_ordering o (number ∷ n ∷ numbers) (n ∷ numbers) (n ∷ insert_key by_path numbers number)) less)
      | inr other ↦
          elim other [
            | inl equal ↦ absurd (none (inl (sym (same_path number n small few equal))))
            | inr greater ↦ inr (ap (λ (o : Ordering). match_ordering o (number ∷ n ∷ numbers) (n ∷ numbers) (n ∷ insert_key by_path numbers number)) greater)
          ]
    ]

-- a list with a number more, somewhere
record Inserts (numbers : List ℕ) (number : ℕ) (more : List ℕ) : Type 0 where
  front : List ℕ
  back : List ℕ
  parts : front ++ back ≡ numbers
  is : more ≡ front ++ (number ∷ back)

inserted : (number : ℕ) (numbers : List ℕ) → number < 2 ^ 64 → AllByRecursion (λ n. n < 2 ^ 64) numbers → (Has numbers number → ⊥) → Inserts numbers number (insert_key by_path numbers number)
inserted number [] small few none = record { front = []; back = []; parts = refl; is = refl }
inserted number (n ∷ numbers) small few none =
    elim (placed number n numbers small few.0 none) [
      | inl before ↦ record { front = []; back = n ∷ numbers; parts = refl; is = before }
      | inr after ↦
          let rest = inserted number numbers small few.1 (λ has. none (inr has)) in
          record { front = n ∷ rest.front; back = rest.back; parts = ap (λ (xs : List ℕ). n ∷ xs) rest.parts; is = after ∙ ap (λ (xs : List ℕ). n ∷ xs) rest.is }
    ]

-- ## What the sorted numbers have

has_more : (front back : List ℕ) (number x : ℕ) → (number ≡ x) ⊎ Has (front ++ back) x → Has (front ++ (number ∷ back)) x
has_more [] back number x has = has
has_more (n ∷ front) back number x has =
    ⊎_elim
    (λ (is : number ≡ x). inr (has_more front back number x (inl is)))
    (λ (there : Has (n ∷ front ++ back) x). ⊎_elim (λ (is : n ≡ x). inl is) (λ (later : Has (front ++ back) x). inr (has_more front back number x (inr later))) there)
    has

had_more : (front back : List ℕ) (number x : ℕ) → Has (front ++ (number ∷ back)) x → (number ≡ x) ⊎ Has (front ++ back) x
had_more [] back number x has = has
had_more (n ∷ front) back number x has =
    ⊎_elim
    (λ (is : n ≡ x). inr (inl is))
    (λ (later : Has (front ++ (number ∷ back)) x). ⊎_elim (λ (is : number ≡ x). inl is) (λ (there : Has (front ++ back) x). inr (inr there)) (had_more front back number x later))
    has

pub apart_more : (front back : List ℕ) (number : ℕ) → AreApart (front ++ back) → (Has (front ++ back) number → ⊥) → AreApart (front ++ (number ∷ back))
apart_more [] back number apart none = (λ y has same. none (subst (Has back) same has), apart)
apart_more (n ∷ front) back number apart none = (
  λ y has same.
      ⊎_elim
      (λ (is : number ≡ y). none (inl (sym (is ∙ same))))
      (λ (there : Has (front ++ back) y). apart.0 y there same)
      (had_more front back number y has),
  apart_more front back number apart.1 (λ has. none (inr has)),
)

length_more : (front back : List ℕ) (number : ℕ) → length (front ++ (number ∷ back)) ≡ suc (length (front ++ back))
length_more [] back number = refl
length_more (n ∷ front) back number = let rest : length (front ++ (number ∷ back)) ≡ suc (length (front ++ back)) = length_more front back number in omega (arith, rest)

-- the same numbers in another order, each once
pub record IsSortOf (numbers more : List ℕ) : Type 0 where
  pub had : (x : ℕ) → Has more x → Has numbers x
  pub has : (x : ℕ) → Has numbers x → Has more x
  pub apart : AreApart more
  pub count : length more ≡ length numbers

pub small_of : (numbers more : List ℕ) → ((x : ℕ) → Has more x → Has numbers x) → AllByRecursion (λ n. n < 2 ^ 64) numbers → AllByRecursion (λ n. n < 2 ^ 64) more
small_of numbers [] had small = tt
small_of numbers (n ∷ more) had small = (small_had numbers n small (had n (inl refl)), small_of numbers more (λ x has. had x (inr has)) small)

one_more : (number : ℕ) (numbers old more : List ℕ) → (Has numbers number → ⊥) → IsSortOf numbers old → Inserts old number more → IsSortOf (number ∷ numbers) more
one_more number numbers old more none sort ins = record {
  had = λ x has. ⊎_elim (λ (is : number ≡ x). inl is) (λ (there : Has (ins.front ++ ins.back) x). inr (sort.had x (subst (λ (xs : List ℕ). Has xs x) ins.parts there))) (had_more ins.front ins.back number x (subst (λ (xs : List ℕ). Has xs x) ins.is has));
  has = λ x has. subst (λ (xs : List ℕ). Has xs x) (sym ins.is) (has_more ins.front ins.back number x (⊎_elim (λ (is : number ≡ x). inl is) (λ (there : Has numbers x). inr (subst (λ (xs : List ℕ). Has xs x) (sym ins.parts) (sort.has x there))) has));
  apart = subst AreApart (sym ins.is) (apart_more ins.front ins.back number (subst AreApart (sym ins.parts) sort.apart) (λ has. none (sort.had number (subst (λ (xs : List ℕ). Has xs number) ins.parts has))));
  count = let longer : length (ins.front ++ (number ∷ ins.back)) ≡ suc (length (ins.front ++ ins.back)) = length_more ins.front ins.back number in let same : length more ≡ length (ins.front ++ (number ∷ ins.back)) = ap (λ (xs : List ℕ). length xs) ins.is in let parts : length (ins.front ++ ins.back) ≡ length old = ap (λ (xs : List ℕ). length xs) ins.parts in omega (arith, longer, same, parts, sort.count);
}

pub is_sorted : (numbers : List ℕ) → AllByRecursion (λ n. n < 2 ^ 64) numbers → AreApart numbers → IsSortOf numbers (sorted_numbers numbers)
is_sorted [] small apart = record { had = λ x has. has; has = λ x has. has; apart = tt; count = refl }
is_sorted (number ∷ numbers) small apart =
    let rest = is_sorted numbers small.1 apart.1 in
    let none : Has numbers number → ⊥ = λ has. apart.0 number has refl in
    one_more number numbers (sorted_numbers numbers) (insert_key by_path (sorted_numbers numbers) number) none rest
    (inserted number (sorted_numbers numbers) small.0 (small_of numbers (sorted_numbers numbers) rest.had small.1) (λ has. none (rest.had number has)))
