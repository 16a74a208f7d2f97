-- Things that are read one after the other, as a loop does, and their laws.
use Rattle.std.proofs.Common.{◌≡◌, ℕ, zero, suc, ◌-◌, ◌+◌, ◌^◌, ◌≤◌, ◌<◌, List, [], ◌∷◌, ◌++◌, length, Option, Some, None, refl, sym, ap, subst, ◌∙◌, append_assoc, arith}
use Rattle.std.specs.Prelude.{All}
use Rattle.std.specs.List.{flat_map, AllByRecursion}
use Rattle.std.specs.Int.{w32}
use Rattle.std.proofs.lemmas.List.{append-nil}
use Rattle.std.proofs.lemmas.List.Concat.{flat_map-cons}
use Rattle.std.proofs.lemmas.Option.{same_Some}
use Rattle.base.specs.Bytes.{number_bytes}
use Rattle.base_bytes.specs.Reading.{◌>>=◌, AreBytes, Takes, number_at, many_at, counted_at}
use Rattle.base_bytes.proofs.Fields.{bind_some, Takes-then, u32_takes, u32_again}

-- a property of all items, item by item
pub by_recursion : {X : Type 0} (P : X → Type 0) (xs : List X) → All P xs → AllByRecursion P xs
by_recursion P [] all = tt
by_recursion P (x ∷ xs) all = (all 0 x (omega arith), by_recursion P xs (λ k d l. all (suc k) d (omega arith)))

pub by_index : {X : Type 0} (P : X → Type 0) (xs : List X) → AllByRecursion P xs → All P xs
by_index P [] all k d l = absurd (omega arith)
by_index P (x ∷ xs) all zero d l = all.0
by_index P (x ∷ xs) all (suc k) d l = by_index P xs all.1 k d (omega arith)

-- what was read before, and what is still read
abbrev pub with_prefix : {X : Type 0} → List X → Option (List X × List ℕ) → Option (List X × List ℕ)
with_prefix prefix read = read >>= λ x. Some (prefix ++ x.0, x.1)

regroup : {X : Type 0} (prefix : List X) (n : X) (read : Option (List X × List ℕ)) → with_prefix prefix (read >>= λ x. Some (n ∷ x.0, x.1)) ≡ with_prefix (prefix ++ n ∷ []) read
regroup {X} prefix n (Some x) = ap (λ (ns : List X). Some (ns, x.1)) (simp append_assoc)
regroup prefix n None = refl

no_prefix : {X : Type 0} (read : Option (List X × List ℕ)) → with_prefix [] read ≡ read
no_prefix (Some x) = refl
no_prefix None = refl

module _ {X : Type 0} (read : List ℕ → Option (X × List ℕ)) where
  pub begins_many : (bytes : List ℕ) (count : ℕ) → with_prefix [] (many_at read (count - 0) bytes) ≡ many_at read count bytes
  begins_many bytes count =
      let k : count - 0 ≡ count = omega arith in
      no_prefix (many_at read (count - 0) bytes) ∙ ap (λ (n : ℕ). many_at read n bytes) k

  pub begins : (bytes : List ℕ) (count : ℕ) (left : List ℕ) → number_at w32 bytes ≡ Some (count, left) → with_prefix [] (many_at read (count - 0) left) ≡ counted_at read bytes
  unfolding counted_at
  begins bytes count left h = begins_many left count ∙ rw h refl

  pub no_count : (bytes : List ℕ) → number_at w32 bytes ≡ None → counted_at read bytes ≡ None
  unfolding counted_at
  no_count bytes h = rw h refl

  pub goes_on : (prefix : List X) (count i : ℕ) (bytes : List ℕ) (x : X) (left : List ℕ) (total : Option (List X × List ℕ)) → i < count → read bytes ≡ Some (x, left)
      → with_prefix prefix (many_at read (count - i) bytes) ≡ total → with_prefix (prefix ++ x ∷ []) (many_at read (count - (i + 1)) left) ≡ total
  unfolding many_at
  goes_on prefix count i bytes x left total lt h so_far =
      let k : count - i ≡ suc (count - (i + 1)) = omega arith in
      let one : with_prefix prefix (many_at read (count - i) bytes) ≡ with_prefix (prefix ++ x ∷ []) (many_at read (count - (i + 1)) left) = rw (k, h) (regroup prefix x (many_at read (count - (i + 1)) left)) in
      sym one ∙ so_far

  pub stops : (prefix : List X) (count i : ℕ) (bytes : List ℕ) (total : Option (List X × List ℕ)) → i < count → read bytes ≡ None
      → with_prefix prefix (many_at read (count - i) bytes) ≡ total → total ≡ None
  unfolding many_at
  stops prefix count i bytes total lt h so_far =
      let k : count - i ≡ suc (count - (i + 1)) = omega arith in
      let one : with_prefix prefix (many_at read (count - i) bytes) ≡ None = rw (k, h) refl in
      sym so_far ∙ one

  pub is_done : (prefix : List X) (count i : ℕ) (bytes : List ℕ) (total : Option (List X × List ℕ)) → count ≤ i → with_prefix prefix (many_at read (count - i) bytes) ≡ total → total ≡ Some (prefix, bytes)
  unfolding many_at
  is_done prefix count i bytes total le so_far =
      let k : count - i ≡ 0 = omega arith in
      let one : with_prefix prefix (many_at read (count - i) bytes) ≡ Some (prefix, bytes) = rw k (ap (λ (xs : List X). Some (xs, bytes)) (append-nil prefix)) in
      sym so_far ∙ one

  -- if a reader takes the spelling of one item, many items take their spellings one after the other
  module _ (spelling : X → List ℕ) (Fits : X → Type 0) where
    pub many_take : ((bytes : List ℕ) (x : X) (left : List ℕ) → AreBytes bytes → read bytes ≡ Some (x, left) → Takes bytes (spelling x) left × Fits x)
        → (n : ℕ) (bytes : List ℕ) (xs : List X) (left : List ℕ) → AreBytes bytes → many_at read n bytes ≡ Some (xs, left) → Takes bytes (flat_map spelling xs) left × (length xs ≡ n) × AllByRecursion Fits xs
    unfolding many_at
    many_take law zero bytes xs left fits e =
        subst (λ (y : List X × List ℕ). Takes bytes (flat_map spelling y.0) y.1 × (length y.0 ≡ 0) × AllByRecursion Fits y.0) (same_Some ([], bytes) (xs, left) e) (record { parts = refl; left_are_bytes = fits }, refl, tt)
    many_take law (suc n) bytes xs left fits e =
        let a = bind_some (read bytes) (λ first. many_at read n first.1 >>= λ others. Some (first.0 ∷ others.0, others.1)) (xs, left) e in
        let b = bind_some (many_at read n a.0.1) (λ others. Some (a.0.0 ∷ others.0, others.1)) (xs, left) a.2 in
        let first = law bytes a.0.0 a.0.1 fits a.1 in
        let second = many_take law n a.0.1 b.0.0 b.0.1 first.0.left_are_bytes b.1 in
        let both = Takes-then bytes (spelling a.0.0) a.0.1 (flat_map spelling b.0.0) b.0.1 first.0 second.0 in
        subst (λ (y : List X × List ℕ). Takes bytes (flat_map spelling y.0) y.1 × (length y.0 ≡ suc n) × AllByRecursion Fits y.0) (same_Some (a.0.0 ∷ b.0.0, b.0.1) (xs, left) b.2) (rw flat_map-cons both, ap suc second.1, (first.1, second.2))

    pub many_again : ((x : X) (left : List ℕ) → Fits x → read (spelling x ++ left) ≡ Some (x, left))
        → (xs : List X) (left : List ℕ) → AllByRecursion Fits xs → many_at read (length xs) (flat_map spelling xs ++ left) ≡ Some (xs, left)
    unfolding many_at
    many_again law [] left fits = refl
    many_again law (x ∷ xs) left fits =
        let regrouped : flat_map spelling (x ∷ xs) ++ left ≡ spelling x ++ (flat_map spelling xs ++ left) = ap (λ (bs : List ℕ). bs ++ left) (flat_map-cons spelling x xs) ∙ append_assoc (spelling x) (flat_map spelling xs) left in
        ap (many_at read (suc (length xs))) regrouped ∙ rw (law x (flat_map spelling xs ++ left) fits.0, many_again law xs left fits.1) refl

    pub counted_take : ((bytes : List ℕ) (x : X) (left : List ℕ) → AreBytes bytes → read bytes ≡ Some (x, left) → Takes bytes (spelling x) left × Fits x)
        → (bytes : List ℕ) (xs : List X) (left : List ℕ) → AreBytes bytes → counted_at read bytes ≡ Some (xs, left) → Takes bytes (number_bytes (length xs) ++ flat_map spelling xs) left × (length xs < 2 ^ 32) × AllByRecursion Fits xs
    unfolding counted_at
    counted_take law bytes xs left fits e =
        let a = bind_some (number_at w32 bytes) (λ n. many_at read n.0 n.1) (xs, left) e in
        let prefix = u32_takes bytes a.0.0 a.0.1 fits a.1 in
        let back = many_take law a.0.0 a.0.1 xs left prefix.0.left_are_bytes a.2 in
        (subst (λ (n : ℕ). Takes bytes (number_bytes n ++ flat_map spelling xs) left) (sym back.1) (Takes-then bytes (number_bytes a.0.0) a.0.1 (flat_map spelling xs) left prefix.0 back.0), omega (arith, prefix.1, back.1), back.2)

    pub counted_again : ((x : X) (left : List ℕ) → Fits x → read (spelling x ++ left) ≡ Some (x, left))
        → (xs : List X) (left : List ℕ) → length xs < 2 ^ 32 → AllByRecursion Fits xs → counted_at read ((number_bytes (length xs) ++ flat_map spelling xs) ++ left) ≡ Some (xs, left)
    unfolding counted_at
    counted_again law xs left lt fits =
        ap (counted_at read) (append_assoc (number_bytes (length xs)) (flat_map spelling xs) left) ∙ rw (u32_again (length xs) (flat_map spelling xs ++ left) lt, many_again law xs left fits) refl
