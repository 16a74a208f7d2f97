-- The files of numbers have an order: a file uses one of a lower number, but for the bench, which none uses.
use Rattle.std.proofs.Common.{◌≡◌, ◌≢◌, zero, suc, ℕ, ◌+◌, ◌-◌, ◌/◌, ◌<◌, ◌≤◌, inl, inr, true, false, List, [], length, get_or, refl, sym, ap, subst, ◌∙◌, arith}
use Rattle.std.specs.Prelude.{All, Contains, filter, slice_index}
use Rattle.std.specs.List.Sorted.{IsStrictlyIncreasing}
use Rattle.std.proofs.lemmas.Bool.{cases_lt}
use Rattle.std.proofs.lemmas.Bool.Decides.{nat_tests}
use Rattle.std.proofs.lemmas.List.{get_or-map, get_or_past, length-map}
use Rattle.std.proofs.lemmas.List.Elements.{All-filter, filter_passes}
use Rattle.std.proofs.lemmas.List.Kept.{IsStrictlyIncreasing-filter}
use Rattle.base.specs.declared.limits.TheConstants.{FILE_LIMIT}
use Rattle.base.specs.PresentGraph.{below}
use Rattle.base.proofs.Below.{get_or-below, length-below}
use Rattle.order.proofs.Finds.{below_all, below_rises}
use Rattle.order.proofs.Cycles.{cyclic_is}
use Rattle.order.specs.BuildOrder.{AreEdges, FileOrder, Ordered, Cyclic, IsCycle, deps_in, file_order}
use Rattle.generated_sources.specs.NumberedFiles.{numbered_edges, uses_at, uses_number}
use Rattle.generated_sources.proofs.Edges.{no_self}

-- ## Edges

module _ (numbers : List ℕ) where
  abbrev files : ℕ
  files = length numbers

  abbrev edge : ℕ → List ℕ
  edge user = filter (uses_at numbers user) (below files)

  pub edge_count : length (numbered_edges numbers) ≡ files
  edge_count = length-map (below files) edge ∙ length-below files

  here : (file : ℕ) → file < files → deps_in (numbered_edges numbers) file ≡ edge file
  here file lt = get_or-map edge (below files) file 0 [] (omega (arith, lt, length-below files)) ∙ ap edge (get_or-below files file 0 lt)

  past : (file : ℕ) → files ≤ file → deps_in (numbered_edges numbers) file ≡ []
  past file le = get_or_past (numbered_edges numbers) file [] (omega (arith, le, edge_count))

  -- what holds of no dependencies, and of those of each file
  each : (P : ℕ → List ℕ → Type 0) → ((file : ℕ) → P file []) → ((file : ℕ) → P file (edge file)) → (file : ℕ) → P file (deps_in (numbered_edges numbers) file)
  each P none some file = elim (cases_lt file files) [
    | inl lt ↦ subst (P file) (sym (here file lt)) (some file)
    | inr le ↦ subst (P file) (sym (past file le)) (none file)
  ]

  other : (file : ℕ) → All (λ dep. dep ≢ file) (edge file)
  other file k d lt same =
      let passes : uses_at numbers file (get_or (edge file) k d) ≡ true = filter_passes (uses_at numbers file) (below files) k d lt in
      let own : uses_at numbers file file ≡ true = ap (λ (n : ℕ). uses_at numbers file n) (sym same) ∙ passes in
      let never : uses_at numbers file file ≡ false = no_self (slice_index numbers file) in
      let impossible : ⊥ = cc in
      impossible

  pub are_edges : files ≤ FILE_LIMIT → AreEdges (numbered_edges numbers)
  are_edges few = record {
    few = omega (arith, few, edge_count);
    rising = each (λ file deps. IsStrictlyIncreasing deps) (λ file k lt. absurd (omega (arith, lt))) (λ file. IsStrictlyIncreasing-filter (uses_at numbers file) (below files) (below_rises files));
    within = each (λ file deps. All (λ dep. dep < length (numbered_edges numbers)) deps) (λ file k d lt. absurd (omega (arith, lt))) (λ file. subst (λ (n : ℕ). All (λ dep. dep < n) (edge file)) (sym edge_count) (All-filter (uses_at numbers file) (λ dep. dep < files) (below files) (below_all files)));
    others = each (λ file deps. All (λ dep. dep ≢ file) deps) (λ file k d lt. absurd (omega (arith, lt))) other;
  }

  -- ## No cycle

  edge_uses : (user used : ℕ) → user < files → Contains (deps_in (numbered_edges numbers) user) used → uses_at numbers user used ≡ true
  edge_uses user used within has =
      let found : Contains (edge user) used = subst (λ (deps : List ℕ). Contains deps used) (here user within) has in
      ap (λ (n : ℕ). uses_at numbers user n) (sym found.2) ∙ filter_passes (uses_at numbers user) (below files) found.0 used found.1

-- what is used is a package, of a lower number if the user is one
used_some : (user used : ℕ) → uses_number user used ≡ true → 1 ≤ used
used_some zero used uses = grind (arith, nat_tests)
used_some (suc before) used uses = let half : (1 < suc before) × (used ≡ suc before / 2) = grind (arith, nat_tests) in omega (arith, half.0, half.1)

used_lower : (user used : ℕ) → 1 ≤ user → uses_number user used ≡ true → used < user
used_lower zero used some uses = absurd (omega (arith, some))
used_lower (suc before) used some uses = let half : (1 < suc before) × (used ≡ suc before / 2) = grind (arith, nat_tests) in omega (arith, half.0, half.1)

module _ (numbers circle : List ℕ) (is : IsCycle (numbered_edges numbers) circle) where
  abbrev number : ℕ → ℕ
  number rank = slice_index numbers (slice_index circle rank)

  inside : (rank : ℕ) → rank < length circle → slice_index circle rank < length numbers
  inside rank lt = let low : slice_index circle rank < length (numbered_edges numbers) = is.within rank 0 lt in omega (arith, low, edge_count numbers)

  next : (rank : ℕ) → rank + 1 < length circle → uses_number (number rank) (number (rank + 1)) ≡ true
  next rank lt = edge_uses numbers (slice_index circle rank) (slice_index circle (rank + 1)) (inside rank (omega (arith, lt))) (is.steps rank lt)

  back : (last : ℕ) → last + 1 ≡ length circle → uses_number (number last) (number 0) ≡ true
  back last at = edge_uses numbers (slice_index circle last) (slice_index circle 0) (inside last (omega (arith, at))) (is.closes last at)

  end_of : (length circle - 1) + 1 ≡ length circle
  end_of = let some : 0 < length circle = is.some in omega (arith, some)

  some_number : (rank : ℕ) → rank < length circle → 1 ≤ number rank
  some_number zero lt = used_some (number (length circle - 1)) (number 0) (back (length circle - 1) end_of)
  some_number (suc before) lt =
      let plus : before + 1 ≡ suc before = omega arith in
      used_some (number before) (number (suc before)) (subst (λ (n : ℕ). uses_number (number before) (number n) ≡ true) plus (next before (omega (arith, lt))))

  falls : (rank : ℕ) → rank < length circle → number rank ≤ number 0
  falls zero lt = omega arith
  falls (suc before) lt =
      let plus : before + 1 ≡ suc before = omega arith in
      let lower : number (suc before) < number before = used_lower (number before) (number (suc before)) (some_number before (omega (arith, lt))) (subst (λ (n : ℕ). uses_number (number before) (number n) ≡ true) plus (next before (omega (arith, lt)))) in
      let rest : number before ≤ number 0 = falls before (omega (arith, lt)) in
      omega (arith, lower, rest)

  no_cycle : ⊥
  no_cycle =
      let low : length circle - 1 < length circle = let some : 0 < length circle = is.some in omega (arith, some) in
      let lower : number 0 < number (length circle - 1) = used_lower (number (length circle - 1)) (number 0) (some_number (length circle - 1) low) (back (length circle - 1) end_of) in
      let rest : number (length circle - 1) ≤ number 0 = falls (length circle - 1) low in
      omega (arith, lower, rest)

-- ## An order

pub has_order : (numbers : List ℕ) → length numbers ≤ FILE_LIMIT → (order : List ℕ) × (file_order (numbered_edges numbers) ≡ Ordered order)
has_order numbers few = by_said (file_order (numbered_edges numbers)) refl where
  by_said : (said : FileOrder) → file_order (numbered_edges numbers) ≡ said → (order : List ℕ) × (file_order (numbered_edges numbers) ≡ Ordered order)
  by_said (Ordered order) is = (order, is)
  by_said (Cyclic circle) is = absurd (no_cycle numbers circle (cyclic_is (numbered_edges numbers) circle (are_edges numbers few) is))
