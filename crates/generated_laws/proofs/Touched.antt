-- The edit of a package touches exactly the files from which a chain of uses leads to its number.
use Rattle.std.proofs.Common.{◌≡◌, ◌≢◌, ℕ, zero, suc, ◌+◌, ◌<◌, ◌≤◌, ◌==◌, ◌&&◌, ◌||◌, Bool, true, false, Option, List, [], length, map, refl, sym, ap, subst, ◌∙◌, arith, inl, inr}
use Rattle.std.specs.Prelude.{AllPairs, Contains, count_by, filter, slice_index}
use Rattle.std.specs.List.{list_any}
use Rattle.std.specs.Option.{option_map_or}
use Rattle.std.proofs.lemmas.Bool.{and_from, and_parts, eq-eqb, eqb-true, or_cases, or_left}
use Rattle.std.proofs.lemmas.List.{get_or-map, length-map}
use Rattle.std.proofs.lemmas.List.Elements.{All-contains, filter_passes}
use Rattle.std.proofs.lemmas.List.Sums.{length-filter}
use Rattle.base.specs.declared.graph.Entry.{Entry}
use Rattle.base.specs.PresentGraph.{below}
use Rattle.base.proofs.Below.{get_or-below, length-below}
use Rattle.outside.specs.Records.{deps_at}
use Rattle.order.specs.BuildOrder.{deps_in}
use Rattle.order.specs.LinkedGraph.{closure_of, reaches}
use Rattle.order.proofs.Finds.{below_bounded, in_below}
use Rattle.order.proofs.Reaching.{any_there, dep_reaching, reached_before, reaches_dep, some_there, way_reaches}
use Rattle.generated_project.specs.Files.{unedited}
use Rattle.generated_sources.specs.NumberedFiles.{numbered_edges, numbered_graph, uses_at, uses_number}
use Rattle.generated_sources.proofs.Members.{contains_had, has_contained, has_mapped, map_had, one_rank, same_tests}
use Rattle.generated_sources.proofs.Orders.{edge_count}
use Rattle.generated_laws.specs.Edits.{is_touched, touched_files}
use Rattle.generated_laws.specs.NumberedGraphs.{AreInOrder, ordered_number}
use Rattle.generated_laws.specs.TouchedNumbers.{comes_to, has_used, touched_numbers, used_of}
use Rattle.generated_laws.proofs.Graphs.{build_order, edges_are, file_within, found_at, graph_count, order_count, ordered_within}
use Rattle.generated_laws.proofs.Lists.{kept_there}
use Rattle.generated_laws.proofs.Permuted.{as_many_pass, mapped_count, same_counts}
use Rattle.generated_laws.proofs.Uses.{deps_are, number_placed, one_position, taken_at, used_before, used_dep}

or_later : (a b : Bool) → b ≡ true → (a || b) ≡ true
or_later true b is = refl
or_later false b is = is

uses_is : (number used : ℕ) → uses_number number used ≡ (has_used number && used == used_of number)
uses_is zero used = refl
uses_is (suc before) used = refl

uses_parts : (number used : ℕ) → uses_number number used ≡ true → (has_used number ≡ true) × (used ≡ used_of number)
uses_parts number used uses =
    let parts = and_parts (has_used number) (used == used_of number) (sym (uses_is number used) ∙ uses) in
    (parts.0, eqb-true used (used_of number) parts.1)

uses_own : (number : ℕ) → has_used number ≡ true → uses_number number (used_of number) ≡ true
uses_own number has = uses_is number (used_of number) ∙ and_from (has_used number) (used_of number == used_of number) has (eq-eqb (used_of number) (used_of number) refl)

module _ (count : ℕ) (command : List (List ℕ)) (numbers order : List ℕ) (are : AreInOrder count command numbers order) (target : ℕ) (target_low : target < count + 1) where
  abbrev edges : List (List ℕ)
  edges = numbered_edges numbers

  abbrev number : ℕ → ℕ
  number position = ordered_number numbers order position

  abbrev file : ℕ → ℕ
  file position = slice_index order position

  -- the position is that of the edited file, or its file depends on that one
  abbrev depends : ℕ → Bool
  depends position = position == target || reaches edges (file position) (file target)

  inside : (position : ℕ) → position < count + 1 → position < length order
  inside position lt = omega (arith, lt, order_count count command numbers order are)

  dep_of : (position earlier : ℕ) → position < count + 1 → earlier < count + 1 → uses_number (number position) (number earlier) ≡ true → Contains (deps_in edges (file position)) (file earlier)
  dep_of position earlier lt low uses = used_dep count command numbers order are (file position) (file earlier) (file_within count command numbers order are position lt) (file_within count command numbers order are earlier low) uses

  depends_by : (position earlier : ℕ) → position < count + 1 → earlier < count + 1 → uses_number (number position) (number earlier) ≡ true → depends earlier ≡ true → depends position ≡ true
  depends_by position earlier lt low uses does =
      let same : (file earlier == file target || reaches edges (file earlier) (file target)) ≡ true = elim (or_cases (earlier == target) (reaches edges (file earlier) (file target)) does) [
        | inl is ↦ or_left (file earlier == file target) (reaches edges (file earlier) (file target)) (eq-eqb (file earlier) (file target) (ap (λ (p : ℕ). file p) (eqb-true earlier target is)))
        | inr further ↦ or_later (file earlier == file target) (reaches edges (file earlier) (file target)) further
      ] in
      or_later (position == target) (reaches edges (file position) (file target)) (reaches_dep edges order (build_order count command numbers order are) position (file earlier) (file target) (inside position lt) (dep_of position earlier lt low uses) same)

  here_depends : (position : ℕ) → position < count + 1 → (number position == number target) ≡ true → depends position ≡ true
  here_depends position lt is =
      or_left (position == target) (reaches edges (file position) (file target)) (eq-eqb position target (one_position count command numbers order are position target lt target_low (eqb-true (number position) (number target) is)))

  depends_if : (steps position : ℕ) → position < count + 1 → comes_to steps (number target) (number position) ≡ true → depends position ≡ true
  unfolding comes_to
  depends_if zero position lt comes = here_depends position lt comes
  depends_if (suc steps) position lt comes = elim (or_cases (number position == number target) (has_used (number position) && comes_to steps (number target) (used_of (number position))) comes) [
    | inl is ↦ here_depends position lt is
    | inr further ↦
        let parts = and_parts (has_used (number position)) (comes_to steps (number target) (used_of (number position))) further in
        let earlier = used_before count command numbers order are position (used_of (number position)) lt (uses_own (number position) parts.0) in
        let low : earlier.0 < count + 1 = omega (arith, earlier.1, lt) in
        let does = depends_if steps earlier.0 low (subst (λ (n : ℕ). comes_to steps (number target) n ≡ true) (sym earlier.3) parts.1) in
        depends_by position earlier.0 lt low (subst (λ (n : ℕ). uses_number (number position) n ≡ true) (sym earlier.3) (uses_own (number position) parts.0)) does
  ]

  -- a dependency of a file that depends on the edited one, at an earlier position, which does too
  record IsNext (position : ℕ) : Type 0 where
    earlier : ℕ
    before : earlier < position
    uses : uses_number (number position) (number earlier) ≡ true
    does : depends earlier ≡ true

  next_of : (position : ℕ) → position < count + 1 → reaches edges (file position) (file target) ≡ true → IsNext position
  next_of position lt reached =
      let within : file position < length numbers = file_within count command numbers order are position lt in
      let dep = dep_reaching edges order (build_order count command numbers order are) position (file target) (inside position lt) reached in
      let listed : Contains (filter (uses_at numbers (file position)) (below (length numbers))) dep.0 = subst (λ (deps : List ℕ). Contains deps dep.0) (deps_are count command numbers order are (file position) within) dep.1 in
      let uses : uses_at numbers (file position) dep.0 ≡ true = All-contains (λ d. uses_at numbers (file position) d ≡ true) (filter (uses_at numbers (file position)) (below (length numbers))) dep.0 (filter_passes (uses_at numbers (file position)) (below (length numbers))) listed in
      let low : dep.0 < length edges = All-contains (λ d. d < length edges) (deps_in edges (file position)) dep.0 ((edges_are count command numbers order are).within (file position)) dep.1 in
      let at = taken_at count command numbers order are dep.0 (omega (arith, low, edge_count numbers)) in
      let there : Contains (deps_in edges (file position)) (file at.0) = subst (λ (d : ℕ). Contains (deps_in edges (file position)) d) (sym at.2) dep.1 in
      let reach : reaches edges (file position) (file at.0) ≡ true = way_reaches edges order (build_order count command numbers order are) [] position (file at.0) (inside position lt) there in
      record {
        earlier = at.0;
        before = reached_before edges order (build_order count command numbers order are) (suc position) position at.0 (omega arith) (inside position lt) (inside at.0 at.1) reach;
        uses = subst (λ (d : ℕ). uses_number (number position) (slice_index numbers d) ≡ true) (sym at.2) uses;
        does = elim (or_cases (dep.0 == file target) (reaches edges dep.0 (file target)) dep.2) [
          | inl is ↦
              let files : file at.0 ≡ file target = at.2 ∙ eqb-true dep.0 (file target) is in
              let same : at.0 ≡ target = one_rank order (build_order count command numbers order are).distinct at.0 target 0 (inside at.0 at.1) (inside target target_low) files in
              or_left (at.0 == target) (reaches edges (file at.0) (file target)) (eq-eqb at.0 target same)
          | inr further ↦ or_later (at.0 == target) (reaches edges (file at.0) (file target)) (subst (λ (d : ℕ). reaches edges d (file target) ≡ true) (sym at.2) further)
        ];
      }

  here_comes : (steps position : ℕ) → (position == target) ≡ true → comes_to steps (number target) (number position) ≡ true
  unfolding comes_to
  here_comes zero position is = eq-eqb (number position) (number target) (ap (λ (p : ℕ). number p) (eqb-true position target is))
  here_comes (suc steps) position is =
      or_left (number position == number target) (has_used (number position) && comes_to steps (number target) (used_of (number position))) (eq-eqb (number position) (number target) (ap (λ (p : ℕ). number p) (eqb-true position target is)))

  comes_if : (steps position : ℕ) → position ≤ steps → position < count + 1 → depends position ≡ true → comes_to steps (number target) (number position) ≡ true
  unfolding comes_to
  comes_if zero position few lt does = elim (or_cases (position == target) (reaches edges (file position) (file target)) does) [
    | inl is ↦ here_comes zero position is
    | inr reached ↦ absurd (let next = next_of position lt reached in omega (arith, next.before, few))
  ]
  comes_if (suc steps) position few lt does = elim (or_cases (position == target) (reaches edges (file position) (file target)) does) [
    | inl is ↦ here_comes (suc steps) position is
    | inr reached ↦
        let next = next_of position lt reached in
        let parts = uses_parts (number position) (number next.earlier) next.uses in
        let later : comes_to steps (number target) (number next.earlier) ≡ true = comes_if steps next.earlier (omega (arith, next.before, few)) (omega (arith, next.before, lt)) next.does in
        or_later (number position == number target) (has_used (number position) && comes_to steps (number target) (used_of (number position)))
        (and_from (has_used (number position)) (comes_to steps (number target) (used_of (number position))) parts.0 (subst (λ (n : ℕ). comes_to steps (number target) n ≡ true) parts.1 later))
  ]

  comes_is : (position : ℕ) → position < count + 1 → depends position ≡ comes_to count (number target) (number position)
  comes_is position lt = same_tests (depends position) (comes_to count (number target) (number position)) (comes_if count position (omega (arith, lt)) lt) (depends_if count position lt)

  -- ## The test of the graph

  deps_of : (position : ℕ) → position < count + 1 → deps_at (numbered_graph command unedited numbers order) position ≡ closure_of edges order (file position)
  deps_of position lt = ap (λ (o : Option Entry). option_map_or (λ (e : Entry). e.deps) o []) (found_at count command numbers order are unedited position lt)

  has_target : (position : ℕ) → list_any (λ dep. dep == target) (closure_of edges order (file position)) ≡ reaches edges (file position) (file target)
  has_target position =
      same_tests (list_any (λ dep. dep == target) (closure_of edges order (file position))) (reaches edges (file position) (file target))
      (λ has.
      let found = some_there (λ dep. dep == target) (closure_of edges order (file position)) has in
      let passes : reaches edges (file position) (file found.0) ≡ true = All-contains (λ d. reaches edges (file position) (file d) ≡ true) (closure_of edges order (file position)) found.0 (filter_passes (λ d. reaches edges (file position) (file d)) (below (length order))) found.1 in
      subst (λ (d : ℕ). reaches edges (file position) (file d) ≡ true) (eqb-true found.0 target found.2) passes)
      (λ reached. any_there (λ dep. dep == target) (closure_of edges order (file position)) target (kept_there (λ d. reaches edges (file position) (file d)) (below (length order)) target (in_below (length order) target (inside target target_low)) reached) (eq-eqb target target refl))

  pub touched_is : (position : ℕ) → position < count + 1 → is_touched (numbered_graph command unedited numbers order) target position ≡ comes_to count (number target) (number position)
  touched_is position lt =
      ap (λ (deps : List ℕ). position == target || list_any (λ dep. dep == target) deps) (deps_of position lt)
      ∙ (ap (λ (b : Bool). position == target || b) (has_target position) ∙ comes_is position lt)

  -- ## How many

  apart : AllPairs (λ a b. a ≢ b) (map number (below (count + 1)))
  apart i j d less within same =
      let high : j < length (below (count + 1)) = omega (arith, within, length-map (below (count + 1)) number) in
      let second : j < count + 1 = omega (arith, high, length-below (count + 1)) in
      let first : i < count + 1 = omega (arith, less, second) in
      let numbers_same : number i ≡ number j = sym (ap (λ (p : ℕ). number p) (get_or-below (count + 1) i 0 first)) ∙ (sym (get_or-map number (below (count + 1)) i 0 d (omega (arith, less, high))) ∙ (same ∙ (get_or-map number (below (count + 1)) j 0 d high ∙ ap (λ (p : ℕ). number p) (get_or-below (count + 1) j 0 second)))) in
      let indices : i ≡ j = one_position count command numbers order are i j first second numbers_same in
      omega (arith, less, indices)

  below_apart : (n : ℕ) → AllPairs (λ a b. a ≢ b) (below n)
  below_apart n i j d less within same =
      let second : j < n = omega (arith, within, length-below n) in
      let indices : i ≡ j = sym (get_or-below n i d (omega (arith, less, second))) ∙ (same ∙ get_or-below n j d second) in
      omega (arith, less, indices)

  all_low : (n : ℕ) → Contains (map number (below (count + 1))) n → Contains (below (count + 1)) n
  all_low n has =
      let found = map_had number (below (count + 1)) n (has_contained (map number (below (count + 1))) n has) in
      let lt : found.0 < count + 1 = below_bounded (count + 1) found.0 (contains_had (below (count + 1)) found.0 found.1) in
      let few = ordered_within count command numbers order are found.0 lt in
      in_below (count + 1) n (omega (arith, few, found.2))

  all_there : (n : ℕ) → Contains (below (count + 1)) n → Contains (map number (below (count + 1))) n
  all_there n has =
      let lt : n < count + 1 = below_bounded (count + 1) n has in
      let at = number_placed count command numbers order are n (omega (arith, lt)) in
      subst (λ (m : ℕ). Contains (map number (below (count + 1))) m) at.2 (contains_had (map number (below (count + 1))) (number at.0) (has_mapped number (below (count + 1)) at.0 (has_contained (below (count + 1)) at.0 (in_below (count + 1) at.0 at.1))))

  pub touched_count : touched_files (numbered_graph command unedited numbers order) target ≡ touched_numbers count (number target)
  touched_count =
      ap (λ (n : ℕ). count_by (is_touched (numbered_graph command unedited numbers order) target) (below n)) (graph_count count command numbers order are unedited)
      ∙ (same_counts (is_touched (numbered_graph command unedited numbers order) target) (λ position. comes_to count (number target) (number position)) (below (count + 1)) (λ position has. touched_is position (below_bounded (count + 1) position has))
      ∙ (sym (length-filter (λ position. comes_to count (number target) (number position)) (below (count + 1)))
      ∙ (mapped_count (comes_to count (number target)) number (below (count + 1))
      ∙ (as_many_pass (comes_to count (number target)) (map number (below (count + 1))) (below (count + 1)) apart (below_apart (count + 1)) all_low all_there
      ∙ length-filter (comes_to count (number target)) (below (count + 1))))))

pub touched_by_number : (count : ℕ) (command : List (List ℕ)) (numbers order : List ℕ) → AreInOrder count command numbers order → (edited position : ℕ) → position < count + 1 → ordered_number numbers order position ≡ edited →
    touched_files (numbered_graph command unedited numbers order) position ≡ touched_numbers count edited
touched_by_number count command numbers order are edited position lt is =
    touched_count count command numbers order are position lt ∙ ap (touched_numbers count) is

pub touches_number : (count : ℕ) (command : List (List ℕ)) (numbers order : List ℕ) → AreInOrder count command numbers order → (edited position other : ℕ) → position < count + 1 → other < count + 1 → ordered_number numbers order position ≡ edited →
    is_touched (numbered_graph command unedited numbers order) position other ≡ comes_to count edited (ordered_number numbers order other)
touches_number count command numbers order are edited position other lt low is =
    touched_is count command numbers order are position lt other low ∙ ap (λ (n : ℕ). comes_to count n (ordered_number numbers order other)) is
