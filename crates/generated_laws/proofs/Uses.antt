-- Where the files are, and what each depends on.
use Rattle.std.proofs.Common.{◌≡◌, ℕ, suc, ◌+◌, ◌<◌, ◌≤◌, true, Some, List, [], length, sym, ap, subst, ◌∙◌, arith}
use Rattle.std.specs.Prelude.{Contains, filter, slice_get, slice_index}
use Rattle.std.proofs.lemmas.List.{get_or-map, get_or_default}
use Rattle.base.specs.declared.graph.Entry.{Entry}
use Rattle.base.specs.PresentGraph.{below}
use Rattle.base.proofs.Below.{get_or-below, length-below}
use Rattle.order.specs.BuildOrder.{deps_in}
use Rattle.order.specs.LinkedGraph.{closure_of, reaches}
use Rattle.order.proofs.Finds.{in_below}
use Rattle.order.proofs.Reaching.{reached_before, way_reaches}
use Rattle.generated_sources.specs.NumberedFiles.{AreNumbers, numbered_edges, uses_at, uses_number}
use Rattle.generated_sources.proofs.Linked.{all_numbers}
use Rattle.generated_sources.proofs.Members.{one_rank}
use Rattle.generated_sources.proofs.Orders.{edge_count}
use Rattle.generated_laws.specs.NumberedGraphs.{AreInOrder, ordered_number}
use Rattle.generated_laws.proofs.Graphs.{build_order, file_within, found_is, found_within, graph, order_count}
use Rattle.generated_laws.proofs.Lists.{kept_there}

module _ (count : ℕ) (command : List (List ℕ)) (numbers order : List ℕ) (are : AreInOrder count command numbers order) where
  -- the file of a number
  pub placed : (number : ℕ) → number ≤ count → (file : ℕ) × (file < length numbers) × (slice_index numbers file ≡ number)
  placed number low =
      let found : Contains numbers number = are.all.every number low in
      (found.0, found.1, get_or_default numbers found.0 0 number found.1 ∙ found.2)

  -- the position of a file
  pub taken_at : (file : ℕ) → file < length numbers → (position : ℕ) × (position < count + 1) × (slice_index order position ≡ file)
  taken_at file low =
      let found : Contains order file = (build_order count command numbers order are).every file (omega (arith, low, edge_count numbers)) in
      (found.0, omega (arith, found.1, order_count count command numbers order are), get_or_default order found.0 0 file found.1 ∙ found.2)

  pub number_placed : (number : ℕ) → number ≤ count → (position : ℕ) × (position < count + 1) × (ordered_number numbers order position ≡ number)
  number_placed number low =
      let file = placed number low in
      let position = taken_at file.0 file.1 in
      (position.0, position.1, ap (λ (f : ℕ). slice_index numbers f) position.2 ∙ file.2)

  -- no number is at two positions
  pub one_position : (i j : ℕ) → i < count + 1 → j < count + 1 → ordered_number numbers order i ≡ ordered_number numbers order j → i ≡ j
  one_position i j first second same =
      let files : slice_index order i ≡ slice_index order j = one_rank numbers are.all.distinct (slice_index order i) (slice_index order j) 0 (file_within count command numbers order are i first) (file_within count command numbers order are j second) same in
      one_rank order (build_order count command numbers order are).distinct i j 0 (omega (arith, first, order_count count command numbers order are)) (omega (arith, second, order_count count command numbers order are)) files

  -- ## What a file uses

  pub deps_are : (file : ℕ) → file < length numbers → deps_in (numbered_edges numbers) file ≡ filter (uses_at numbers file) (below (length numbers))
  deps_are file lt =
      get_or-map (λ user. filter (uses_at numbers user) (below (length numbers))) (below (length numbers)) file 0 [] (omega (arith, lt, length-below (length numbers)))
      ∙ ap (λ (user : ℕ). filter (uses_at numbers user) (below (length numbers))) (get_or-below (length numbers) file 0 lt)

  pub used_dep : (user used : ℕ) → user < length numbers → used < length numbers → uses_at numbers user used ≡ true → Contains (deps_in (numbered_edges numbers) user) used
  used_dep user used first second uses =
      subst (λ (deps : List ℕ). Contains deps used) (sym (deps_are user first)) (kept_there (uses_at numbers user) (below (length numbers)) used (in_below (length numbers) used second) uses)

  numbers_are : AreNumbers numbers
  numbers_are = all_numbers count numbers are.some (omega (arith, are.few)) are.all

  -- the file that is used, of a user at a position
  used_file : (position used : ℕ) → position < count + 1 → uses_number (ordered_number numbers order position) used ≡ true → (file : ℕ) × (file < length numbers) × (slice_index numbers file ≡ used)
  used_file position used lt uses =
      let within = file_within count command numbers order are position lt in
      let own : Contains numbers (ordered_number numbers order position) = (slice_index order position, within, get_or_default numbers (slice_index order position) (ordered_number numbers order position) 0 within) in
      let found : Contains numbers used = numbers_are.closed (ordered_number numbers order position) used own uses in
      (found.0, found.1, get_or_default numbers found.0 0 used found.1 ∙ found.2)

  -- an earlier position, of which a file's entry has to tell
  pub used_before : (position used : ℕ) → position < count + 1 → uses_number (ordered_number numbers order position) used ≡ true →
      (earlier : ℕ) × (earlier < position) × Contains (closure_of (numbered_edges numbers) order (slice_index order position)) earlier × (ordered_number numbers order earlier ≡ used)
  used_before position used lt uses =
      let file = used_file position used lt uses in
      let at = taken_at file.0 file.1 in
      let inside : position < length order = omega (arith, lt, order_count count command numbers order are) in
      let low : at.0 < length order = omega (arith, at.1, order_count count command numbers order are) in
      let dep : Contains (deps_in (numbered_edges numbers) (slice_index order position)) file.0 =
      used_dep (slice_index order position) file.0 (file_within count command numbers order are position lt) file.1 (subst (λ (n : ℕ). uses_number (ordered_number numbers order position) n ≡ true) (sym file.2) uses) in
      let reached : reaches (numbered_edges numbers) (slice_index order position) (slice_index order at.0) ≡ true =
      subst (λ (f : ℕ). reaches (numbered_edges numbers) (slice_index order position) f ≡ true) (sym at.2) (way_reaches (numbered_edges numbers) order (build_order count command numbers order are) [] position file.0 inside dep) in (
        at.0,
        reached_before (numbered_edges numbers) order (build_order count command numbers order are) (suc position) position at.0 (omega arith) inside low reached,
        kept_there (λ other. reaches (numbered_edges numbers) (slice_index order position) (slice_index order other)) (below (length order)) at.0 (in_below (length order) at.0 low) reached,
        ap (λ (f : ℕ). slice_index numbers f) at.2 ∙ file.2,
      )

  pub entry_uses : (edited position : ℕ) (entry : Entry) (used : ℕ) → slice_get (graph count command numbers order are edited) position ≡ Some entry → uses_number (ordered_number numbers order position) used ≡ true →
      (earlier : ℕ) × (earlier < position) × Contains entry.deps earlier × (ordered_number numbers order earlier ≡ used)
  entry_uses edited position entry used found uses =
      let earlier = used_before position used (found_within count command numbers order are edited position entry found) uses in
      (earlier.0, earlier.1, subst (λ (e : Entry). Contains e.deps earlier.0) (sym (found_is count command numbers order are edited position entry found)) earlier.2, earlier.3)
