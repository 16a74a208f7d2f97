-- The graph of the generated project, position by position.
use Rattle.std.proofs.Common.{◌≡◌, ℕ, zero, suc, ◌+◌, ◌<◌, ◌≤◌, Some, List, [], ◌∷◌, length, map, get_or, sym, ap, ◌∙◌, arith}
use Rattle.std.specs.Prelude.{All, AllPairs, ◌≢◌, slice_get, slice_index}
use Rattle.std.proofs.lemmas.List.{get_or-map, length-map}
use Rattle.std.proofs.lemmas.List.Elements.{All-map}
use Rattle.std.proofs.lemmas.Option.{same_Some, slice_get-get_or, slice_get_within}
use Rattle.base.specs.declared.file.FileName.{FileName}
use Rattle.base.specs.declared.graph.Entry.{Entry}
use Rattle.base.specs.declared.limits.TheConstants.{FILE_LIMIT, WORD_LIMIT}
use Rattle.base.specs.Names.{IsBetween}
use Rattle.base.specs.declared.project.Project.{Project}
use Rattle.base.specs.declared.project.ProjectFile.{ProjectFile}
use Rattle.base.specs.Graphs.{IsGraph}
use Rattle.base.specs.Projects.{IsProject, IsProjectFile}
use Rattle.order.specs.BuildOrder.{AreEdges, IsBuildOrder}
use Rattle.order.specs.LinkedGraph.{FitTexts, closure_of, linked_entry}
use Rattle.order.proofs.Cycles.{ordered_is}
use Rattle.project_graph.proofs.LinkedGraphs.{get_or-linked, length-linked, linked_is_graph, no_file}
use Rattle.generated_sources.specs.NumberedFiles.{numbered_bytes, numbered_edges, numbered_file, numbered_graph, numbered_project}
use Rattle.generated_sources.proofs.Orders.{are_edges, edge_count}
use Rattle.generated_laws.specs.NumberedGraphs.{AreInOrder, IsEntryOfNumber, numbered_name, ordered_number}
use Rattle.generated_laws.proofs.Counted.{number_count}
use Rattle.generated_laws.proofs.Fitting.{name_fits, same_path, texts_small}

module _ (count : ℕ) (command : List (List ℕ)) (numbers order : List ℕ) (are : AreInOrder count command numbers order) where
  pub number_within : (k d : ℕ) → k < length numbers → get_or numbers k d ≤ count
  number_within k d lt = are.all.within k d lt

  number_low : All (λ number. number < FILE_LIMIT) numbers
  number_low k d lt = omega (arith, number_within k d lt, are.few)

  pub file_count : length numbers ≡ count + 1
  file_count = number_count count numbers are.all

  pub few_files : length numbers ≤ FILE_LIMIT
  few_files = omega (arith, file_count, are.few)

  pub edges_are : AreEdges (numbered_edges numbers)
  edges_are = are_edges numbers few_files

  pub build_order : IsBuildOrder (numbered_edges numbers) order
  build_order = ordered_is (numbered_edges numbers) order are.ordered

  pub order_count : length order ≡ count + 1
  order_count = build_order.count ∙ (edge_count numbers ∙ file_count)

  pub file_within : (position : ℕ) → position < count + 1 → slice_index order position < length numbers
  file_within position lt =
      let low : slice_index order position < length (numbered_edges numbers) = build_order.within position 0 (omega (arith, lt, order_count)) in
      omega (arith, low, edge_count numbers)

  pub ordered_within : (position : ℕ) → position < count + 1 → ordered_number numbers order position ≤ count
  ordered_within position lt = number_within (slice_index order position) 0 (file_within position lt)

  -- ## The project

  -- the project of these files, with a word as its simulator
  abbrev project : Project
  project = numbered_project command ((115 ∷ []) ∷ []) [] numbers

  apart : AllPairs (λ (file other : ProjectFile). file.name ≢ other.name) (map (numbered_file command) numbers)
  apart i j d less within same =
      let high : j < length numbers = omega (arith, within, length-map numbers (numbered_file command)) in
      let low : i < length numbers = omega (arith, less, high) in
      let paths = ap (λ (file : ProjectFile). file.name.path) (sym (get_or-map (numbered_file command) numbers i 0 d low))
      ∙ (ap (λ (name : FileName). name.path) same ∙ ap (λ (file : ProjectFile). file.name.path) (get_or-map (numbered_file command) numbers j 0 d high)) in
      are.all.distinct i j 0 less high (same_path (get_or numbers i 0) (get_or numbers j 0) (omega (arith, number_low i 0 low)) (omega (arith, number_low j 0 high)) paths)

  is_project : IsProject project
  is_project = record {
    distinct = apart;
    each = All-map IsProjectFile (numbered_file command) numbers (λ k d lt. record { name = name_fits (get_or numbers k d) (number_low k d lt); command = are.fits });
    simulator = record { count = record { at_least = omega arith; at_most = omega arith }; each = word };
  } where
    word : (k : ℕ) (d : List ℕ) → k < 1 → IsBetween 1 WORD_LIMIT (length (get_or ((115 ∷ []) ∷ []) k d))
    word zero d lt = record { at_least = omega arith; at_most = omega arith }
    word (suc k) d lt = absurd (omega (arith, lt))

  as_many : length (numbered_edges numbers) ≡ length (map (numbered_file command) numbers)
  as_many = edge_count numbers ∙ sym (length-map numbers (numbered_file command))

  module _ (edited : ℕ) where
    abbrev pub graph : List Entry
    graph = numbered_graph command edited numbers order

    abbrev texts : List (List ℕ)
    texts = map (numbered_bytes edited) numbers

    texts_fit : FitTexts (map (numbered_file command) numbers) texts
    texts_fit = record {
      each = length-map numbers (numbered_bytes edited) ∙ sym (length-map numbers (numbered_file command));
      small = texts_small edited numbers number_low few_files;
    }

    pub is_graph : IsGraph graph
    is_graph = linked_is_graph project texts (numbered_edges numbers) order is_project texts_fit edges_are as_many build_order

    pub graph_count : length graph ≡ count + 1
    graph_count = length-linked project texts (numbered_edges numbers) order is_project texts_fit edges_are as_many build_order ∙ order_count

    -- the file at a position
    abbrev pub entry_of : ℕ → Entry
    entry_of position = record {
      name = numbered_name (ordered_number numbers order position);
      command = command;
      text = numbered_bytes edited (ordered_number numbers order position);
      deps = closure_of (numbered_edges numbers) order (slice_index order position);
    }

    entry_is : (position : ℕ) → position < count + 1 → linked_entry (numbered_edges numbers) order texts (slice_index order position) (get_or (map (numbered_file command) numbers) (slice_index order position) no_file) ≡ entry_of position
    entry_is position lt =
        ap (linked_entry (numbered_edges numbers) order texts (slice_index order position)) (get_or-map (numbered_file command) numbers (slice_index order position) 0 no_file (file_within position lt))
        ∙ ap (λ (text : List ℕ). record { name = numbered_name (ordered_number numbers order position); command = command; text = text; deps = closure_of (numbered_edges numbers) order (slice_index order position) })
        (get_or-map (numbered_bytes edited) numbers (slice_index order position) 0 [] (file_within position lt))

    pub found_at : (position : ℕ) → position < count + 1 → slice_get graph position ≡ Some (entry_of position)
    found_at position lt =
        slice_get-get_or graph position (entry_of position) (omega (arith, lt, graph_count))
        ∙ ap (λ (entry : Entry). Some entry) (get_or-linked project texts (numbered_edges numbers) order is_project texts_fit edges_are as_many build_order position (entry_of position) (omega (arith, lt, order_count)) ∙ entry_is position lt)

    pub found_within : (position : ℕ) (entry : Entry) → slice_get graph position ≡ Some entry → position < count + 1
    found_within position entry found = omega (arith, slice_get_within graph position entry found, graph_count)

    pub found_is : (position : ℕ) (entry : Entry) → slice_get graph position ≡ Some entry → entry ≡ entry_of position
    found_is position entry found = same_Some entry (entry_of position) (sym found ∙ found_at position (found_within position entry found))

    pub numbered_entry : (position : ℕ) (entry : Entry) → slice_get graph position ≡ Some entry → IsEntryOfNumber command edited (ordered_number numbers order position) entry
    numbered_entry position entry found =
        let same : entry ≡ entry_of position = found_is position entry found in
        record {
          name_is = ap (λ (e : Entry). e.name) same;
          command_is = ap (λ (e : Entry). e.command) same;
          text_is = ap (λ (e : Entry). e.text) same;
        }

    pub both_said : (position : ℕ) (entry : Entry) → slice_get graph position ≡ Some entry → (ordered_number numbers order position ≤ count) × IsEntryOfNumber command edited (ordered_number numbers order position) entry
    both_said position entry found = (ordered_within position (found_within position entry found), numbered_entry position entry found)
