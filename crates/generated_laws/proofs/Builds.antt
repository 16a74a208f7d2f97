-- What a clean build makes of each file.
use Rattle.std.proofs.Common.{◌≡◌, ◌≢◌, ℕ, ◌+◌, ◌<◌, ◌≤◌, ◌==◌, Bool, true, false, cond, Option, Some, None, List, length, map, get_or, refl, sym, ap, subst, ◌∙◌, arith, inl, inr, is_some}
use Rattle.std.specs.Prelude.{Contains, slice_get, slice_index}
use Rattle.std.specs.Option.{option_and_then}
use Rattle.std.proofs.lemmas.Bool.{cond-true, eq-eqb, ne_eqb}
use Rattle.std.proofs.lemmas.List.{get_or-map, get_or_default, length-map, take_all}
use Rattle.std.proofs.lemmas.List.Elements.{All-map}
use Rattle.std.proofs.lemmas.Option.{get_or_from_slice_get, none-some, same_Some, slice_get_cases, slice_get_within}
use Rattle.base.specs.declared.file.FileName.{FileName}
use Rattle.base.specs.declared.graph.BuiltFile.{BuiltFile}
use Rattle.base.specs.declared.graph.Entry.{Entry}
use Rattle.base.specs.declared.child.Exit.{Exit}
use Rattle.base.specs.declared.child.Request.{Request}
use Rattle.base.specs.Graphs.{IsBuilt, IsBuiltFile, IsEntryAt}
use Rattle.base.specs.Jobs.{compile_request}
use Rattle.base.specs.PresentGraph.{below}
use Rattle.base.proofs.Below.{length-below, map-below_is, get_or-below}
use Rattle.order.specs.LinkedGraph.{closure_of, reaches}
use Rattle.run_spec.specs.CleanBuild.{Result, Made, Refused, Blocked, built_of, built_below, clean_build, clean_request, is_free, result_of}
use Rattle.run_spec.proofs.FoldLaws.{by_all_below}
use Rattle.run_laws.proofs.CleanRanks.{clean_at}
use Rattle.run_tests.specs.Libraries.{libraries}
use Rattle.generated_project.specs.Files.{unedited}
use Rattle.generated_sources.specs.NumberedFiles.{numbered_edges, numbered_graph, uses_number}
use Rattle.generated_sources.proofs.Members.{contains_had, has_contained, has_mapped}
use Rattle.generated_laws.specs.Edits.{ChangesFile, MakesAll, clean_file}
use Rattle.generated_laws.specs.NumberedBuilds.{HasNumberBuilt, IsMadeBy, IsNumberAsked, MakesNumbered, numbered_built}
use Rattle.generated_laws.specs.NumberedGraphs.{AreInOrder, numbered_name, ordered_number}
use Rattle.generated_laws.proofs.Edits.{is_edit}
use Rattle.generated_laws.proofs.Fitting.{name_fits}
use Rattle.generated_laws.proofs.Graphs.{entry_of, found_at, found_is, found_within, graph_count, is_graph, numbered_entry, order_count, ordered_within}
use Rattle.generated_laws.proofs.Lists.{all_passing, all_picked, kept_few}
use Rattle.generated_laws.proofs.Uses.{entry_uses, placed, taken_at}

module _ (count : ℕ) (command : List (List ℕ)) (numbers order : List ℕ) (are : AreInOrder count command numbers order) (artefact : ℕ → Bool → List ℕ) (answer : Request → Exit) (makes : MakesNumbered count command artefact answer) where
  module _ (edited : ℕ) where
    abbrev graph : List Entry
    graph = numbered_graph command edited numbers order

    abbrev clean : List Result
    clean = clean_build answer graph

    abbrev number : ℕ → ℕ
    number position = ordered_number numbers order position

    -- the file of a position with its artefact
    abbrev pub built_at : ℕ → BuiltFile
    built_at position = numbered_built artefact edited (number position)

    -- a file is asked for over all that it depends on, and made
    record IsGood (position : ℕ) (entry : Entry) : Type 0 where
      free : is_free clean entry ≡ true
      exit : IsMadeBy (artefact (number position) (number position == edited)) (answer (compile_request entry (built_below clean entry)))
      result : slice_get clean position ≡ Some (Made (built_at position))

    -- at a position whose dependencies are made
    module _ (position : ℕ) (entry : Entry) (found : slice_get graph position ≡ Some entry) (before : (dep : ℕ) → dep < position → (other : Entry) → slice_get graph dep ≡ Some other → IsGood dep other) where
      within : position < count + 1
      within = found_within count command numbers order are edited position entry found

      form : IsEntryAt graph position entry
      form = subst (IsEntryAt graph position) (get_or_from_slice_get graph position entry entry found) ((is_graph count command numbers order are edited).each position entry (slice_get_within graph position entry found))

      dep_made : (k : ℕ) → k < length entry.deps → built_of (slice_get clean (get_or entry.deps k 0)) ≡ Some (built_at (get_or entry.deps k 0))
      dep_made k lt =
          let dep : ℕ = get_or entry.deps k 0 in
          let low : dep < position = form.before k 0 lt in
          ap built_of (before dep low (entry_of count command numbers order are edited dep) (found_at count command numbers order are edited dep (omega (arith, low, within)))).result

      below_is : built_below clean entry ≡ map built_at entry.deps
      below_is = all_picked (λ dep. built_of (slice_get clean dep)) built_at entry.deps dep_made

      all_made : is_free clean entry ≡ true
      all_made = all_passing (λ dep. is_some (built_of (slice_get clean dep))) entry.deps (λ k lt. ap (λ (o : Option BuiltFile). is_some o) (dep_made k lt))

      few_deps : length entry.deps ≤ count + 1
      few_deps =
          let same : length entry.deps ≡ length (closure_of (numbered_edges numbers) order (slice_index order position)) = ap (λ (e : Entry). length e.deps) (found_is count command numbers order are edited position entry found) in
          let kept = kept_few (λ other. reaches (numbered_edges numbers) (slice_index order position) (slice_index order other)) (below (length order)) in
          omega (arith, same, kept, length-below (length order), order_count count command numbers order are)

      one_built : (dep : ℕ) → dep < position → IsBuiltFile (built_at dep)
      one_built dep low =
          let few : number dep ≤ count = ordered_within count command numbers order are dep (omega (arith, low, within)) in
          record {
            name = name_fits (number dep) (omega (arith, few, are.few));
            artefact = makes.small (number dep) (number dep == edited) few;
          }

      all_built : IsBuilt (map built_at entry.deps)
      all_built = record {
        few = omega (arith, length-map entry.deps built_at, few_deps, are.few);
        each = All-map IsBuiltFile built_at entry.deps (λ k d lt. one_built (get_or entry.deps k d) (form.before k d lt));
      }

      has_used : (used : ℕ) → uses_number (number position) used ≡ true → HasNumberBuilt artefact used (map built_at entry.deps)
      has_used used uses =
          let earlier = entry_uses count command numbers order are edited position entry used found uses in
          record {
            file = built_at earlier.0;
            among = contains_had (map built_at entry.deps) (built_at earlier.0) (has_mapped built_at entry.deps earlier.0 (has_contained entry.deps earlier.0 earlier.2));
            is = record {
              library = refl;
              noted = number earlier.0 == edited;
              artefact_is = ap (λ (n : ℕ). artefact n (number earlier.0 == edited)) earlier.3;
            };
          }

      asked : IsNumberAsked artefact command edited (number position) entry (map built_at entry.deps)
      asked = record {
        entry_is = numbered_entry count command numbers order are edited position entry found;
        name = form.name;
        text = form.text;
        built_are = all_built;
        uses = has_used;
      }

      made : IsMadeBy (artefact (number position) (number position == edited)) (answer (compile_request entry (built_below clean entry)))
      made =
          makes.makes edited (number position) entry (built_below clean entry) (ordered_within count command numbers order are position within)
          (subst (λ (files : List BuiltFile). IsNumberAsked artefact command edited (number position) entry files) (sym below_is) asked)

      abbrev made_file : BuiltFile
      made_file = record { name = entry.name; artefact = (answer (compile_request entry (built_below clean entry))).output }

      made_is : made_file ≡ built_at position
      made_is =
          ap (λ (name : FileName). record { name = name; artefact = (answer (compile_request entry (built_below clean entry))).output }) (numbered_entry count command numbers order are edited position entry found).name_is
          ∙ ap (λ (output : List ℕ). record { name = numbered_name (number position); artefact = output }) made.output

      good_here : IsGood position entry
      good_here = record {
        free = all_made;
        exit = made;
        result = clean_at answer graph position entry found form.before
            ∙ ap (λ (r : Result). Some r)
            (cond-true (is_free clean entry) (result_of entry (answer (compile_request entry (built_below clean entry)))) Blocked all_made
            ∙ (cond-true ((answer (compile_request entry (built_below clean entry))).code == 0) (Made made_file) (Refused (answer (compile_request entry (built_below clean entry))).code (answer (compile_request entry (built_below clean entry))).output) (eq-eqb (answer (compile_request entry (built_below clean entry))).code 0 made.code)
            ∙ ap Made made_is));
      }

    good : (position : ℕ) (entry : Entry) → slice_get graph position ≡ Some entry → IsGood position entry
    good = by_all_below (λ position. (entry : Entry) → slice_get graph position ≡ Some entry → IsGood position entry) (λ position before entry found. good_here position entry found before)

    -- ## All is made

    accepted : (position : ℕ) (request : Request) → clean_request answer graph position ≡ Some request → (answer request).code ≡ 0
    accepted position request is = elim (slice_get_cases graph position).1 [
      | inl here ↦
          let fine = good position here.0 here.2 in
          let asks : clean_request answer graph position ≡ Some (compile_request here.0 (built_below clean here.0)) =
          ap (option_and_then (λ (e : Entry). cond (is_free clean e) (Some (compile_request e (built_below clean e))) None)) here.2
          ∙ cond-true (is_free clean here.0) (Some (compile_request here.0 (built_below clean here.0))) None fine.free in
          let same : compile_request here.0 (built_below clean here.0) ≡ request = same_Some (compile_request here.0 (built_below clean here.0)) request (sym asks ∙ is) in
          subst (λ (r : Request). (answer r).code ≡ 0) same fine.exit.code
      | inr past ↦
          let nothing : clean_request answer graph position ≡ None = ap (option_and_then (λ (e : Entry). cond (is_free clean e) (Some (compile_request e (built_below clean e))) None)) past.1 in
          absurd (none-some request (sym nothing ∙ is))
    ]

    pub makes_all : MakesAll answer graph
    makes_all = record { graph_form = is_graph count command numbers order are edited; accepts = accepted }

    made_at : (position : ℕ) → position < count + 1 → built_of (slice_get clean position) ≡ Some (built_at position)
    made_at position lt = ap built_of (good position (entry_of count command numbers order are edited position) (found_at count command numbers order are edited position lt)).result

    pub file_made : (position : ℕ) → position < count + 1 → clean_file answer graph position ≡ Some (built_at position)
    file_made position lt = made_at position lt

    -- ## The libraries

    pub libraries_are : libraries answer graph ≡ map (λ file. numbered_built artefact edited (slice_index numbers file)) order
    libraries_are =
        let files : List BuiltFile = map (λ file. numbered_built artefact edited (slice_index numbers file)) order in
        let total : length (below (length graph)) ≡ count + 1 = length-below (length graph) ∙ graph_count count command numbers order are edited in
        let many : length files ≡ count + 1 = length-map order (λ file. numbered_built artefact edited (slice_index numbers file)) ∙ order_count count command numbers order are in
        let each : (k : ℕ) → k < length (below (length graph)) → built_of (slice_get clean (get_or (below (length graph)) k 0)) ≡ Some (built_at (get_or (below (length graph)) k 0)) =
        λ k lt. let low : k < count + 1 = omega (arith, lt, total) in let is : get_or (below (length graph)) k 0 ≡ k = get_or-below (length graph) k 0 (omega (arith, low, graph_count count command numbers order are edited)) in subst (λ (n : ℕ). built_of (slice_get clean n) ≡ Some (built_at n)) (sym is) (made_at k low) in
        all_picked (λ position. built_of (slice_get clean position)) built_at (below (length graph)) each
        ∙ (map-below_is built_at files (length graph) (omega (arith, many, graph_count count command numbers order are edited)) (λ k d lt. get_or-map (λ file. numbered_built artefact edited (slice_index numbers file)) order k 0 d (omega (arith, lt, graph_count count command numbers order are edited, order_count count command numbers order are)))
        ∙ take_all (length graph) files (omega (arith, many, graph_count count command numbers order are edited)))

    pub has_file : (number : ℕ) → number ≤ count → Contains (libraries answer graph) (numbered_built artefact edited number)
    has_file number low =
        let file = placed count command numbers order are number low in
        let at = taken_at count command numbers order are file.0 file.1 in
        let among : Contains order file.0 = (at.0, omega (arith, at.1, order_count count command numbers order are), get_or_default order at.0 file.0 0 (omega (arith, at.1, order_count count command numbers order are)) ∙ at.2) in
        let mapped : Contains (map (λ f. numbered_built artefact edited (slice_index numbers f)) order) (numbered_built artefact edited (slice_index numbers file.0)) =
        contains_had (map (λ f. numbered_built artefact edited (slice_index numbers f)) order) (numbered_built artefact edited (slice_index numbers file.0)) (has_mapped (λ f. numbered_built artefact edited (slice_index numbers f)) order file.0 (has_contained order file.0 among)) in
        subst (λ (files : List BuiltFile). Contains files (numbered_built artefact edited number)) (sym libraries_are) (subst (λ (n : ℕ). Contains (map (λ f. numbered_built artefact edited (slice_index numbers f)) order) (numbered_built artefact edited n)) file.2 mapped)

  -- ## The edit

  module _ (edited position : ℕ) (some : 1 ≤ edited) (lt : position < count + 1) (is : ordered_number numbers order position ≡ edited) (differ : artefact edited true ≢ artefact edited false) where
    artefacts_differ : clean_file answer (numbered_graph command unedited numbers order) position ≡ clean_file answer (numbered_graph command edited numbers order) position → ⊥
    artefacts_differ same =
        let files : built_at unedited position ≡ built_at edited position = same_Some (built_at unedited position) (built_at edited position) (sym (file_made unedited position lt) ∙ (same ∙ file_made edited position lt)) in
        let artefacts : artefact (ordered_number numbers order position) (ordered_number numbers order position == unedited) ≡ artefact (ordered_number numbers order position) (ordered_number numbers order position == edited) = ap (λ (f : BuiltFile). f.artefact) files in
        let of_edited : artefact edited (edited == unedited) ≡ artefact edited (edited == edited) = subst (λ (n : ℕ). artefact n (n == unedited) ≡ artefact n (n == edited)) is artefacts in
        differ (sym (ap (artefact edited) (sym (ne_eqb edited unedited (λ none. omega (arith, none, some)))) ∙ (of_edited ∙ ap (artefact edited) (eq-eqb edited edited refl))))

    pub changes : ChangesFile answer position (numbered_graph command unedited numbers order) (numbered_graph command edited numbers order)
    changes = record {
      edit = is_edit count command numbers order are edited position lt is;
      differs = artefacts_differ;
    }
