-- What the store lends of files that have their records, and the request that is made of it.
use Rattle.std.proofs.Common.{◌≡◌, ℕ, ◌+◌, List, [], ◌∷◌, ◌++◌, length, take, Option, Some, None, refl, sym, ap, subst, ◌∙◌, arith}
use Rattle.std.specs.Prelude.{slice_get}
use Rattle.std.specs.Option.{option_map, option_and_then}
use Rattle.std.specs.List.{filter_map, flat_map, cons_option}
use Rattle.std.proofs.lemmas.List.{take_all}
use Rattle.std.proofs.lemmas.List.Elements.{filter_map-append}
use Rattle.std.proofs.lemmas.Option.{slice_get_within, get_or_from_slice_get}
use Rattle.base.specs.declared.file.FileName.{FileName}
use Rattle.base.specs.declared.graph.Entry.{Entry}
use Rattle.base.specs.declared.graph.BuiltFile.{BuiltFile}
use Rattle.base.specs.declared.child.Request.{Request}
use Rattle.base.specs.declared.child.MaybeText.TheVariants.{Given}
use Rattle.base.specs.Graphs.{IsGraph, IsEntryAt}
use Rattle.base.specs.Jobs.{built_bytes}
use Rattle.base.specs.PresentGraph.{below}
use Rattle.base.proofs.Below.{below-more}
use Rattle.outside.specs.Records.{Record}
use Rattle.outside.specs.Records.{IsRecorded}
use Rattle.testbench_runs.specs.declared.runs.TestRun.{TestRun}
use Rattle.testbench_runs.specs.BenchJobs.{bench_request}
use Rattle.child_test_request.specs.Written.{WrittenRun, begun_run, begun_run_input}
use Rattle.child_test_request.proofs.WrittenRuns.{written_bench}
use Rattle.run_tests.specs.Requests.{borrowed_file, borrowed_at, borrowed_files}

abbrev pub file_of : FileName → List ℕ → BuiltFile
file_of name artefact = record { name = name; artefact = artefact }

borrowed_from : (name : FileName) (latest : Option Record) (artefact : List ℕ) → option_map (λ (kept : Record). kept.artefact) latest ≡ Some artefact →
    option_map {U = BuiltFile} (λ (kept : Record). record { name = name; artefact = kept.artefact }) latest ≡ Some (record { name = name; artefact = artefact })
borrowed_from name None artefact h = let nothing : ⊥ = cc in absurd nothing
borrowed_from name (Some kept) artefact h = let same : kept.artefact ≡ artefact = cc in ap (λ (a : List ℕ). Some (file_of name a)) same

-- what the store lends for a file
pub borrowed_of : (latest_of : FileName → Option Record) (graph : List Entry) (position : ℕ) (entry : Entry) (artefact : List ℕ) → slice_get graph position ≡ Some entry →
    Some artefact ≡ option_map (λ (kept : Record). kept.artefact) (latest_of entry.name) → borrowed_at latest_of graph position ≡ Some (record { name = entry.name; artefact = artefact })
unfolding borrowed_at
borrowed_of latest_of graph position entry artefact at is = ap (option_and_then (borrowed_file latest_of)) at ∙ borrowed_from entry.name (latest_of entry.name) artefact (sym is)

pub recorded_borrowed : (latest_of : FileName → Option Record) (graph : List Entry) (position : ℕ) → IsRecorded latest_of graph position → (file : BuiltFile) × (borrowed_at latest_of graph position ≡ Some file)
recorded_borrowed latest_of graph position recorded =
    (record { name = recorded.entry.name; artefact = recorded.artefact }, borrowed_of latest_of graph position recorded.entry recorded.artefact recorded.is_entry (sym (ap (option_map (λ (kept : Record). kept.artefact)) recorded.is)))

-- the name of the file at a position has the form of one
pub entry_is : (graph : List Entry) (position : ℕ) (entry : Entry) → IsGraph graph → slice_get graph position ≡ Some entry → IsEntryAt graph position entry
entry_is graph position entry is at = subst (IsEntryAt graph position) (get_or_from_slice_get graph position entry entry at) (is.each position entry (slice_get_within graph position entry at))

module _ (latest_of : FileName → Option Record) (graph : List Entry) where
  abbrev borrowed : List ℕ → List BuiltFile
  borrowed = filter_map (borrowed_at latest_of graph)

  -- one file more
  pub borrowed_more : (at : ℕ) → borrowed (below (at + 1)) ≡ borrowed (below at) ++ borrowed (at ∷ [])
  borrowed_more at = ap borrowed (below-more at) ∙ filter_map-append (borrowed_at latest_of graph) (below at) (at ∷ [])

  pub borrowed_one : (at : ℕ) → IsRecorded latest_of graph at → length (borrowed (at ∷ [])) ≡ 1
  borrowed_one at recorded = let file = recorded_borrowed latest_of graph at recorded in ap (λ (o : Option BuiltFile). length (cons_option o [])) file.1

  -- the request that was written over all files
  pub borrowed_request : (request : Request) (run : TestRun) (simulator : List (List ℕ)) (written begun : WrittenRun) (count number : ℕ) → begun ≡ begun_run run simulator number → count ≡ length graph → number ≡ length graph → length (borrowed (below count)) ≡ count →
      request.command ≡ written.command → request.input ≡ written.input → request.results ≡ Given written.results → written.command ≡ begun.command → written.results ≡ begun.results →
      written.input ≡ begun.input ++ flat_map built_bytes (borrowed (below count)) → request ≡ bench_request run simulator (borrowed_files latest_of graph)
  borrowed_request request run simulator written begun count number begins is all_of each words input results command path bytes =
      let files : List BuiltFile = borrowed (below count) in
      let all : take (length files) files ≡ files = take_all (length files) files (omega arith) in
      written_bench request run simulator files files written (length files) refl (omega arith) words input results (command ∙ ap (λ (w : WrittenRun). w.command) begins) (path ∙ ap (λ (w : WrittenRun). w.results) begins)
      (bytes ∙ ap (λ (w : WrittenRun). w.input ++ flat_map built_bytes files) begins ∙ ap (λ (n : ℕ). begun_run_input run n ++ flat_map built_bytes files) (all_of ∙ sym is ∙ sym each)
      ∙ ap (λ (l : List BuiltFile). begun_run_input run (length files) ++ flat_map built_bytes l) (sym all))
      ∙ ap (λ (n : ℕ). bench_request run simulator (borrowed (below n))) is
