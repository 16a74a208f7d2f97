-- The clean build of a graph: each file compiled in order, over the artefacts of the files that it depends on.
use Rattle.std.specs.Prelude.{◌≡◌, ℕ, Bool, true, ◌==◌, if◌then◌else◌, List, [], ◌∷◌, ◌++◌, slice_get, Option, Some, None, is_some}
use Rattle.std.specs.Option.{option_and_then}
use Rattle.std.specs.List.{list_all, filter_map}
use Rattle.base.specs.declared.graph.Entry.{Entry}
use Rattle.base.specs.declared.graph.BuiltFile.{BuiltFile}
use Rattle.base.specs.declared.child.Request.{Request}
use Rattle.base.specs.declared.child.Exit.{Exit}
use Rattle.base.specs.Jobs.{compile_request}

-- the result of a file: it was made, it was refused, or a file that it depends on isn't made
pub data Result : Type 0 where
  Made : BuiltFile → Result
  Refused : ℕ → List ℕ → Result
  Blocked : Result

-- the file that was made with its artefact; nothing where it was refused or blocked
abbrev pub built_of : Option Result → Option BuiltFile
built_of (Some (Made file)) = Some file
built_of (Some (Refused code output)) = None
built_of (Some Blocked) = None
built_of None = None

-- the files that an entry depends on and that are made, with their artefacts
abbrev pub built_below : List Result → Entry → List BuiltFile
built_below results entry = filter_map (λ dep. built_of (slice_get results dep)) entry.deps

-- what an exit says of a file
abbrev pub result_of : Entry → Exit → Result
result_of entry exit = if exit.code == 0 then Made (record { name = entry.name; artefact = exit.output }) else Refused exit.code exit.output

-- whether all that an entry depends on is made
abbrev pub is_free : List Result → Entry → Bool
is_free results entry = list_all (λ dep. is_some (built_of (slice_get results dep))) entry.deps

-- the result of one more file, over the results so far
abbrev pub next_result : (Request → Exit) → List Result → Entry → Result
next_result answer results entry = if is_free results entry then result_of entry (answer (compile_request entry (built_below results entry))) else Blocked

-- the results so far, followed by those of the remaining files, in order
unfoldable pub results_after : (Request → Exit) → List Result → List Entry → List Result
results_after answer results [] = results
results_after answer results (entry ∷ entries) = results_after answer (results ++ next_result answer results entry ∷ []) entries

-- What a compiler that answers so makes of each file of a graph, in order, where nothing is recorded. A file is compiled where
-- all that it depends on is made.
abbrev pub clean_build : (Request → Exit) → List Entry → List Result
clean_build answer graph = results_after answer [] graph

-- what a clean build asks of the compiler for the file at a position; nothing where a file below it isn't made
abbrev pub clean_request : (Request → Exit) → List Entry → ℕ → Option Request
clean_request answer graph position =
    option_and_then (λ entry. if is_free (clean_build answer graph) entry then Some (compile_request entry (built_below (clean_build answer graph) entry)) else None) (slice_get graph position)

-- what a current record gives of each file, over what a clean build makes below it, is what a clean build makes of it
abbrev pub RecordsClean : (Request → Exit) → List Entry → (ℕ → List BuiltFile → Option (List ℕ)) → Type 0
RecordsClean answer graph current =
    (position : ℕ) (artefact : List ℕ) (entry : Entry) → slice_get graph position ≡ Some entry → is_free (clean_build answer graph) entry ≡ true → current position (built_below (clean_build answer graph) entry) ≡ Some artefact →
    slice_get (clean_build answer graph) position ≡ Some (Made (record { name = entry.name; artefact = artefact }))
