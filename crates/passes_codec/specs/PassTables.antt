-- The texts, lists of built files and passes of payloads, taken up one after the other.
use Rattle.std.specs.Prelude.{◌≡◌, ◌≢◌, ℕ, ◌<◌, ◌≤◌, nat_le, nat_lt, Bool, true, false, not, ◌&&◌, List, [], ◌∷◌, ◌++◌, length, slice_index_or, sum_by, AllPairs, if◌then◌else◌}
use Rattle.std.specs.List.{fold, list_any}
use Rattle.std.specs.Option.{option_map_or}
use Rattle.std.specs.Cmp.Lexicographic.{pointwise}
use Rattle.base.specs.Names.{FitsCommand}
use Rattle.base.specs.declared.graph.BuiltFile.{BuiltFile}
use Rattle.base.specs.declared.limits.TheConstants.{ARTEFACT_LIMIT, CASE_LIMIT, FILE_LIMIT, PATH_LIMIT, TEXT_LIMIT}
use Rattle.base_bytes.specs.Sizes.{has_command_sizes, has_name_sizes}
use Rattle.base_bytes.specs.TextRefs.{is_text_ref, told_text, with_text}
use Rattle.testbench_runs.specs.declared.runs.TestRun.{TestRun}
use Rattle.testbench_runs.specs.declared.ends.TheConstants.{SHOWN_LIMIT}
use Rattle.testbench_runs.specs.Runs.{FitsRun}
use Rattle.passes_spec.specs.Passes.{Pass}
use Rattle.passes_spec.specs.KnownRuns.{is_same_file}
use Rattle.passes_codec.specs.Forms.{FileDraft, ListRef, PassDraft, pass_in}
use Rattle.passes_codec.specs.Forms.ListRef.{KnownList, NewList}

-- texts and lists, numbered from 0 as they come, and passes
pub record PassTable : Type 0 where
  pub texts : List (List ℕ)
  pub lists : List (List BuiltFile)
  pub passes : List Pass

-- the table of no payload
abbrev pub bare_table : PassTable
bare_table = record { texts = []; lists = []; passes = [] }

-- ## Lists

-- the files of a new list, where a number may be of a new text of an earlier file
unfoldable pub drafted_files : List (List ℕ) → List FileDraft → List BuiltFile
drafted_files texts [] = []
drafted_files texts (file ∷ files) = record { name = file.name; artefact = told_text texts file.artefact } ∷ drafted_files (with_text texts file.artefact) files

-- the texts, with the new artefacts of a new list at the end
unfoldable pub with_list_texts : List (List ℕ) → List FileDraft → List (List ℕ)
with_list_texts texts [] = texts
with_list_texts texts (file ∷ files) = with_list_texts (with_text texts file.artefact) files

-- a file of a new list is valid: its name and artefact are within their limits, and its artefact is in the table or new
abbrev pub is_listed_file : List (List ℕ) → FileDraft → Bool
is_listed_file texts file = has_name_sizes file.name && (is_text_ref texts file.artefact && nat_le (length (told_text texts file.artefact)) ARTEFACT_LIMIT)

-- files of a new list are valid, each over the texts and the new artefacts of earlier files
unfoldable pub are_listed_files : List (List ℕ) → List FileDraft → Bool
are_listed_files texts [] = true
are_listed_files texts (file ∷ files) = is_listed_file texts file && are_listed_files (with_text texts file.artefact) files

-- the same files, in the same order
abbrev pub is_same_list : List BuiltFile → List BuiltFile → Bool
is_same_list a b = pointwise is_same_file a b

-- a list by its number is in the table; a new list has at most 4,096 valid files, and is not in the table yet
unfoldable pub is_list_ref : PassTable → ListRef → Bool
is_list_ref table (KnownList number) = nat_lt number (length table.lists)
is_list_ref table (NewList files) = nat_le (length files) FILE_LIMIT && (are_listed_files table.texts files && not (list_any (is_same_list (drafted_files table.texts files)) table.lists))

-- the files of a list
abbrev pub told_list : PassTable → ListRef → List BuiltFile
told_list table (KnownList number) = slice_index_or table.lists number []
told_list table (NewList files) = drafted_files table.texts files

-- the texts, with the new artefacts of a list at the end; an earlier list adds nothing
abbrev pub with_texts_of : List (List ℕ) → ListRef → List (List ℕ)
with_texts_of texts (KnownList number) = texts
with_texts_of texts (NewList files) = with_list_texts texts files

-- the lists, with a new list at the end
abbrev pub with_list : PassTable → ListRef → List (List BuiltFile)
with_list table (KnownList number) = table.lists
with_list table (NewList files) = table.lists ++ drafted_files table.texts files ∷ []

-- ## Passes

-- the sizes of a run are within their limits
unfoldable pub has_run_sizes : TestRun → Bool
has_run_sizes run =
    nat_le (length run.library) TEXT_LIMIT && (nat_le (length run.bench) TEXT_LIMIT && (nat_le (length run.architecture) TEXT_LIMIT && (nat_le (length run.cases) CASE_LIMIT && (nat_le (sum_by (λ name. length name) run.cases) TEXT_LIMIT && nat_le (length run.path) PATH_LIMIT))))

-- A spelled pass is valid: its run, words, list and output are within their limits, and its list is in the table or new.
unfoldable pub is_valid_pass : PassTable → PassDraft → Bool
is_valid_pass table draft = has_run_sizes draft.run && (has_command_sizes draft.simulator && (is_list_ref table draft.list && nat_le (length draft.output) SHOWN_LIMIT))

-- the pass of a spelled pass
abbrev pub drafted_pass : PassTable → PassDraft → Pass
drafted_pass table draft = record { run = draft.run; simulator = draft.simulator; built = told_list table draft.list; output = draft.output }

-- the table with one more pass, its list and the artefacts of that list, if these are new
abbrev pub with_pass : PassTable → PassDraft → PassTable
with_pass table draft = record { texts = with_texts_of table.texts draft.list; lists = with_list table draft.list; passes = table.passes ++ drafted_pass table draft ∷ [] }

-- the table after one more spelled pass, which adds nothing unless it is valid
abbrev pub with_draft : PassTable → PassDraft → PassTable
with_draft table draft = if is_valid_pass table draft then with_pass table draft else table

-- the table after one more payload; bytes that spell no pass add nothing
unfoldable pub after_pass_payload : PassTable → List ℕ → PassTable
after_pass_payload table bytes = option_map_or (with_draft table) (pass_in bytes) table

-- the table of payloads, taken up in order
unfoldable pub pass_table_of : List (List ℕ) → PassTable
pass_table_of payloads = fold after_pass_payload bare_table payloads

-- the passes that payloads stand for, in order
abbrev pub passes_among : List (List ℕ) → List Pass
passes_among payloads = (pass_table_of payloads).passes

-- ## The same as records

-- A list is valid on a table: its number is that of a list, or it is new, small and not in the table yet.
abbrev pub IsListRef : PassTable → ListRef → Type 0
IsListRef table (KnownList number) = number < length table.lists
IsListRef table (NewList files) = (length files ≤ FILE_LIMIT) × (are_listed_files table.texts files ≡ true) × (list_any (is_same_list (drafted_files table.texts files)) table.lists ≡ false)

-- A spelled pass is valid on a table: its parts are within their limits, and its list is in the table or new.
pub record IsValidPass (table : PassTable) (draft : PassDraft) : Type 0 where
  pub run : FitsRun draft.run
  pub simulator : FitsCommand draft.simulator
  pub list : IsListRef table draft.list
  pub output : length draft.output ≤ SHOWN_LIMIT

-- No text occurs twice, and no list does.
pub record AreNumberedOnce (table : PassTable) : Type 0 where
  pub texts : AllPairs (λ a b. a ≢ b) table.texts
  pub lists : AllPairs (λ a b. a ≢ b) table.lists
