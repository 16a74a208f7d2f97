-- Payloads of passes as bytes: which pass bytes spell, and the bytes of a pass.
use Rattle.std.specs.Prelude.{ℕ, ◌<◌, ◌^◌, Bool, true, false, List, [], ◌∷◌, ◌++◌, ◌==◌, length, All, Option, Some, None, if◌then◌else◌}
use Rattle.std.specs.Int.{w64, to_le_bytes}
use Rattle.std.specs.List.{flat_map}
use Rattle.base.specs.declared.file.FileName.{FileName}
use Rattle.base.specs.Bytes.{number_bytes, text_bytes}
use Rattle.base.specs.Jobs.{name_bytes}
use Rattle.base_bytes.specs.Reading.{◌>>=◌, number_at, text_at, counted_at}
use Rattle.base_bytes.specs.Names.{HasNameSpelling, name_at}
use Rattle.base_bytes.specs.Ranges.{byte_at, read_whole}
use Rattle.base_bytes.specs.TextRefs.{TextRef, text_ref_at}
use Rattle.store_codec.specs.Forms.{HasRefSpelling, text_ref_bytes}
use Rattle.testbench_runs.specs.declared.runs.TestRun.{TestRun}
use Rattle.testbench_runs.specs.BenchJobs.{texts_bytes}

-- the form number of sides that hold payloads of passes
abbrev pub pass_form : ℕ
pass_form = 5

-- a spelled built file: its name, and its artefact by number or in full
pub record FileDraft : Type 0 where
  pub name : FileName
  pub artefact : TextRef

-- a list of built files: an earlier one by its number, or a new one
pub data ListRef : Type 0 where
  KnownList : (number : ℕ) → ListRef
  NewList : (files : List FileDraft) → ListRef

-- a spelled pass: its run, the words of its simulator, its list of built files, and its output
pub record PassDraft : Type 0 where
  pub run : TestRun
  pub simulator : List (List ℕ)
  pub list : ListRef
  pub output : List ℕ

-- ## What bytes spell

-- false for the byte 0, true for 1, and nothing for any other
abbrev pub flag_of : ℕ → Option Bool
flag_of byte = if byte == 0 then Some false else (if byte == 1 then Some true else None)

-- a byte 0 or 1; and the bytes after it
unfoldable pub flag_at : List ℕ → Option (Bool × List ℕ)
flag_at bytes = do
  byte ← byte_at bytes
  flag ← flag_of byte.0
  Some (flag, byte.1)

-- a run: library, bench, architecture, path, the cases after their count, and two flags; and the bytes after it
unfoldable pub run_at : List ℕ → Option (TestRun × List ℕ)
run_at bytes = do
  library ← text_at bytes
  bench ← text_at library.1
  architecture ← text_at bench.1
  path ← text_at architecture.1
  cases ← counted_at text_at path.1
  whole ← flag_at cases.1
  same_sim ← flag_at whole.1
  Some (record { library = library.0; bench = bench.0; architecture = architecture.0; cases = cases.0; whole = whole.0; same_sim = same_sim.0; path = path.0 }, same_sim.1)

-- a file of a list: its name and its artefact; and the bytes after it
unfoldable pub file_at : List ℕ → Option (FileDraft × List ℕ)
file_at bytes = do
  name ← name_at bytes
  artefact ← text_ref_at name.1
  Some (record { name = name.0; artefact = artefact.0 }, artefact.1)

-- a list by its number: eight bytes, the low one first; and the bytes after it
unfoldable pub known_list_at : List ℕ → Option (ListRef × List ℕ)
known_list_at bytes = do
  number ← number_at w64 bytes
  Some (KnownList number.0, number.1)

-- a new list: its files after their count; and the bytes after it
unfoldable pub new_list_at : List ℕ → Option (ListRef × List ℕ)
new_list_at bytes = do
  files ← counted_at file_at bytes
  Some (NewList files.0, files.1)

-- a list after its tag: its number after 0, or a new list after 1; and the bytes after it
unfoldable pub list_ref_by : ℕ → List ℕ → Option (ListRef × List ℕ)
list_ref_by tag bytes = if tag == 0 then known_list_at bytes else (if tag == 1 then new_list_at bytes else None)

-- a tag, and the list that it stands for; and the bytes after it
unfoldable pub list_ref_at : List ℕ → Option (ListRef × List ℕ)
list_ref_at bytes = do
  tag ← byte_at bytes
  list_ref_by tag.0 tag.1

-- the pass that all of these bytes spell, if they spell one: a run, the words of its simulator, a list and the output
unfoldable pub pass_in : List ℕ → Option PassDraft
pass_in bytes = do
  run ← run_at bytes
  simulator ← counted_at text_at run.1
  list ← list_ref_at simulator.1
  output ← text_at list.1
  read_whole (record { run = run.0; simulator = simulator.0; list = list.0; output = output.0 }, output.1)

-- ## How a pass is spelled

-- the byte of a flag
abbrev pub flag_byte : Bool → ℕ
flag_byte true = 1
flag_byte false = 0

-- the bytes of a run
unfoldable pub run_bytes : TestRun → List ℕ
run_bytes run = text_bytes run.library ++ (text_bytes run.bench ++ (text_bytes run.architecture ++ (text_bytes run.path ++ (texts_bytes run.cases ++ (flag_byte run.whole ∷ flag_byte run.same_sim ∷ [])))))

-- the bytes of a file of a list
unfoldable pub file_bytes : FileDraft → List ℕ
file_bytes file = name_bytes file.name ++ text_ref_bytes file.artefact

-- the bytes of the files of a list: their count, and each file
unfoldable pub files_bytes : List FileDraft → List ℕ
files_bytes files = number_bytes (length files) ++ flat_map file_bytes files

-- the bytes of a list: 0 and its number in eight bytes, or 1 and its files
unfoldable pub list_ref_bytes : ListRef → List ℕ
list_ref_bytes (KnownList number) = 0 ∷ to_le_bytes w64 number
list_ref_bytes (NewList files) = 1 ∷ files_bytes files

-- the bytes of a pass
unfoldable pub pass_bytes : PassDraft → List ℕ
pass_bytes draft = run_bytes draft.run ++ (texts_bytes draft.simulator ++ (list_ref_bytes draft.list ++ text_bytes draft.output))

-- ## What can be spelled

-- A run can be spelled: the length of each text and the count of its cases are below 2^32.
pub record HasRunSpelling (run : TestRun) : Type 0 where
  pub library : length run.library < 2 ^ 32
  pub bench : length run.bench < 2 ^ 32
  pub architecture : length run.architecture < 2 ^ 32
  pub path : length run.path < 2 ^ 32
  pub few : length run.cases < 2 ^ 32
  pub cases : All (λ name. length name < 2 ^ 32) run.cases

-- A file of a list can be spelled.
pub record HasFileSpelling (file : FileDraft) : Type 0 where
  pub name : HasNameSpelling file.name
  pub artefact : HasRefSpelling file.artefact

-- a list can be spelled: its number is below 2^64, or the count of its files below 2^32, and each of these can
abbrev pub HasListSpelling : ListRef → Type 0
HasListSpelling (KnownList number) = number < 2 ^ 64
HasListSpelling (NewList files) = (length files < 2 ^ 32) × All HasFileSpelling files

-- A pass can be spelled: each part fits the bytes of its length, number or count.
pub record HasPassSpelling (draft : PassDraft) : Type 0 where
  pub run : HasRunSpelling draft.run
  pub count : length draft.simulator < 2 ^ 32
  pub words : All (λ word. length word < 2 ^ 32) draft.simulator
  pub list : HasListSpelling draft.list
  pub output : length draft.output < 2 ^ 32
