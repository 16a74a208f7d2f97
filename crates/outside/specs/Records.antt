-- Records of compiled files: what a compiler was asked and the artefact that it gave, and the latest record of a name.
-- Also which files have a record of the request that would be made for them now.
use Rattle.std.specs.Prelude.{◌≡◌, ◌⊎◌, ℕ, Bool, List, [], ◌∷◌, map, slice_get, All, Option, Some, None, Result, Ok, Err, if◌then◌else◌}
use Rattle.std.specs.Option.{option_or, option_map_or}
use Rattle.std.specs.List.{list_any}
use Rattle.base.specs.declared.child.MaybeText.TheVariants.{Nothing}
use Rattle.base.specs.declared.child.Request.{Request}
use Rattle.base.specs.declared.file.FileName.{FileName}
use Rattle.base.specs.declared.graph.BuiltFile.{BuiltFile}
use Rattle.base.specs.declared.graph.Entry.{Entry}
use Rattle.base.specs.declared.memory.DiskFailed.{DiskFailed}
use Rattle.base.specs.Jobs.{compile_input}
use Rattle.base.specs.Names.{is_same_name}
use Rattle.outside.specs.Disks.{DiskState, Image, IsImage}

-- What a compiler is asked: the command, the file's name and its text. `below` has the dependencies of the file with
-- their artefacts, in graph order.
pub record Asked : Type 0 where
  pub command : List (List ℕ)
  pub name : FileName
  pub text : List ℕ
  pub below : List BuiltFile

-- what a compiler was asked, and the artefact that it gave
pub record Record : Type 0 where
  pub asked : Asked
  pub artefact : List ℕ

-- the request that asks so
abbrev pub request_of : Asked → Request
request_of asked = record { command = asked.command; input = compile_input asked.name asked.text asked.below; results = Nothing }

-- what a compiler is asked for a file of a graph, given the built files that it depends on
abbrev pub asked_of : Entry → List BuiltFile → Asked
asked_of entry built = record { command = entry.command; name = entry.name; text = entry.text; below = built }

-- the file and the artefact of a record
abbrev pub built_of_record : Record → BuiltFile
built_of_record kept = record { name = kept.asked.name; artefact = kept.artefact }

-- the request compiles this name
abbrev pub is_of : FileName → Record → Bool
is_of name kept = is_same_name kept.asked.name name

-- the last record whose request compiles a name
unfoldable pub latest : FileName → List Record → Option Record
latest name [] = None
latest name (first ∷ rest) = option_or (latest name rest) (if is_of name first then Some first else None)

-- a later record has the same name
abbrev pub is_replaced : List Record → Record → Bool
is_replaced later kept = list_any (is_of kept.asked.name) later

-- the latest record of each name, in the order in which they came
unfoldable pub latest_alone : List Record → List Record
latest_alone [] = []
latest_alone (first ∷ rest) = if is_replaced rest first then latest_alone rest else first ∷ latest_alone rest

-- all the records, or the latest alone
abbrev pub IsAllOrLatest : List Record → List Record → Type 0
IsAllOrLatest before now = (now ≡ before) ⊎ (now ≡ latest_alone before)

-- An image has the records of an image of a disk, or the latest of these alone.
pub record HasRecordsOf (records_of : Image → List Record) (disk : DiskState) (image : Image) : Type 0 where
  pub before : Image
  pub was : IsImage disk before
  pub kept : IsAllOrLatest (records_of before) (records_of image)

-- the positions that the file at a position depends on, and none past the end
abbrev pub deps_at : List Entry → ℕ → List ℕ
deps_at graph at = option_map_or (λ entry. entry.deps) (slice_get graph at) []

-- a built file without name and artefact, for positions past the end
abbrev pub no_built : BuiltFile
no_built = record { name = record { library = []; path = [] }; artefact = [] }

-- a file of a graph as its latest record built it
abbrev pub latest_built : (FileName → Option Record) → List Entry → ℕ → BuiltFile
latest_built latest_of graph at = option_map_or (λ entry. option_map_or built_of_record (latest_of entry.name) no_built) (slice_get graph at) no_built

-- a file of a graph has a record
pub record HasLatest (latest_of : FileName → Option Record) (graph : List Entry) (at : ℕ) : Type 0 where
  pub entry : Entry
  pub is_entry : slice_get graph at ≡ Some entry
  pub kept : Record
  pub is : latest_of entry.name ≡ Some kept

-- what would be asked now for a file: the artefacts below it are those of the latest records
abbrev pub asked_now : (FileName → Option Record) → List Entry → Entry → Asked
asked_now latest_of graph entry = asked_of entry (map (latest_built latest_of graph) entry.deps)

-- The latest record of a file has what would be asked for it now, and this artefact; and each file below it has a
-- record.
pub record IsRecorded (latest_of : FileName → Option Record) (graph : List Entry) (at : ℕ) : Type 0 where
  pub entry : Entry
  pub is_entry : slice_get graph at ≡ Some entry
  pub built : All (HasLatest latest_of graph) entry.deps
  pub artefact : List ℕ
  pub is : latest_of entry.name ≡ Some (record { asked = asked_now latest_of graph entry; artefact = artefact })

-- the latest record of each name, with one more record
abbrev pub with_record : Record → (FileName → Option Record) → FileName → Option Record
with_record new latest_of name = if is_of name new then Some new else latest_of name

-- the latest records after a commit: with the new one where it answered Ok, and else unchanged
abbrev pub after_commit : {T : Type 0} → Result T DiskFailed → Record → (FileName → Option Record) → FileName → Option Record
after_commit (Ok value) new latest_of = with_record new latest_of
after_commit (Err fault) new latest_of = latest_of
