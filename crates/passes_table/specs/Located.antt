-- Texts, lists of built files and passes as indices in payloads.
use Rattle.std.specs.Prelude.{◌≡◌, ◌≢◌, ℕ, ◌<◌, ◌≤◌, List, [], ◌++◌, length, map, All, AllPairs, slice_index_or}
use Rattle.std.specs.Vec.{vec_len, vec_capacity}
use Rattle.base.specs.declared.file.FileName.{FileName}
use Rattle.base.specs.declared.graph.BuiltFile.{BuiltFile}
use Rattle.base_bytes.specs.Ranges.{counted_words, ranged}
use Rattle.testbench_runs.specs.declared.ends.TheConstants.{SHOWN_LIMIT}
use Rattle.store_table.specs.Located.{AreTextsLocated, IsProductRow, located_texts, nth_payload, row_products, text_room}
use Rattle.passes_spec.specs.Passes.{Pass}
use Rattle.passes_codec.specs.PassTables.{PassTable, pass_table_of}
use Rattle.passes_codec.specs.Ranges.{run_in_ranges}
use Rattle.passes_table.specs.declared.lists.ListRow.{ListRow}
use Rattle.passes_table.specs.declared.table.PassRow.{PassRow}
use Rattle.passes_table.specs.declared.table.LocatedPasses.{LocatedPasses}
use Rattle.passes_table.specs.Fingerprints.{tests_fingerprint}

-- the built files of a list of rows
abbrev pub listed_files : List FileName → List (List ℕ) → ListRow → List BuiltFile
listed_files names texts list = row_products names texts list.files

-- the pass of a row, over lists of built files
abbrev pub row_pass : List (List ℕ) → List (List BuiltFile) → PassRow → Pass
row_pass payloads lists row = record { run = run_in_ranges (nth_payload payloads row.payload) row.run; simulator = counted_words (nth_payload payloads row.payload) row.simulator; built = slice_index_or lists row.list []; output = ranged (nth_payload payloads row.payload) row.output }

-- the fingerprint of the tests of a row
abbrev pub row_fingerprint : List (List ℕ) → PassRow → ℕ
row_fingerprint payloads row = tests_fingerprint (run_in_ranges (nth_payload payloads row.payload) row.run) (counted_words (nth_payload payloads row.payload) row.simulator)

-- what rows of numbers stand for
abbrev pub passes_by : List (List ℕ) → List FileName → List (List ℕ) → List ListRow → List PassRow → PassTable
passes_by payloads names texts lists rows = record { texts = texts; lists = map (listed_files names texts) lists; passes = map (row_pass payloads (map (listed_files names texts) lists)) rows }

-- the texts, lists and passes that are located in payloads
abbrev pub located_passes : List (List ℕ) → LocatedPasses → PassTable
located_passes payloads table = passes_by payloads table.names.keys (located_texts payloads table.texts) table.lists.keys table.rows.items

-- A list begins with another one.
pub record Extends {X : Type 0} (old new : List X) : Type 0 where
  pub more : List X
  pub grown : new ≡ old ++ more

-- the numbers of the files of a list are those of names and texts
abbrev pub IsListRow : List FileName → List (List ℕ) → ListRow → Type 0
IsListRow names texts list = All (IsProductRow names texts) list.files

-- The numbers of a pass are those of a payload and a list, and its output is small.
pub record IsPassRow (payloads : List (List ℕ)) (lists : List ListRow) (row : PassRow) : Type 0 where
  pub payload : row.payload < length payloads
  pub list : row.list < length lists
  pub small : length (ranged (nth_payload payloads row.payload) row.output) ≤ SHOWN_LIMIT

-- What is located is in payloads that are there, and passes are found by the fingerprints of their tests.
pub record ArePassesLocated (payloads : List (List ℕ)) (table : LocatedPasses) : Type 0 where
  pub texts : AreTextsLocated payloads table.texts
  pub lists : All (IsListRow table.names.keys (located_texts payloads table.texts)) table.lists.keys
  pub rows : All (IsPassRow payloads table.lists.keys) table.rows.items
  pub names_once : AllPairs (λ a b. a ≢ b) table.names.keys
  pub latest : table.latest.fingerprints ≡ map (row_fingerprint payloads) table.rows.items

-- The rows that are located in payloads have the table of these payloads.
pub record ArePassesHeld (payloads : List (List ℕ)) (table : LocatedPasses) : Type 0 where
  pub are : ArePassesLocated payloads table
  pub is : located_passes payloads table ≡ pass_table_of payloads

-- There is room for what one payload adds: `count` texts, a list, a row, and the fingerprint of its tests.
pub record HasPassRoom (count : ℕ) (table : LocatedPasses) : Type 0 where
  pub texts : count ≤ text_room table.texts
  pub list : 0 < table.lists.room
  pub row : vec_len table.rows < vec_capacity table.rows
  pub latest : 0 < table.latest.room
