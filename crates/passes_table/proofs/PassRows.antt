-- What rows of numbers stand for over lists that begin with others.
use Rattle.std.proofs.Common.{◌≡◌, ℕ, ◌≤◌, List, [], length, map, get_or, sym, ap, subst, ◌∙◌, arith, false}
use Rattle.std.specs.Prelude.{All}
use Rattle.base.specs.declared.file.FileName.{FileName}
use Rattle.base.specs.declared.graph.BuiltFile.{BuiltFile}
use Rattle.base_bytes.specs.Ranges.{counted_words, ranged}
use Rattle.base_bytes.specs.declared.ranges.ByteRange.{ByteRange}
use Rattle.testbench_runs.specs.declared.ends.TheConstants.{SHOWN_LIMIT}
use Rattle.store_table.specs.Located.{IsProductRow, nth_payload}
use Rattle.store_table.proofs.Keeping.{Keeps, map_same, products_still}
use Rattle.passes_spec.specs.Passes.{Pass}
use Rattle.passes_codec.specs.PassTables.{PassTable}
use Rattle.passes_codec.specs.Ranges.{run_in_ranges}
use Rattle.passes_table.specs.declared.lists.ListRow.{ListRow}
use Rattle.passes_table.specs.declared.table.PassRow.{PassRow}
use Rattle.passes_table.specs.Located.{IsListRow, IsPassRow, listed_files, passes_by, row_fingerprint, row_pass}
use Rattle.passes_table.specs.Fingerprints.{tests_fingerprint}

pub no_list : ListRow
no_list = record { files = [] }

no_range : ByteRange
no_range = record { start = 0; count = 0 }

pub no_row : PassRow
no_row = record { payload = 0; run = record { library = no_range; bench = no_range; architecture = no_range; path = no_range; cases = no_range; whole = false; same_sim = false }; simulator = no_range; list = 0; output = no_range }

-- a pass of its parts
abbrev made : List ℕ → List BuiltFile → PassRow → Pass
made bytes built row = record { run = run_in_ranges bytes row.run; simulator = counted_words bytes row.simulator; built = built; output = ranged bytes row.output }

module _ (names names' : List FileName) (texts texts' : List (List ℕ)) (n : Keeps names names') (t : Keeps texts texts') where
  pub list_row_still : (list : ListRow) → IsListRow names texts list → IsListRow names' texts' list
  list_row_still list are k d l = (let is : IsProductRow names texts (get_or list.files k d) = are k d l in record { name = omega (arith, is.name, n.longer); text = omega (arith, is.text, t.longer) })

  pub list_rows_still : (lists : List ListRow) → All (IsListRow names texts) lists → All (IsListRow names' texts') lists
  list_rows_still lists are k d l = list_row_still (get_or lists k d) (are k d l)

  pub lists_still : (lists : List ListRow) → All (IsListRow names texts) lists → map (listed_files names' texts') lists ≡ map (listed_files names texts) lists
  lists_still lists are =
      map_same (listed_files names' texts') (listed_files names texts) lists no_list (λ k l. products_still names names' texts texts' (get_or lists k no_list).files n t (are k no_list l))

module _ (payloads payloads' : List (List ℕ)) (q : Keeps payloads payloads') where
  pub row_still : (rows : List ListRow) (lists lists' : List (List BuiltFile)) (row : PassRow) → Keeps lists lists' → length lists ≡ length rows → IsPassRow payloads rows row → row_pass payloads' lists' row ≡ row_pass payloads lists row
  row_still rows lists lists' row l size is =
      ap (λ (bytes : List ℕ). made bytes (get_or lists' row.list []) row) (q.same row.payload [] is.payload) ∙ ap (λ (built : List BuiltFile). made (nth_payload payloads row.payload) built row) (l.same row.list [] (omega (arith, is.list, size)))

  pub rows_still : (lists : List ListRow) (built built' : List (List BuiltFile)) (rows : List PassRow) → Keeps built built' → length built ≡ length lists → All (IsPassRow payloads lists) rows → map (row_pass payloads' built') rows ≡ map (row_pass payloads built) rows
  rows_still lists built built' rows l size are =
      map_same (row_pass payloads' built') (row_pass payloads built) rows no_row (λ k low. row_still lists built built' (get_or rows k no_row) l size (are k no_row low))

  pub pass_row_still : (lists lists' : List ListRow) (row : PassRow) → length lists ≤ length lists' → IsPassRow payloads lists row → IsPassRow payloads' lists' row
  pass_row_still lists lists' row more is = record {
    payload = omega (arith, is.payload, q.longer);
    list = omega (arith, is.list, more);
    small = subst (λ (bytes : List ℕ). length (ranged bytes row.output) ≤ SHOWN_LIMIT) (sym (q.same row.payload [] is.payload)) is.small;
  }

  pub pass_rows_still : (lists lists' : List ListRow) (rows : List PassRow) → length lists ≤ length lists' → All (IsPassRow payloads lists) rows → All (IsPassRow payloads' lists') rows
  pass_rows_still lists lists' rows more are k d l = pass_row_still lists lists' (get_or rows k d) more (are k d l)

  pub fingerprints_still : (lists : List ListRow) (rows : List PassRow) → All (IsPassRow payloads lists) rows → map (row_fingerprint payloads') rows ≡ map (row_fingerprint payloads) rows
  fingerprints_still lists rows are =
      map_same (row_fingerprint payloads') (row_fingerprint payloads) rows no_row
      (λ k l. ap (λ (bytes : List ℕ). tests_fingerprint (run_in_ranges bytes (get_or rows k no_row).run) (counted_words bytes (get_or rows k no_row).simulator)) (q.same (get_or rows k no_row).payload [] (are k no_row l).payload))

abbrev table_of : List (List ℕ) → List (List BuiltFile) → List Pass → PassTable
table_of texts lists passes = record { texts = texts; lists = lists; passes = passes }

-- the same texts and lists of more names
pub names_same : (payloads : List (List ℕ)) (names names' : List FileName) (texts : List (List ℕ)) (lists : List ListRow) (rows : List PassRow) → map (listed_files names' texts) lists ≡ map (listed_files names texts) lists → passes_by payloads names' texts lists rows ≡ passes_by payloads names texts lists rows
names_same payloads names names' texts lists rows e = ap (λ (ls : List (List BuiltFile)). table_of texts ls (map (row_pass payloads ls) rows)) e
