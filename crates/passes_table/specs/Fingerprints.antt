-- Numbers by which lists and tests are told apart in most cases: equal ones have equal numbers.
use Rattle.std.specs.Prelude.{ℕ, ◌+◌, ◌*◌, ◌%◌, ◌^◌, List}
use Rattle.std.specs.List.{fold}
use Rattle.base_collections.specs.Fingerprints.{fingerprint_of}
use Rattle.testbench_runs.specs.declared.runs.TestRun.{TestRun}
use Rattle.store_table.specs.declared.products.ProductRow.{ProductRow}
use Rattle.passes_table.specs.declared.fingerprints.TheConstants.{FACTOR}

-- a fingerprint with one more number joined to it
unfoldable pub joined : ℕ → ℕ → ℕ
joined fingerprint number = (fingerprint * FACTOR % 2 ^ 64 + number) % 2 ^ 64

-- a fingerprint with the fingerprint of a text joined to it
abbrev pub with_text_fingerprint : ℕ → List ℕ → ℕ
with_text_fingerprint fingerprint text = joined fingerprint (fingerprint_of text)

-- a fingerprint with the fingerprints of texts joined to it, in order
abbrev pub with_text_fingerprints : ℕ → List (List ℕ) → ℕ
with_text_fingerprints fingerprint texts = fold with_text_fingerprint fingerprint texts

-- the fingerprint of the tests of a run with a simulator: library, bench, cases and the simulator's words
unfoldable pub tests_fingerprint : TestRun → List (List ℕ) → ℕ
tests_fingerprint run simulator = with_text_fingerprints (with_text_fingerprints (with_text_fingerprint (with_text_fingerprint 0 run.library) run.bench) run.cases) simulator

-- a fingerprint with the two numbers of a row joined to it
abbrev pub with_row_fingerprint : ℕ → ProductRow → ℕ
with_row_fingerprint fingerprint row = joined (joined fingerprint row.name) row.text

-- the fingerprint of the rows of a list
unfoldable pub rows_fingerprint : List ProductRow → ℕ
rows_fingerprint rows = fold with_row_fingerprint 0 rows
