-- How passes are spelled over a table, and the payloads that keep the last pass of the same tests.
use Rattle.std.specs.Prelude.{ℕ, ◌<◌, ◌≤◌, ◌^◌, List, [], ◌∷◌, length, All, Option, Some, None}
use Rattle.std.specs.List.{position}
use Rattle.base.specs.Names.{FitsCommand, FitsName}
use Rattle.base.specs.declared.graph.BuiltFile.{BuiltFile}
use Rattle.base.specs.declared.limits.TheConstants.{ARTEFACT_LIMIT, FILE_LIMIT}
use Rattle.store_codec.specs.Compaction.{compacted_ref, with_compacted_text}
use Rattle.testbench_runs.specs.declared.ends.TheConstants.{SHOWN_LIMIT}
use Rattle.testbench_runs.specs.Runs.{FitsRun}
use Rattle.passes_spec.specs.Passes.{Pass, last_passes}
use Rattle.passes_codec.specs.Forms.{FileDraft, ListRef, PassDraft, pass_bytes}
use Rattle.passes_codec.specs.Forms.ListRef.{KnownList, NewList}
use Rattle.passes_codec.specs.PassTables.{PassTable, bare_table, is_same_list, with_pass}

-- ## Passes as payloads

-- a list of built files as a new one: each artefact by its number if it is among the texts or of an earlier file, else in full
unfoldable pub spelled_files : List (List ℕ) → List BuiltFile → List FileDraft
spelled_files texts [] = []
spelled_files texts (file ∷ files) = record { name = file.name; artefact = compacted_ref texts file.artefact } ∷ spelled_files (with_compacted_text texts file.artefact) files

-- a list that has a number, or these files as a new one
abbrev pub list_or : Option ℕ → List FileDraft → ListRef
list_or (Some number) files = KnownList number
list_or None files = NewList files

-- a list of built files by its number if the table has it, and as a new one otherwise
abbrev pub spelled_list : PassTable → List BuiltFile → ListRef
spelled_list table built = list_or (position (λ other. is_same_list other built) table.lists) (spelled_files table.texts built)

-- the spelled form of a pass after the payloads of a table
abbrev pub spelled_pass : PassTable → Pass → PassDraft
spelled_pass table pass = record { run = pass.run; simulator = pass.simulator; list = spelled_list table pass.built; output = pass.output }

-- the table after these passes, in order
unfoldable pub with_passes : PassTable → List Pass → PassTable
with_passes table [] = table
with_passes table (pass ∷ passes) = with_passes (with_pass table (spelled_pass table pass)) passes

-- the payloads of some passes, in order, after the payloads of a table
unfoldable pub payloads_over : PassTable → List Pass → List (List ℕ)
payloads_over table [] = []
payloads_over table (pass ∷ passes) = pass_bytes (spelled_pass table pass) ∷ payloads_over (with_pass table (spelled_pass table pass)) passes

-- the payloads that keep the last pass of the same tests, and nothing else
unfoldable pub compacted_passes : List Pass → List (List ℕ)
compacted_passes passes = payloads_over bare_table (last_passes passes)

-- the table of these payloads
abbrev pub compacted_table : List Pass → PassTable
compacted_table passes = with_passes bare_table (last_passes passes)

-- ## Passes that can be spelled

-- A built file is within the limits.
pub record FitsBuilt (file : BuiltFile) : Type 0 where
  pub name : FitsName file.name
  pub artefact : length file.artefact ≤ ARTEFACT_LIMIT

-- The parts of a pass are within their limits.
pub record FitsPass (pass : Pass) : Type 0 where
  pub run : FitsRun pass.run
  pub simulator : FitsCommand pass.simulator
  pub few : length pass.built ≤ FILE_LIMIT
  pub files : All FitsBuilt pass.built
  pub output : length pass.output ≤ SHOWN_LIMIT

-- A table has so few texts and lists that eight bytes have room for each number.
pub record IsNumberable (table : PassTable) : Type 0 where
  pub texts : length table.texts ≤ 2 ^ 64
  pub lists : length table.lists ≤ 2 ^ 64
