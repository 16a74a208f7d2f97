-- Passes that are held, the list of files that tests run over, and what one more pass adds.
use Rattle.std.specs.Prelude.{◌≡◌, ⊤, ℕ, ◌-◌, ◌<◌, ◌≤◌, min, List, ◌++◌, length, Option, Some, None, slice_get}
use Rattle.std.specs.Vec.{vec_len, vec_capacity}
use Rattle.base.specs.declared.file.FileName.{FileName}
use Rattle.base.specs.declared.graph.BuiltFile.{BuiltFile}
use Rattle.testbench_runs.specs.declared.runs.TestRun.{TestRun}
use Rattle.store_table.specs.Located.{HeldList, located_texts}
use Rattle.passes_spec.specs.Passes.{Pass, last_pass}
use Rattle.passes_codec.specs.Forms.{ListRef, pass_in}
use Rattle.passes_codec.specs.Forms.ListRef.{KnownList, NewList}
use Rattle.passes_codec.specs.PassTables.{drafted_pass, pass_table_of, with_list_texts}
use Rattle.passes_codec.specs.Ranges.{list_in_range, pass_in_ranges}
use Rattle.passes_table.specs.declared.additions.PassAddition.{PassAddition}
use Rattle.passes_table.specs.declared.table.LocatedPasses.{LocatedPasses}
use Rattle.passes_table.specs.declared.pending.PendingList.{PendingList}
use Rattle.passes_table.specs.Additions.{IsAddition}
use Rattle.passes_table.specs.Located.{ArePassesHeld}
use Rattle.passes_table.specs.Pending.{IsPending}

-- Payloads in order; the files that tests run over; the names that are numbered; the artefacts of files that payloads lack; for how many
-- more payloads there is room, and for how many more texts.
pub record PassesState : Type 0 where
  pub payloads : List (List ℕ)
  pub built : List BuiltFile
  pub names : List FileName
  pub fresh : List (List ℕ)
  pub room : ℕ
  pub text_room : ℕ

-- the least room of the lists and tables that a payload adds to, but for its texts
abbrev pub passes_room : HeldList → LocatedPasses → ℕ
passes_room held table = min held.room (min table.lists.room (min (vec_capacity table.rows - vec_len table.rows) table.latest.room))

-- a new list has the artefacts that payloads lack, and no other new text
abbrev pub HasFresh : List (List ℕ) → List (List ℕ) → ListRef → Type 0
HasFresh texts fresh (KnownList number) = ⊤
HasFresh texts fresh (NewList files) = with_list_texts texts files ≡ texts ++ fresh

-- A payload has a valid pass, there is room for it, and its new texts are the new texts of the list of built files.
pub record AddsPass (state : PassesState) (segment : List ℕ) (addition : PassAddition) : Type 0 where
  pub read : pass_in segment ≡ Some (pass_in_ranges segment addition.draft)
  pub is : IsAddition (pass_table_of state.payloads) state.names segment addition
  pub fresh : HasFresh (pass_table_of state.payloads).texts state.fresh (list_in_range segment addition.draft.list)
  pub room : 0 < state.room
  pub text_room : addition.list.count ≤ state.text_room

-- the pass that a payload adds to payloads
abbrev pub added_pass : List (List ℕ) → List ℕ → PassAddition → Pass
added_pass payloads segment addition = drafted_pass (pass_table_of payloads) (pass_in_ranges segment addition.draft)

-- the last pass of the same tests has this number, or no pass is of these tests
abbrev pub IsLastRow : List Pass → TestRun → List (List ℕ) → Option ℕ → Type 0
IsLastRow passes run simulator None = last_pass run simulator passes ≡ None
IsLastRow passes run simulator (Some number) = (number < length passes) × (last_pass run simulator passes ≡ slice_get passes number)

-- A pass is of the same tests as a run with a simulator: library, bench, cases and the simulator's words are equal.
pub record HasTests (run : TestRun) (simulator : List (List ℕ)) (pass : Pass) : Type 0 where
  pub library : pass.run.library ≡ run.library
  pub bench : pass.run.bench ≡ run.bench
  pub cases : pass.run.cases ≡ run.cases
  pub simulator_is : pass.simulator ≡ simulator

-- A pass has the architecture, the path and the flags of a run.
pub record HasRest (run : TestRun) (pass : Pass) : Type 0 where
  pub architecture : pass.run.architecture ≡ run.architecture
  pub path : pass.run.path ≡ run.path
  pub whole : pass.run.whole ≡ run.whole
  pub same_sim : pass.run.same_sim ≡ run.same_sim

-- Payloads are held whole, with their table, and the list of built files is over the table's names and texts.
pub record AreLoaded (held : HeldList) (table : LocatedPasses) (list : PendingList) : Type 0 where
  pub whole : held.segments ≡ held.payloads
  pub are : ArePassesHeld held.segments table
  pub pending : IsPending table.names.keys (located_texts held.segments table.texts) list
