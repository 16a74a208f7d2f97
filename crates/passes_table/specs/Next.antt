-- The payload of one more pass over the list of files that tests run over.
use Rattle.std.specs.Prelude.{◌≡◌, ℕ, ◌≤◌, List, length, Some}
use Rattle.base.specs.Names.{FitsCommand}
use Rattle.base.specs.declared.graph.BuiltFile.{BuiltFile}
use Rattle.testbench_runs.specs.declared.ends.TheConstants.{SHOWN_LIMIT}
use Rattle.testbench_runs.specs.Runs.{FitsRun}
use Rattle.store_table.specs.Located.{located_texts}
use Rattle.passes_spec.specs.Passes.{Pass}
use Rattle.passes_codec.specs.Forms.{ListRef, PassDraft, pass_in}
use Rattle.passes_codec.specs.PassTables.{drafted_pass}
use Rattle.passes_codec.specs.Ranges.{list_in_range, pass_in_ranges}
use Rattle.passes_table.specs.declared.additions.NextPass.{NextPass}
use Rattle.passes_table.specs.declared.pending.PendingList.{PendingList}
use Rattle.passes_table.specs.declared.table.LocatedPasses.{LocatedPasses}
use Rattle.passes_table.specs.declared.writing.PassParts.{PassParts}
use Rattle.passes_table.specs.Additions.{IsAddition}
use Rattle.passes_table.specs.Located.{located_passes}
use Rattle.passes_table.specs.Pending.{fresh_in, pending_files}
use Rattle.passes_table.specs.States.{HasFresh}

-- The parts of a pass are within their limits.
pub record HasPartsOfPass (parts : PassParts) : Type 0 where
  pub run : FitsRun parts.run.now
  pub simulator : FitsCommand parts.simulator.now
  pub output : length parts.output.now ≤ SHOWN_LIMIT

-- parts as a spelled pass, with a list
abbrev pub draft_of_parts : PassParts → ListRef → PassDraft
draft_of_parts parts list = record { run = parts.run.now; simulator = parts.simulator.now; list = list; output = parts.output.now }

-- parts as a pass over built files
abbrev pub pass_over : PassParts → List BuiltFile → Pass
pass_over parts built = record { run = parts.run.now; simulator = parts.simulator.now; built = built; output = parts.output.now }

-- parts as a pass over the files of the list
abbrev pub pass_of_parts : (segments : List (List ℕ)) → LocatedPasses → PendingList → PassParts → Pass
pass_of_parts segments table list parts = pass_over parts (pending_files table.names.keys (located_texts segments table.texts) list)

-- A payload is that of the pass of these parts over the files of the list.
pub record IsNextOf (segments : List (List ℕ)) (table : LocatedPasses) (list : PendingList) (parts : PassParts) (next : NextPass) : Type 0 where
  pub read : pass_in next.segment ≡ Some (pass_in_ranges next.segment next.addition.draft)
  pub is : IsAddition (located_passes segments table) table.names.keys next.segment next.addition
  pub fresh : HasFresh (located_texts segments table.texts) (fresh_in list.fresh) (list_in_range next.segment next.addition.draft.list)
  pub few : next.addition.list.count ≤ length (fresh_in list.fresh)
  pub pass : drafted_pass (located_passes segments table) (pass_in_ranges next.segment next.addition.draft) ≡ pass_of_parts segments table list parts
