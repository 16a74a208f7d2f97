use Rattle.std.proofs.Common.{◌≡◌, ℕ, List, [], ◌++◌, length, get_or, ap, ◌∙◌, arith}
use Rattle.testbench_runs.specs.BenchJobs.{texts_bytes}
use Rattle.testbench_runs.specs.declared.runs.TestRun.{TestRun}
use Rattle.passes_codec.specs.Compaction.{spelled_list}
use Rattle.passes_codec.specs.Forms.{ListRef, pass_bytes, run_bytes}
use Rattle.passes_codec.specs.PassTables.{PassTable}
use Rattle.passes_table.specs.Kept.{kept_table}
use Rattle.passes_table.specs.Located.{located_passes}
use Rattle.passes_table.proofs.PassBytes.{block_size, pass_size}
use Rattle.passes_table.proofs.counting.kept_size.Goals as goal

pub returns-clause-size : goal.returns-clause-size
returns-clause-size c =
    let there : PassTable = located_passes c.args.held.now.segments c.args.table.now in
    let run : TestRun = c.args.parts.run.now in
    let simulator : List (List ℕ) = c.args.parts.simulator.now in
    let output : List ℕ = c.args.parts.output.now in
    let list : ListRef = spelled_list (kept_table there c.args.numbers.now.lists c.args.numbers.now.texts) (get_or there.lists c.args.list []) in
    let head : length c.bytes.result.now ≡ length (run_bytes run ++ texts_bytes simulator) = ap length (c.bytes.ensures ∙ c.in_ok-head.ensures.is) in
    omega (
      arith,
      head,
      c.in_ok-list_size.ensures.size,
      pass_size run simulator list output,
      block_size (pass_bytes (record { run = run; simulator = simulator; list = list; output = output })),
    )
