use Rattle.std.proofs.Common.{ℕ, List, ◌++◌, length, ap, ◌∙◌, arith}
use Rattle.testbench_runs.specs.BenchJobs.{texts_bytes}
use Rattle.testbench_runs.specs.Runs.{FitsRun}
use Rattle.base.specs.Names.{FitsCommand}
use Rattle.passes_codec.specs.Forms.{run_bytes}
use Rattle.passes_table.proofs.PassBytes.{head_size}
use Rattle.passes_table.proofs.writing.head_of.Goals as goal

pub returns-clause-small : goal.returns-clause-small
returns-clause-small c =
    let fits : FitsRun c.args.parts.run.now = record { library = c.requires.run.library; bench = c.requires.run.bench; architecture = c.requires.run.architecture; few = c.requires.run.few; cases = c.requires.run.cases; path = c.requires.run.path } in
    let command : FitsCommand c.args.parts.simulator.now = record { count = c.requires.simulator.count; words = c.requires.simulator.words } in
    let is = c.in_ok-put_simulator.ensures ∙ ap (λ (bs : List ℕ). bs ++ texts_bytes c.args.parts.simulator.now) (c.in_ok-put_run.ensures ∙ ap (λ (bs : List ℕ). bs ++ run_bytes c.args.parts.run.now) c.new-head.ensures) in
    omega (arith, ap length is, head_size c.args.parts.run.now c.args.parts.simulator.now fits command)
