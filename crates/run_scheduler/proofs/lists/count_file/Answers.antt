-- What remains to be proved of `count_file`.
use Rattle.run_scheduler.proofs.NewMachine.{counted_one}
use Rattle.run_scheduler.proofs.lists.count_file.Goals as goal

pub returns : goal.returns
returns c =
    counted_one c.args.graph.now c.args.checked.now c.args.made.now c.args.later.now c.depends.new.self c.args.at c.count_unmade.result c.deps_of-deps.result.now c.deps_of-deps.ensures.deps c.count_unmade.ensures
    c.in_ok-depends.ensures.waits c.requires.counted
