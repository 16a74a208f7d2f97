use Rattle.std.proofs.Common.{◌≡◌, rules}
use Rattle.std.specs.Prelude.{Some}
use Rattle.outside.specs.Children.{started_with}
use Rattle.memory_children.proofs.Scanner.{answers_found}
use Rattle.memory_children.proofs.loop_children.LoopProcs.exits.Goals as goal

pub returns-in-Some-clause-exit : goal.returns-in-Some-clause-exit
returns-in-Some-clause-exit c =
    let found : started_with c.args.ticket c.args.self.now.child_log.journal ≡ Some c.in-Some.request.now = search rules in
    answers_found c.args.self.now.known c.two_exits.result _ c.in-Some.request.now found c.two_exits.ensures.answer
