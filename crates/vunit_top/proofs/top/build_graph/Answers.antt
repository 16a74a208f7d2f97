use Rattle.std.proofs.Common.{refl, sym}
use Rattle.run_build.specs.Orders.{order_by}
use Rattle.vunit_top.proofs.RunTruths.{faulted_over, ended_over, has_status_over}
use Rattle.vunit_top.proofs.top.build_graph.Goals as goal

pub returns-in-Ok-clause-ran : goal.returns-in-Ok-clause-ran
returns-in-Ok-clause-ran g c = λ scan words tells runs.
    ended_over scan _ (order_by c.args.options c.args.graph.now) _ _ _ _ _ (g.met.D.Disk.sound c.args.disk.now) _ (c.in-Ok.ensures.told tells runs) words c.say_build.result c.say_build.ensures.answer
    (c.in-Ok.ensures.rests tells runs)

pub returns-in-Ok-clause-says : goal.returns-in-Ok-clause-says
returns-in-Ok-clause-says g c = λ tells runs puts.
    rw (sym (has_status_over _ (order_by c.args.options c.args.graph.now) _ _ _ _ _ (c.in-Ok.ensures.told tells runs))) (c.say_build.ensures.said puts)

pub returns-in-Ok-clause-answers : goal.returns-in-Ok-clause-answers
returns-in-Ok-clause-answers g c = λ tells runs.
    rw (sym (has_status_over _ (order_by c.args.options c.args.graph.now) _ _ _ _ _ (c.in-Ok.ensures.told tells runs))) c.say_build.ensures.answer

pub returns-in-Err-NoMemory-clause-ran : goal.returns-in-Err-NoMemory-clause-ran
returns-in-Err-NoMemory-clause-ran g c = λ scan words tells runs.
    faulted_over scan _ (order_by c.args.options c.args.graph.now) _ _ _ _ _ (g.met.D.Disk.sound c.args.disk.now) _ (c.in-Err-NoMemory.ensures.told tells runs) words _ (λ is. is) (λ is. refl) (c.in-Err-NoMemory.ensures.rests tells runs)

pub returns-in-Err-StartFailed-clause-ran : goal.returns-in-Err-StartFailed-clause-ran
returns-in-Err-StartFailed-clause-ran g c = λ scan words tells runs.
    faulted_over scan _ (order_by c.args.options c.args.graph.now) _ _ _ _ _ (g.met.D.Disk.sound c.args.disk.now) _ (c.in-Err-StartFailed.ensures.told tells runs) words _ (λ is. is) (λ is. absurd cc) (c.in-Err-StartFailed.ensures.rests tells runs)

pub returns-in-Err-ChildLost-clause-ran : goal.returns-in-Err-ChildLost-clause-ran
returns-in-Err-ChildLost-clause-ran g c = λ scan words tells runs.
    faulted_over scan _ (order_by c.args.options c.args.graph.now) _ _ _ _ _ (g.met.D.Disk.sound c.args.disk.now) _ (c.in-Err-ChildLost.ensures.told tells runs) words _ (λ is. is) (λ is. absurd cc) (c.in-Err-ChildLost.ensures.rests tells runs)

pub returns-clause-ran : goal.returns-clause-ran
returns-clause-ran g c = λ scan words tells runs.
    faulted_over scan _ (order_by c.args.options c.args.graph.now) _ _ _ _ _ (g.met.D.Disk.sound c.args.disk.now) _ (c.in-Err-DiskFailed.ensures.told tells runs) words _ (λ is. is) (λ is. absurd cc) (c.in-Err-DiskFailed.ensures.rests tells runs)
