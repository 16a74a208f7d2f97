use Rattle.std.proofs.Common.{sym}
use Rattle.report.specs.Texts.{warning_text}
use Rattle.run_build.specs.Orders.{order_by}
use Rattle.vunit_top.specs.Reading.{Builds}
use Rattle.run_build.proofs.OverStore.{no_test_since}
use Rattle.vunit_top.proofs.RunTruths.{runs_idle}
use Rattle.vunit_top.proofs.top.build_project.Goals as goal

pub returns-in-Ok-clause-ran : goal.returns-in-Ok-clause-ran
returns-in-Ok-clause-ran g c = λ scan words d p. rw (sym c.in-Ok.ensures) (c.build_graph.ensures.ran scan words d p)

pub returns-in-Err-clause-ran : goal.returns-in-Err-clause-ran
returns-in-Err-clause-ran g c = λ scan words d p.
    runs_idle scan _ (Builds (order_by c.args.options c.args.read.now.graph) (warning_text c.args.read.now.project.files c.args.read.now.warnings)) words _ _ (g.P.Procs.journal c.args.procs.now) (g.D.Disk.moments c.args.disk.now) (g.met.D.Disk.sound c.args.disk.now) (λ said. absurd said)

pub returns-in-Err-clause-no_tests : goal.returns-in-Err-clause-no_tests
returns-in-Err-clause-no_tests g c = λ runs. no_test_since (g.P.Procs.journal c.args.procs.now)
