-- Answers to the goals of `test_built`.
use Rattle.std.proofs.Common.{◌≡◌, true, false, None, Some, refl}
use Rattle.std.specs.List.{list_all}
use Rattle.run_build.specs.Ran.{is_made}
use Rattle.outside.specs.FaultCounts.{child_counts}
use Rattle.run_tests.proofs.RecordCounts.{counts_unrecorded}
use Rattle.run_tests.proofs.TestsAfter.{all_recorded, none_built}
use Rattle.run_tests.proofs.build_and_test.test_built.Goals as goal

pub returns-then-not-are_made-clause-ran : goal.returns-then-not-are_made-clause-ran
returns-then-not-are_made-clause-ran g c =
    let left : list_all is_made c.args.kept.statuses ≡ false = cc in
    none_built g.P.Procs.tells (g.P.Procs.answer c.args.procs.now) _ c.args.kept.statuses (g.P.Procs.journal c.args.procs.now) (record { statuses = c.args.kept.statuses; tests = None }) refl refl left

pub run_tests-requires-clause-recorded : goal.run_tests-requires-clause-recorded
run_tests-requires-clause-recorded g c =
    let made : list_all is_made c.args.kept.statuses ≡ true = cc in
    all_recorded c.args.kept.statuses _ c.args.graph.now c.requires.count made c.requires.recorded

pub returns-in-Ok-clause-fell : goal.returns-in-Ok-clause-fell
returns-in-Ok-clause-fell g c = λ disks. (counts_unrecorded None (child_counts g.P.Procs c.args.procs.now) (child_counts g.P.Procs c.run_tests.new.procs) disks c.in-Ok.ensures.counts).none_fell

pub returns-in-Ok-clause-explains : goal.returns-in-Ok-clause-explains
returns-in-Ok-clause-explains g c = λ disks. (counts_unrecorded None (child_counts g.P.Procs c.args.procs.now) (child_counts g.P.Procs c.run_tests.new.procs) disks c.in-Ok.ensures.counts).explains

pub returns-in-Err-clause-fell : goal.returns-in-Err-clause-fell
returns-in-Err-clause-fell g c = λ disks. (counts_unrecorded (Some c.in-Err.fault) (child_counts g.P.Procs c.args.procs.now) (child_counts g.P.Procs c.run_tests.new.procs) disks c.in-Err.ensures.counts).none_fell

pub returns-in-Err-clause-explains : goal.returns-in-Err-clause-explains
returns-in-Err-clause-explains g c = λ disks. (counts_unrecorded (Some c.in-Err.fault) (child_counts g.P.Procs c.args.procs.now) (child_counts g.P.Procs c.run_tests.new.procs) disks c.in-Err.ensures.counts).explains
