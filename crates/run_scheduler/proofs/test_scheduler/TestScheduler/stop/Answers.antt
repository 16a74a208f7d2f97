-- What remains to be proved of `stop`.
use Rattle.std.proofs.Common.{refl, arith, true, false, ◌≡◌, ℕ, cond}
use Rattle.std.proofs.lemmas.Bool.{cond-false}
use Rattle.run_spec.specs.Moves.{after_move}
use Rattle.run_scheduler.specs.Rows.{to_come}
use Rattle.run_scheduler.proofs.SchedulerSteps.{start_is}
use Rattle.run_scheduler.proofs.test_scheduler.TestScheduler.stop.Goals as goal

pub returns-clause-in_step : goal.returns-clause-in_step
unfolding after_move
returns-clause-in_step c workload schedule is = record { of_workload = is.of_workload; halted = refl; running = is.running; taken = is.taken; unmade = is.unmade }

pub returns-clause-over : goal.returns-clause-over
returns-clause-over c at is = let goes_on : true ≡ false = (start_is _ at is).goes_on in absurd (let nothing : ⊥ = cc in nothing)

pub returns-clause-ends : goal.returns-clause-ends
unfolding to_come
returns-clause-ends c at is =
    let was : cond {A = ℕ} c.args.self.now.is_halted 0 1 ≡ 1 = cond-false c.args.self.now.is_halted 0 1 (start_is c.args.self.now at is).goes_on in
    omega (arith, was)
