-- What remains to be proved of `make`.
use Rattle.std.proofs.Common.{arith, refl, ap, ◌∙◌, ◌≡◌, Bool, true, List, length}
use Rattle.std.proofs.lemmas.List.{length-set}
use Rattle.run_scheduler.specs.Machines.{is_stopped_in, is_checked, files_of, tickets_of, count_in}
use Rattle.run_scheduler.proofs.Sets.{no_more_in}
use Rattle.run_scheduler.proofs.MachineSteps.{in_step_made, nearer_by}
use Rattle.run_scheduler.proofs.build_scheduler.BuildScheduler.make.Goals as goal

pub note_made-requires-clause-at : goal.note_made-requires-clause-at
unfolding files_of
note_made-requires-clause-at c = c.requires

pub returns-clause-in_step : goal.returns-clause-in_step
returns-clause-in_step c workload schedule output step here =
    in_step_made c.args.self.now _ workload schedule c.args.at output c.requires here refl c.note_made.ensures.made c.note_made.ensures.later c.note_made.ensures.ready refl refl refl refl step

pub returns-clause-files : goal.returns-clause-files
unfolding files_of
returns-clause-files c = ap (λ (xs : List Bool). length xs) c.note_made.ensures.made ∙ length-set c.args.self.now.made.items c.args.at true

pub returns-clause-tickets : goal.returns-clause-tickets
unfolding tickets_of
returns-clause-tickets c = refl

pub returns-clause-nearer : goal.returns-clause-nearer
unfolding files_of
returns-clause-nearer c =
    let same : length c.note_made.new.made.items ≡ length c.args.self.now.made.items = ap (λ (xs : List Bool). length xs) c.note_made.ensures.made ∙ length-set c.args.self.now.made.items c.args.at true in
    nearer_by c.args.self.now _ (omega (arith, c.note_made.ensures.waits))
    (omega (arith, no_more_in c.args.self.now.ready c.note_made.new.ready c.args.at (length c.args.self.now.made.items) c.requires c.note_made.ensures.ready, ap (count_in c.note_made.new.ready) same)) (omega arith) (omega arith)

pub returns-clause-checked : goal.returns-clause-checked
unfolding is_checked
returns-clause-checked c = λ k. refl

pub returns-clause-stopped : goal.returns-clause-stopped
unfolding is_stopped_in
returns-clause-stopped c = refl
