-- The first build, and what follows where all files are made.
use Rattle.std.proofs.Common.{ℕ, Err, Ok, sym, ap, subst, ◌∙◌}
use Rattle.std.specs.Prelude.{count_by}
use Rattle.std.specs.List.{list_all}
use Rattle.base.specs.declared.child.Request.{Request}
use Rattle.base.specs.declared.child.Exit.{Exit}
use Rattle.outside.specs.FaultCounts.{BuildFaultCounts, child_counts}
use Rattle.outside.proofs.FaultCountLaws.{no_fall_twice}
use Rattle.run_spec.specs.Faults.{Explains, fault_of}
use Rattle.run_build.specs.Ran.{is_made}
use Rattle.run_spec.specs.declared.fault.RunFault.TheVariants as fault
use Rattle.memory_outside.specs.Disks.{moments_of}
use Rattle.run_spec.specs.Statuses.{is_compiled}
use Rattle.run_spec.specs.ChildJournal.{since}
use Rattle.generated_runs.specs.Sources.{first_records, second_reading}
use Rattle.generated_runs.specs.Ran.{RanEdited}
use Rattle.generated_runs.proofs.Parts.{grown_twice, earlier_fault, first_said, both_ran}
use Rattle.generated_runs.proofs.running.run_read.Goals as goal

pub returns-in-Ok-statuses_said-clause-ran : goal.returns-in-Ok-statuses_said-clause-ran
returns-in-Ok-statuses_said-clause-ran g c = λ scan is tells.
    first_said (g.P.Procs.answer c.args.procs.now) c.args.options (second_reading scan c.args.options) c.args.read.now c.in-Ok.statuses (moments_of c.build_first.new.disk.log).now (since (g.P.Procs.journal c.args.procs.now) (g.P.Procs.journal c.build_first.new.procs))
    (c.in-Ok.ensures.ran tells) c.in-Ok-statuses_said.said (ap (list_all is_made) (sym c.as_slice.ensures) ∙ sym c.if-are_made.ensures) c.in-Ok-statuses_said.ensures.said

pub returns-in-Ok-clause-ran : goal.returns-in-Ok-clause-ran
returns-in-Ok-clause-ran g c = λ scan is tells.
    earlier_fault (g.P.Procs.answer c.args.procs.now) c.args.options (second_reading scan c.args.options) c.args.read.now (Ok c.in-Ok.statuses) fault.NoMemory (moments_of c.build_first.new.disk.log).now (since (g.P.Procs.journal c.args.procs.now) (g.P.Procs.journal c.build_first.new.procs))
    (c.in-Ok.ensures.ran tells)

pub returns-clause-ran : goal.returns-clause-ran
returns-clause-ran g c = λ scan is tells.
    earlier_fault (g.P.Procs.answer c.args.procs.now) c.args.options (second_reading scan c.args.options) c.args.read.now (Err c.in-Err.fault) c.in-Err.fault (moments_of c.build_first.new.disk.log).now (since (g.P.Procs.journal c.args.procs.now) (g.P.Procs.journal c.build_first.new.procs))
    (c.in-Err.ensures.ran tells)

pub returns-then-are_made-clause-ran : goal.returns-then-are_made-clause-ran
returns-then-are_made-clause-ran g c = λ scan is tells.
    let old = g.P.Procs.journal c.args.procs.now in
    let middle = g.P.Procs.journal c.build_first.new.procs in
    let new = g.P.Procs.journal c.run_edited.new.procs in
    let ran = c.in-Ok.ensures.ran tells in
    let records = first_records c.args.options c.args.read.now.graph (since old middle) in
    let next : RanEdited (g.P.Procs.answer c.args.procs.now) c.args.options (second_reading scan c.args.options) records (count_by is_compiled c.in-Ok.statuses) c.run_edited.result (since middle new) =
    subst (λ (answer : Request → Exit). RanEdited answer c.args.options (second_reading scan c.args.options) records (count_by is_compiled c.in-Ok.statuses) c.run_edited.result (since middle new)) c.in-Ok.ensures.same
    (subst (λ (n : ℕ). RanEdited (g.P.Procs.answer c.build_first.new.procs) c.args.options (second_reading scan c.args.options) records n c.run_edited.result (since middle new)) (c.compiled_count-first.ensures ∙ ap (count_by is_compiled) c.as_slice-then-are_made.ensures)
    (c.run_edited.ensures.ran scan is records ran.records tells)) in
    both_ran (g.P.Procs.answer c.args.procs.now) c.args.options (second_reading scan c.args.options) c.args.read.now c.in-Ok.statuses (moments_of c.build_first.new.disk.log).now (since old middle) ran c.run_edited.result (since middle new) (since old new)
    (ap (list_all is_made) (sym c.as_slice.ensures) ∙ sym c.if-are_made.ensures)
    (grown_twice old middle new (c.in-Ok.ensures.follows tells) (c.run_edited.ensures.follows tells))
    next

pub returns-then-are_made-clause-fell : goal.returns-then-are_made-clause-fell
returns-then-are_made-clause-fell g c = λ disks. no_fall_twice (c.in-Ok.ensures.fell disks) (c.run_edited.ensures.fell disks)

pub returns-then-are_made-clause-explains : goal.returns-then-are_made-clause-explains
returns-then-are_made-clause-explains g c = λ disks.
    subst (λ (first : BuildFaultCounts). Explains (fault_of c.run_edited.result) first (record { children = child_counts g.P.Procs c.run_edited.new.procs; disks = disks })) (c.in-Ok.ensures.explains disks)
    (c.run_edited.ensures.explains disks)
