-- Answers to the goals of `run_then`.
use Rattle.std.proofs.Common.{◌≡◌, Result, sym, ap, subst, inl, inr}
use Rattle.std.proofs.lemmas.Bool.{cases_Bool}
use Rattle.outside.specs.Disks.{Moments, Follows}
use Rattle.run_spec.specs.Histories.{Sources}
use Rattle.run_spec.specs.JournalParts.{IsCompilerOf}
use Rattle.vunit_top.specs.declared.words.Task.{Task}
use Rattle.vunit_top.specs.Acts.{Disk}
use Rattle.vunit_top.specs.Reading.{Reading, generates, words_task}
use Rattle.vunit_top.specs.Touches.{may_touch}
use Rattle.vunit_top.proofs.Whole.{sources_told}
use Rattle.headline.specs.Promise.{LeavesDisk}
use Rattle.headline.proofs.Turns.{compiler_then, did_and_left, follows_itself, follows_of, generated_and_left, generating, own_compiler}
use Rattle.headline.proofs.all_runs.run_then.Goals as goal

pub next-requires-clause-follows : goal.next-requires-clause-follows
next-requires-clause-follows g c = λ t d p.
    let old : Moments = g.D.Disk.moments c.args.disk.now in
    let middle : Moments = g.D.Disk.moments c.run_vunit-outcome.new.disk in
    let scanner = c.some_scanner.ensures in
    let follows : Follows old middle =
    elim (cases_Bool (generates (words_task c.args.words.now))) [
      | inl named ↦
          let options = generating (words_task c.args.words.now) named in
          let same : c.run_vunit-outcome.new.disk ≡ c.args.disk.now = c.run_vunit-outcome.ensures.keeps.frame Disk (ap (λ (j : Result Task Reading). may_touch j Disk) options.1) in
          subst (λ (m : Moments). Follows old m) (sym (ap g.D.Disk.moments same)) (follows_itself old)
      | inr plain ↦ follows_of _ scanner.0 c.args.words.now c.run_vunit-outcome.result (c.run_vunit-outcome.ensures.did scanner.0 scanner.1 (sources_told g.T.Tree.tells t (words_task c.args.words.now))) d p plain
    ] in
    subst (λ (begun : Moments). Follows begun middle) (sym (c.requires.last d)) follows

pub returns-clause-compiler : goal.returns-clause-compiler
returns-clause-compiler g c = compiler_then (g.P.Procs.answer c.args.procs.now) (g.P.Procs.answer c.run_vunit-outcome.new.procs) (g.P.Procs.answer c.next.new.procs) (subst (IsCompilerOf (g.P.Procs.answer c.args.procs.now)) (sym c.run_vunit-outcome.ensures.keeps.answer) (own_compiler (g.P.Procs.answer c.args.procs.now))) c.next.ensures.compiler

pub returns-clause-ran : goal.returns-clause-ran
returns-clause-ran g c = λ scan is t d p compiler by.
    let old : Moments = g.D.Disk.moments c.args.disk.now in
    let middle : Moments = g.D.Disk.moments c.run_vunit-outcome.new.disk in
    let new : Sources = record { file = g.T.Tree.file c.next.new.tree; listed = g.T.Tree.listed c.next.new.tree } in
    let left : LeavesDisk old middle (g.D.Disk.moments c.next.new.disk).now = subst (λ (begun : Moments). LeavesDisk begun middle (g.D.Disk.moments c.next.new.disk).now) (c.requires.last d) (c.next.ensures.left t d p) in
    elim (cases_Bool (generates (words_task c.args.words.now))) [
      | inl named ↦
          let options = generating (words_task c.args.words.now) named in
          let same : c.run_vunit-outcome.new.disk ≡ c.args.disk.now = c.run_vunit-outcome.ensures.keeps.frame Disk (ap (λ (j : Result Task Reading). may_touch j Disk) options.1) in
          generated_and_left scan compiler (record { file = g.T.Tree.file c.args.tree.now; listed = g.T.Tree.listed c.args.tree.now }) new c.args.words.now c.run_vunit-outcome.result old (g.met.D.Disk.sound c.args.disk.now) options.0 options.1
          (g.D.Disk.moments c.next.new.disk).now (subst (λ (m : Moments). LeavesDisk old m (g.D.Disk.moments c.next.new.disk).now) (ap g.D.Disk.moments same) left)
      | inr plain ↦
          did_and_left _ scan c.args.words.now c.run_vunit-outcome.result (c.run_vunit-outcome.ensures.did scan is (sources_told g.T.Tree.tells t (words_task c.args.words.now))) d p plain compiler by (g.met.D.Disk.sound c.args.disk.now)
          (g.D.Disk.moments c.next.new.disk).now left new
    ]
