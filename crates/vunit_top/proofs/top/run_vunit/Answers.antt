-- What a call did and said, and what it leaves unchanged, by the branch that it took.
use Rattle.std.proofs.Common.{◌≡◌, false, Result, Ok, Err, refl, sym, ap, subst, ◌∙◌}
use Rattle.outside.specs.FaultCounts.{no_faults, run_counts}
use Rattle.vunit_arguments.specs.declared.setting.ArgumentsFault.{ArgumentsFault}
use Rattle.vunit_arguments.specs.Arguments.{setting_of, ReadsArguments}
use Rattle.project_reading.specs.Reading.{project_reading}
use Rattle.vunit_top.specs.declared.words.Task.{Task}
use Rattle.vunit_top.specs.Acts.{Object, Input, Tree, Disk, Children, Out, Reports}
use Rattle.vunit_top.specs.Did.{Call, Snapshot, call_of, snapshot_of}
use Rattle.vunit_top.specs.Reading.{Reading, Bad, Child, Compiler, Simulator, Generates, full_reading, may_test, setting_task, words_task}
use Rattle.vunit_top.specs.Touches.{touches, may_touch}
use Rattle.run_build.proofs.OverStore.{no_test_since}
use Rattle.vunit_top.proofs.Tops.{child_task, bench_job, setting_read, bad_read, not_untested}
use Rattle.vunit_top.proofs.ActTruths.{no_early}
use Rattle.vunit_top.proofs.Frames.{each_row, no_child_set, not_so, settled_frame}
use Rattle.vunit_top.proofs.Whole.{did_by, did_alone, did_generated, did_none, did_settled, keeps_still, ran_idle}
use Rattle.vunit_top.proofs.top.run_vunit.Goals as goal

pub returns-then-begins_with-clause-did : goal.returns-then-begins_with-clause-did
returns-then-begins_with-clause-did g c = λ scan is.
    let call : Call = call_of g.I.Source g.T.Tree g.D.Disk g.P.Procs g.O.Sink g.R.Reports c.args.input.now c.args.tree.now c.args.disk.now c.args.procs.now c.args.out.now c.args.reports.now c.run_as_compiler.new.input c.args.tree.now c.args.disk.now c.args.procs.now c.run_as_compiler.new.out c.args.reports.now in
    did_by call scan c.args.words.now c.run_as_compiler.result (Err (Child Compiler)) (child_task c.args.words.now (sym c.begins_with.ensures ∙ c.if-begins_with.true))
    (λ told. did_alone call scan c.args.words.now c.run_as_compiler.result (Child Compiler) refl refl
    (ran_idle scan (g.P.Procs.answer c.args.procs.now) (Child Compiler) c.args.words.now c.run_as_compiler.result (g.P.Procs.journal c.args.procs.now) (g.D.Disk.moments c.args.disk.now) (g.met.D.Disk.sound c.args.disk.now) (g.D.Disk.failed_disk_calls c.args.disk.now) (g.O.Sink.contents c.args.out.now) (g.O.Sink.contents c.run_as_compiler.new.out) (g.R.Reports.report c.args.reports.now) (g.R.Reports.report c.args.reports.now) (λ said. refl))
    (no_test_since (g.P.Procs.journal c.args.procs.now))
    (λ puts told. c.run_as_compiler.ensures.said scan is told puts) (λ told. c.run_as_compiler.ensures.answer scan is told) (λ writes told. tt)
    (each_row call.same (touches (Child Compiler)) (λ e. not_so e) (λ e. refl) (λ e. refl) (λ e. refl) (λ e. not_so e) (λ e. refl))
    (λ told. c.run_as_compiler.ensures.silent scan is told) refl refl refl)

pub returns-then-begins_with-clause-keeps : goal.returns-then-begins_with-clause-keeps
returns-then-begins_with-clause-keeps g c =
    let call : Call = call_of g.I.Source g.T.Tree g.D.Disk g.P.Procs g.O.Sink g.R.Reports c.args.input.now c.args.tree.now c.args.disk.now c.args.procs.now c.args.out.now c.args.reports.now c.run_as_compiler.new.input c.args.tree.now c.args.disk.now c.args.procs.now c.run_as_compiler.new.out c.args.reports.now in
    keeps_still call c.args.words.now c.run_as_compiler.result (Err (Child Compiler)) (child_task c.args.words.now (sym c.begins_with.ensures ∙ c.if-begins_with.true)) refl refl refl refl refl
    (each_row call.same (may_touch (Err (Child Compiler))) (λ e. not_so e) (λ e. refl) (λ e. refl) (λ e. refl) (λ e. not_so e) (λ e. refl))
    (λ fault. (refl, refl, refl))

pub returns-then-begins_with-2-clause-did : goal.returns-then-begins_with-2-clause-did
returns-then-begins_with-2-clause-did g c = λ scan is.
    let call : Call = call_of g.I.Source g.T.Tree g.D.Disk g.P.Procs g.O.Sink g.R.Reports c.args.input.now c.args.tree.now c.args.disk.now c.args.procs.now c.args.out.now c.args.reports.now c.run_as_simulator.new.input c.args.tree.now c.args.disk.now c.args.procs.now c.run_as_simulator.new.out c.run_as_simulator.new.reports in
    did_by call scan c.args.words.now c.run_as_simulator.result (Err (Child Simulator)) (bench_job c.args.words.now (sym c.begins_with.ensures ∙ c.if-begins_with.false) (sym c.begins_with-2.ensures ∙ c.if-begins_with-2.true))
    (λ told. did_alone call scan c.args.words.now c.run_as_simulator.result (Child Simulator) refl refl
    (ran_idle scan (g.P.Procs.answer c.args.procs.now) (Child Simulator) c.args.words.now c.run_as_simulator.result (g.P.Procs.journal c.args.procs.now) (g.D.Disk.moments c.args.disk.now) (g.met.D.Disk.sound c.args.disk.now) (g.D.Disk.failed_disk_calls c.args.disk.now) (g.O.Sink.contents c.args.out.now) (g.O.Sink.contents c.run_as_simulator.new.out) (g.R.Reports.report c.args.reports.now) (g.R.Reports.report c.run_as_simulator.new.reports) (λ said. refl))
    (no_test_since (g.P.Procs.journal c.args.procs.now))
    (λ puts told. c.run_as_simulator.ensures.said told puts) (λ told. c.run_as_simulator.ensures.answer told) (λ writes told. c.run_as_simulator.ensures.writes told writes)
    (each_row call.same (touches (Child Simulator)) (λ e. not_so e) (λ e. refl) (λ e. refl) (λ e. refl) (λ e. not_so e) (λ e. not_so e))
    (λ told. c.run_as_simulator.ensures.silent told) refl refl refl)

pub returns-then-begins_with-2-clause-keeps : goal.returns-then-begins_with-2-clause-keeps
returns-then-begins_with-2-clause-keeps g c =
    let call : Call = call_of g.I.Source g.T.Tree g.D.Disk g.P.Procs g.O.Sink g.R.Reports c.args.input.now c.args.tree.now c.args.disk.now c.args.procs.now c.args.out.now c.args.reports.now c.run_as_simulator.new.input c.args.tree.now c.args.disk.now c.args.procs.now c.run_as_simulator.new.out c.run_as_simulator.new.reports in
    keeps_still call c.args.words.now c.run_as_simulator.result (Err (Child Simulator)) (bench_job c.args.words.now (sym c.begins_with.ensures ∙ c.if-begins_with.false) (sym c.begins_with-2.ensures ∙ c.if-begins_with-2.true)) refl refl refl refl refl
    (each_row call.same (may_touch (Err (Child Simulator))) (λ e. not_so e) (λ e. refl) (λ e. refl) (λ e. refl) (λ e. not_so e) (λ e. not_so e))
    (λ fault. (refl, refl, c.run_as_simulator.ensures.placed fault))

pub returns-in-Err-Bad-clause-did : goal.returns-in-Err-Bad-clause-did
returns-in-Err-Bad-clause-did g c = λ scan is.
    let call : Call = call_of g.I.Source g.T.Tree g.D.Disk g.P.Procs g.O.Sink g.R.Reports c.args.input.now c.args.tree.now c.args.disk.now c.args.procs.now c.args.out.now c.args.reports.now c.args.input.now c.args.tree.now c.args.disk.now c.args.procs.now c.say_usage.new.out c.args.reports.now in
    did_by call scan c.args.words.now c.say_usage.result (Err Bad) (bad_read c.args.words.now (sym c.begins_with.ensures ∙ c.if-begins_with.false) (sym c.begins_with-2.ensures ∙ c.if-begins_with-2.false) (subst (λ (fault : ArgumentsFault). ReadsArguments (setting_of c.args.words.now) (Err fault)) c.in-Err-Bad.field-0-is c.in-Err-Bad.ensures.read))
    (λ told. did_alone call scan c.args.words.now c.say_usage.result Bad refl refl
    (ran_idle scan (g.P.Procs.answer c.args.procs.now) Bad c.args.words.now c.say_usage.result (g.P.Procs.journal c.args.procs.now) (g.D.Disk.moments c.args.disk.now) (g.met.D.Disk.sound c.args.disk.now) (g.D.Disk.failed_disk_calls c.args.disk.now) (g.O.Sink.contents c.args.out.now) (g.O.Sink.contents c.say_usage.new.out) (g.R.Reports.report c.args.reports.now) (g.R.Reports.report c.args.reports.now) (λ said. refl))
    (no_test_since (g.P.Procs.journal c.args.procs.now))
    (λ puts told. c.say_usage.ensures.said puts) (λ told. c.say_usage.ensures.answer) (λ writes told. tt)
    (each_row call.same (touches Bad) (λ e. refl) (λ e. refl) (λ e. refl) (λ e. refl) (λ e. not_so e) (λ e. refl))
    (λ told. tt) refl refl refl)

pub returns-in-Err-Bad-clause-keeps : goal.returns-in-Err-Bad-clause-keeps
returns-in-Err-Bad-clause-keeps g c =
    let call : Call = call_of g.I.Source g.T.Tree g.D.Disk g.P.Procs g.O.Sink g.R.Reports c.args.input.now c.args.tree.now c.args.disk.now c.args.procs.now c.args.out.now c.args.reports.now c.args.input.now c.args.tree.now c.args.disk.now c.args.procs.now c.say_usage.new.out c.args.reports.now in
    keeps_still call c.args.words.now c.say_usage.result (Err Bad) (bad_read c.args.words.now (sym c.begins_with.ensures ∙ c.if-begins_with.false) (sym c.begins_with-2.ensures ∙ c.if-begins_with-2.false) (subst (λ (fault : ArgumentsFault). ReadsArguments (setting_of c.args.words.now) (Err fault)) c.in-Err-Bad.field-0-is c.in-Err-Bad.ensures.read)) refl refl refl refl refl
    (each_row call.same (may_touch (Err Bad)) (λ e. refl) (λ e. refl) (λ e. refl) (λ e. refl) (λ e. not_so e) (λ e. refl))
    (λ fault. (refl, refl, refl))

pub returns-in-Err-NoMemory-clause-did : goal.returns-in-Err-NoMemory-clause-did
returns-in-Err-NoMemory-clause-did g c = λ scan is.
    let call : Call = call_of g.I.Source g.T.Tree g.D.Disk g.P.Procs g.O.Sink g.R.Reports c.args.input.now c.args.tree.now c.args.disk.now c.args.procs.now c.args.out.now c.args.reports.now c.args.input.now c.args.tree.now c.args.disk.now c.args.procs.now c.args.out.now c.args.reports.now in
    let at : Snapshot = snapshot_of g.I.Source g.T.Tree g.D.Disk g.P.Procs g.O.Sink g.R.Reports c.args.input.now c.args.tree.now c.args.disk.now c.args.procs.now c.args.out.now c.args.reports.now in
    did_by call scan c.args.words.now _ (words_task c.args.words.now) refl
    (λ told. did_none scan at call.tells call.same call.kept c.args.words.now (words_task c.args.words.now) (full_reading (words_task c.args.words.now) (project_reading scan (g.T.Tree.file c.args.tree.now) (g.T.Tree.listed c.args.tree.now))) (g.met.D.Disk.sound c.args.disk.now)
    (λ object. each_row call.same (λ o. false) (λ e. refl) (λ e. refl) (λ e. refl) (λ e. refl) (λ e. refl) (λ e. refl) object refl))

pub returns-in-Err-NoMemory-clause-keeps : goal.returns-in-Err-NoMemory-clause-keeps
returns-in-Err-NoMemory-clause-keeps g c =
    let call : Call = call_of g.I.Source g.T.Tree g.D.Disk g.P.Procs g.O.Sink g.R.Reports c.args.input.now c.args.tree.now c.args.disk.now c.args.procs.now c.args.out.now c.args.reports.now c.args.input.now c.args.tree.now c.args.disk.now c.args.procs.now c.args.out.now c.args.reports.now in
    keeps_still call c.args.words.now _ (words_task c.args.words.now) refl refl refl refl refl refl
    (each_row call.same (may_touch (words_task c.args.words.now)) (λ e. refl) (λ e. refl) (λ e. refl) (λ e. refl) (λ e. refl) (λ e. refl))
    (λ fault. (refl, refl, refl))

pub returns-in-Some-clause-did : goal.returns-in-Some-clause-did
returns-in-Some-clause-did g c = λ scan is.
    let call : Call = call_of g.I.Source g.T.Tree g.D.Disk g.P.Procs g.O.Sink g.R.Reports c.args.input.now c.args.tree.now c.args.disk.now c.args.procs.now c.args.out.now c.args.reports.now c.args.input.now c.args.tree.now c.args.disk.now c.say_generated.new.procs c.say_generated.new.out c.args.reports.now in
    did_by call scan c.args.words.now c.say_generated.result (Err (Generates c.in-Some.options)) (setting_read c.args.words.now (sym c.begins_with.ensures ∙ c.if-begins_with.false) (sym c.begins_with-2.ensures ∙ c.if-begins_with-2.false) c.in-Ok.setting c.in-Ok.ensures.read ∙ c.in-Some.ensures.0)
    (λ told. did_generated call scan c.args.words.now c.say_generated.result c.in-Some.options
    (each_row call.same (touches (Generates c.in-Some.options)) (λ e. refl) (λ e. refl) (λ e. refl) (λ e. not_so e) (λ e. not_so e) (λ e. refl))
    (c.say_generated.ensures.generated scan is))

pub returns-in-Some-clause-keeps : goal.returns-in-Some-clause-keeps
returns-in-Some-clause-keeps g c =
    let call : Call = call_of g.I.Source g.T.Tree g.D.Disk g.P.Procs g.O.Sink g.R.Reports c.args.input.now c.args.tree.now c.args.disk.now c.args.procs.now c.args.out.now c.args.reports.now c.args.input.now c.args.tree.now c.args.disk.now c.say_generated.new.procs c.say_generated.new.out c.args.reports.now in
    record {
      answer = c.say_generated.ensures.same;
      file = refl;
      listed = refl;
      kept = refl;
      journal = c.say_generated.ensures.kept;
      untested = λ runs none. absurd (not_untested (words_task c.args.words.now) c.in-Some.options (setting_read c.args.words.now (sym c.begins_with.ensures ∙ c.if-begins_with.false) (sym c.begins_with-2.ensures ∙ c.if-begins_with-2.false) c.in-Ok.setting c.in-Ok.ensures.read ∙ c.in-Some.ensures.0) none);
      frame = λ object e.
          each_row call.same (may_touch (Err (Generates c.in-Some.options))) (λ f. refl) (λ f. refl) (λ f. refl) (λ f. not_so f) (λ f. not_so f) (λ f. refl) object
          (ap (λ (i : Result Task Reading). may_touch i object) (sym (setting_read c.args.words.now (sym c.begins_with.ensures ∙ c.if-begins_with.false) (sym c.begins_with-2.ensures ∙ c.if-begins_with-2.false) c.in-Ok.setting c.in-Ok.ensures.read ∙ c.in-Some.ensures.0)) ∙ e);
      placed = λ fault. absurd (no_early (c.say_generated.ensures.counted no_faults) refl refl fault);
    }

pub returns-in-None-clause-did : goal.returns-in-None-clause-did
returns-in-None-clause-did g c = λ scan is.
    let call : Call = call_of g.I.Source g.T.Tree g.D.Disk g.P.Procs g.O.Sink g.R.Reports c.args.input.now c.args.tree.now c.args.disk.now c.args.procs.now c.args.out.now c.args.reports.now c.args.input.now c.run_setting.new.tree c.run_setting.new.disk c.run_setting.new.procs c.run_setting.new.out c.run_setting.new.reports in
    did_by call scan c.args.words.now c.run_setting.result (setting_task c.in-Ok.setting) (setting_read c.args.words.now (sym c.begins_with.ensures ∙ c.if-begins_with.false) (sym c.begins_with-2.ensures ∙ c.if-begins_with-2.false) c.in-Ok.setting c.in-Ok.ensures.read)
    (did_settled call scan c.args.words.now c.run_setting.result (setting_task c.in-Ok.setting) (no_child_set c.in-Ok.setting) c.in-None.ensures
    (λ told. c.run_setting.ensures.acts scan is told c.args.words.now) refl c.run_setting.ensures.asked c.run_setting.ensures.words_alone (λ e. ap g.T.Tree.asked e))

pub returns-in-None-clause-keeps : goal.returns-in-None-clause-keeps
returns-in-None-clause-keeps g c =
    let call : Call = call_of g.I.Source g.T.Tree g.D.Disk g.P.Procs g.O.Sink g.R.Reports c.args.input.now c.args.tree.now c.args.disk.now c.args.procs.now c.args.out.now c.args.reports.now c.args.input.now c.run_setting.new.tree c.run_setting.new.disk c.run_setting.new.procs c.run_setting.new.out c.run_setting.new.reports in
    record {
      answer = c.run_setting.ensures.same;
      file = c.run_setting.ensures.sources;
      listed = c.run_setting.ensures.listed;
      kept = c.run_setting.ensures.tree_kept;
      journal = c.run_setting.ensures.kept;
      untested = λ runs none. c.run_setting.ensures.no_tests runs (ap may_test (sym (setting_read c.args.words.now (sym c.begins_with.ensures ∙ c.if-begins_with.false) (sym c.begins_with-2.ensures ∙ c.if-begins_with-2.false) c.in-Ok.setting c.in-Ok.ensures.read)) ∙ none);
      frame = λ object e.
          settled_frame call.same (setting_task c.in-Ok.setting) refl c.run_setting.ensures.words_alone c.run_setting.ensures.unbuilt c.run_setting.ensures.unwritten object
          (ap (λ (i : Result Task Reading). may_touch i object) (sym (setting_read c.args.words.now (sym c.begins_with.ensures ∙ c.if-begins_with.false) (sym c.begins_with-2.ensures ∙ c.if-begins_with-2.false) c.in-Ok.setting c.in-Ok.ensures.read)) ∙ e);
      placed = c.run_setting.ensures.placed;
    }

pub returns-then-begins_with-clause-counted : goal.returns-then-begins_with-clause-counted
returns-then-begins_with-clause-counted g c = c.run_as_compiler.ensures.counted (run_counts g.I.Source g.T.Tree g.D.Disk g.P.Procs g.O.Sink g.R.Reports c.args.input.now c.args.tree.now c.args.disk.now c.args.procs.now c.args.out.now c.args.reports.now)

pub returns-in-None-clause-counted : goal.returns-in-None-clause-counted
returns-in-None-clause-counted g c = c.run_setting.ensures.counted (run_counts g.I.Source g.T.Tree g.D.Disk g.P.Procs g.O.Sink g.R.Reports c.args.input.now c.args.tree.now c.args.disk.now c.args.procs.now c.args.out.now c.args.reports.now)

pub returns-then-begins_with-2-clause-counted : goal.returns-then-begins_with-2-clause-counted
returns-then-begins_with-2-clause-counted g c = c.run_as_simulator.ensures.counted (run_counts g.I.Source g.T.Tree g.D.Disk g.P.Procs g.O.Sink g.R.Reports c.args.input.now c.args.tree.now c.args.disk.now c.args.procs.now c.args.out.now c.args.reports.now)

pub returns-in-Some-clause-counted : goal.returns-in-Some-clause-counted
returns-in-Some-clause-counted g c = c.say_generated.ensures.counted (run_counts g.I.Source g.T.Tree g.D.Disk g.P.Procs g.O.Sink g.R.Reports c.args.input.now c.args.tree.now c.args.disk.now c.args.procs.now c.args.out.now c.args.reports.now)
