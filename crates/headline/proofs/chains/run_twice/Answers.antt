use Rattle.std.proofs.Common.{◌≡◌, List, ◌++◌, sym, ap, subst, ◌∙◌}
use Rattle.base.specs.declared.child.Event.{Event}
use Rattle.outside.specs.Disks.{added_since}
use Rattle.run_spec.specs.ChildJournal.{since}
use Rattle.run_spec.specs.JournalParts.{IsCompilerOf}
use Rattle.run_build.specs.Building.{has_risen}
use Rattle.vunit_top.specs.Reading.{words_task}
use Rattle.vunit_top.proofs.RunTruths.{readable_now}
use Rattle.vunit_top.proofs.Whole.{sources_told}
use Rattle.headline.specs.Chains.{Deeds}
use Rattle.headline.proofs.ChainTruths.{ran_twice}
use Rattle.headline.proofs.chains.run_twice.Goals as goal

pub returns-clause-same : goal.returns-clause-same
returns-clause-same g c = c.run_vunit-second.ensures.keeps.answer ∙ c.run_vunit-first.ensures.keeps.answer

pub returns-clause-sources : goal.returns-clause-sources
returns-clause-sources g c = c.run_vunit-second.ensures.keeps.file ∙ c.run_vunit-first.ensures.keeps.file

pub returns-clause-listed : goal.returns-clause-listed
returns-clause-listed g c = c.run_vunit-second.ensures.keeps.listed ∙ c.run_vunit-first.ensures.keeps.listed

pub returns-clause-ran : goal.returns-clause-ran
returns-clause-ran g c = λ scan is t d p plain compiler by.
    let one = c.run_vunit-first.new in
    let two = c.run_vunit-second.new in
    let told = sources_told g.T.Tree.tells t (words_task c.args.words.now) in
    let did = c.run_vunit-first.ensures.did scan is told in
    let then = c.run_vunit-second.ensures.did scan is told in
    let file : g.T.Tree.file one.tree ≡ g.T.Tree.file c.args.tree.now = c.run_vunit-first.ensures.keeps.file in
    let listed : g.T.Tree.listed one.tree ≡ g.T.Tree.listed c.args.tree.now = c.run_vunit-first.ensures.keeps.listed in
    let before : Deeds = record {
      disk_failed = has_risen (g.D.Disk.failed_disk_calls c.args.disk.now) (g.D.Disk.failed_disk_calls one.disk);
      events = since (g.P.Procs.journal c.args.procs.now) (g.P.Procs.journal one.procs);
      later = added_since (g.D.Disk.moments c.args.disk.now) (g.D.Disk.moments one.disk);
    } in
    let after : Deeds = record {
      disk_failed = has_risen (g.D.Disk.failed_disk_calls one.disk) (g.D.Disk.failed_disk_calls two.disk);
      events = since (g.P.Procs.journal one.procs) (g.P.Procs.journal two.procs);
      later = added_since (g.D.Disk.moments one.disk) (g.D.Disk.moments two.disk);
    } in
    ran_twice scan compiler c.args.words.now (record { file = g.T.Tree.file c.args.tree.now; listed = g.T.Tree.listed c.args.tree.now }) c.run_vunit-first.result c.run_vunit-second.result before after
    (g.D.Disk.moments c.args.disk.now).now (g.D.Disk.moments one.disk).now (g.D.Disk.moments two.disk).now (g.P.Procs.journal c.args.procs.now) (g.P.Procs.journal two.procs)
    (readable_now (g.D.Disk.moments one.disk) (g.met.D.Disk.sound one.disk))
    ((did.ran d p plain).by compiler by)
    (rw (sym file, sym listed) ((then.ran d p plain).by compiler (subst (IsCompilerOf compiler) (sym c.run_vunit-first.ensures.keeps.answer) by)))
    (c.run_vunit-second.ensures.keeps.journal p ∙ ap (λ (l : List Event). l ++ after.events) (c.run_vunit-first.ensures.keeps.journal p))
    (record {
      untested = λ none. did.untested p plain none;
      tested = λ asked reads. (did.runs asked reads).tested d p;
    })
    (rw (sym file, sym listed)
    (record {
      untested = λ none. then.untested p plain none;
      tested = λ asked reads. (then.runs asked reads).tested d p;
    }))
