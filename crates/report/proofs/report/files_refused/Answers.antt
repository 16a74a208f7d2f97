-- What remains to be proved of `files_refused`.
use Rattle.std.proofs.Common.{◌++◌, ◌∷◌, [], ap, sym, ◌∙◌}
use Rattle.base.specs.declared.file.FileName.{FileName}
use Rattle.report.proofs.ReportLoops.{refused_put, refused_passed, refused_ends}
use Rattle.report.proofs.report.files_refused.Goals as goal
use Rattle.report.proofs.report.files_refused.Goals.{then-is_refused+in_ok-copy+in_ok-push, else-is_refused}

pub loop-i-preserved : goal.loop-i-preserved
loop-i-preserved c =
    elim c.if-is_refused.branch [
      | then-is_refused+in_ok-copy+in_ok-push w ↦
          refused_put c.args.entries.now c.args.statuses.now c.loop-i.i c.index-entries-i.result c.index-statuses-i.result c.requires c.loop-i-test.true c.index-entries-i.is c.index-statuses-i.is c.loop-i.files c.if-is_refused.files _
          (sym c.is_refused.ensures ∙ w.if-is_refused.true) (w.files-is ∙ w.in_ok-push.ensures.ok ∙ ap (λ (name : FileName). c.loop-i.files ++ name ∷ []) w.in_ok-copy.ensures) c.loop-i.invariant
      | else-is_refused w ↦
          refused_passed c.args.entries.now c.args.statuses.now c.loop-i.i c.index-entries-i.result c.index-statuses-i.result c.requires c.loop-i-test.true c.index-entries-i.is c.index-statuses-i.is c.loop-i.files c.if-is_refused.files _
          (sym c.is_refused.ensures ∙ w.if-is_refused.false) w.files-is c.loop-i.invariant
    ]

pub returns : goal.returns
returns c = refused_ends c.args.entries.now c.args.statuses.now c.loop-i.i c.loop-i.files _ c.loop-i-test.false c.loop-i.invariant
