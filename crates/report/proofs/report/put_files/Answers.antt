-- What remains to be proved of `put_files`.
use Rattle.report.proofs.ReportLoops.{file_put, text_ends}
use Rattle.report.proofs.report.put_files.Goals as goal

pub loop-i-preserved : goal.loop-i-preserved
loop-i-preserved c =
    file_put c.args.entries.now c.args.statuses.now c.loop-i.i c.index-entries-i.result c.index-statuses-i.result c.requires c.loop-i-test.true c.index-entries-i.is c.index-statuses-i.is c.args.limit c.loop-i.out.items c.put_file.new.out.items _ c.in_ok-put_file.ensures c.loop-i.invariant

pub returns : goal.returns
returns c = text_ends c.args.limit c.args.entries.now c.args.statuses.now c.loop-i.i c.loop-i.out.items _ c.loop-i-test.false c.loop-i.invariant
