-- What remains to be proved of `put_value`.
use Rattle.report.proofs.Walks.{byte_put, value_end}
use Rattle.report.proofs.xml.put_value.Goals as goal

pub loop-i-preserved : goal.loop-i-preserved
loop-i-preserved c =
    byte_put c.args.name.now c.loop-i.i c.loop-i.first c.loop-i.second c.loop-i.out.items c.put_value_byte.new.out.items _ c.loop-i-test.true c.in_ok-put_value_byte.ensures c.loop-i.invariant

pub returns : goal.returns
returns c = value_end c.args.name.now c.loop-i.i c.loop-i.first c.loop-i.second c.loop-i.out.items _ c.loop-i-test.false c.loop-i.invariant
