-- What remains to be proved of `put_suite_line`.
use Rattle.std.proofs.Common.{append_assoc}
use Rattle.report.specs.Junit.{suite_line}
use Rattle.report.proofs.xml.put_suite_line.Goals as goal

pub returns : goal.returns
unfolding suite_line
returns c =
    simp (c.in_ok-put-4.ensures, c.in_ok-put_count-3.ensures, c.in_ok-put-3.ensures, c.in_ok-put_count-2.ensures, c.in_ok-put-2.ensures, c.in_ok-put_count.ensures, c.in_ok-put.ensures, append_assoc)
