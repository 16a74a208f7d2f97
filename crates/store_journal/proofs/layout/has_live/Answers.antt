use Rattle.std.proofs.Common.{sym}
use Rattle.store_journal.proofs.Forms.{counts_has_form, counts_no_form}
use Rattle.store_journal.proofs.layout.has_live.Goals as goal

pub returns-in-None : goal.returns-in-None
returns-in-None c = λ form image is. sym (counts_no_form form image (c.in-None.ensures.counts form image is))

pub returns-in-Some : goal.returns-in-Some
returns-in-Some c = λ form image is. sym (counts_has_form form image c.in-Some._live.side (c.in-Some.ensures.counts form image is).counts)
