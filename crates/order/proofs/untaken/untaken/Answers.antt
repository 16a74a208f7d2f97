-- What remains to be proved of `untaken`.
use Rattle.order.proofs.untaken.untaken.Goals as goal

pub returns : goal.returns
returns c edges taken is = let both = c.waiting_flags.ensures _ _ _ _ is in record { as_many = both.0; each = both.1 }
