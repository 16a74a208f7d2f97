-- The same files, with more of which it is noted.
use Rattle.std.proofs.Common.{[], sym}
use Rattle.std.proofs.lemmas.List.{append-nil}
use Rattle.project_minimal.proofs.taken.raise_low.Goals as goal

pub returns-clause-grows : goal.returns-clause-grows
returns-clause-grows c = record {
  are = record { each = c.requires.before.each; distinct = c.requires.before.distinct; within = c.requires.before.within; low = c.requires.all };
  goes_on = record { more = []; is = sym (append-nil c.args.taken.now.list.items) };
}
