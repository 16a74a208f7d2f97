-- One file more, and all of them.
use Rattle.std.proofs.Common.{◌+◌, ◌&&◌, not, nat_lt, arith}
use Rattle.project_minimal.proofs.TakingLemmas.{from_more, from_none, grows_none, grows_on, takes_none, takes_on}
use Rattle.project_minimal.proofs.taken.take_earlier.Goals as goal

pub loop-file-init : goal.loop-file-init
loop-file-init c = record { grows = grows_none c.args.count c.args.taken.now c.requires.before; takes = takes_none _ c.args.taken.now (λ at. from_none c.args.taken.now.low at) }

pub take-requires-clause-before : goal.take-requires-clause-before
take-requires-clause-before c = c.loop-file.invariant.grows.are

pub loop-file-preserved : goal.loop-file-preserved
loop-file-preserved c = record {
  grows = grows_on c.args.count c.args.taken.now c.loop-file.taken c.take.new.taken c.loop-file.invariant.grows c.in_ok-take.ensures.grows;
  takes = takes_on _ _ (λ at. not (nat_lt at c.args.taken.now.low) && nat_lt at (c.loop-file.file + 1)) c.args.taken.now c.loop-file.taken c.take.new.taken c.loop-file.invariant.takes c.in_ok-take.ensures.takes
      (λ at. from_more c.args.taken.now.low c.loop-file.file at (omega arith));
}
