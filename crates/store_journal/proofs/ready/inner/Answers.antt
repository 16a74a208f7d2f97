use Rattle.std.proofs.Common.{ℕ, take, drop, ap, arith}
use Rattle.store_journal.proofs.ready.inner.Goals as goal

pub returns : goal.returns
returns c = ap (λ (n : ℕ). take n (drop 4 c.args.bytes.now)) (omega arith)
