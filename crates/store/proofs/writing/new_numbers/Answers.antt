use Rattle.std.proofs.Common.{ℕ, sym, subst, arith}
use Rattle.std.specs.Prelude.{Contains}
use Rattle.store.proofs.writing.new_numbers.Goals as goal

pub new_number-requires-clause-there : goal.new_number-requires-clause-there
new_number-requires-clause-there c = subst (λ (n : ℕ). Contains c.args.products.now.numbers n) (sym c.get.ensures) (c.requires.there c.loop-k.k 0 (omega (arith, c.loop-k-test.true, c.len-k-end.ensures)))
