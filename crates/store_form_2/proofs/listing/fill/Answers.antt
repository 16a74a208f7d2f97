use Rattle.std.proofs.Common.{get_or, subst}
use Rattle.base_collections.specs.Numbers.{IsAdded, NumbersBelow}
use Rattle.store_form_2.proofs.Filling.{filled}
use Rattle.store_form_2.proofs.listing.fill.Goals as goal

pub loop-number-preserved : goal.loop-number-preserved
loop-number-preserved c =
    let numbers = c.args.numbers.now in
    let i = c.loop-number.number-index in
    filled numbers i c.args.set.now.size c.in_ok-_is_new._is_new c.add.new.self c.requires.once c.loop-number-test.true
    (subst (λ (s : NumbersBelow). IsAdded c.in_ok-_is_new._is_new (get_or numbers i 0) s c.add.new.self) c.loop-number.invariant c.in_ok-_is_new.ensures.ok)
