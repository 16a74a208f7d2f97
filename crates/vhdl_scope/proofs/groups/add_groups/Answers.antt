-- One unit more.
use Rattle.std.proofs.Common.{◌∙◌, Some, ap, sym}
use Rattle.std.proofs.lemmas.Option.{slice_get-get_or}
use Rattle.vhdl_scope.proofs.OwnedLemmas.{owned_more, owned_none}
use Rattle.vhdl_scope.proofs.groups.add_groups.Goals as goal

pub loop-number-init : goal.loop-number-init
loop-number-init c = owned_none _ _ _ _

pub loop-number-preserved : goal.loop-number-preserved
loop-number-preserved c =
    let unit = c.index-units-number.result in
    let got = slice_get-get_or c.args.units.now c.loop-number.number unit c.loop-number-test.true ∙ ap Some (sym c.index-units-number.is) in
    rw c.in_ok-push.ensures.items
    (owned_more c.args.keeps c.args.library.now c.args.units.now c.loop-number.number unit c.in_ok-add_own.field-0 c.args.groups.now c.loop-number.groups c.add_own.new.groups c.args.owned.now.items c.loop-number.owned.items got c.loop-number.invariant c.in_ok-add_own.ensures.owned c.in_ok-add_own.ensures.all c.in_ok-add_own.ensures.grown)
