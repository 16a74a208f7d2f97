use Rattle.std.proofs.Common.{sym, ◌∙◌, arith}
use Rattle.std.specs.Prelude.{is_some}
use Rattle.std.proofs.lemmas.List.Folds.{list_all_at}
use Rattle.store_form_2.specs.ByNumber.{built_node}
use Rattle.store_form_2.proofs.NodeNames.{all_pass}
use Rattle.store_form_2.proofs.standing.are_built.Goals as goal

pub returns-then-not-is_built : goal.returns-then-not-is_built
returns-then-not-is_built c records of =
    sym (list_all_at (λ dep. is_some (built_node c.args.table.now.nodes records dep)) c.args.deps.now c.loop-k.k 0 c.loop-k-test.true (sym (c.is_built.ensures records of) ∙ c.if-not-is_built.true))

pub returns : goal.returns
returns c records of =
    sym (all_pass (λ dep. is_some (built_node c.args.table.now.nodes records dep)) c.args.deps.now 0 (λ j l. c.loop-k.invariant j (omega (arith, l, c.loop-k-test.false)) records of))
