-- The laws of journals of tests.
use Rattle.std.proofs.Common.{arith, sym, ap, ◌∙◌, List, length, ℕ}
use Rattle.base.specs.PresentGraph.{below}
use Rattle.run_spec.proofs.InOrder.{has_order, length_below}
use Rattle.run_spec.proofs.test_laws.laws_of_tests.Goals as goal

pub returns-clause-in_order : goal.returns-clause-in_order
returns-clause-in_order c setting events lawful =
    let order = has_order setting events lawful in
    order.is.taken ∙ ap below (sym (ap (λ (xs : List ℕ). length xs) order.is.taken ∙ length_below order.next))

pub returns-clause-few : goal.returns-clause-few
returns-clause-few c setting events lawful =
    let order = has_order setting events lawful in
    omega (arith, order.is.within, ap (λ (xs : List ℕ). length xs) order.is.taken, length_below order.next)
