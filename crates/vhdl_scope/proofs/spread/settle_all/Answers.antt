-- The list of all indices settles the sets.
use Rattle.std.proofs.Common.{◌∙◌, ℕ, sym, subst, List}
use Rattle.vhdl_scope.specs.Work.{KnowReaders}
use Rattle.vhdl_scope.proofs.SpreadLemmas.{settling_first}
use Rattle.vhdl_scope.proofs.spread.settle_all.Goals as goal

pub settle-requires-clause-known : goal.settle-requires-clause-known
settle-requires-clause-known c = subst (λ (readers : List (List ℕ)). KnowReaders c.args.links.now readers) (sym c.as_slice.ensures.value) c.in_ok-readers.ensures.known

pub settle-requires-clause-settling : goal.settle-requires-clause-settling
settle-requires-clause-settling c =
    settling_first c.args.links.now c.args.rows.now c.in_ok-work.work.items c.as_mut_slice.result.now
    c.in_ok-work.ensures.each c.in_ok-work.ensures.is (c.as_mut_slice.ensures.value ∙ c.in_ok-flags.ensures.items_if_clones_equal (λ y same. same))
