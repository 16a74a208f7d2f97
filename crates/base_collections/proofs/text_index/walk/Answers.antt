use Rattle.std.proofs.Common.{ℕ, Option, get_or, refl, sym, ◌∙◌, subst}
use Rattle.base_collections.proofs.Walking.{IsWalk, no_split, walk_begins, walk_ends, walk_stays, walk_turns}
use Rattle.base_collections.proofs.text_index.walk.Goals as goal

pub loop-candidate-init : goal.loop-candidate-init
loop-candidate-init c =
    walk_begins c.args.splits.now c.args.text.now c.args.firsts.now c.args.nexts.now (record { firsts_are = c.requires.chained.firsts_are; nexts_are = c.requires.chained.nexts_are; before = c.requires.chained.before; first = c.requires.chained.first; next = c.requires.chained.next }) c.requires.some

pub loop-candidate-preserved-then-value_at-split : goal.loop-candidate-preserved-then-value_at-split
loop-candidate-preserved-then-value_at-split c =
    walk_turns c.args.splits.now c.args.text.now c.args.firsts.now c.args.nexts.now c.loop-candidate.now c.in-Some.number (get_or c.args.splits.now c.in-Some.number no_split)
    (record { firsts_are = c.requires.chained.firsts_are; nexts_are = c.requires.chained.nexts_are; before = c.requires.chained.before; first = c.requires.chained.first; next = c.requires.chained.next })
    (subst (IsWalk c.args.splits.now c.args.text.now c.loop-candidate.now) c.in-Some.is c.loop-candidate.invariant) refl (λ e. c.if-value_at-split.true (c.value_at.ensures ∙ e))

pub loop-candidate-preserved : goal.loop-candidate-preserved
loop-candidate-preserved c =
    walk_stays c.args.splits.now c.args.text.now c.args.firsts.now c.args.nexts.now c.loop-candidate.now c.in-Some.number (get_or c.args.splits.now c.in-Some.number no_split)
    (record { firsts_are = c.requires.chained.firsts_are; nexts_are = c.requires.chained.nexts_are; before = c.requires.chained.before; first = c.requires.chained.first; next = c.requires.chained.next })
    (subst (IsWalk c.args.splits.now c.args.text.now c.loop-candidate.now) c.in-Some.is c.loop-candidate.invariant) refl (sym c.value_at.ensures ∙ c.if-value_at-split.false)

pub returns-clause-is : goal.returns-clause-is
returns-clause-is c = walk_ends c.args.splits.now c.args.text.now c.loop-candidate.now (subst (IsWalk c.args.splits.now c.args.text.now c.loop-candidate.now) c.in_default.is c.loop-candidate.invariant)
