-- The row of the index has grown, or it is unchanged.
use Rattle.std.proofs.Common.{◌≡◌, ◌∙◌, ℕ, [], List, subst, arith}
use Rattle.std.proofs.lemmas.List.{get_or_default}
use Rattle.vhdl_scope.specs.Links.{HasLookedAt}
use Rattle.vhdl_scope.specs.Work.{HasListed, readers_at}
use Rattle.vhdl_scope.proofs.WorkLemmas.{listed_both}
use Rattle.vhdl_scope.proofs.SpreadLemmas.{revisited_more, revisited_same}
use Rattle.vhdl_scope.proofs.spread.revisit.Goals as goal

pub returns-in_ok-list_all-clause-revisited : goal.returns-in_ok-list_all-clause-revisited
returns-in_ok-list_all-clause-revisited c =
    let readers : c.as_slice.result.now ≡ readers_at c.args.readers.now c.args.at = c.as_slice.ensures ∙ (c.index-readers-at.is ∙ get_or_default c.args.readers.now c.args.at _ [] (omega (arith, c.requires.at, c.requires.readers))) in
    let all = subst (λ (some : List ℕ). HasListed some c.list_one.new.work.items c.list_one.new.flags c.list_all.new.work.items c.list_all.new.flags) readers c.in_ok-list_all.ensures in
    revisited_more c.args.links.now c.args.readers.now c.args.at c.args.rows.now c.look_at.new.rows c.args.work.now.items c.args.flags.now c.list_all.new.work.items c.list_all.new.flags
    (subst (HasLookedAt c.args.links.now c.args.at c.args.rows.now c.look_at.new.rows) c.if-grown.true c.in_ok-grown.ensures.looked) (listed_both _ _ _ _ _ _ _ _ c.in_ok-list_one.ensures all) c.requires.known c.requires.readers c.requires.at

pub returns-else-grown-clause-revisited : goal.returns-else-grown-clause-revisited
returns-else-grown-clause-revisited c =
    revisited_same c.args.links.now c.args.readers.now c.args.at c.args.rows.now c.look_at.new.rows c.args.work.now.items c.args.flags.now
    (subst (HasLookedAt c.args.links.now c.args.at c.args.rows.now c.look_at.new.rows) c.if-grown.false c.in_ok-grown.ensures.looked) c.requires.work (omega (arith, c.requires.at, c.requires.flags))
