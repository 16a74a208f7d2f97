-- The sweeps spread, and the list of work settles the rest.
use Rattle.std.proofs.Common.{◌≡◌, ◌∙◌, ap, length}
use Rattle.std.proofs.lemmas.List.{length-replicate}
use Rattle.std.proofs.lemmas.Result.{on_ok_weaker}
use Rattle.vhdl_scope.proofs.SpreadLemmas.{evens, spread_both, still_inside}
use Rattle.vhdl_scope.proofs.spread.spread.Goals as goal

pub sweep_all-requires-clause-even : goal.sweep_all-requires-clause-even
sweep_all-requires-clause-even c =
    let words : length c.new-room.result ≡ c.args.words = ap length c.new-room.ensures ∙ length-replicate c.args.words 0 in
    evens _ _ _ c.args.words _ c.in_ok-sweep_twice.ensures.spread c.requires.even (c.sweep_twice.ensures.room ∙ words)

pub sweep_all-requires-clause-inside : goal.sweep_all-requires-clause-inside
sweep_all-requires-clause-inside c = still_inside _ _ _ _ c.in_ok-sweep_twice.ensures.spread c.in_ok-top.ensures

pub returns-then-not-grown-clause-spread : goal.returns-then-not-grown-clause-spread
returns-then-not-grown-clause-spread c = spread_both _ _ _ _ c.in_ok-sweep_twice.ensures.spread c.in_ok-grown.ensures.spread

pub sweep_back-requires-clause-even : goal.sweep_back-requires-clause-even
sweep_back-requires-clause-even c =
    let words : length c.new-room.result ≡ c.args.words = ap length c.new-room.ensures ∙ length-replicate c.args.words 0 in
    evens _ _ _ c.args.words _ (spread_both _ _ _ _ c.in_ok-sweep_twice.ensures.spread c.in_ok-grown.ensures.spread) c.requires.even
    (c.sweep_all.ensures.room ∙ (c.sweep_twice.ensures.room ∙ words))

pub settle_all-requires-clause-even : goal.settle_all-requires-clause-even
settle_all-requires-clause-even c =
    let words : length c.new-room.result ≡ c.args.words = ap length c.new-room.ensures ∙ length-replicate c.args.words 0 in
    evens _ _ _ c.args.words _ (spread_both _ _ _ _ (spread_both _ _ _ _ c.in_ok-sweep_twice.ensures.spread c.in_ok-grown.ensures.spread) c.in_ok-sweep_back.ensures.spread) c.requires.even
    (c.sweep_back.ensures.room ∙ (c.sweep_all.ensures.room ∙ (c.sweep_twice.ensures.room ∙ words)))

pub returns-clause-spread : goal.returns-clause-spread
returns-clause-spread c = on_ok_weaker c.settle_all.result
    (λ h. spread_both _ _ _ _ (spread_both _ _ _ _ (spread_both _ _ _ _ c.in_ok-sweep_twice.ensures.spread c.in_ok-grown.ensures.spread) c.in_ok-sweep_back.ensures.spread) h) c.settle_all.ensures.spread
