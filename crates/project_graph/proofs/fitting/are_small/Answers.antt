-- What remains to be proved of `are_small`.
use Rattle.std.proofs.Common.{arith, ap, ◌∙◌, ◌≡◌, ◌≤◌, ℕ, [], List, length, get_or, take, refl}
use Rattle.std.specs.Prelude.{sum_by}
use Rattle.std.proofs.lemmas.Bool.{false≢true}
use Rattle.std.proofs.lemmas.List.{get_or_default, take_all}
use Rattle.base.specs.declared.limits.TheConstants.{TEXT_LIMIT}
use Rattle.project_graph.proofs.fitting.are_small.Goals as goal

pub returns-then-size-gt-TEXT_LIMIT : goal.returns-then-size-gt-TEXT_LIMIT
returns-then-size-gt-TEXT_LIMIT c =
    let same : length c.bytes-size.result.now ≡ length (get_or c.args.texts.now c.loop-i.i c.index-texts-i.result) = ap (λ (text : List ℕ). length text) (c.bytes-size.ensures ∙ c.index-texts-i.is) in (
      λ never. absurd (false≢true never),
      λ small. let short : length (get_or c.args.texts.now c.loop-i.i c.index-texts-i.result) ≤ TEXT_LIMIT = small.short c.loop-i.i c.index-texts-i.result c.loop-i-test.true in absurd (omega (arith, same, short, c.if-size-gt-TEXT_LIMIT.true)),
    )

pub returns : goal.returns
returns c =
    let all : take c.loop-i.i c.args.texts.now ≡ c.args.texts.now = take_all c.loop-i.i c.args.texts.now c.loop-i-test.false in
    let total : c.loop-i.total ≡ sum_by (λ (text : List ℕ). length text) c.args.texts.now = c.loop-i.invariant.total ∙ ap (sum_by (λ (text : List ℕ). length text)) all in (
      λ is_true. record {
        short = λ k d lt. omega (arith, c.loop-i.invariant.short k (omega arith), ap (λ (text : List ℕ). length text) (get_or_default c.args.texts.now k d [] lt));
        few_bytes = omega (arith, total, c.loop-i.invariant.within);
      },
      λ small. refl,
    )
