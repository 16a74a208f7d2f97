-- What remains to be proved of `add_files`.
use Rattle.std.proofs.Common.{arith, sym, subst, ◌∙◌, ◌≡◌, ◌<◌, [], length, get_or}
use Rattle.std.specs.Prelude.{All}
use Rattle.std.proofs.lemmas.List.{get_or_default}
use Rattle.order.proofs.Takes.{one_noted, all_noted}
use Rattle.order.proofs.untaken.add_files.Goals as goal

pub depends-requires-clause-file : goal.depends-requires-clause-file
depends-requires-clause-file c = omega (arith, c.loop-file.invariant.as_many, c.loop-file-test.true)

pub depends-requires-clause-deps : goal.depends-requires-clause-deps
depends-requires-clause-deps c =
    let same : c.as_slice-deps.result.now ≡ get_or c.args.edges.now c.loop-file.file [] = c.as_slice-deps.ensures ∙ c.index-edges-file.is ∙ get_or_default c.args.edges.now c.loop-file.file c.index-edges-file.result [] c.loop-file-test.true in
    let within : All (λ dep. dep < length c.args.edges.now) c.as_slice-deps.result.now = subst (All (λ dep. dep < length c.args.edges.now)) (sym same) (c.requires.edges.within c.loop-file.file) in
    λ k d lt. omega (arith, within k d lt, c.loop-file.invariant.as_many)

pub loop-file-preserved : goal.loop-file-preserved
loop-file-preserved c =
    let same : c.as_slice-deps.result.now ≡ get_or c.args.edges.now c.loop-file.file [] = c.as_slice-deps.ensures ∙ c.index-edges-file.is ∙ get_or_default c.args.edges.now c.loop-file.file c.index-edges-file.result [] c.loop-file-test.true in
    one_noted c.loop-file.left c.depends.new.self c.args.edges.now c.loop-file.file c.as_slice-deps.result.now same
    c.in_ok-depends.ensures.waits c.loop-file.invariant

pub returns : goal.returns
returns c = all_noted c.loop-file.left c.args.edges.now c.loop-file.file c.loop-file-test.false c.loop-file.invariant
