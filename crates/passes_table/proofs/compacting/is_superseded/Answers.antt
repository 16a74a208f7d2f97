use Rattle.std.proofs.Common.{◌+◌, true≢false, sym, subst, ◌∙◌, arith}
use Rattle.passes_spec.specs.Passes.{is_of_tests}
use Rattle.passes_table.specs.Located.{located_passes}
use Rattle.passes_table.proofs.KeptOn.{none_from, one_from}
use Rattle.passes_table.proofs.LastRows.{IsUpTo, after_row, no_row, row_low, row_passed, row_tested}
use Rattle.passes_table.proofs.compacting.is_superseded.Goals as goal

pub returns-then-later-number : goal.returns-then-later-number
returns-then-later-number c =
    let up = subst (IsUpTo c.args.run.now c.args.simulator.now (located_passes c.args.held.now.segments c.args.table.now).passes c.args.table.now.latest.fingerprints) c.in-Some.is c.loop-candidate.invariant in
    sym (none_from (is_of_tests c.args.run.now c.args.simulator.now) (located_passes c.args.held.now.segments c.args.table.now).passes (c.args.number + 1) (λ k a l. after_row c.args.held.now.segments c.args.table.now c.requires.table.latest c.args.run.now c.args.simulator.now c.in-Some.later up k (omega (arith, a, c.if-later-number.true)) l))

pub returns-then-is_of_tests : goal.returns-then-is_of_tests
returns-then-is_of_tests c =
    let up = subst (IsUpTo c.args.run.now c.args.simulator.now (located_passes c.args.held.now.segments c.args.table.now).passes c.args.table.now.latest.fingerprints) c.in-Some.is c.loop-candidate.invariant in
    let is = row_tested c.args.held.now.segments c.args.table.now c.requires.table.latest c.args.run.now c.args.simulator.now c.in-Some.later c.index.result.now up c.index.ensures ((c.is_of_tests.ensures (located_passes c.args.held.now.segments c.args.table.now).lists).0 c.if-is_of_tests.true) in
    sym (one_from (is_of_tests c.args.run.now c.args.simulator.now) (located_passes c.args.held.now.segments c.args.table.now).passes (c.args.number + 1) c.in-Some.later (omega (arith, c.if-later-number.false)) (row_low c.args.held.now.segments c.args.table.now c.requires.table.latest c.args.run.now c.args.simulator.now c.in-Some.later up) is)

pub loop-candidate-preserved : goal.loop-candidate-preserved
loop-candidate-preserved c =
    let up = subst (IsUpTo c.args.run.now c.args.simulator.now (located_passes c.args.held.now.segments c.args.table.now).passes c.args.table.now.latest.fingerprints) c.in-Some.is c.loop-candidate.invariant in
    row_passed c.args.held.now.segments c.args.table.now c.requires.table.latest c.args.run.now c.args.simulator.now c.in-Some.later c.index.result.now c.earlier-candidate.result up c.index.ensures (λ is. true≢false (sym ((c.is_of_tests.ensures (located_passes c.args.held.now.segments c.args.table.now).lists).1 is) ∙ c.if-is_of_tests.false)) c.earlier-candidate.ensures

pub returns : goal.returns
returns c = sym (none_from (is_of_tests c.args.run.now c.args.simulator.now) (located_passes c.args.held.now.segments c.args.table.now).passes (c.args.number + 1) (λ k a l. no_row c.args.held.now.segments c.args.table.now c.requires.table.latest c.args.run.now c.args.simulator.now (subst (IsUpTo c.args.run.now c.args.simulator.now (located_passes c.args.held.now.segments c.args.table.now).passes c.args.table.now.latest.fingerprints) c.in_default.is c.loop-candidate.invariant) k l))
