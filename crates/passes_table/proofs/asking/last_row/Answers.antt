use Rattle.std.proofs.Common.{true≢false, sym, subst, ◌∙◌}
use Rattle.passes_table.specs.Located.{located_passes}
use Rattle.passes_table.proofs.LastRows.{IsUpTo, no_last, row_found, row_passed}
use Rattle.passes_table.proofs.asking.last_row.Goals as goal

pub returns-then-is_of_tests : goal.returns-then-is_of_tests
returns-then-is_of_tests c =
    let up = subst (IsUpTo c.args.run.now c.args.simulator.now (located_passes c.args.held.now.segments c.args.table.now).passes c.args.table.now.latest.fingerprints) c.in-Some.is c.loop-candidate.invariant in
    row_found c.args.held.now.segments c.args.table.now c.requires.latest c.args.run.now c.args.simulator.now c.in-Some.number c.index.result.now up c.index.ensures ((c.is_of_tests.ensures (located_passes c.args.held.now.segments c.args.table.now).lists).0 c.if-is_of_tests.true)

pub loop-candidate-preserved : goal.loop-candidate-preserved
loop-candidate-preserved c =
    let up = subst (IsUpTo c.args.run.now c.args.simulator.now (located_passes c.args.held.now.segments c.args.table.now).passes c.args.table.now.latest.fingerprints) c.in-Some.is c.loop-candidate.invariant in
    row_passed c.args.held.now.segments c.args.table.now c.requires.latest c.args.run.now c.args.simulator.now c.in-Some.number c.index.result.now c.earlier-candidate.result up c.index.ensures (λ is. true≢false (sym ((c.is_of_tests.ensures (located_passes c.args.held.now.segments c.args.table.now).lists).1 is) ∙ c.if-is_of_tests.false)) c.earlier-candidate.ensures

pub returns : goal.returns
returns c = no_last c.args.held.now.segments c.args.table.now c.requires.latest c.args.run.now c.args.simulator.now (subst (IsUpTo c.args.run.now c.args.simulator.now (located_passes c.args.held.now.segments c.args.table.now).passes c.args.table.now.latest.fingerprints) c.in_default.is c.loop-candidate.invariant)
