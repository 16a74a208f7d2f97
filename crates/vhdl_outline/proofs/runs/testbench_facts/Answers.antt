-- One unit more.
use Rattle.std.proofs.Common.{◌≡◌, ◌∙◌, ◌++◌, ◌∷◌, ◌+◌, [], List, map, take, ap, sym, subst}
use Rattle.std.specs.List.{All}
use Rattle.std.proofs.lemmas.List.{map_more}
use Rattle.std.proofs.lemmas.List.Elements.{All-push}
use Rattle.std.proofs.lemmas.Option.{get_or_from_slice_get, slice_get_within}
use Rattle.base.specs.declared.design.Unit.{Unit as DesignUnit}
use Rattle.vhdl_outline.specs.declared.runs.UnitFacts.{UnitFacts}
use Rattle.vhdl_outline.specs.Runs.{UnitRunsLieIn, unit_runs}
use Rattle.vhdl_outline.proofs.runs.testbench_facts.Goals as goal

pub loop-number-preserved : goal.loop-number-preserved
loop-number-preserved c =
    let text = c.args.text.now in
    let units : List DesignUnit = c.args.scan.now.units in
    let at = c.loop-number.number in
    let unit : DesignUnit = c.unit_at-unit.result.now in
    let says = unit_runs text c.args.scan.now.tokens.list in
    let there = c.unit_at-unit.ensures.there in
    let more : map says (take (at + 1) units) ≡ map says (take at units) ++ says unit ∷ [] =
    map_more says units at unit (slice_get_within units at unit there) ∙ ap (λ (u : DesignUnit). map says (take at units) ++ says u ∷ []) (get_or_from_slice_get units at unit unit there) in
    record {
      are = c.in_ok-push.ensures.items
          ∙ ap (λ (so_far : List UnitFacts). so_far ++ c.in_ok-unit_runs.field-0 ∷ []) c.loop-number.invariant.are
          ∙ ap (λ (runs : UnitFacts). map says (take at units) ++ runs ∷ []) c.in_ok-unit_runs.ensures.are
          ∙ sym more;
      lie = subst (All (UnitRunsLieIn text)) (sym c.in_ok-push.ensures.items) (All-push (UnitRunsLieIn text) c.loop-number.units.items c.in_ok-unit_runs.field-0 c.loop-number.invariant.lie c.in_ok-unit_runs.ensures.lie);
    }
