-- What belongs to the unit, and what its components may be bound to.
use Rattle.std.proofs.Common.{◌∙◌, List, ℕ, Some, ap, subst, sym}
use Rattle.std.specs.List.{All}
use Rattle.vhdl_lex.specs.LexicalElements.{LiesIn}
use Rattle.project_minimal.specs.Needing.{count_of}
use Rattle.project_minimal.specs.MinimalSet.{wants_of}
use Rattle.project_minimal.specs.Taking.{Grows}
use Rattle.project_minimal.proofs.Supplied.{components_lie, unit_wants}
use Rattle.project_minimal.proofs.TakingLemmas.{grows_on, takes_on}
use Rattle.project_minimal.proofs.units.take_unit.Goals as goal

pub take_all_bound-requires-clause-lie : goal.take_all_bound-requires-clause-lie
take_all_bound-requires-clause-lie c =
    let text = c.get-2.ensures ∙ ap (λ (text : List ℕ). Some text) (sym c.bytes-text.ensures) in
    subst (All (LiesIn c.bytes-text.result.now)) (sym c.as_slice-components.ensures)
    (components_lie c.bytes-text.result.now c.get-outline.result.now c.args.id.unit c.get-3.result.now (c.requires.tables.sources.lie.lie c.args.id.file c.bytes-text.result.now c.get-outline.result.now text c.get-outline.ensures) c.get-3.ensures)

pub returns-clause-grows : goal.returns-clause-grows
returns-clause-grows c = grows_on (count_of c.args.tables) c.args.taken.now c.take_parts.new.taken c.take_all_bound.new.taken (subst (λ (count : ℕ). Grows count c.args.taken.now c.take_parts.new.taken) c.len-count.ensures c.in_ok-take_parts.ensures.grows) c.in_ok-take_all_bound.ensures.grows

pub returns-clause-takes : goal.returns-clause-takes
returns-clause-takes c = λ said unit known found.
    takes_on _ _ (wants_of said unit) c.args.taken.now c.take_parts.new.taken c.take_all_bound.new.taken c.in_ok-take_parts.ensures.takes c.in_ok-take_all_bound.ensures.takes
    (unit_wants c.args.tables said c.requires.tables known c.args.id.file c.get-outline.result.now c.get-outline.ensures c.requires.file c.args.id.unit c.get.result.now c.bytes-text.result.now c.get-unit.result.now c.get-3.result.now c.as_slice-components.result.now unit
    c.get.ensures (c.get-2.ensures ∙ ap (λ (text : List ℕ). Some text) (sym c.bytes-text.ensures)) c.get-unit.ensures c.get-3.ensures c.as_slice-components.ensures found)
