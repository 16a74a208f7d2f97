-- The unit is where its scan says.
use Rattle.std.proofs.Common.{List, length, sym, ap, subst, arith}
use Rattle.base.specs.declared.design.Role.{Role}
use Rattle.vhdl_outline.specs.Clauses.{IsClauseAt}
use Rattle.vhdl_outline.specs.declared.clause.Clause.{Clause}
use Rattle.vhdl_outline.proofs.ClauseSteps.{clause_begins}
use Rattle.vhdl_outline.proofs.Leads.{IsInScan, unit_in_scan}
use Rattle.vhdl_outline.proofs.unit.unit_at.Goals as goal

known : (c : goal.After-clause_from) → IsInScan c.args.roles.now (length c.args._text.now) c.get-unit.result.now
known c = subst (λ (roles : List Role). IsInScan roles (length c.args._text.now) c.get-unit.result.now) (sym c.requires.roles) (unit_in_scan c.args._text.now c.args.scan.now c.requires.scan c.args.number c.get-unit.result.now c.get-unit.ensures)

pub returns : goal.returns
returns c =
    let it = known c in
    let few = it.few in
    record {
      there = c.get-unit.ensures;
      led = it.led;
      ordered = it.ordered;
      within = it.within;
      small = omega (arith, c.requires.small);
      start = ap (λ (k : Clause). k.start) c.clause_from.ensures;
      clause = subst (λ (k : Clause). IsClauseAt c.args.roles.now k.start k) (sym c.clause_from.ensures) (clause_begins c.args.roles.now c.get-unit.result.now.lead it.begins);
    }
