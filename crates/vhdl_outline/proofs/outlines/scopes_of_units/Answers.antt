-- One unit more.
use Rattle.std.proofs.Common.{◌≡◌, ◌∙◌, ◌++◌, ◌∷◌, [], ℕ, List, Option, Some, None, ap, sym, arith}
use Rattle.std.specs.Prelude.{slice_get}
use Rattle.std.specs.Option.{option_map}
use Rattle.base.specs.declared.design.Scan.{Scan}
use Rattle.base.specs.declared.design.Unit.{Unit as DesignUnit}
use Rattle.vhdl_spec.specs.References.{library_names}
use Rattle.vhdl_outline.specs.declared.outlines.UnitScope.{UnitScope}
use Rattle.vhdl_outline.specs.Outlines.{scope_of}
use Rattle.vhdl_outline.proofs.OutlineLemmas.{few_units, mapped_more}
use Rattle.vhdl_outline.proofs.outlines.scopes_of_units.Goals as goal

pub overflow_cast-number : goal.overflow_cast-number
overflow_cast-number c = let few = few_units c.args.text.now c.args.scan.now c.requires.scan in omega (arith, c.requires.small)

scope_named : (text : List ℕ) (scan : Scan) (unit : Option DesignUnit) (names : List (List ℕ)) → option_map (library_names text scan.tokens.list) unit ≡ Some names → option_map (scope_of text scan) unit ≡ Some (record { names = names })
scope_named text scan None names is = let never : ⊥ = cc in absurd never
scope_named text scan (Some unit) names is = ap (option_map (λ (some : List (List ℕ)). record { names = some })) is

pub loop-number-preserved : goal.loop-number-preserved
loop-number-preserved c =
    c.in_ok-push.ensures.items
    ∙ (ap (λ (some : List UnitScope). some ++ record { names = c.in_ok-names.names } ∷ []) c.loop-number.invariant
    ∙ sym (mapped_more (scope_of c.args.text.now c.args.scan.now) c.args.scan.now.units c.loop-number.number (record { names = c.in_ok-names.names }) (scope_named c.args.text.now c.args.scan.now (slice_get c.args.scan.now.units c.loop-number.number) c.in_ok-names.names c.in_ok-names.ensures)))
