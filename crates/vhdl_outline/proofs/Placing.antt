-- Where the units of a scan are.
use Rattle.std.proofs.Common.{◌≡◌, ℕ, ◌<◌, ◌≤◌, List, Some, length, All, sym, subst}
use Rattle.std.specs.Prelude.{slice_get}
use Rattle.std.proofs.lemmas.Option.{slice_get_within, get_or_from_slice_get}
use Rattle.base.specs.declared.design.Scan.{Scan}
use Rattle.base.specs.declared.design.Unit.{Unit as DesignUnit}
use Rattle.vhdl_spec.specs.Scans.{IsScanOf}
use Rattle.vhdl_spec.specs.UnitIndices.{IsPlaced}
use Rattle.vhdl_spec.proofs.Placed.{all_placed}

pub placed : (text : List ℕ) (scan : Scan) (is : IsScanOf text scan) (i : ℕ) (unit : DesignUnit) → slice_get scan.units i ≡ Some unit → IsPlaced text scan.tokens.list unit
placed text scan is i unit there =
    let all = subst (All (IsPlaced text scan.tokens.list)) (sym is.units) (all_placed text scan.tokens.list is.elements is.outline) in
    subst (IsPlaced text scan.tokens.list) (get_or_from_slice_get scan.units i unit unit there) (all i unit (slice_get_within scan.units i unit there))
