-- Where the units of a scan are, and that a clause begins at the first token of each.
use Rattle.std.proofs.Common.{◌≡◌, ℕ, zero, suc, ◌+◌, ◌<◌, ◌≤◌, inl, inr, List, [], ◌∷◌, Some, length, All, refl, sym, subst, arith}
use Rattle.std.specs.List.{slice_get}
use Rattle.std.proofs.lemmas.List.{length-map}
use Rattle.std.proofs.lemmas.Option.{slice_get_within, get_or_from_slice_get}
use Rattle.base.specs.declared.design.Role.{Role}
use Rattle.base.specs.declared.design.Role.TheVariants.{Semicolon}
use Rattle.base.specs.declared.design.Scan.{Scan}
use Rattle.base.specs.declared.design.Unit.{Unit as DesignUnit}
use Rattle.vhdl_spec.specs.Units.{role_at, role_of, roles_of}
use Rattle.vhdl_spec.specs.Scans.{IsScanOf}
use Rattle.vhdl_spec.specs.UnitIndices.{FollowOn, IsPlaced}
use Rattle.vhdl_spec.proofs.Lying.{tokens_few}
use Rattle.vhdl_spec.proofs.Placed.{all_placed, follow_on}
use Rattle.vhdl_outline.proofs.ClauseSteps.{BeginsClause}

-- each unit ends with a `;` of the file
abbrev EndsClauses : List Role → List DesignUnit → Type 0
EndsClauses roles units = (i : ℕ) (unit : DesignUnit) → slice_get units i ≡ Some unit → (unit.last < length roles) × (role_at roles unit.last ≡ Semicolon)

lead_begins : (roles : List Role) (units : List DesignUnit) (lead : ℕ) → FollowOn lead units → BeginsClause roles lead → EndsClauses roles units → (i : ℕ) (unit : DesignUnit) → slice_get units i ≡ Some unit → BeginsClause roles unit.lead
lead_begins roles [] lead follow begins ends i unit is = let no : ⊥ = cc in absurd no
lead_begins roles (first ∷ units) lead follow begins ends zero unit is = let same : first ≡ unit = cc in subst (λ (u : DesignUnit). BeginsClause roles u.lead) same (subst (BeginsClause roles) (sym follow.0) begins)
lead_begins roles (first ∷ units) lead follow begins ends (suc i) unit is =
    let end = ends 0 first refl in
    lead_begins roles units (first.last + 1) follow.1 (inr (first.last, end.0, end.1, refl)) (λ k. ends (suc k)) i unit is

-- what a walk over a unit's tokens rests on
pub record IsInScan (roles : List Role) (size : ℕ) (unit : DesignUnit) : Type 0 where
  pub led : unit.lead ≤ unit.first
  pub ordered : unit.first < unit.last
  pub within : unit.last < length roles
  pub few : length roles ≤ size
  pub begins : BeginsClause roles unit.lead

module _ (text : List ℕ) (scan : Scan) (is : IsScanOf text scan) where
  placed : (i : ℕ) (unit : DesignUnit) → slice_get scan.units i ≡ Some unit → IsPlaced text scan.tokens.list unit
  placed i unit there =
      let all = subst (All (IsPlaced text scan.tokens.list)) (sym is.units) (all_placed text scan.tokens.list is.elements is.outline) in
      subst (IsPlaced text scan.tokens.list) (get_or_from_slice_get scan.units i unit unit there) (all i unit (slice_get_within scan.units i unit there))

  count : length (roles_of text scan.tokens.list) ≡ length scan.tokens.list
  count = length-map scan.tokens.list (role_of text)

  ends : EndsClauses (roles_of text scan.tokens.list) scan.units
  ends i unit there = let at = placed i unit there in (let within = at.within in omega (arith, count), at.semicolon)

  pub unit_in_scan : (i : ℕ) (unit : DesignUnit) → slice_get scan.units i ≡ Some unit → IsInScan (roles_of text scan.tokens.list) (length text) unit
  unit_in_scan i unit there =
      let at = placed i unit there in
      record {
        led = at.led;
        ordered = at.ordered;
        within = (ends i unit there).0;
        few = omega (arith, count, tokens_few text scan.tokens is.tokens);
        begins = lead_begins (roles_of text scan.tokens.list) scan.units 0 (subst (FollowOn 0) (sym is.units) (follow_on text scan.tokens.list 0 0 is.elements)) (inl refl) ends i unit there;
      }
