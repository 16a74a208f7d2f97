-- The outline of a file: its context items, if it has any, and its package.
use Rattle.std.proofs.Common.{◌≡◌, ◌≢◌, zero, suc, ℕ, ◌+◌, ◌<◌, ◌≤◌, ⊎_elim, Bool, true, false, not, ◌&&◌, List, refl, sym, ap, ◌∙◌, arith}
use Rattle.std.proofs.str.Laws.{order}
use Rattle.base.specs.declared.design.Role.{Role}
use Rattle.base.specs.declared.design.Role.TheVariants.{End, Function, Generate, Package, Procedure, Semicolon}
use Rattle.vhdl_spec.specs.References.{is_semicolon}
use Rattle.vhdl_spec.specs.Units.{role_at, IsPackageOpener, IsSubprogramOpener, IsGenerateOpener, IsPlainEnd, IsSingle, Items, nothing, single, IsFirstSemicolon, IsOutline}
use Rattle.generated_sources.proofs.ByteTests.{both_of}
use Rattle.generated_sources.specs.PackageScans.{file_elements, file_roles}

-- a role of a token that neither opens nor ends anything
abbrev is_quiet : Role → Bool
is_quiet Package = false
is_quiet Function = false
is_quiet Procedure = false
is_quiet Generate = false
is_quiet End = false
is_quiet _ = true

other_role : (roles : List Role) (at : ℕ) (role : Role) → is_quiet role ≡ false → is_quiet (role_at roles at) ≡ true → role_at roles at ≡ role → ⊥
other_role roles at role loud quiet is = let same : is_quiet (role_at roles at) ≡ is_quiet role = ap is_quiet is in cc

quiet_single : (roles : List Role) (start at : ℕ) → is_quiet (role_at roles at) ≡ true → IsSingle roles start false at
quiet_single roles start at quiet = record {
  no_items = λ opens. ⊎_elim
      (λ (o : IsPackageOpener roles start at). other_role roles at Package refl quiet o.word)
      (λ (o : IsSubprogramOpener roles start at). ⊎_elim (other_role roles at Function refl quiet) (other_role roles at Procedure refl quiet) o.word)
      opens;
  no_generate = λ (o : IsGenerateOpener roles at). other_role roles at Generate refl quiet o.word;
  no_close = λ (e : IsPlainEnd roles at). other_role roles at End refl quiet e.word;
}

-- the test holds of the roles of `count` tokens from `at` on
abbrev all_from : (Role → Bool) → List Role → ℕ → ℕ → Bool
all_from test roles at zero = true
all_from test roles at (suc count) = test (role_at roles at) && all_from test roles (at + 1) count

pub quiet_items : (roles : List Role) (start at count end : ℕ) → end ≡ at + count → all_from is_quiet roles at count ≡ true → Items roles start false at end
quiet_items roles start at zero end up_to all = nothing (omega (arith, up_to))
quiet_items roles start at (suc count) end up_to all =
    let both = both_of (is_quiet (role_at roles at)) (all_from is_quiet roles (at + 1) count) all in
    single (quiet_single roles start at both.0) (quiet_items roles start (at + 1) count end (omega (arith, up_to)) both.1)

abbrev is_no_semicolon : Role → Bool
is_no_semicolon role = not (is_semicolon role)

none_before : (roles : List Role) (start count : ℕ) → all_from is_no_semicolon roles start count ≡ true → (before : ℕ) → start ≤ before → before < start + count → role_at roles before ≢ Semicolon
none_before roles start zero all before from below = let no_number : ⊥ = omega (arith, from, below) in absurd no_number
none_before roles start (suc count) all before from below =
    let both = both_of (is_no_semicolon (role_at roles start)) (all_from is_no_semicolon roles (start + 1) count) all in
    ⊎_elim
    (λ (later : start < before). none_before roles (start + 1) count both.1 before (omega (arith, later)) (omega (arith, below)))
    (λ (first : before ≤ start). λ is.
    let same : before ≡ start = omega (arith, from, first) in
    let fails : is_no_semicolon (role_at roles start) ≡ false = ap (λ (n : ℕ). is_no_semicolon (role_at roles n)) (sym same) ∙ ap is_no_semicolon is in
    let no_way : true ≡ false = sym both.0 ∙ fails in
    let no_number : ⊥ = cc in
    absurd no_number)
    (order start before)

pub first_semicolon : (roles : List Role) (start count at : ℕ) → at ≡ start + count → all_from is_no_semicolon roles start count ≡ true → role_at roles at ≡ Semicolon → IsFirstSemicolon roles start at
first_semicolon roles start count at up_to all there = record {
  after = omega (arith, up_to);
  there = there;
  first = λ before from below. none_before roles start count all before from (omega (arith, below, up_to));
}

pub file_outline : (alone : Bool) → IsOutline (file_roles alone) (file_elements alone)
file_outline true = (
  (refl, record { close = 11; inside = quiet_items (file_roles true) 3 3 8 11 refl refl; ends = record { word = refl; what = refl }; semicolon = first_semicolon (file_roles true) 12 2 14 refl refl refl }),
  refl,
)
file_outline false = (
  (refl, first_semicolon (file_roles false) 1 1 2 refl refl refl),
  (
    (refl, first_semicolon (file_roles false) 4 5 9 refl refl refl),
    (
      (refl, record { close = 21; inside = quiet_items (file_roles false) 13 13 8 21 refl refl; ends = record { word = refl; what = refl }; semicolon = first_semicolon (file_roles false) 22 2 24 refl refl refl }),
      refl,
    ),
  ),
)
