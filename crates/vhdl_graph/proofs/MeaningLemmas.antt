-- What references name, by the names of units.
use Rattle.std.proofs.Common.{◌≡◌, ℕ, Bool, ◌&&◌, ◌||◌, List, sym, ◌∙◌, ap}
use Rattle.std.specs.List.{list_any}
use Rattle.base.specs.declared.refs.Ref.{Ref}
use Rattle.vhdl_spec.specs.Dependencies.{LinkUnit, is_architecture, is_body, is_given_architecture, is_package_kind, is_primary}
use Rattle.vhdl_spec.proofs.SomeTests.{any_same}
use Rattle.vhdl_graph.specs.Keys.{architecture_key, body_key, is_same_key, key_of, primary_key}
use Rattle.vhdl_graph.specs.Meanings.{names_in}
use Rattle.vhdl_graph.specs.Rows.{has_package, is_named_at, stands_at}
use Rattle.vhdl_graph.proofs.KeyLemmas.{architecture_is, body_is, primary_is}
use Rattle.vhdl_graph.proofs.RowLemmas.{stands_or, stands_same, stands_where}

pub primary_any : (library name : List ℕ) (units : List LinkUnit) → list_any (λ u. is_same_key (primary_key library name) (key_of u)) units ≡ list_any (is_primary library name) units
primary_any library name units = any_same _ _ units (λ u. sym (primary_is library name u))

pub architecture_any : (library entity name : List ℕ) (units : List LinkUnit) → list_any (λ u. is_same_key (architecture_key library entity name) (key_of u)) units ≡ list_any (is_architecture library entity name) units
architecture_any library entity name units = any_same _ _ units (λ u. sym (architecture_is library name u entity))

pub primary_at : (library name : List ℕ) (units : List LinkUnit) (at : ℕ) → is_named_at units (primary_key library name) at ≡ stands_at (is_primary library name) units at
primary_at library name units at = stands_same (λ u. is_same_key (primary_key library name) (key_of u)) (is_primary library name) units at (λ u. sym (primary_is library name u))

pub architecture_at : (library entity name : List ℕ) (units : List LinkUnit) (at : ℕ) → is_named_at units (architecture_key library entity name) at ≡ stands_at (is_architecture library entity name) units at
architecture_at library entity name units at = stands_same (λ u. is_same_key (architecture_key library entity name) (key_of u)) (is_architecture library entity name) units at (λ u. sym (architecture_is library name u entity))

pub body_at : (library name : List ℕ) (units : List LinkUnit) (at : ℕ) → is_named_at units (body_key library name) at ≡ stands_at (is_body library name) units at
body_at library name units at = stands_same (λ u. is_same_key (body_key library name) (key_of u)) (is_body library name) units at (λ u. sym (body_is library name u))

-- a package of a name
package_any : (library name : List ℕ) (units : List LinkUnit) → has_package units (primary_key library name) ≡ list_any (λ other. is_primary library name other && is_package_kind other.scope.unit.kind) units
package_any library name units = any_same _ _ units (λ u. ap (λ (b : Bool). b && is_package_kind u.scope.unit.kind) (sym (primary_is library name u)))

-- what a reference names, part by part
pub names_parts : (bodies : Bool) (units : List LinkUnit) (library : List ℕ) (ref : Ref) (at : ℕ) →
    stands_at (names_in bodies units library ref) units at ≡ ((is_named_at units (primary_key library ref.name) at || stands_at (is_given_architecture library ref.name ref.architecture) units at) || (bodies && (stands_at (is_body library ref.name) units at && has_package units (primary_key library ref.name))))
names_parts bodies units library ref at =
    let package_there : Bool = list_any (λ other. is_primary library ref.name other && is_package_kind other.scope.unit.kind) units in
    stands_or (λ u. is_primary library ref.name u || is_given_architecture library ref.name ref.architecture u) (λ u. bodies && is_body library ref.name u && package_there) units at
    ∙ (ap (λ (b : Bool). b || stands_at (λ u. bodies && is_body library ref.name u && package_there) units at) (stands_or (is_primary library ref.name) (is_given_architecture library ref.name ref.architecture) units at ∙ ap (λ (b : Bool). b || stands_at (is_given_architecture library ref.name ref.architecture) units at) (sym (primary_at library ref.name units at)))
    ∙ ap (λ (b : Bool). (is_named_at units (primary_key library ref.name) at || stands_at (is_given_architecture library ref.name ref.architecture) units at) || b) (stands_where bodies package_there (is_body library ref.name) units at
    ∙ ap (λ (b : Bool). bodies && (stands_at (is_body library ref.name) units at && b)) (sym (package_any library ref.name units))))
