-- The primary unit and its architecture, and the body where users depend on bodies.
use Rattle.std.proofs.Common.{◌≡◌, ◌∙◌, ◌&&◌, ◌||◌, ℕ, Bool, List, sym, ap, refl}
use Rattle.std.proofs.lemmas.Result.{on_ok_weaker}
use Rattle.vhdl_spec.specs.Dependencies.{is_body, is_given_architecture}
use Rattle.vhdl_spec.proofs.SomeTests.{or_none}
use Rattle.vhdl_graph.specs.Keys.{DesignUnitKey, primary_key}
use Rattle.vhdl_graph.specs.Meanings.{names_in}
use Rattle.vhdl_graph.specs.Rows.{has_package, is_named_at, stands_at}
use Rattle.vhdl_graph.proofs.RowLemmas.{added_both, added_same}
use Rattle.vhdl_graph.proofs.MeaningLemmas.{names_parts}
use Rattle.vhdl_graph.proofs.refs.put_ref.Goals as goal

pub returns-then-not-bodies : goal.returns-then-not-bodies
returns-then-not-bodies c files units is =
    let library : List ℕ = c.args.library.now in
    let name : List ℕ = c.args.reference.now.name in
    added_same (λ at. is_named_at units (primary_key library name) at || stands_at (is_given_architecture library name c.args.reference.now.architecture) units at) (stands_at (names_in c.args.bodies units library c.args.reference.now) units) c.args.row.now c.put_architecture.new.row
    (added_both (is_named_at units (primary_key library name)) (stands_at (is_given_architecture library name c.args.reference.now.architecture) units) _ c.args.row.now c.put_found.new.row c.put_architecture.new.row
    (added_same (is_named_at units c.args.key.now) (is_named_at units (primary_key library name)) c.args.row.now c.put_found.new.row (c.put_found.ensures files units is) (λ at. ap (λ (k : DesignUnitKey). is_named_at units k at) c.requires.key))
    (c.in_ok-put_architecture.ensures files units is) (λ at. refl))
    (λ at. sym (names_parts c.args.bodies units library c.args.reference.now at
    ∙ (ap (λ (b : Bool). (is_named_at units (primary_key library name) at || stands_at (is_given_architecture library name c.args.reference.now.architecture) units at) || (b && (stands_at (is_body library name) units at && has_package units (primary_key library name)))) c.if-not-bodies.true
    ∙ or_none _)))

pub returns : goal.returns
returns c =
    on_ok_weaker c.put_package_body.result
    (λ put_last files units is.
    let library : List ℕ = c.args.library.now in
    let name : List ℕ = c.args.reference.now.name in
    let key : c.args.key.now ≡ primary_key library name = c.requires.key in
    added_both (λ at. is_named_at units (primary_key library name) at || stands_at (is_given_architecture library name c.args.reference.now.architecture) units at) (λ at. stands_at (is_body library name) units at && has_package units (primary_key library name)) (stands_at (names_in c.args.bodies units library c.args.reference.now) units) c.args.row.now c.put_architecture.new.row c.put_package_body.new.row
    (added_both (is_named_at units (primary_key library name)) (stands_at (is_given_architecture library name c.args.reference.now.architecture) units) _ c.args.row.now c.put_found.new.row c.put_architecture.new.row
    (added_same (is_named_at units c.args.key.now) (is_named_at units (primary_key library name)) c.args.row.now c.put_found.new.row (c.put_found.ensures files units is) (λ at. ap (λ (k : DesignUnitKey). is_named_at units k at) key))
    (c.in_ok-put_architecture.ensures files units is) (λ at. refl))
    (added_same (λ at. stands_at (is_body library name) units at && has_package units c.args.key.now) (λ at. stands_at (is_body library name) units at && has_package units (primary_key library name)) c.put_architecture.new.row c.put_package_body.new.row (put_last files units is) (λ at. ap (λ (k : DesignUnitKey). stands_at (is_body library name) units at && has_package units k) key))
    (λ at. names_parts c.args.bodies units library c.args.reference.now at
    ∙ ap (λ (b : Bool). (is_named_at units (primary_key library name) at || stands_at (is_given_architecture library name c.args.reference.now.architecture) units at) || (b && (stands_at (is_body library name) units at && has_package units (primary_key library name)))) c.if-not-bodies.false))
    c.put_package_body.ensures
