-- Where it is one.
use Rattle.std.proofs.Common.{◌≡◌, ◌∙◌, ◌&&◌, ℕ, Bool, true, false, sym, ap}
use Rattle.std.proofs.lemmas.Result.{on_ok_weaker}
use Rattle.vhdl_spec.specs.Dependencies.{is_body}
use Rattle.vhdl_spec.proofs.SomeTests.{and_false, and_true}
use Rattle.vhdl_graph.specs.Rows.{has_package, stands_at}
use Rattle.vhdl_graph.proofs.RowLemmas.{added_none, added_same}
use Rattle.vhdl_graph.proofs.refs.put_package_body.Goals as goal

pub returns-then-is_package : goal.returns-then-is_package
returns-then-is_package c =
    on_ok_weaker c.put_body.result
    (λ is_put files units is.
    let package_there : has_package units c.args.key.now ≡ true = sym (c.is_package.ensures files units is) ∙ c.if-is_package.true in
    added_same (stands_at (is_body c.args.library.now c.args.name.now) units) (λ (at : ℕ). stands_at (is_body c.args.library.now c.args.name.now) units at && has_package units c.args.key.now) c.args.row.now c.put_body.new.row (is_put files units is)
    (λ at. sym (ap (λ (b : Bool). stands_at (is_body c.args.library.now c.args.name.now) units at && b) package_there ∙ and_true (stands_at (is_body c.args.library.now c.args.name.now) units at))))
    c.put_body.ensures

pub returns-else-is_package : goal.returns-else-is_package
returns-else-is_package c files units is =
    let none_there : has_package units c.args.key.now ≡ false = sym (c.is_package.ensures files units is) ∙ c.if-is_package.false in
    added_none (λ (at : ℕ). stands_at (is_body c.args.library.now c.args.name.now) units at && has_package units c.args.key.now) c.args.row.now
    (λ at. ap (λ (b : Bool). stands_at (is_body c.args.library.now c.args.name.now) units at && b) none_there ∙ and_false (stands_at (is_body c.args.library.now c.args.name.now) units at))
