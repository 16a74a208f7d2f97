use Rattle.std.proofs.Common.{◌≡◌, ◌≢◌, ◌<◌, ℕ, List, length, map, take, ap, subst, ◌∙◌, sym, arith}
use Rattle.std.specs.Prelude.{AllPairs, Contains}
use Rattle.std.proofs.lemmas.List.{length-map, take_all}
use Rattle.base_collections.specs.Numbers.{NumbersBelow}
use Rattle.store_form_2.specs.Fits.{name_at}
use Rattle.store_form_2.proofs.Filling.{named_here, named_once, named_twice, no_answer, none_named}
use Rattle.store_form_2.proofs.names.have_own_names.Goals as goal

pub returns-then-not-is_new : goal.returns-then-not-is_new
returns-then-not-is_new c =
    let rows = c.args.table.now.rows in
    let deps = c.args.deps.now in
    let names : List ℕ = map (name_at rows) deps in
    let i = c.loop-dep.dep-index in
    let l : i < length names = omega (arith, length-map deps (name_at rows), c.loop-dep-test.true) in
    no_answer (λ own.
    named_twice names i c.args.names.now.size c.row.result.now.name c.in_ok-is_new.is_new c.loop-dep.names c.add.new.self l (named_here rows deps i c.row.result.now c.loop-dep-test.true c.row.ensures.row) c.loop-dep.invariant.0 c.if-not-is_new.true c.in_ok-is_new.ensures.ok own.0)

pub loop-dep-preserved : goal.loop-dep-preserved
loop-dep-preserved c =
    let rows = c.args.table.now.rows in
    let deps = c.args.deps.now in
    let names : List ℕ = map (name_at rows) deps in
    let i = c.loop-dep.dep-index in
    let l : i < length names = omega (arith, length-map deps (name_at rows), c.loop-dep-test.true) in
    named_once names i c.args.names.now.size c.row.result.now.name c.in_ok-is_new.is_new c.loop-dep.names c.add.new.self l (named_here rows deps i c.row.result.now c.loop-dep-test.true c.row.ensures.row) c.loop-dep.invariant.0 c.if-not-is_new.false c.in_ok-is_new.ensures.ok c.loop-dep.invariant.1

pub returns : goal.returns
returns c =
    let rows = c.args.table.now.rows in
    let deps = c.args.deps.now in
    let names : List ℕ = map (name_at rows) deps in
    let end : c.loop-dep.dep-index ≡ length names = omega (arith, length-map deps (name_at rows), c.loop-dep-test.false, c.loop-dep.auto.dep-index-end) in
    let all : take c.loop-dep.dep-index names ≡ names = take_all c.loop-dep.dep-index names (omega (arith, end)) in
    let numbers : c.loop-dep.names.numbers ≡ names = ap (λ (s : NumbersBelow). s.numbers) c.loop-dep.invariant.0 ∙ all in
    let once : AllPairs (λ a b. a ≢ b) names = subst (AllPairs (λ a b. a ≢ b)) all c.loop-dep.invariant.1 in
    let own = none_named c.loop-dep.names.numbers c.args.name c.index_of.result c.is_none.result c.index_of.ensures c.is_none.ensures in (
      λ e. (once, subst (λ (ns : List ℕ). ¬ Contains ns c.args.name) numbers (own.0 e)),
      λ both. own.1 (subst (λ (ns : List ℕ). ¬ Contains ns c.args.name) (sym numbers) both.1),
    )
