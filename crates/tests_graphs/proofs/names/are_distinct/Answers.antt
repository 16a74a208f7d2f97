use Rattle.std.proofs.Common.{◌≡◌, ◌∙◌, ◌++◌, ◌∷◌, [], true, false, not, map, take, ap, refl, sym, subst}
use Rattle.std.proofs.lemmas.Bool.{not-true}
use Rattle.std.proofs.lemmas.List.{map_more, take_all}
use Rattle.base.specs.declared.graph.Entry.{Entry}
use Rattle.base_collections.specs.Names.{Holds}
use Rattle.base_collections.proofs.SameNames.{holds_more}
use Rattle.tests_graphs.proofs.Distinct.{Distinct, distinct_more, none_before}
use Rattle.tests_graphs.proofs.names.are_distinct.Goals as goal

differ : false ≡ true → ⊥
differ e = cc

pub returns-then-not-branch : goal.returns-then-not-branch
returns-then-not-branch c = (
  λ f. absurd (differ f),
  λ distinct.
      let told = c.in_ok-add.ensures.is_new ∙ ap not (c.loop-entry.invariant.seen c.entry-item.result.name) in
      let none = none_before c.args.entries.now c.loop-entry.entry-index c.entry-item.result c.loop-entry-test.true c.entry-item.is distinct in
      absurd (differ (sym c.if-not-branch.true ∙ told ∙ ap not none)),
)

pub loop-entry-preserved : goal.loop-entry-preserved
loop-entry-preserved c =
    let names = map (λ (e : Entry). e.name) (take c.loop-entry.entry-index c.args.entries.now) in
    let told = c.in_ok-add.ensures.is_new ∙ ap not (c.loop-entry.invariant.seen c.entry-item.result.name) in
    let none = not-true _ (sym told ∙ c.if-not-branch.false) in
    let more = map_more (λ (e : Entry). e.name) c.args.entries.now c.loop-entry.entry-index c.entry-item.result c.loop-entry-test.true in
    let holds = holds_more c.loop-entry.seen names c.add.new.self c.entry-item.result.name c.loop-entry.invariant.seen c.in_ok-add.ensures.ok in
    record {
      distinct = distinct_more c.args.entries.now c.loop-entry.entry-index c.entry-item.result c.loop-entry-test.true c.entry-item.is c.loop-entry.invariant.distinct none;
      seen = subst (Holds c.add.new.self) (ap (λ (e : Entry). names ++ e.name ∷ []) c.entry-item.is ∙ sym more) holds;
    }

pub returns : goal.returns
returns c = (λ t. subst Distinct (take_all c.loop-entry.entry-index c.args.entries.now c.loop-entry-test.false) c.loop-entry.invariant.distinct, λ h. refl)
