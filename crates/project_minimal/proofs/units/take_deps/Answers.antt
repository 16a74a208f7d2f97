-- The dependencies of the file.
use Rattle.std.proofs.Common.{◌≡◌, ◌∙◌, ◌<◌, ◌==◌, List, [], ℕ, length, subst, sym}
use Rattle.std.specs.List.{All, list_any}
use Rattle.std.proofs.lemmas.Option.{get_or_from_slice_get}
use Rattle.order.specs.BuildOrder.{deps_in}
use Rattle.project_minimal.specs.Taking.{Takes}
use Rattle.project_minimal.proofs.units.take_deps.Goals as goal

pub take_all-requires-clause-within : goal.take_all-requires-clause-within
take_all-requires-clause-within c =
    let are_deps : c.as_slice.result.now ≡ deps_in c.args.edges.now c.args.file = c.as_slice.ensures ∙ sym (get_or_from_slice_get c.args.edges.now c.args.file c.get.result.now [] c.get.ensures) in
    subst (λ (n : ℕ). All (λ dep. dep < n) c.as_slice.result.now) c.requires.as_many (subst (λ (deps : List ℕ). All (λ dep. dep < length c.args.edges.now) deps) (sym are_deps) (c.requires.edges.within c.args.file))

pub returns-clause-takes : goal.returns-clause-takes
returns-clause-takes c = subst (λ (deps : List ℕ). Takes (λ at. list_any (λ dep. dep == at) deps) c.args.taken.now c.take_all.new.taken)
    (c.as_slice.ensures ∙ sym (get_or_from_slice_get c.args.edges.now c.args.file c.get.result.now [] c.get.ensures)) c.in_ok-take_all.ensures.takes
