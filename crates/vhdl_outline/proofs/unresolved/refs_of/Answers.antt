-- The references at the indices are those of the unit.
use Rattle.std.proofs.Common.{◌≡◌, ◌∙◌, ◌++◌, ℕ, List, map, ap}
use Rattle.std.proofs.lemmas.Result.{IfOk-weaker}
use Rattle.base.specs.declared.design.Role.{Role}
use Rattle.vhdl_spec.specs.Units.{roles_of}
use Rattle.vhdl_spec.specs.References.{ref_at}
use Rattle.vhdl_outline.specs.declared.indices.RefIndex.{RefIndex}
use Rattle.vhdl_outline.specs.Indices.{refs_between}
use Rattle.vhdl_outline.proofs.IndexSteps.{refs_at_indices}
use Rattle.vhdl_outline.proofs.unresolved.refs_of.Goals as goal

pub returns-clause-are : goal.returns-clause-are
returns-clause-are c =
    let text = c.args.text.now in
    let tokens = c.args.tokens.now.list in
    let unit = c.args.unit.now in
    let found : c.as_slice.result.now ≡ refs_between (roles_of text tokens) unit.lead unit.last =
    c.as_slice.ensures.value ∙ c.in_ok-push_indices.ensures.found ∙ ap (λ (xs : List RefIndex). xs ++ refs_between c.args.roles.now c.args.clause.start unit.last) c.clear.ensures.items
    ∙ ap (λ (roles : List Role). refs_between roles c.args.clause.start unit.last) c.requires.roles ∙ ap (λ (k : ℕ). refs_between (roles_of text tokens) k unit.last) c.requires.begins.start in
    IfOk-weaker c.named_all.result _ _
    (λ named are. are ∙ ap (map (λ (token_index : RefIndex). ref_at text tokens unit.kind token_index.at)) found ∙ refs_at_indices (ref_at text tokens unit.kind) (roles_of text tokens) unit.lead unit.last)
    c.named_all.ensures.are
