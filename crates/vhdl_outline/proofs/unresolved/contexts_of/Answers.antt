-- The references at the indices are those of the unit.
use Rattle.std.proofs.Common.{◌≡◌, ◌∙◌, ◌++◌, List, map, ap}
use Rattle.std.proofs.lemmas.Result.{IfOk-weaker}
use Rattle.base.specs.declared.design.Role.{Role}
use Rattle.vhdl_spec.specs.Units.{roles_of}
use Rattle.vhdl_spec.specs.References.{context_end, is_context_ref, indices, ref_at}
use Rattle.vhdl_outline.specs.declared.indices.RefIndex.{RefIndex}
use Rattle.vhdl_outline.specs.Indices.{context_indices}
use Rattle.vhdl_outline.proofs.IndexSteps.{made_at}
use Rattle.vhdl_outline.proofs.unresolved.contexts_of.Goals as goal

pub returns-clause-are : goal.returns-clause-are
returns-clause-are c =
    let text = c.args.text.now in
    let tokens = c.args.tokens.now.list in
    let unit = c.args.unit.now in
    let found : c.as_slice.result.now ≡ context_indices (roles_of text tokens) unit =
    c.as_slice.ensures.value ∙ c.in_ok-push_contexts.ensures.found ∙ ap (λ (xs : List RefIndex). xs ++ context_indices c.args.roles.now unit) c.clear.ensures.items
    ∙ ap (λ (roles : List Role). context_indices roles unit) c.requires.roles in
    IfOk-weaker c.named_all.result _ _
    (λ named are. are ∙ ap (map (λ (token_index : RefIndex). ref_at text tokens unit.kind token_index.at)) found ∙ made_at (ref_at text tokens unit.kind) (roles_of text tokens) (indices (is_context_ref (roles_of text tokens)) unit.lead (context_end unit)))
    c.named_all.ensures.are
