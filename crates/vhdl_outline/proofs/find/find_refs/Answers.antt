-- The structural one, and those at the indices.
use Rattle.std.proofs.Common.{◌≡◌, ◌∙◌, ◌++◌, ℕ, Some, List, map, sym, ap}
use Rattle.std.specs.Option.{option_map}
use Rattle.base.specs.declared.design.Role.{Role}
use Rattle.base.specs.declared.design.Unit.{Unit as DesignUnit}
use Rattle.base.specs.declared.refs.Ref.{Ref}
use Rattle.vhdl_spec.specs.References.{named_refs, ref_at, refs_of, structural_by}
use Rattle.vhdl_spec.specs.Units.{roles_of}
use Rattle.vhdl_outline.specs.declared.indices.RefIndex.{RefIndex}
use Rattle.vhdl_outline.specs.Indices.{refs_between}
use Rattle.vhdl_outline.proofs.IndexSteps.{refs_at_indices}
use Rattle.vhdl_outline.proofs.find.find_refs.Goals as goal

pub returns : goal.returns
returns c =
    let text = c.args.text.now in
    let tokens = c.args.scan.now.tokens.list in
    let unit : DesignUnit = c.unit_at.result.0.now in
    let roles : c.as_slice-roles.result.now ≡ roles_of text tokens = c.as_slice-roles.ensures ∙ c.requires.roles in
    let indices : c.as_slice.result.now ≡ refs_between (roles_of text tokens) unit.lead unit.last =
    c.as_slice.ensures.value ∙ c.in_ok-push_indices.ensures.found ∙ ap (λ (xs : List RefIndex). xs ++ refs_between c.as_slice-roles.result.now c.unit_at.result.1.start unit.last) c.new-indices.ensures.items
    ∙ ap (λ (rs : List Role). refs_between rs c.unit_at.result.1.start unit.last) roles ∙ ap (λ (k : ℕ). refs_between (roles_of text tokens) k unit.last) c.unit_at.ensures.start in
    let all : c.push_refs.new.refs.items ≡ refs_of text tokens unit =
    c.in_ok-push_refs.ensures ∙ ap (λ (ps : List RefIndex). c.push_structural.new.refs.items ++ map (λ (token_index : RefIndex). ref_at text tokens unit.kind token_index.at) ps) indices
    ∙ ap (λ (rs : List Ref). c.push_structural.new.refs.items ++ rs) (refs_at_indices (ref_at text tokens unit.kind) (roles_of text tokens) unit.lead unit.last)
    ∙ ap (λ (rs : List Ref). rs ++ named_refs text tokens unit) (c.in_ok-push_structural.ensures ∙ ap (λ (rs : List Ref). rs ++ structural_by text tokens unit unit.kind) c.new-refs.ensures.items) in
    ap (option_map (refs_of text tokens)) c.unit_at.ensures.there ∙ ap (λ (rs : List Ref). Some rs) (sym (c.from_vec.ensures ∙ all))
