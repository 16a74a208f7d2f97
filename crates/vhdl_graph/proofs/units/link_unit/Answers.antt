-- The reference by structure and those by name are those of the unit.
use Rattle.std.proofs.Common.{◌∙◌, ◌++◌, List, map, sym, ap, subst}
use Rattle.std.proofs.lemmas.Result.{err_from_is_err_and}
use Rattle.base.specs.declared.refs.Ref.{Ref}
use Rattle.vhdl_spec.specs.Dependencies.{first_some, missing_of}
use Rattle.vhdl_outline.specs.UnresolvedRefs.{named_ref, structural_of}
use Rattle.vhdl_graph.specs.Indexes.{IsFaultOf}
use Rattle.vhdl_graph.specs.Linking.{LinksRefs}
use Rattle.vhdl_graph.proofs.InsideLemmas.{lacks_first, links_both}
use Rattle.vhdl_graph.proofs.units.link_unit.Goals as goal

pub returns-in_err-link_structural : goal.returns-in_err-link_structural
returns-in_err-link_structural c units unit known stands is =
    let p = err_from_is_err_and c.from_residual.result c.from_residual.ensures.1 in
    let design = c.args.design.now in
    rw (p.1, p.2) (subst (λ (refs : List Ref). IsFaultOf (first_some (map (missing_of c.args.project.now units unit) refs)) c.in_err-link_structural.field-0.0) (sym is)
    (lacks_first c.args.project.now units unit (structural_of c.args.unresolved.now.configured design design.kind) (map (named_ref c.args.text.now) c.args.unresolved.now.refs) c.in_err-link_structural.field-0.0 (c.in_err-link_structural.ensures.links units unit known stands)))

pub returns : goal.returns
returns c units unit known stands is =
    let design = c.args.design.now in
    let structural : List Ref = structural_of c.args.unresolved.now.configured design design.kind in
    let named : List Ref = map (named_ref c.args.text.now) c.as_slice.result.now in
    subst (λ (refs : List Ref). LinksRefs c.args.project.now units unit refs c.args.row.now c.link_refs.new.row c.link_refs.result)
    (ap (λ (refs : List Ref). structural ++ refs) (ap (map (named_ref c.args.text.now)) c.as_slice.ensures) ∙ sym is)
    (links_both c.args.project.now units unit structural named c.args.row.now c.link_structural.new.row c.link_refs.new.row c.link_refs.result
    (c.in_ok-link_structural.ensures.links units unit known stands) (c.link_refs.ensures units unit known stands))
