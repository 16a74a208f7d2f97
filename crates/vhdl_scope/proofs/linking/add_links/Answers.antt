-- One unit more.
use Rattle.std.proofs.Common.{◌≡◌, ◌∙◌, ◌++◌, List, Some, length, map, take, ap, sym, subst, arith}
use Rattle.std.specs.Prelude.{slice_get}
use Rattle.std.specs.List.{All, AllZip}
use Rattle.std.proofs.lemmas.List.{take_all}
use Rattle.std.proofs.lemmas.Option.{get_or_from_slice_get, same_Some, slice_get_within}
use Rattle.base.specs.declared.design.Unit.{Unit as DesignUnit}
use Rattle.base.specs.declared.refs.Ref.{Ref}
use Rattle.base.specs.declared.child.MaybeText.{MaybeText}
use Rattle.vhdl_spec.specs.References.{configured, context_refs}
use Rattle.vhdl_spec.specs.Visibility.{primary_name, scope_unit}
use Rattle.vhdl_outline.specs.declared.unresolved.UnresolvedRefs.{UnresolvedRefs}
use Rattle.vhdl_outline.specs.declared.unresolved.NamedRef.{NamedRef}
use Rattle.vhdl_outline.specs.UnresolvedRefs.{UnresolvedRefsLieIn, NamedLiesIn, named_ref}
use Rattle.vhdl_scope.specs.declared.links.Link.{Link}
use Rattle.vhdl_scope.specs.Names.{keys_of}
use Rattle.vhdl_scope.specs.Joins.{HasLinked, IsLinkedFor}
use Rattle.vhdl_scope.specs.Wants.{configured_wants, context_want, primary_wants, wants_of}
use Rattle.vhdl_scope.proofs.ScopeLemmas.{same_configured, unit_more}
use Rattle.vhdl_scope.proofs.linking.add_links.Goals as goal

pub add_unit_links-requires-clause-lie : goal.add_unit_links-requires-clause-lie
add_unit_links-requires-clause-lie c =
    let one : UnresolvedRefs = c.get-in-loop-number.result.now in
    let all = c.args.file.now.unresolved in
    let lies = subst (UnresolvedRefsLieIn c.args.text.now) (get_or_from_slice_get all c.loop-number.number one one c.get-in-loop-number.ensures) (c.requires.lies.unresolved c.loop-number.number one (slice_get_within all c.loop-number.number one c.get-in-loop-number.ensures)) in
    subst (λ (found : List NamedRef). All (NamedLiesIn c.args.text.now) found) (sym c.as_slice.ensures) lies.contexts

pub loop-number-preserved : goal.loop-number-preserved
loop-number-preserved c scan units is zipped =
    let text = c.args.text.now in
    let library = c.args.library.now in
    let number = c.loop-number.number in
    let one : UnresolvedRefs = c.get-in-loop-number.result.now in
    let unit : DesignUnit = c.get.result.now in
    let got : slice_get scan.units number ≡ Some unit = ap (λ (designs : List DesignUnit). slice_get designs number) (sym is.units) ∙ c.get.ensures in
    let contexts : map (named_ref text) c.as_slice.result.now ≡ context_refs text scan.tokens.list unit = ap (map (named_ref text)) c.as_slice.ensures ∙ (is.unresolved.are number unit one got c.get-in-loop-number.ensures).contexts in
    let two : UnresolvedRefs = c.get-in-loop-number-2.result.now in
    let name = same_configured text scan.tokens.list unit unit.kind two.configured (is.unresolved.are number unit two got c.get-in-loop-number-2.ensures).structural in
    let linked = subst (λ (old : List Link). HasLinked (keys_of c.args.names.now) c.args.groups.now c.args.row_indices (wants_of library unit (context_refs text scan.tokens.list unit) (configured text scan.tokens.list unit)) old c.add_unit_links.new.links) c.new-own.ensures
    (subst (λ (given : MaybeText). HasLinked (keys_of c.args.names.now) c.args.groups.now c.args.row_indices (primary_wants library (primary_name unit.kind unit) ++ (configured_wants library unit.owner given ++ map (context_want library) (context_refs text scan.tokens.list unit))) c.new-own.result c.add_unit_links.new.links) name
    (subst (λ (refs : List Ref). HasLinked (keys_of c.args.names.now) c.args.groups.now c.args.row_indices (wants_of library unit refs two.configured) c.new-own.result c.add_unit_links.new.links) contexts c.in_ok-want.ensures)) in
    rw c.in_ok-push.ensures.items
    (unit_more (IsLinkedFor (keys_of c.args.names.now) c.args.groups.now c.args.row_indices) (scope_unit library text scan) scan.units number c.loop-number.links.items c.add_unit_links.new.links units (slice_get_within scan.units number unit got)
    (λ u there. subst (λ (v : DesignUnit). IsLinkedFor (keys_of c.args.names.now) c.args.groups.now c.args.row_indices c.add_unit_links.new.links (scope_unit library text scan v)) (same_Some unit u (sym got ∙ there)) linked)
    (c.loop-number.invariant scan units is zipped))

pub returns : goal.returns
returns c scan is units zipped =
    let all : take c.loop-number.number scan.units ≡ scan.units = take_all c.loop-number.number scan.units (let same = ap length is.units in omega (arith, same, c.len-number-end.ensures, c.loop-number-test.false)) in
    subst (λ (designs : List DesignUnit). AllZip (IsLinkedFor (keys_of c.args.names.now) c.args.groups.now c.args.row_indices) c.loop-number.links.items (units ++ map (scope_unit c.args.library.now c.args.text.now scan) designs)) all (c.loop-number.invariant scan units is zipped)
