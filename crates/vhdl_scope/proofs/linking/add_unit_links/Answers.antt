-- What the unit wants of its primary units, then of an architecture, and then of contexts.
use Rattle.std.proofs.Common.{◌≡◌, List, sym, subst, map}
use Rattle.std.proofs.lemmas.Simd.{map-map}
use Rattle.vhdl_outline.specs.declared.unresolved.NamedRef.{NamedRef}
use Rattle.vhdl_outline.specs.UnresolvedRefs.{named_ref}
use Rattle.vhdl_scope.specs.declared.want.Want.{Want}
use Rattle.vhdl_scope.specs.Names.{keys_of}
use Rattle.vhdl_scope.specs.Joins.{HasLinked}
use Rattle.vhdl_scope.specs.Wants.{context_want}
use Rattle.vhdl_scope.proofs.JoinLemmas.{linked_both}
use Rattle.vhdl_scope.proofs.linking.add_unit_links.Goals as goal

pub returns : goal.returns
returns c =
    let library = c.args.library.now in
    let named : NamedRef → Want = λ one. context_want library (named_ref c.args.text.now one) in
    let wants : map named c.args.found.now ≡ map (context_want library) (map (named_ref c.args.text.now) c.args.found.now) = sym (map-map (context_want library) (named_ref c.args.text.now) c.args.found.now) in
    let two = subst (λ (wants : List Want). HasLinked (keys_of c.args.names.now) c.args.groups.now c.args.row_indices wants c.add_configuration_link.new.links c.add_context_links.new.links) wants c.in_ok-add_context_links.ensures in
    linked_both _ _ _ _ _ _ _ _ c.in_ok-own.ensures (linked_both _ _ _ _ _ _ _ _ c.in_ok-want.ensures two)
