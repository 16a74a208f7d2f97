-- One reference more.
use Rattle.std.proofs.Common.{◌≡◌, ◌∙◌, ◌+◌, ◌<◌, ◌∷◌, ◌++◌, [], false, None, List, ap, sym, subst, arith, get_or, length, map, take}
use Rattle.std.proofs.lemmas.List.{map_push, take_all, take_more}
use Rattle.base.specs.declared.lexical.Token.{Token}
use Rattle.base.specs.declared.lexical.TokenKind.TheVariants.{Word}
use Rattle.vhdl_outline.specs.declared.unresolved.NamedRef.{NamedRef}
use Rattle.vhdl_outline.specs.UnresolvedRefs.{named_ref}
use Rattle.vhdl_scope.specs.declared.want.Want.{Want}
use Rattle.vhdl_scope.specs.Names.{keys_of}
use Rattle.vhdl_scope.specs.Joins.{HasLinked}
use Rattle.vhdl_scope.specs.Wants.{context_want}
use Rattle.vhdl_scope.proofs.JoinLemmas.{linked_both, linked_none}
use Rattle.vhdl_scope.proofs.linking.add_context_links.Goals as goal

abbrev no_token : Token
no_token = record { kind = Word; start = 0; end = 0 }

abbrev no_ref : NamedRef
no_ref = record { library = no_token; name = no_token; architecture = None; strict = false; at = 0 }

pub loop-named-init : goal.loop-named-init
loop-named-init c = linked_none _ _ _ _

pub loop-named-preserved : goal.loop-named-preserved
loop-named-preserved c =
    let wanted : NamedRef → Want = λ named. context_want c.args.library.now (named_ref c.args.text.now named) in
    let within : c.loop-named.named-index < length c.args.found.now = omega (arith, c.loop-named-test.true) in
    let named : NamedRef = get_or c.args.found.now c.loop-named.named-index no_ref in
    let longer : map wanted (take (c.loop-named.named-index + 1) c.args.found.now) ≡ map wanted (take c.loop-named.named-index c.args.found.now) ++ wanted named ∷ [] =
    ap (map wanted) (take_more c.args.found.now c.loop-named.named-index no_ref within) ∙ map_push wanted (take c.loop-named.named-index c.args.found.now) named in
    let one = subst (λ (want : Want). HasLinked (keys_of c.args.names.now) c.args.groups.now c.args.row_indices (want ∷ []) c.loop-named.links c.add_link.new.links) c.in_ok-want.ensures c.in_ok-add_link.ensures in
    subst (λ (wants : List Want). HasLinked (keys_of c.args.names.now) c.args.groups.now c.args.row_indices wants c.args.links.now c.add_link.new.links) (sym longer) (linked_both _ _ _ _ _ _ _ _ c.loop-named.invariant one)

pub returns : goal.returns
returns c =
    let wanted : NamedRef → Want = λ named. context_want c.args.library.now (named_ref c.args.text.now named) in
    subst (λ (found : List NamedRef). HasLinked (keys_of c.args.names.now) c.args.groups.now c.args.row_indices (map wanted found) c.args.links.now c.loop-named.links) (take_all c.loop-named.named-index c.args.found.now (omega (arith, c.loop-named-test.false))) c.loop-named.invariant
