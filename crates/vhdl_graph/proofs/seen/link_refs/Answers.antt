-- One reference more is taken up, or is the first that lacks something.
use Rattle.std.proofs.Common.{◌≡◌, ◌∙◌, false, Ok, None, Option, List, get_or, map, take, sym, ap, subst, arith}
use Rattle.std.specs.Prelude.{⊤}
use Rattle.std.proofs.lemmas.List.{get_or_default, take_all}
use Rattle.std.proofs.lemmas.Result.{err_from_is_err_and}
use Rattle.base.specs.declared.linking.LinkFault.{LinkFault}
use Rattle.base.specs.declared.refs.Ref.{Ref}
use Rattle.vhdl_spec.specs.Dependencies.{first_some, missing_of}
use Rattle.base.specs.declared.lexical.Token.{Token}
use Rattle.base.specs.declared.lexical.TokenKind.TheVariants.{Word}
use Rattle.vhdl_outline.specs.declared.unresolved.NamedRef.{NamedRef}
use Rattle.vhdl_outline.specs.UnresolvedRefs.{named_ref}
use Rattle.vhdl_graph.specs.Indexes.{IsFaultOf}
use Rattle.vhdl_graph.specs.Linking.{LinksRefs}
use Rattle.vhdl_graph.proofs.IndexLemmas.{mapped_more}
use Rattle.vhdl_graph.proofs.InsideLemmas.{links_both, links_one, map_twice}
use Rattle.vhdl_graph.proofs.LinkLemmas.{first_here}
use Rattle.vhdl_graph.proofs.seen.link_refs.Goals as goal

abbrev no_token : Token
no_token = record { kind = Word; start = 0; end = 0 }

abbrev no_named : NamedRef
no_named = record { library = no_token; name = no_token; architecture = None; strict = false; at = 0 }

pub returns-in_err-link_named : goal.returns-in_err-link_named
returns-in_err-link_named c units unit known stands =
    let named : NamedRef = get_or c.args.refs.now c.loop-named.named-index no_named in
    let is : named ≡ get_or c.args.refs.now c.loop-named.named-index named = get_or_default c.args.refs.now c.loop-named.named-index no_named named c.loop-named-test.true in
    let p = err_from_is_err_and c.from_residual.result c.from_residual.ensures.1 in
    let made : NamedRef → Ref = named_ref c.args.text.now in
    let lacks : Ref → Option LinkFault = missing_of c.args.project.now units unit in
    let none = ap first_some (map_twice lacks made (take c.loop-named.named-index c.args.refs.now)) ∙ (c.loop-named.invariant.linked units unit known stands).0 in
    rw (p.1, p.2) (subst (λ (all : List (Option LinkFault)). IsFaultOf (first_some all) c.in_err-link_named.field-0.0) (map_twice lacks made c.args.refs.now)
    (first_here (λ (named : NamedRef). lacks (made named)) c.args.refs.now c.loop-named.named-index named c.in_err-link_named.field-0.0 c.loop-named-test.true is none (c.in_err-link_named.ensures.links units unit known stands)))

pub loop-named-preserved : goal.loop-named-preserved
loop-named-preserved c = record {
  known = c.in_ok-link_named.ensures.known;
  linked = λ units unit known stands.
      let made : NamedRef → Ref = named_ref c.args.text.now in
      let named : NamedRef = get_or c.args.refs.now c.loop-named.named-index no_named in
      let is : named ≡ get_or c.args.refs.now c.loop-named.named-index named = get_or_default c.args.refs.now c.loop-named.named-index no_named named c.loop-named-test.true in
      subst (λ (refs : List Ref). LinksRefs {T = ⊤} c.args.project.now units unit refs c.args.row.now c.link_named.new.row (Ok tt))
      (sym (mapped_more made c.args.refs.now c.loop-named.named-index named c.loop-named-test.true is))
      (links_both c.args.project.now units unit {T = ⊤} (map made (take c.loop-named.named-index c.args.refs.now)) _ c.args.row.now c.loop-named.row c.link_named.new.row (Ok tt) (c.loop-named.invariant.linked units unit known stands)
      (links_one c.args.project.now units unit {T = ⊤} (made named) c.loop-named.row c.link_named.new.row (Ok tt) (c.in_ok-link_named.ensures.links units unit known stands)));
}

pub returns : goal.returns
returns c units unit known stands =
    let made : NamedRef → Ref = named_ref c.args.text.now in
    let all : take c.loop-named.named-index c.args.refs.now ≡ c.args.refs.now = take_all c.loop-named.named-index c.args.refs.now (omega (arith, c.loop-named-test.false)) in
    subst (λ (indices : List NamedRef). LinksRefs {T = ⊤} c.args.project.now units unit (map made indices) c.args.row.now c.loop-named.row (Ok tt)) all (c.loop-named.invariant.linked units unit known stands)
