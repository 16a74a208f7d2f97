-- One more link is followed, or the row has grown to `top` and the remaining links are left out.
use Rattle.std.proofs.Common.{◌≡◌, ◌<◌, ◌+◌, ◌∷◌, ◌++◌, ◌∙◌, [], ℕ, List, ap, refl, sym, arith, drop, get_or, length, take}
use Rattle.std.proofs.lemmas.List.{take-append-drop, take_more}
use Rattle.vhdl_scope.specs.declared.links.Link.{Link}
use Rattle.vhdl_scope.proofs.LookLemmas.{followed_both, looked_early, right_in}
use Rattle.vhdl_scope.proofs.look.look_up_to.Goals as goal

pub loop-link-preserved : goal.loop-link-preserved
loop-link-preserved c =
    let within : c.loop-link.link-index < length c.args.links.now = omega arith in
    rw (take_more c.args.links.now c.loop-link.link-index (record { library_number = 0; source = 0 }) within)
    (followed_both _ _ _ _ _ _ _ _ c.loop-link.invariant c.in_ok-more.ensures.looked)

pub returns-then-same-clause-looked : goal.returns-then-same-clause-looked
returns-then-same-clause-looked c =
    let links : List Link = c.args.links.now in
    let at : ℕ = c.loop-link.link-index in
    let within : at < length links = omega arith in
    let none : Link = record { library_number = 0; source = 0 } in
    let whole : (take at links ++ get_or links at none ∷ []) ++ drop (at + 1) links ≡ links = ap (λ (some : List Link). some ++ drop (at + 1) links) (sym (take_more links at none within)) ∙ take-append-drop (at + 1) links in
    looked_early (take at links ++ get_or links at none ∷ []) (drop (at + 1) links) links _ _ _ _ whole (right_in _ _ _ refl c.if-more.true) (followed_both _ _ _ _ _ _ _ _ c.loop-link.invariant c.in_ok-more.ensures.looked)
