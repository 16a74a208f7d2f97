use Rattle.std.proofs.Common.{ℕ, [], ◌∷◌, ◌++◌, None, Some, set, subst, arith}
use Rattle.base_collections.specs.Links.{AreLinked}
use Rattle.base_collections.proofs.Linking.{linked_first, linked_next}
use Rattle.base_collections.proofs.text_index.link.Goals as goal

pub returns-in-Some : goal.returns-in-Some
returns-in-Some c = record {
  linked = λ ofs size are.
      rw (c.set.ensures, c.set-in-Some.ensures)
      (subst (λ (m : ℕ). AreLinked (ofs ++ c.args.of ∷ []) (c.args.firsts.now ++ None ∷ []) (set c.args.nexts.now c.in-Some.last (Some m) ++ None ∷ []) (set c.args.lasts.now c.args.of (Some m) ++ None ∷ [])) size
      (linked_next ofs c.args.of c.args.firsts.now c.args.nexts.now c.args.lasts.now c.in-Some.last are (omega (arith, c.requires.of (omega (arith, c.if-number-eq0.false)), size)) c.in-Some.is));
}

pub returns-in-None : goal.returns-in-None
returns-in-None c = record {
  linked = λ ofs size are.
      rw (c.set-in-None.ensures, c.set-in-None-2.ensures)
      (subst (λ (m : ℕ). AreLinked (ofs ++ c.args.of ∷ []) (set c.args.firsts.now c.args.of (Some m) ++ None ∷ []) (c.args.nexts.now ++ None ∷ []) (set c.args.lasts.now c.args.of (Some m) ++ None ∷ [])) size
      (linked_first ofs c.args.of c.args.firsts.now c.args.nexts.now c.args.lasts.now are (omega (arith, c.requires.of (omega (arith, c.if-number-eq0.false)), size)) c.in-None.is));
}
