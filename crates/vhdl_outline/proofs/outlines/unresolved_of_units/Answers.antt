-- One unit more.
use Rattle.std.proofs.Common.{◌∙◌, ◌+◌, ℕ, inl, inr, List, length, sym, ap, subst, arith}
use Rattle.std.specs.Prelude.{slice_get}
use Rattle.std.specs.List.{All}
use Rattle.std.proofs.lemmas.List.{length_push}
use Rattle.std.proofs.lemmas.List.Elements.{All-push}
use Rattle.vhdl_outline.specs.declared.unresolved.UnresolvedRefs.{UnresolvedRefs}
use Rattle.vhdl_outline.specs.UnresolvedRefs.{AreUnresolvedRefsOf, UnresolvedRefsLieIn}
use Rattle.vhdl_outline.specs.Outlines.{UnresolvedAreOf}
use Rattle.vhdl_outline.proofs.OutlineLemmas.{few_units, got_push}
use Rattle.vhdl_outline.proofs.outlines.unresolved_of_units.Goals as goal

pub overflow_cast-number : goal.overflow_cast-number
overflow_cast-number c = let few = few_units c.args.text.now c.args.scan.now c.requires.scan in omega (arith, c.requires.small)

pub loop-number-preserved : goal.loop-number-preserved
loop-number-preserved c =
    let text = c.args.text.now in
    let scan = c.args.scan.now in
    let before = c.loop-number.all.items in
    let new : UnresolvedRefs = c.in_ok-unresolved_refs.field-0 in
    let pushed = c.in_ok-push.ensures.items in
    record {
      each = ap length pushed ∙ (length_push before new ∙ ap (λ (n : ℕ). n + 1) c.loop-number.invariant.each);
      are = λ number unit one in_units in_all.
          elim (got_push before new number one (ap (λ (all : List UnresolvedRefs). slice_get all number) (sym pushed) ∙ in_all)) [
            | inl earlier ↦ c.loop-number.invariant.are number unit one in_units earlier
            | inr last ↦ subst (AreUnresolvedRefsOf text scan.tokens.list unit) last.1 (c.in_ok-unresolved_refs.ensures.are unit (ap (slice_get scan.units) (sym (last.0 ∙ c.loop-number.invariant.each)) ∙ in_units))
          ];
      lie = subst (All (UnresolvedRefsLieIn text)) (sym pushed) (All-push (UnresolvedRefsLieIn text) before new c.loop-number.invariant.lie c.in_ok-unresolved_refs.ensures.lie);
    }

pub returns-clause-are : goal.returns-clause-are
returns-clause-are c =
    let each = c.loop-number.invariant.each in
    subst (UnresolvedAreOf c.args.text.now c.args.scan.now) (sym c.from_vec.ensures)
    (record { each = omega (arith, each, c.len-number-end.ensures, c.loop-number-test.false, c.loop-number.auto.number-end); are = c.loop-number.invariant.are })

pub returns-clause-lie : goal.returns-clause-lie
returns-clause-lie c = subst (All (UnresolvedRefsLieIn c.args.text.now)) (sym c.from_vec.ensures) c.loop-number.invariant.lie
