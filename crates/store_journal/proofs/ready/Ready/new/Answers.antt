use Rattle.std.proofs.Common.{◌≡◌, List, ℕ, ◌++◌, length, drop, ap, subst, refl, ◌∙◌, arith}
use Rattle.std.specs.Prelude.{IfOk}
use Rattle.store_journal.proofs.Framed.{framed, unframed}
use Rattle.store_journal.proofs.ready.Ready.new.Goals as goal

pub of-requires-clause-length : goal.of-requires-clause-length
of-requires-clause-length c = framed c.plain.new.self c.args.payload.now (length c.args.payload.now) (c.in_ok-plain.ensures ∙ ap (λ (bs : List ℕ). bs ++ c.args.payload.now) c.in_ok-frame.ensures) refl

pub of-requires-clause-small : goal.of-requires-clause-small
of-requires-clause-small c = omega (arith, ap length (unframed c.plain.new.self c.args.payload.now (length c.args.payload.now) (c.in_ok-plain.ensures ∙ ap (λ (bs : List ℕ). bs ++ c.args.payload.now) c.in_ok-frame.ensures)), c.requires)

pub returns : goal.returns
returns c =
    let payload : drop 4 c.plain.new.self ≡ c.args.payload.now = unframed c.plain.new.self c.args.payload.now (length c.args.payload.now) (c.in_ok-plain.ensures ∙ ap (λ (bs : List ℕ). bs ++ c.args.payload.now) c.in_ok-frame.ensures) in
    subst (λ (p : List ℕ). IfOk c.of.result (λ ready. ready ≡ p)) payload c.of.ensures
