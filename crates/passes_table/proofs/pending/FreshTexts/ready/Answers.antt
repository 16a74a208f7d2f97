use Rattle.std.proofs.Common.{List, ℕ, ◌++◌, length, ap, refl, ◌∙◌}
use Rattle.store_journal.proofs.Framed.{framed}
use Rattle.passes_table.proofs.pending.FreshTexts.ready.Goals as goal

pub of-requires-clause-length : goal.of-requires-clause-length
of-requires-clause-length c = framed c.plain.new.self c.args.text.now (length c.args.text.now) (c.in_ok-plain.ensures ∙ ap (λ (bs : List ℕ). bs ++ c.args.text.now) c.in_ok-frame.ensures) refl
