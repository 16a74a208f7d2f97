-- There is nothing more in the other row.
use Rattle.std.proofs.Common.{◌≡◌, ℕ, List, subst, sym}
use Rattle.vhdl_scope.specs.declared.row.Run.{Run}
use Rattle.vhdl_scope.specs.Rows.{both_words, word_or}
use Rattle.vhdl_scope.proofs.RowLemmas.{merged_bits}
use Rattle.vhdl_scope.proofs.row.join_runs.Goals as goal

pub returns-then-is_over-clause-bits : goal.returns-then-is_over-clause-bits
returns-then-is_over-clause-bits c =
    let over = subst (λ (some : List Run). (at : ℕ) → both_words some c.args.other.now at ≡ word_or 0 some at) c.as_slice.ensures.value (c.is_over.ensures c.if-is_over.true) in
    merged_bits c.args.words c.args.runs.now.items c.args.other.now c.args.runs.now.items (λ at below. sym (over at))
