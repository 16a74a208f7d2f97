-- The runs are those of the row.
use Rattle.std.proofs.Common.{◌≡◌, ◌++◌, ◌∙◌, ℕ, List, ap, length, sym}
use Rattle.vhdl_scope.specs.declared.row.Run.{Run}
use Rattle.vhdl_scope.specs.Rows.{row_words, runs_of}
use Rattle.vhdl_scope.proofs.RowLemmas.{as_many, words_long}
use Rattle.vhdl_scope.proofs.row.Draft.load.Goals as goal

pub returns-in_err-extend_from_slice-clause-len : goal.returns-in_err-extend_from_slice-clause-len
returns-in_err-extend_from_slice-clause-len c = words_long c.self.inside.words c.extend_from_slice.new.self.items ∙ (sym (words_long c.self.inside.words c.self.inside.runs.items) ∙ ap length c.self.view_is)

pub returns-clause-len : goal.returns-clause-len
returns-clause-len c = words_long c.self.inside.words c.extend_from_slice.new.self.items ∙ (sym (words_long c.self.inside.words c.self.inside.runs.items) ∙ ap length c.self.view_is)

pub returns-clause-is : goal.returns-clause-is
returns-clause-is c =
    let items : c.extend_from_slice.new.self.items ≡ runs_of c.row.inside.runs = c.in_ok-extend_from_slice.ensures.items ∙ (ap (λ (some : List Run). some ++ c.as_slice.result.now) c.clear.ensures.items ∙ c.as_slice.ensures) in
    let same : c.self.inside.words ≡ c.row.inside.words = sym (as_many c.self.inside.words c.row.inside.words c.self.inside.runs.items (runs_of c.row.inside.runs) (ap length c.row.view_is ∙ (c.requires ∙ ap length (sym c.self.view_is)))) in
    ap (row_words c.self.inside.words) items ∙ (ap (λ (n : ℕ). row_words n (runs_of c.row.inside.runs)) same ∙ c.row.view_is)
