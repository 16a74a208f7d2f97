-- The runs of both rows are merged.
use Rattle.std.proofs.Common.{◌≡◌, ◌∙◌, ◌||◌, ℕ, List, ap, length, sym}
use Rattle.std.proofs.lemmas.Result.{on_ok_weaker}
use Rattle.vhdl_scope.specs.Bits.{row_has}
use Rattle.vhdl_scope.specs.Rows.{row_words, runs_of}
use Rattle.vhdl_scope.proofs.RowLemmas.{as_many, words_long}
use Rattle.vhdl_scope.proofs.row.Draft.join.Goals as goal

pub returns-clause-len : goal.returns-clause-len
returns-clause-len c = words_long c.self.inside.words c.join_runs.new.runs.items ∙ (sym (words_long c.self.inside.words c.self.inside.runs.items) ∙ ap length c.self.view_is)

pub returns-clause-bits : goal.returns-clause-bits
returns-clause-bits c =
    let same : c.self.inside.words ≡ c.row.inside.words = sym (as_many c.self.inside.words c.row.inside.words c.self.inside.runs.items (runs_of c.row.inside.runs) (ap length c.row.view_is ∙ (c.requires ∙ ap length (sym c.self.view_is)))) in
    let other : row_words c.self.inside.words c.as_slice.result.now ≡ c.args.row.now = ap (row_words c.self.inside.words) c.as_slice.ensures ∙ (ap (λ (n : ℕ). row_words n (runs_of c.row.inside.runs)) same ∙ c.row.view_is) in
    on_ok_weaker c.join_runs.result
    (λ h number. h number
    ∙ (ap (λ (row : List ℕ). row_has row number || row_has (row_words c.self.inside.words c.as_slice.result.now) number) c.self.view_is
    ∙ ap (λ (row : List ℕ). row_has c.args.self.now number || row_has row number) other)) c.join_runs.ensures.bits
