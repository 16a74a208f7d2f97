-- The words are those of the runs.
use Rattle.std.proofs.Common.{◌≡◌, ◌∙◌, ℕ, ap, arith, drop, length, sym}
use Rattle.vhdl_scope.specs.Rows.{row_words, runs_of}
use Rattle.vhdl_scope.proofs.RowLemmas.{all_written, words_long}
use Rattle.vhdl_scope.proofs.row.Room.load.Goals as goal

pub returns : goal.returns
returns c =
    let value : length c.as_mut_slice.result.now ≡ length c.self.inside.words.items = ap length c.as_mut_slice.ensures.value in
    let same : length c.as_mut_slice.result.now ≡ c.row.inside.words =
    value ∙ (ap length c.self.view_is ∙ (sym c.requires ∙ (ap length (sym c.row.view_is) ∙ words_long c.row.inside.words (runs_of c.row.inside.runs)))) in
    let long : length c.put_runs.new.words ≡ length c.as_mut_slice.result.now = ap length c.put_runs.ensures ∙ words_long (length c.as_mut_slice.result.now) c.as_slice.result.now in
    all_written c.self.inside.words.len c.put_runs.new.words (drop (length c.put_runs.new.words) c.self.inside.words.items) (omega (arith, long, value))
    ∙ (c.put_runs.ensures ∙ (ap (λ (n : ℕ). row_words n c.as_slice.result.now) same ∙ (ap (row_words c.row.inside.words) c.as_slice.ensures ∙ c.row.view_is)))
