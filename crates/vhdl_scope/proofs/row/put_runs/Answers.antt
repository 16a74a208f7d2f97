-- One word more is written; at the end all are.
use Rattle.std.proofs.Common.{◌≡◌, ◌∙◌, ap, arith, length, sym}
use Rattle.std.proofs.lemmas.List.{ext_get_or, length-set}
use Rattle.vhdl_scope.specs.Rows.{row_words}
use Rattle.vhdl_scope.proofs.RowLemmas.{told_more, words_are}
use Rattle.vhdl_scope.proofs.row.put_runs.Goals as goal

pub loop-at-preserved : goal.loop-at-preserved
loop-at-preserved c = record {
  long = length-set c.loop-at.words c.loop-at.at c.word_at.result ∙ c.loop-at.invariant.long;
  told = told_more c.loop-at.words c.args.runs.now c.loop-at.at c.word_at.result (omega arith) c.word_at.ensures c.loop-at.invariant.told;
}

pub returns : goal.returns
returns c =
    sym (words_are c.loop-at.words c.args.runs.now (λ at within. sym (c.loop-at.invariant.told at (omega (arith, c.loop-at-test.false, c.loop-at.invariant.long)))))
    ∙ ap (λ n. row_words n c.args.runs.now) c.loop-at.invariant.long
