use Rattle.std.proofs.Common.{◌≡◌, ◌+◌, ◌∙◌, Option, List, [], ◌∷◌, ℕ, Err, length, ◌≤◌, ap, subst, sym, arith}
use Rattle.std.specs.Prelude.{All, sum_by}
use Rattle.std.proofs.lemmas.List.Elements.{All-push}
use Rattle.base.specs.declared.limits.TheConstants.{TEXT_LIMIT}
use Rattle.std.proofs.lemmas.List.{length_push}
use Rattle.std.proofs.lemmas.List.Sums.{sum_by_push}
use Rattle.std.proofs.lemmas.Result.{err_from_is_err_and}
use Rattle.outside.specs.Trees.{read_end}
use Rattle.project_reading.specs.Reading.{text_of}
use Rattle.project_reading.specs.Sources.{Gives}
use Rattle.project_reading.proofs.TextLemmas.{text_then, no_text_then, all_texts}
use Rattle.project_reading.proofs.Asks.{all_first, one_more_asked, stops_asking, all_asked}
use Rattle.project_reading.proofs.texts.texts_of.Goals as goal

pub returns-in_err-text-clause-texts : goal.returns-in_err-text-clause-texts
returns-in_err-text-clause-texts g c =
    let i = c.loop-file.invariant in
    let p = err_from_is_err_and c.from_residual.result c.from_residual.ensures.1 in
    rw (p.1, p.2) (λ tells. no_text_then (g.T.Tree.file c.args.tree.now) c.loop-file.total c.args.files.now c.loop-file.file-index c.file-item.result c.loop-file.texts _ c.loop-file-test.true c.file-item.is (i.told tells) _ (subst (λ (tree : List ℕ → Option (List ℕ)). Gives (text_of c.file-item.result.name c.loop-file.total (read_end (tree c.file-item.result.name.path) TEXT_LIMIT)) (Err c.in_err-text.field-0.0)) i.same (c.in_err-text.ensures.text tells)))

pub loop-file-preserved : goal.loop-file-preserved
loop-file-preserved g c =
    let i = c.loop-file.invariant in
    let pushed = c.in_ok-push.ensures.ok in
    let bytes : length c.bytes.result.now ≡ length c.in_ok-text.text = ap length c.bytes.ensures in
    record {
      count = ap length pushed ∙ length_push c.loop-file.texts c.in_ok-text.text ∙ ap (λ (n : ℕ). n + 1) i.count;
      sum = let sum = ap (λ (texts : List (List ℕ)). sum_by (λ (text : List ℕ). length text) texts) pushed ∙ sum_by_push (λ (text : List ℕ). length text) c.loop-file.texts c.in_ok-text.text in omega (arith, sum, bytes, i.sum);
      small = omega (arith, bytes, c.in_ok-text.ensures.size);
      short = subst (All (λ (text : List ℕ). length text ≤ TEXT_LIMIT)) (sym pushed) (All-push (λ (text : List ℕ). length text ≤ TEXT_LIMIT) c.loop-file.texts c.in_ok-text.text i.short c.in_ok-text.ensures.short);
      same = c.in_ok-text.ensures.same ∙ i.same;
      same_list = c.in_ok-text.ensures.same_list ∙ i.same_list;
      kept = c.in_ok-text.ensures.kept ∙ i.kept;
      asked = one_more_asked c.args.files.now c.loop-file.file-index c.file-item.result _ _ c.loop-file-test.true c.file-item.is i.asked _ c.in_ok-text.ensures.asked;
      counts = c.in_ok-text.ensures.cause ∙ i.counts;
      told = λ tells. rw (pushed, bytes) (text_then (g.T.Tree.file c.args.tree.now) c.loop-file.total c.args.files.now c.loop-file.file-index c.file-item.result c.loop-file.texts _ c.loop-file-test.true c.file-item.is (i.told tells) c.in_ok-text.text (rw i.same at (c.in_ok-text.ensures.text tells)));
    }

pub returns-clause-texts : goal.returns-clause-texts
returns-clause-texts g c = λ tells. all_texts (g.T.Tree.file c.args.tree.now) c.loop-file.total c.args.files.now c.loop-file.file-index c.loop-file.texts _ c.loop-file-test.false (c.loop-file.invariant.told tells)

pub returns-in_err-text-clause-asked : goal.returns-in_err-text-clause-asked
returns-in_err-text-clause-asked g c =
    let p = err_from_is_err_and c.from_residual.result c.from_residual.ensures.1 in
    rw p.1 (stops_asking c.args.files.now c.loop-file.file-index c.file-item.result _ _ c.loop-file-test.true c.file-item.is c.loop-file.invariant.asked _ c.in_err-text.ensures.asked)

pub returns-in_err-push-clause-asked : goal.returns-in_err-push-clause-asked
returns-in_err-push-clause-asked g c =
    let p = err_from_is_err_and c.from_residual-in_err-push.result c.from_residual-in_err-push.ensures.1 in
    rw p.1 (stops_asking c.args.files.now c.loop-file.file-index c.file-item.result _ _ c.loop-file-test.true c.file-item.is c.loop-file.invariant.asked _ (all_first (c.file-item.result.name.path ∷ []) _ _ c.in_ok-text.ensures.asked))

pub returns-clause-asked : goal.returns-clause-asked
returns-clause-asked g c = all_asked c.args.files.now c.loop-file.file-index _ _ c.loop-file-test.false c.loop-file.invariant.asked
