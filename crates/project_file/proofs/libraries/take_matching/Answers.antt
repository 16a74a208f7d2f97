-- What remains to be proved of `take_matching`.
use Rattle.std.proofs.Common.{◌≡◌, ◌||◌, [], sym, ap, ◌∙◌, get_or, take}
use Rattle.std.specs.List.{list_any}
use Rattle.std.proofs.lemmas.List.{get_or_default}
use Rattle.std.proofs.lemmas.List.Folds.{list_any_more}
use Rattle.project_file.specs.Paths.{matches_path}
use Rattle.project_file.specs.Libraries.{texts_at}
use Rattle.project_file.proofs.MatchSteps.{taken_more}
use Rattle.project_file.proofs.libraries.take_matching.Goals as goal

pub loop-i-preserved : goal.loop-i-preserved
loop-i-preserved c =
    let name : c.bytes.result.now ≡ get_or c.args.names.now c.loop-i.i [] = c.bytes.ensures ∙ c.index-names-i.is ∙ get_or_default c.args.names.now c.loop-i.i c.index-names-i.result [] c.loop-i-test.true in
    let wanted : c.in_ok-wanted.wanted ≡ matches_path c.args.pattern.now (get_or c.args.names.now c.loop-i.i []) =
    c.in_ok-wanted.ensures.pattern c.args.pattern.now (c.as_slice.ensures ∙ c.in_ok-parts.ensures) ∙ ap (matches_path c.args.pattern.now) name in
    let both = taken_more c.args.names.now c.requires.distinct (matches_path c.args.pattern.now) (texts_at c.args.names.now c.args.found.now.numbers) c.loop-i.i c.loop-i-test.true c.loop-i.found c.add_wanted.new.found c.in_ok-wanted.wanted
    c.loop-i.invariant.indices c.loop-i.invariant.found wanted c.in_ok-add_wanted.ensures in
    record {
      some = c.either-any.ensures ∙ ap (λ b. b || c.in_ok-wanted.wanted) c.loop-i.invariant.some ∙ ap (λ b. list_any (matches_path c.args.pattern.now) (take c.loop-i.i c.args.names.now) || b) wanted
          ∙ sym (list_any_more (matches_path c.args.pattern.now) c.args.names.now c.loop-i.i [] c.loop-i-test.true);
      indices = both.0;
      found = both.1;
    }
