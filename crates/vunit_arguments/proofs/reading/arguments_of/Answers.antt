use Rattle.std.proofs.Common.{◌≡◌, ◌++◌, ◌∷◌, [], List, ℕ, true, false, map, ap, ap₂, sym, subst, refl, ◌∙◌, get_or}
use Rattle.std.specs.Str.{is_utf8}
use Rattle.std.proofs.lemmas.Bool.{false_from_ne_true}
use Rattle.std.proofs.lemmas.List.{map_push, take_more}
use Rattle.std.proofs.lemmas.List.Folds.{list_all_at, list_all_more}
use Rattle.std.proofs.lemmas.Str.{IsUtf8-from_is_utf8, is_utf8-from_IsUtf8}
use Rattle.vunit_arguments.proofs.reading.arguments_of.Goals as goal

pub returns-in_default : goal.returns-in_default
returns-in_default c =
    let word = c.word-item.result in
    let same : c.bytes.result.now ≡ get_or c.args.arguments.now c.loop-word.word-index word = c.bytes.ensures ∙ c.word-item.is in
    list_all_at is_utf8 c.args.arguments.now c.loop-word.word-index word c.loop-word-test.true
    (subst (λ (t : List ℕ). is_utf8 t ≡ false) same (false_from_ne_true (is_utf8 c.bytes.result.now) (λ is. c.in_default.ensures.cases.0 (IsUtf8-from_is_utf8 c.bytes.result.now is))))

pub loop-word-preserved : goal.loop-word-preserved
loop-word-preserved c =
    let word = c.word-item.result in
    let same : c.bytes.result.now ≡ get_or c.args.arguments.now c.loop-word.word-index word = c.bytes.ensures ∙ c.word-item.is in
    let is : is_utf8 (get_or c.args.arguments.now c.loop-word.word-index word) ≡ true =
    subst (λ (t : List ℕ). is_utf8 t ≡ true) same (is_utf8-from_IsUtf8 c.bytes.result.now c.in-Ok.ensures.cases.1) in (
      list_all_more is_utf8 c.args.arguments.now c.loop-word.word-index word c.loop-word-test.true ∙ rw (c.loop-word.invariant.0, is) refl,
      ap (map _) c.in_ok-push.ensures.items ∙ map_push _ c.loop-word.read.items c.in-Ok.text
          ∙ ap₂ (λ (before : List (List ℕ)) (text : List ℕ). before ++ text ∷ []) c.loop-word.invariant.1 (c.in-Ok.ensures.cases.0 ∙ same)
          ∙ sym (take_more c.args.arguments.now c.loop-word.word-index word c.loop-word-test.true),
    )
