-- The entry of the path goes, and its bytes.
use Rattle.std.proofs.Common.{◌≡◌, List, length, ap, sym, subst, ◌∙◌, arith}
use Rattle.std.specs.Option.{is_some}
use Rattle.base.specs.declared.file.NamedText.{NamedText}
use Rattle.memory_outside.specs.Trees.{file_at}
use Rattle.session_texts.specs.Texts.{AreAllowedTexts, text_sum, without_text}
use Rattle.session_texts.specs.Entries.{texts_of}
use Rattle.session_texts.proofs.TextLemmas.{Entry, allowed_drop, dropped_is, got_is, sum_removed}
use Rattle.session_texts.proofs.texts.Overlays.drop_path.Goals as goal

pub overflow_sub-self : goal.overflow_sub-self
overflow_sub-self c =
    let sum = sum_removed c.self.inside.map.entries c.args.path.now c.in-Some.text c.in-Some.ensures.value in
    let total = c.self.invariant.1 in
    let long : length c.bytes.result.now ≡ length c.in-Some.text = ap (λ bytes. length bytes) c.bytes.ensures in
    omega (arith, sum, total, long)

pub invariant_of-self : goal.invariant_of-self
invariant_of-self c =
    let sum = sum_removed c.self.inside.map.entries c.args.path.now c.in-Some.text c.in-Some.ensures.value in
    let total = c.self.invariant.1 in
    let long : length c.bytes.result.now ≡ length c.in-Some.text = ap (λ bytes. length bytes) c.bytes.ensures in
    let now = ap (λ (entries : List Entry). text_sum (texts_of entries)) c.remove.ensures.entries in (
      subst (λ (entries : List Entry). AreAllowedTexts (texts_of entries)) (sym c.remove.ensures.entries)
          (subst AreAllowedTexts (sym (dropped_is c.self.inside.map.entries c.args.path.now)) (allowed_drop c.args.path.now (texts_of c.self.inside.map.entries) c.self.invariant.0)),
      omega (arith, sum, total, long, now),
    )

pub returns-in-Some-clause-had : goal.returns-in-Some-clause-had
returns-in-Some-clause-had c =
    ap is_some (c.in-Some.ensures.value ∙ (got_is c.self.inside.map.entries c.args.path.now ∙ ap (λ (texts : List NamedText). file_at texts c.args.path.now) c.self.view_is))

pub returns-in-Some-clause-dropped : goal.returns-in-Some-clause-dropped
returns-in-Some-clause-dropped c =
    ap texts_of c.remove.ensures.entries ∙ (dropped_is c.self.inside.map.entries c.args.path.now ∙ ap (without_text c.args.path.now) c.self.view_is)

pub returns-in-None-clause-had : goal.returns-in-None-clause-had
returns-in-None-clause-had c =
    ap is_some (c.in-None.ensures.value ∙ (got_is c.self.inside.map.entries c.args.path.now ∙ ap (λ (texts : List NamedText). file_at texts c.args.path.now) c.self.view_is))

pub returns-in-None-clause-dropped : goal.returns-in-None-clause-dropped
returns-in-None-clause-dropped c =
    ap texts_of c.remove.ensures.entries ∙ (dropped_is c.self.inside.map.entries c.args.path.now ∙ ap (without_text c.args.path.now) c.self.view_is)
