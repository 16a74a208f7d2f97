use Rattle.std.proofs.Common.{◌≡◌, List, ℕ, [], ◌∷◌, ◌++◌, length, ap, subst, ◌∙◌}
use Rattle.std.specs.Prelude.{Contains}
use Rattle.base_bytes.specs.Ranges.{ranged}
use Rattle.store_table.specs.Located.{AreTextsLocated, located_texts, nth_payload}
use Rattle.store_table.proofs.Keeping.{keeps_more}
use Rattle.store_table.proofs.Longer.{texts_still}
use Rattle.passes_table.proofs.PendingFiles.{copy_there, located_still}
use Rattle.passes_table.proofs.pending.FreshTexts.put.Goals as goal

pub put_text-requires-clause-texts : goal.put_text-requires-clause-texts
put_text-requires-clause-texts c =
    let segments : List (List ℕ) = c.args.self.now.held.segments in
    let segments' : List (List ℕ) = c.put.new.self.segments in
    located_still segments segments' c.args.self.now.texts (keeps_more segments (c.args.copy ∷ []) segments' c.put.ensures.segments) (record { within = c.requires.located.within; split = c.requires.located.split })

pub put_text-requires-clause-new : goal.put_text-requires-clause-new
put_text-requires-clause-new c =
    let segments : List (List ℕ) = c.args.self.now.held.segments in
    let segments' : List (List ℕ) = c.put.new.self.segments in
    let are : AreTextsLocated segments c.args.self.now.texts = record { within = c.requires.located.within; split = c.requires.located.split } in
    let same : located_texts segments' c.args.self.now.texts ≡ located_texts segments c.args.self.now.texts = texts_still segments segments' c.args.self.now.texts (keeps_more segments (c.args.copy ∷ []) segments' c.put.ensures.segments) are in
    let text = copy_there segments segments' c.args.copy c.put.ensures.segments c.len-at.result (length c.payload.result.now) c.len-at.ensures (ap length c.payload.ensures) in
    λ has. c.requires.new (subst (Contains (located_texts segments c.args.self.now.texts)) text (subst (λ (ts : List (List ℕ)). Contains ts (ranged (nth_payload segments' c.len-at.result) (record { start = 0; count = length c.payload.result.now }))) same has))

pub returns-clause-texts : goal.returns-clause-texts
returns-clause-texts c =
    let segments : List (List ℕ) = c.args.self.now.held.segments in
    let segments' : List (List ℕ) = c.put.new.self.segments in
    let are : AreTextsLocated segments c.args.self.now.texts = record { within = c.requires.located.within; split = c.requires.located.split } in
    let same : located_texts segments' c.args.self.now.texts ≡ located_texts segments c.args.self.now.texts = texts_still segments segments' c.args.self.now.texts (keeps_more segments (c.args.copy ∷ []) segments' c.put.ensures.segments) are in
    let text = copy_there segments segments' c.args.copy c.put.ensures.segments c.len-at.result (length c.payload.result.now) c.len-at.ensures (ap length c.payload.ensures) in
    c.put_text.ensures.is ∙ ap (λ (ts : List (List ℕ)). ts ++ ranged (nth_payload segments' c.len-at.result) (record { start = 0; count = length c.payload.result.now }) ∷ []) same ∙ ap (λ (t : List ℕ). located_texts segments c.args.self.now.texts ++ t ∷ []) text
