use Rattle.std.proofs.Common.{◌≡◌, ℕ, List, [], ◌∷◌, ◌++◌, length, None, Option, get_or, sym, ap, subst, ◌∙◌, arith, inl, inr, length-append}
use Rattle.std.proofs.lemmas.Bool.{cases_lt}
use Rattle.std.proofs.lemmas.List.{get_or_append_left, get_or_at}
use Rattle.std.proofs.lemmas.Option.{get_or_from_slice_get}
use Rattle.base.specs.declared.graph.Entry.{Entry}
use Rattle.store_codec.specs.RecordTables.{RecordTable, record_table_of}
use Rattle.store.specs.declared.handles.RecordHandle.{RecordHandle}
use Rattle.store.specs.LookedUp.{HasTextSaid, IsRecordHandle}
use Rattle.store.proofs.loaded.LoadedStore.handles_in.Goals as goal

pub loop-at-preserved : goal.loop-at-preserved
loop-at-preserved c =
    let table : RecordTable = record_table_of c.args.self.now.payloads in
    let graph : List Entry = c.args.graph.now in
    let old : List (Option RecordHandle) = c.loop-at.handles in
    let more : c.push.new.self ≡ c.loop-at.handles ++ c.handle_in.result ∷ [] = c.in_ok-push.ensures in
    record {
      size = omega (arith, ap length more, length-append c.loop-at.handles (c.handle_in.result ∷ []), c.loop-at.invariant.size);
      is = λ k other l. elim (cases_lt k c.loop-at.at) [
        | inl a ↦ subst (IsRecordHandle table (get_or graph k other).name) (sym (ap (λ (ss : List (Option RecordHandle)). get_or ss k None) more ∙ get_or_append_left c.loop-at.handles (c.handle_in.result ∷ []) None k (omega (arith, a, c.loop-at.invariant.size)))) (c.loop-at.invariant.is k other a)
        | inr a ↦
            let at : k ≡ c.loop-at.at = omega (arith, l, a) in
            let entry : get_or graph k other ≡ c.get.result.now = ap (λ (n : ℕ). get_or graph n other) at ∙ get_or_from_slice_get graph c.loop-at.at c.get.result.now other c.get.ensures.entry in
            let here : get_or c.push.new.self k None ≡ c.handle_in.result = ap (λ (ss : List (Option RecordHandle)). get_or ss k None) more ∙ get_or_at c.loop-at.handles c.handle_in.result [] None k (omega (arith, at, c.loop-at.invariant.size)) in
            subst (λ (e : Entry). IsRecordHandle table e.name (get_or c.push.new.self k None)) (sym entry) (subst (IsRecordHandle table c.get.result.now.name) (sym here) c.handle_in.ensures.is)
      ];
      texts = λ k other l. elim (cases_lt k c.loop-at.at) [
        | inl a ↦ subst (HasTextSaid table (get_or graph k other)) (sym (ap (λ (ss : List (Option RecordHandle)). get_or ss k None) more ∙ get_or_append_left c.loop-at.handles (c.handle_in.result ∷ []) None k (omega (arith, a, c.loop-at.invariant.size)))) (c.loop-at.invariant.texts k other a)
        | inr a ↦
            let at : k ≡ c.loop-at.at = omega (arith, l, a) in
            let entry : get_or graph k other ≡ c.get.result.now = ap (λ (n : ℕ). get_or graph n other) at ∙ get_or_from_slice_get graph c.loop-at.at c.get.result.now other c.get.ensures.entry in
            let here : get_or c.push.new.self k None ≡ c.handle_in.result = ap (λ (ss : List (Option RecordHandle)). get_or ss k None) more ∙ get_or_at c.loop-at.handles c.handle_in.result [] None k (omega (arith, at, c.loop-at.invariant.size)) in
            subst (λ (e : Entry). HasTextSaid table e (get_or c.push.new.self k None)) (sym entry) (subst (HasTextSaid table c.get.result.now) (sym here) c.handle_in.ensures.text)
      ];
    }

pub handle_in-requires : goal.handle_in-requires
handle_in-requires c = λ borrows low.
    let graph : List Entry = c.args.graph.now in
    c.requires borrows c.loop-at.at c.get.result.now low ∙ ap (λ (e : Entry). e.text) (get_or_from_slice_get graph c.loop-at.at c.get.result.now c.get.result.now c.get.ensures.entry)
