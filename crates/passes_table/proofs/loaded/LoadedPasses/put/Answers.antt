use Rattle.std.proofs.Common.{◌≡◌, Bool, ℕ, List, [], ◌∷◌, ◌++◌, sym, ap, subst, ◌∙◌}
use Rattle.base.specs.declared.file.FileName.{FileName}
use Rattle.store_table.specs.Located.{located_texts, nth_payload}
use Rattle.store_table.proofs.Keeping.{keeps_more}
use Rattle.passes_codec.specs.Forms.{ListRef, PassDraft}
use Rattle.passes_codec.specs.PassTables.{PassTable, pass_table_of, with_pass, with_texts_of}
use Rattle.passes_codec.specs.Ranges.{list_in_range, pass_in_ranges}
use Rattle.passes_table.specs.Additions.{IsAddition, IsListPart, is_new}
use Rattle.passes_table.specs.Located.{located_passes}
use Rattle.passes_table.specs.Pending.{IsPending, IsRenewed, fresh_in, pending_files}
use Rattle.passes_table.specs.States.{HasFresh, PassesState}
use Rattle.passes_table.proofs.Loads.{last_payload, passes_located_still, pending_after, there_still, with_payload}
use Rattle.passes_table.proofs.loaded.LoadedPasses.put.Goals as goal
use Rattle.passes_table.proofs.loaded.LoadedPasses.put.Goals.{After-renew}

same_names : (c : After-renew) → c.self.inside.table.names.keys ≡ c.args.self.now.names
same_names c = ap (λ (s : PassesState). s.names) c.self.view_is

same_there : (c : After-renew) → located_passes c.put.new.self.segments c.self.inside.table ≡ pass_table_of c.args.self.now.payloads
same_there c =
    let state : PassesState = c.args.self.now in
    let segments : List (List ℕ) = c.self.inside.held.segments in
    let segments' : List (List ℕ) = c.put.new.self.segments in
    let payloads_is : segments ≡ state.payloads = c.self.invariant.whole ∙ ap (λ (s : PassesState). s.payloads) c.self.view_is in
    there_still segments segments' state.payloads c.self.inside.table (keeps_more segments (c.args.segment ∷ []) segments' c.put.ensures.segments) c.self.invariant.are.are payloads_is c.self.invariant.are.is

same_texts : (c : After-renew) → (located_texts c.self.inside.held.segments c.self.inside.table.texts) ≡ (pass_table_of c.args.self.now.payloads).texts
same_texts c =
    let state : PassesState = c.args.self.now in
    let segments : List (List ℕ) = c.self.inside.held.segments in
    let payloads_is : segments ≡ state.payloads = c.self.invariant.whole ∙ ap (λ (s : PassesState). s.payloads) c.self.view_is in
    let table_is : located_passes segments c.self.inside.table ≡ pass_table_of state.payloads = c.self.invariant.are.is ∙ ap pass_table_of payloads_is in
    ap (λ (t : PassTable). t.texts) table_is

put_is : (c : After-renew) → located_passes c.put.new.self.segments c.put_pass.new.table ≡ with_pass (pass_table_of c.args.self.now.payloads) (pass_in_ranges c.args.segment c.args.addition.draft)
put_is c =
    let segments' : List (List ℕ) = c.put.new.self.segments in
    let bytes : nth_payload segments' c.len-at.result ≡ c.args.segment = last_payload c.self.inside.held.segments segments' c.args.segment c.len-at.result c.put.ensures.segments c.len-at.ensures in
    let draft : PassDraft = pass_in_ranges c.args.segment c.args.addition.draft in
    let spelled : pass_in_ranges (nth_payload segments' c.len-at.result) c.args.addition.draft ≡ draft = ap (λ (bs : List ℕ). pass_in_ranges bs c.args.addition.draft) bytes in
    c.put_pass.ensures.is ∙ ap (λ (t : PassTable). with_pass t (pass_in_ranges (nth_payload segments' c.len-at.result) c.args.addition.draft)) (same_there c) ∙ ap (with_pass (pass_table_of c.args.self.now.payloads)) spelled

texts_is : (c : After-renew) → (located_texts c.put.new.self.segments c.put_pass.new.table.texts) ≡ with_texts_of (located_texts c.self.inside.held.segments c.self.inside.table.texts) (list_in_range c.args.segment c.args.addition.draft.list)
texts_is c =
    let list : ListRef = list_in_range c.args.segment c.args.addition.draft.list in
    ap (λ (t : PassTable). t.texts) (put_is c) ∙ ap (λ (ts : List (List ℕ)). with_texts_of ts list) (sym (same_texts c))

after_put : (c : After-renew) → IsPending c.self.inside.table.names.keys (located_texts c.put.new.self.segments c.put_pass.new.table.texts) c.renew.new.self × (pending_files c.self.inside.table.names.keys (located_texts c.put.new.self.segments c.put_pass.new.table.texts) c.renew.new.self ≡ pending_files c.self.inside.table.names.keys (located_texts c.self.inside.held.segments c.self.inside.table.texts) c.self.inside.list)
after_put c =
    let state : PassesState = c.args.self.now in
    let table = c.self.inside.table in
    let texts : List (List ℕ) = located_texts c.self.inside.held.segments table.texts in
    let texts' : List (List ℕ) = located_texts c.put.new.self.segments c.put_pass.new.table.texts in
    let list : ListRef = list_in_range c.args.segment c.args.addition.draft.list in
    let part : IsListPart table.names.keys texts list c.args.addition.list.part = subst (λ (ns : List FileName). IsListPart ns texts list c.args.addition.list.part) (sym (same_names c)) (subst (λ (ts : List (List ℕ)). IsListPart state.names ts list c.args.addition.list.part) (sym (same_texts c)) c.requires.is.list.part) in
    let fresh_is : fresh_in c.self.inside.list.fresh ≡ state.fresh = ap (λ (s : PassesState). s.fresh) c.self.view_is in
    let fresh : HasFresh texts (fresh_in c.self.inside.list.fresh) list = subst (λ (f : List (List ℕ)). HasFresh texts f list) (sym fresh_is) (subst (λ (ts : List (List ℕ)). HasFresh ts state.fresh list) (sym (same_texts c)) c.requires.fresh) in
    let left : IsRenewed (is_new c.args.addition.list.part) c.self.inside.list c.renew.new.self = subst (λ (is : Bool). IsRenewed is c.self.inside.list c.renew.new.self) c.is_new_list-is_new.ensures c.renew.ensures in
    pending_after table.names.keys texts texts' c.self.inside.list c.renew.new.self list c.args.addition.list.part c.self.invariant.pending part fresh (texts_is c) left

pub put_pass-requires-clause-table : goal.put_pass-requires-clause-table
put_pass-requires-clause-table c =
    let segments : List (List ℕ) = c.self.inside.held.segments in
    let segments' : List (List ℕ) = c.put.new.self.segments in
    let q = keeps_more segments (c.args.segment ∷ []) segments' c.put.ensures.segments in
    passes_located_still segments segments' c.self.inside.table q c.self.invariant.are.are

pub put_pass-requires-clause-is : goal.put_pass-requires-clause-is
put_pass-requires-clause-is c =
    let state : PassesState = c.args.self.now in
    let segments : List (List ℕ) = c.self.inside.held.segments in
    let segments' : List (List ℕ) = c.put.new.self.segments in
    let table = c.self.inside.table in
    let payloads_is : segments ≡ state.payloads = c.self.invariant.whole ∙ ap (λ (s : PassesState). s.payloads) c.self.view_is in
    let names_is : table.names.keys ≡ state.names = ap (λ (s : PassesState). s.names) c.self.view_is in
    let there_is = there_still segments segments' state.payloads table (keeps_more segments (c.args.segment ∷ []) segments' c.put.ensures.segments) c.self.invariant.are.are payloads_is c.self.invariant.are.is in
    let bytes : nth_payload segments' c.len-at.result ≡ c.args.segment = last_payload segments segments' c.args.segment c.len-at.result c.put.ensures.segments c.len-at.ensures in
    let given : IsAddition (pass_table_of state.payloads) state.names c.args.segment c.args.addition = record { valid = c.requires.is.valid; files = c.requires.is.files; list = c.requires.is.list } in
    subst (λ (t : PassTable). IsAddition t table.names.keys (nth_payload segments' c.len-at.result) c.args.addition) (sym there_is)
    (subst (λ (ns : List FileName). IsAddition (pass_table_of state.payloads) ns (nth_payload segments' c.len-at.result) c.args.addition) (sym names_is)
    (subst (λ (bs : List ℕ). IsAddition (pass_table_of state.payloads) state.names bs c.args.addition) (sym bytes) given))

pub invariant_of-self : goal.invariant_of-self
invariant_of-self c =
    let step = (goal.at.invariant_of-self c).After-renew in
    let state : PassesState = c.args.self.now in
    let payloads_is : c.self.inside.held.segments ≡ state.payloads = c.self.invariant.whole ∙ ap (λ (s : PassesState). s.payloads) c.self.view_is in
    let draft : PassDraft = pass_in_ranges c.args.segment c.args.addition.draft in
    let texts' : List (List ℕ) = located_texts c.put.new.self.segments c.put_pass.new.table.texts in
    let total : pass_table_of (state.payloads ++ c.args.segment ∷ []) ≡ with_pass (pass_table_of state.payloads) draft = with_payload state.payloads c.args.segment draft c.requires.is.valid c.requires.read in
    record {
      whole = c.put.ensures.segments ∙ ap (λ (ps : List (List ℕ)). ps ++ c.args.segment ∷ []) c.self.invariant.whole ∙ sym c.put.ensures.payloads;
      are = record {
        are = c.put_pass.ensures.are;
        is = (put_is step) ∙ sym total ∙ ap pass_table_of (sym (c.put.ensures.segments ∙ ap (λ (ps : List (List ℕ)). ps ++ c.args.segment ∷ []) payloads_is));
      };
      pending = subst (λ (ns : List FileName). IsPending ns texts' c.renew.new.self) (sym c.put_pass.ensures.names) (after_put step).0;
    }

pub returns-clause-built : goal.returns-clause-built
returns-clause-built c =
    let step = (goal.at.returns-clause-built c).After-renew in
    let texts' : List (List ℕ) = located_texts c.put.new.self.segments c.put_pass.new.table.texts in
    ap (λ (ns : List FileName). pending_files ns texts' c.renew.new.self) c.put_pass.ensures.names ∙ (after_put step).1 ∙ ap (λ (s : PassesState). s.built) c.self.view_is

pub returns-clause-passes : goal.returns-clause-passes
returns-clause-passes c =
    let state : PassesState = c.args.self.now in
    let draft : PassDraft = pass_in_ranges c.args.segment c.args.addition.draft in
    let total : pass_table_of (state.payloads ++ c.args.segment ∷ []) ≡ with_pass (pass_table_of state.payloads) draft = with_payload state.payloads c.args.segment draft c.requires.is.valid c.requires.read in
    let grown : c.put.new.self.payloads ≡ state.payloads ++ c.args.segment ∷ [] = c.put.ensures.payloads ∙ ap (λ (ps : List (List ℕ)). ps ++ c.args.segment ∷ []) (ap (λ (s : PassesState). s.payloads) c.self.view_is) in
    ap (λ (t : PassTable). t.passes) (ap pass_table_of grown ∙ total)
