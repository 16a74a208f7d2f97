-- Texts and lists stay numbered once where a payload is taken up, and what a spelled draft adds.
use Rattle.std.proofs.Common.{◌≡◌, ◌≢◌, ℕ, Bool, true, false, not, List, [], ◌∷◌, ◌++◌, get_or, None, Option, Some, refl, sym, ◌∙◌, true≢false, arith}
use Rattle.std.specs.Prelude.{AllPairs, if◌then◌else◌}
use Rattle.std.specs.Bool.{Decides}
use Rattle.std.specs.List.{fold, list_any}
use Rattle.std.specs.Option.{option_map_or}
use Rattle.std.specs.Str.{bytes_eq}
use Rattle.std.proofs.lemmas.Bool.{and_parts}
use Rattle.std.proofs.lemmas.List.Folds.{list_any_at}
use Rattle.std.proofs.lemmas.List.Quantifiers.{all_pairs_push}
use Rattle.std.proofs.lemmas.Slice.Eq.{bytes_eq-Decides}
use Rattle.base_bytes.specs.TextRefs.{TextRef, is_text_ref, with_text}
use Rattle.base_bytes.specs.TextRefs.TextRef.{ByNumber, InFull}
use Rattle.passes_codec.specs.Forms.{FileDraft, HasPassSpelling, ListRef, PassDraft, pass_bytes, pass_in}
use Rattle.passes_codec.specs.Forms.ListRef.{KnownList, NewList}
use Rattle.passes_codec.specs.PassTables.{AreNumberedOnce, IsListRef, IsValidPass, PassTable, after_pass_payload, are_listed_files, bare_table, drafted_files, is_same_list, is_valid_pass, pass_table_of, with_draft, with_list, with_list_texts, with_pass, with_texts_of}
use Rattle.passes_codec.proofs.Deciding.{same_list-Decides, valid_pass-Decides}
use Rattle.passes_codec.proofs.Spelling.{pass_again}

abbrev AreOnce : {X : Type 0} → List X → Type 0
AreOnce {X} xs = AllPairs (λ (a b : X). a ≢ b) xs

-- what no item is the same as can be added
once_more : {X : Type 0} (test : X → X → Bool) → ((a b : X) → Decides (test a b) (a ≡ b)) → (xs : List X) (new : X) → AreOnce xs → list_any (test new) xs ≡ false → AreOnce (xs ++ new ∷ [])
once_more {X} test decides xs new once none =
    all_pairs_push (λ (a b : X). a ≢ b) xs new once (λ k d l same. true≢false (sym (list_any_at (test new) xs k d l ((decides new (get_or xs k d)).1 (sym same))) ∙ none))

not_true : (b : Bool) → not b ≡ true → b ≡ false
not_true true e = absurd cc
not_true false e = refl

text_once : (texts : List (List ℕ)) (text : TextRef) → AreOnce texts → is_text_ref texts text ≡ true → AreOnce (with_text texts text)
text_once texts (ByNumber number) once e = once
text_once texts (InFull text) once e = once_more bytes_eq bytes_eq-Decides texts text once (not_true _ e)

pub files_once : (texts : List (List ℕ)) (files : List FileDraft) → AreOnce texts → are_listed_files texts files ≡ true → AreOnce (with_list_texts texts files)
unfolding with_list_texts are_listed_files
files_once texts [] once e = once
files_once texts (file ∷ files) once e =
    let parts = and_parts _ _ e in
    let one = and_parts _ _ parts.0 in
    let two = and_parts _ _ one.1 in
    files_once (with_text texts file.artefact) files (text_once texts file.artefact once two.0) parts.1

texts_once : (table : PassTable) (list : ListRef) → AreOnce table.texts → IsListRef table list → AreOnce (with_texts_of table.texts list)
texts_once table (KnownList number) once is = once
texts_once table (NewList files) once is = files_once table.texts files once is.1

lists_once : (table : PassTable) (list : ListRef) → AreOnce table.lists → IsListRef table list → AreOnce (with_list table list)
lists_once table (KnownList number) once is = once
lists_once table (NewList files) once is = once_more is_same_list same_list-Decides table.lists (drafted_files table.texts files) once is.2

pub once_with_pass : (table : PassTable) (draft : PassDraft) → AreNumberedOnce table → IsValidPass table draft → AreNumberedOnce (with_pass table draft)
once_with_pass table draft once is = record { texts = texts_once table draft.list once.texts is.list; lists = lists_once table draft.list once.lists is.list }

-- what a valid draft keeps of a table holds of the table of any payloads, if it does of the bare one
module _ (P : PassTable → Type 0) (pass : (table : PassTable) (draft : PassDraft) → P table → IsValidPass table draft → P (with_pass table draft)) where
  by_test : (test : Bool) (x y : PassTable) → (test ≡ true → P x) → P y → P (if test then x else y)
  by_test true x y one two = one refl
  by_test false x y one two = two

  by_draft : (table : PassTable) (draft : PassDraft) → P table → P (with_draft table draft)
  by_draft table draft is = by_test (is_valid_pass table draft) (with_pass table draft) table (λ e. pass table draft is ((valid_pass-Decides table draft).0 e)) is

  by_found : (table : PassTable) (found : Option PassDraft) → P table → P (option_map_or (with_draft table) found table)
  by_found table None is = is
  by_found table (Some draft) is = by_draft table draft is

  by_bytes : (table : PassTable) (bytes : List ℕ) → P table → P (after_pass_payload table bytes)
  unfolding after_pass_payload
  by_bytes table bytes is = by_found table (pass_in bytes) is

  by_each : (table : PassTable) (payloads : List (List ℕ)) → P table → P (fold after_pass_payload table payloads)
  by_each table [] is = is
  by_each table (payload ∷ payloads) is = by_each (after_pass_payload table payload) payloads (by_bytes table payload is)

  pub by_payloads : P bare_table → (payloads : List (List ℕ)) → P (pass_table_of payloads)
  unfolding pass_table_of
  by_payloads bare payloads = by_each bare_table payloads bare

pub once_in_all : (payloads : List (List ℕ)) → AreNumberedOnce (pass_table_of payloads)
once_in_all = by_payloads AreNumberedOnce once_with_pass (record { texts = λ i j d a b. absurd (omega arith); lists = λ i j d a b. absurd (omega arith) })

pub adds_pass : (table : PassTable) (draft : PassDraft) → IsValidPass table draft → HasPassSpelling draft → after_pass_payload table (pass_bytes draft) ≡ with_pass table draft
unfolding after_pass_payload
adds_pass table draft is spelled = rw (pass_again draft spelled, (valid_pass-Decides table draft).1 is) refl
