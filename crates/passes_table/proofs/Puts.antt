-- One more list or pass in a table.
use Rattle.std.proofs.Common.{◌≡◌, ℕ, ◌<◌, ◌≤◌, true≢false, List, [], ◌∷◌, ◌++◌, length, map, get_or, refl, sym, ap, subst, ◌∙◌, arith, length-append}
use Rattle.std.specs.Prelude.{All, Contains}
use Rattle.std.proofs.lemmas.List.{get_or-map, get_or_at, length-map, map-append}
use Rattle.std.proofs.lemmas.List.Elements.{All-push}
use Rattle.base.specs.declared.file.FileName.{FileName}
use Rattle.base.specs.declared.graph.BuiltFile.{BuiltFile}
use Rattle.base_bytes.specs.TextRefs.{with_text}
use Rattle.store_table.specs.Located.{IsProductRow, row_products}
use Rattle.store_table.proofs.Finding.{any_decides}
use Rattle.store_table.proofs.Keeping.{Keeps, keeps_both, keeps_more, keeps_self, keeps_text, products_still}
use Rattle.passes_spec.specs.Passes.{Pass}
use Rattle.passes_codec.specs.Forms.{FileDraft, ListRef, PassDraft}
use Rattle.passes_codec.specs.Forms.ListRef.{KnownList, NewList}
use Rattle.passes_codec.specs.PassTables.{IsListRef, PassTable, drafted_files, drafted_pass, told_list, with_list, with_list_texts, with_pass, with_texts_of}
use Rattle.passes_codec.proofs.Deciding.{same_list-Decides}
use Rattle.passes_table.specs.declared.additions.ListPart.TheVariants.{Known, New}
use Rattle.passes_table.specs.declared.lists.ListRow.{ListRow}
use Rattle.passes_table.specs.declared.table.PassRow.{PassRow}
use Rattle.passes_table.specs.Additions.{AreRowsOf, HasListedFiles, IsListPart, with_list_of}
use Rattle.passes_table.specs.Located.{IsListRow, IsPassRow, listed_files, passes_by, row_pass}
use Rattle.passes_table.proofs.PassRows.{list_rows_still, lists_still, rows_still}

pub keeps_list : (texts : List (List ℕ)) (files : List FileDraft) → Keeps texts (with_list_texts texts files)
unfolding with_list_texts
keeps_list texts [] = keeps_self texts
keeps_list texts (file ∷ files) = keeps_both texts (with_text texts file.artefact) (with_list_texts (with_text texts file.artefact) files) (keeps_text texts file.artefact) (keeps_list (with_text texts file.artefact) files)

-- a valid list has valid files
pub listed_of : (table : PassTable) (list : ListRef) → IsListRef table list → HasListedFiles table.texts list
listed_of table (KnownList number) is = tt
listed_of table (NewList files) is = is.1

abbrev table_of : List (List ℕ) → List (List BuiltFile) → List Pass → PassTable
table_of texts lists passes = record { texts = texts; lists = lists; passes = passes }

module _ (segments : List (List ℕ)) (names : List FileName) (texts : List (List ℕ)) (lists : List ListRow) (rows : List PassRow) (lists_are : All (IsListRow names texts) lists) (rows_are : All (IsPassRow segments lists) rows) where
  old : PassTable
  old = passes_by segments names texts lists rows

  -- a list by its number
  pub known_there : (list : ListRef) (found : ℕ) → IsListRef (passes_by segments names texts lists rows) list → IsListPart names texts list (Known found) → found < length lists
  known_there (KnownList number) found is part = omega (arith, is, part, length-map lists (listed_files names texts))
  known_there (NewList files) found is part = absurd part

  pub known_told : (list : ListRef) (found : ℕ) → IsListPart names texts list (Known found) → get_or (passes_by segments names texts lists rows).lists found [] ≡ told_list (passes_by segments names texts lists rows) list
  known_told (KnownList number) found part = ap (λ (n : ℕ). get_or (map (listed_files names texts) lists) n []) part
  known_told (NewList files) found part = absurd part

  pub known_texts : (list : ListRef) (found : ℕ) → IsListPart names texts list (Known found) → passes_by segments names texts lists rows ≡ with_list_of (passes_by segments names texts lists rows) list
  known_texts (KnownList number) found part = refl
  known_texts (NewList files) found part = absurd part

  -- a new list
  module _ (row : ListRow) where
    listed_there : (files : List FileDraft) → AreRowsOf names texts files row → Contains lists row → Contains (map (listed_files names texts) lists) (drafted_files texts files)
    listed_there files of has =
        let k : ℕ = has.0 in
        let there : All (IsProductRow names texts) row.files = subst (λ (l : ListRow). All (IsProductRow names texts) l.files) has.2 (lists_are k row has.1) in
        let same : row_products names texts row.files ≡ drafted_files texts files = sym (products_still names names texts (with_list_texts texts files) row.files (keeps_self names) (keeps_list texts files) there) ∙ of.are in (
          k,
          omega (arith, has.1, length-map lists (listed_files names texts)),
          get_or-map (listed_files names texts) lists k row (drafted_files texts files) has.1 ∙ ap (listed_files names texts) has.2 ∙ same,
        )

    pub new_row : (list : ListRef) → IsListRef (passes_by segments names texts lists rows) list → IsListPart names texts list (New row) → ¬ Contains lists row
    new_row (KnownList number) is part has = absurd part
    new_row (NewList files) is part has = true≢false (sym ((any_decides same_list-Decides (map (listed_files names texts) lists) (drafted_files texts files)).1 (listed_there files part has)) ∙ is.2)

    module _ (texts' : List (List ℕ)) (lists' : List ListRow) (grown : lists' ≡ lists ++ row ∷ []) where
      drafts : (files : List FileDraft) → AreRowsOf names texts files row → texts' ≡ with_list_texts texts files → map (listed_files names texts') lists' ≡ map (listed_files names texts) lists ++ drafted_files texts files ∷ []
      drafts files of e =
          let f : ListRow → List BuiltFile = listed_files names (with_list_texts texts files) in
          ap (λ (ts : List (List ℕ)). map (listed_files names ts) lists') e
          ∙ ap (map f) grown
          ∙ map-append f lists (row ∷ [])
          ∙ ap (λ (ls : List (List BuiltFile)). ls ++ listed_files names (with_list_texts texts files) row ∷ []) (lists_still names names texts (with_list_texts texts files) (keeps_self names) (keeps_list texts files) lists lists_are)
          ∙ ap (λ (l : List BuiltFile). map (listed_files names texts) lists ++ l ∷ []) of.are

      pub new_is : (list : ListRef) → IsListPart names texts list (New row) → texts' ≡ with_texts_of texts list → passes_by segments names texts' lists' rows ≡ with_list_of (passes_by segments names texts lists rows) list
      new_is (KnownList number) part e = absurd part
      new_is (NewList files) part e =
          let built : List (List BuiltFile) = map (listed_files names texts) lists in
          let more : List (List BuiltFile) = built ++ drafted_files texts files ∷ [] in
          ap (λ (ls : List (List BuiltFile)). table_of texts' ls (map (row_pass segments ls) rows)) (drafts files part e)
          ∙ ap (λ (ps : List Pass). table_of texts' more ps) (rows_still segments segments (keeps_self segments) lists built more rows (keeps_more built (drafted_files texts files ∷ []) more refl) (length-map lists (listed_files names texts)) rows_are)
          ∙ ap (λ (ts : List (List ℕ)). table_of ts more (map (row_pass segments built) rows)) e

      pub new_lists : (list : ListRef) → IsListPart names texts list (New row) → texts' ≡ with_texts_of texts list → All (IsListRow names texts') lists'
      new_lists (KnownList number) part e = absurd part
      new_lists (NewList files) part e =
          let old_are : All (IsListRow names (with_list_texts texts files)) lists = list_rows_still names names texts (with_list_texts texts files) (keeps_self names) (keeps_list texts files) lists lists_are in
          subst (λ (ts : List (List ℕ)). All (IsListRow names ts) lists') (sym e)
          (subst (λ (ls : List ListRow). All (IsListRow names (with_list_texts texts files)) ls) (sym grown) (All-push (IsListRow names (with_list_texts texts files)) lists row old_are part.rows))

      pub new_told : (list : ListRef) (number : ℕ) → number ≡ length lists → IsListPart names texts list (New row) → texts' ≡ with_texts_of texts list → get_or (map (listed_files names texts') lists') number [] ≡ told_list (passes_by segments names texts lists rows) list
      new_told (KnownList known) number at part e = absurd part
      new_told (NewList files) number at part e =
          let built : List (List BuiltFile) = map (listed_files names texts) lists in
          ap (λ (ls : List (List BuiltFile)). get_or ls number []) (drafts files part e) ∙ get_or_at built (drafted_files texts files) [] [] number (length-map lists (listed_files names texts) ∙ sym at)

      pub new_more : length lists ≤ length lists'
      new_more = omega (arith, ap length grown, length-append lists (row ∷ []))

-- one more pass, over the table with its list
pub pass_is : (table mid : PassTable) (draft : PassDraft) (pass : Pass) (passes : List Pass) → mid ≡ with_list_of table draft.list → passes ≡ mid.passes ++ pass ∷ [] → pass ≡ drafted_pass table draft → table_of mid.texts mid.lists passes ≡ with_pass table draft
pass_is table mid draft pass passes mid_is grown is =
    ap (λ (ps : List Pass). table_of mid.texts mid.lists ps) grown
    ∙ ap (λ (t : PassTable). table_of t.texts t.lists (t.passes ++ pass ∷ [])) mid_is
    ∙ ap (λ (p : Pass). table_of (with_texts_of table.texts draft.list) (with_list table draft.list) (table.passes ++ p ∷ [])) is
