-- The payload of one more pass over the list of files, by the number of the list or in full.
use Rattle.std.proofs.Common.{◌≡◌, ℕ, ◌+◌, ◌^◌, ◌<◌, ◌≤◌, true, List, [], length, take, get_or, Some, refl, sym, ap, subst, ◌∙◌, arith, length-append}
use Rattle.std.specs.Prelude.{Contains, slice_get}
use Rattle.std.proofs.lemmas.List.{get_or-map, take_all, take_at}
use Rattle.std.proofs.lemmas.Option.{get_or_from_slice_get, same_Some, slice_get_within}
use Rattle.base.specs.declared.file.FileName.{FileName}
use Rattle.base.specs.declared.graph.BuiltFile.{BuiltFile}
use Rattle.base.specs.declared.limits.TheConstants.{FILE_LIMIT}
use Rattle.store_table.specs.Located.{located_texts, row_products}
use Rattle.store_table.proofs.Keeping.{keeps_more, keeps_self, products_still}
use Rattle.passes_codec.specs.Forms.{FileDraft, HasListSpelling, ListRef, PassDraft, pass_in}
use Rattle.passes_codec.specs.Forms.ListRef.{NewList}
use Rattle.passes_codec.specs.PassTables.{IsListRef, IsValidPass, PassTable, are_listed_files, drafted_files, drafted_pass, told_list, with_list_texts}
use Rattle.passes_codec.specs.Ranges.{HasFilesAt, list_in_range, pass_in_ranges}
use Rattle.passes_table.specs.declared.additions.NextPass.{NextPass}
use Rattle.passes_table.specs.declared.writing.PassParts.{PassParts}
use Rattle.passes_table.specs.Next.{HasPartsOfPass, IsNextOf, draft_of_parts}
use Rattle.passes_table.specs.States.{HasFresh}
use Rattle.passes_table.specs.declared.pending.PendingList.{PendingList}
use Rattle.passes_table.specs.declared.table.LocatedPasses.{LocatedPasses}
use Rattle.passes_table.specs.Additions.{AreRowsOf, IsFoundList}
use Rattle.passes_table.specs.Located.{ArePassesLocated, IsListRow, listed_files, located_passes}
use Rattle.passes_table.specs.Pending.{IsPending, all_texts, fresh_in, pending_files, row_drafts}
use Rattle.passes_table.proofs.Checks.{list_new, list_rows_in, texts_apart}
use Rattle.passes_table.proofs.PassBytes.{drafts_spelled}
use Rattle.passes_table.proofs.RowDrafts.{drafts_files, drafts_length, drafts_texts, drafts_valid}

-- the rows of the list as the files of a new list
abbrev pub new_files : List FileName → List (List ℕ) → PendingList → List FileDraft
new_files names texts list = row_drafts names (all_texts texts list) (length texts) list.row.files

module _ (names : List FileName) (texts : List (List ℕ)) (list : PendingList) (is : IsPending names texts list) where
  size : length (all_texts texts list) ≡ length texts + length (fresh_in list.fresh)
  size = length-append texts (fresh_in list.fresh)

  within : length texts ≤ length (all_texts texts list)
  within = omega (arith, size)

  first : take (length texts) (all_texts texts list) ≡ texts
  first = take_at texts (fresh_in list.fresh) (length texts) refl

  pub new_texts : with_list_texts texts (new_files names texts list) ≡ all_texts texts list
  new_texts =
      ap (λ (ts : List (List ℕ)). with_list_texts ts (new_files names texts list)) (sym first)
      ∙ drafts_texts names (all_texts texts list) (length texts) list.row.files is.in_order is.rows
      ∙ ap (λ (n : ℕ). take n (all_texts texts list)) is.all
      ∙ take_all (length texts + length (fresh_in list.fresh)) (all_texts texts list) (omega (arith, size))

  pub new_built : drafted_files texts (new_files names texts list) ≡ pending_files names texts list
  new_built =
      ap (λ (ts : List (List ℕ)). drafted_files ts (new_files names texts list)) (sym first) ∙ drafts_files names (all_texts texts list) (length texts) list.row.files within is.in_order is.rows

  pub new_valid : are_listed_files texts (new_files names texts list) ≡ true
  new_valid =
      ap (λ (ts : List (List ℕ)). are_listed_files ts (new_files names texts list)) (sym first) ∙ drafts_valid names (all_texts texts list) (length texts) list.row.files within is.in_order is.rows is.apart is.fits

  pub new_few : length (new_files names texts list) ≤ FILE_LIMIT
  new_few = omega (arith, drafts_length names (all_texts texts list) (length texts) list.row.files, is.few)

  pub new_rows : AreRowsOf names texts (new_files names texts list) list.row
  new_rows = record {
    rows = subst (λ (ts : List (List ℕ)). IsListRow names ts list.row) (sym new_texts) is.rows;
    are = ap (λ (ts : List (List ℕ)). row_products names ts list.row.files) new_texts ∙ sym new_built;
  }

  pub new_spelled : length (all_texts texts list) < 2 ^ 64 → HasListSpelling (NewList (new_files names texts list))
  new_spelled few = (omega (arith, new_few), drafts_spelled names (all_texts texts list) (length texts) list.row.files few is.rows is.fits)

-- a list whose row isn't there is valid as a new one
pub new_ref : (segments : List (List ℕ)) (table : LocatedPasses) (list : PendingList) → ArePassesLocated segments table → IsPending table.names.keys (located_texts segments table.texts) list → (¬ Contains table.lists.keys list.row) → IsListRef (located_passes segments table) (NewList (new_files table.names.keys (located_texts segments table.texts) list))
new_ref segments table list are is never =
    let names : List FileName = table.names.keys in
    let texts : List (List ℕ) = located_texts segments table.texts in (
      new_few names texts list is,
      new_valid names texts list is,
      list_new names texts table.lists.keys (new_files names texts list) list.row are.names_once (texts_apart texts table.texts.index.splits are.texts.split) are.lists (new_valid names texts list is) (new_rows names texts list is) never,
    )

-- the list of a number, whose row is that of the files
pub known_told : (segments : List (List ℕ)) (table : LocatedPasses) (list : PendingList) (number : ℕ) → ArePassesLocated segments table → slice_get table.lists.keys number ≡ Some list.row → get_or (located_passes segments table).lists number [] ≡ pending_files table.names.keys (located_texts segments table.texts) list
known_told segments table list number are found =
    let names : List FileName = table.names.keys in
    let texts : List (List ℕ) = located_texts segments table.texts in
    let all : List (List ℕ) = all_texts texts list in
    let low : number < length table.lists.keys = slice_get_within table.lists.keys number list.row found in
    let row_at : get_or table.lists.keys number list.row ≡ list.row = get_or_from_slice_get table.lists.keys number list.row list.row found in
    get_or-map (listed_files names texts) table.lists.keys number list.row [] low
    ∙ ap (listed_files names texts) row_at
    ∙ sym (products_still names names texts all list.row.files (keeps_self names) (keeps_more texts (fresh_in list.fresh) all refl) (list_rows_in names texts table.lists.keys are.lists number list.row low row_at))

-- what a payload of these parts adds
pub next_is : (segments : List (List ℕ)) (table : LocatedPasses) (list : PendingList) (parts : PassParts) (ref : ListRef) (next : NextPass) → HasPartsOfPass parts → IsListRef (located_passes segments table) ref → told_list (located_passes segments table) ref ≡ pending_files table.names.keys (located_texts segments table.texts) list → IsFoundList table.names.keys (located_texts segments table.texts) ref next.addition.list → HasFresh (located_texts segments table.texts) (fresh_in list.fresh) ref → next.addition.list.count ≤ length (fresh_in list.fresh) → pass_in next.segment ≡ Some (draft_of_parts parts ref) → pass_in next.segment ≡ Some (pass_in_ranges next.segment next.addition.draft) → HasFilesAt next.segment next.addition.draft.list → IsNextOf segments table list parts next
next_is segments table list parts ref next fits is told found fresh few read spelled files =
    let there : PassTable = located_passes segments table in
    let same : draft_of_parts parts ref ≡ pass_in_ranges next.segment next.addition.draft = same_Some (draft_of_parts parts ref) (pass_in_ranges next.segment next.addition.draft) (sym read ∙ spelled) in
    let list_is : ref ≡ list_in_range next.segment next.addition.draft.list = ap (λ (d : PassDraft). d.list) same in
    record {
      read = spelled;
      is = record {
        valid = subst (IsValidPass there) same (record { run = fits.run; simulator = fits.simulator; list = is; output = fits.output });
        files = files;
        list = subst (λ (r : ListRef). IsFoundList table.names.keys (located_texts segments table.texts) r next.addition.list) list_is found;
      };
      fresh = subst (HasFresh (located_texts segments table.texts) (fresh_in list.fresh)) list_is fresh;
      few = few;
      pass = ap (drafted_pass there) (sym same) ∙ ap (λ (built : List BuiltFile). record { run = parts.run.now; simulator = parts.simulator.now; built = built; output = parts.output.now }) told;
    }
