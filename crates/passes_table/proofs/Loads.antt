-- Payloads that are held, with one more, and the list of files over them.
use Rattle.std.proofs.Common.{◌≡◌, ◌≢◌, ℕ, List, [], ◌∷◌, ◌++◌, length, map, get_or, Some, Result, Ok, Err, refl, sym, ap, subst, ◌∙◌, arith}
use Rattle.std.specs.Prelude.{All, AllPairs, OnErr, OnOk}
use Rattle.std.proofs.lemmas.List.{append-nil, get_or_at, length-map}
use Rattle.base.specs.declared.file.FileName.{FileName}
use Rattle.base.specs.declared.graph.BuiltFile.{BuiltFile}
use Rattle.base_collections.specs.Splits.{AreSplit}
use Rattle.store_table.specs.Located.{AreTextsLocated, HeldList, IsProductRow, located_texts, nth_payload, row_products}
use Rattle.store_table.specs.declared.products.ProductRow.{ProductRow}
use Rattle.store_table.proofs.Keeping.{Keeps, keeps_self, products_still}
use Rattle.store_table.proofs.Longer.{texts_still}
use Rattle.passes_spec.specs.Passes.{Pass}
use Rattle.passes_codec.specs.Forms.{ListRef, PassDraft, pass_in}
use Rattle.passes_codec.specs.Forms.ListRef.{KnownList, NewList}
use Rattle.passes_codec.specs.PassTables.{IsValidPass, PassTable, pass_table_of, with_pass, with_texts_of}
use Rattle.passes_table.specs.declared.additions.ListPart.{ListPart}
use Rattle.passes_table.specs.declared.additions.ListPart.TheVariants.{Known, New}
use Rattle.passes_table.specs.declared.lists.ListRow.{ListRow}
use Rattle.passes_table.specs.declared.pending.PendingList.{PendingList}
use Rattle.passes_table.specs.declared.table.LocatedPasses.{LocatedPasses}
use Rattle.passes_table.specs.Additions.{IsListPart, is_new}
use Rattle.passes_table.specs.Located.{ArePassesLocated, Extends, IsListRow, listed_files, located_passes, passes_by}
use Rattle.passes_codec.specs.Compaction.{FitsBuilt}
use Rattle.passes_table.specs.Pending.{AreInOrder, IsPending, IsRenewed, IsWithFile, all_known, all_texts, fresh_in, pending_files}
use Rattle.passes_table.specs.States.{AreLoaded, HasFresh}
use Rattle.passes_table.proofs.Checks.{keeps_names}
use Rattle.passes_table.proofs.PassRows.{fingerprints_still, pass_rows_still, rows_still}
use Rattle.passes_table.proofs.PendingFiles.{order_here}
use Rattle.passes_table.proofs.Takes.{table_more, took_pass, took_payload}

-- ## More payloads

module _ (payloads payloads' : List (List ℕ)) (table : LocatedPasses) (q : Keeps payloads payloads') (are : ArePassesLocated payloads table) where
  pub texts_same : located_texts payloads' table.texts ≡ located_texts payloads table.texts
  texts_same = texts_still payloads payloads' table.texts q are.texts

  pub passes_located_still : ArePassesLocated payloads' table
  passes_located_still = record {
    texts = record {
      within = λ k d l. (let low = are.texts.within k d l in omega (arith, low, q.longer));
      split = subst (λ (ts : List (List ℕ)). AreSplit ts table.texts.index.splits) (sym texts_same) are.texts.split;
    };
    lists = subst (λ (ts : List (List ℕ)). All (IsListRow table.names.keys ts) table.lists.keys) (sym texts_same) are.lists;
    rows = pass_rows_still payloads payloads' q table.lists.keys table.lists.keys table.rows.items (omega arith) are.rows;
    names_once = are.names_once;
    latest = are.latest ∙ sym (fingerprints_still payloads payloads' q table.lists.keys table.rows.items are.rows);
  }

  passes_same_still : located_passes payloads' table ≡ located_passes payloads table
  passes_same_still =
      let texts : List (List ℕ) = located_texts payloads table.texts in
      let built : List (List BuiltFile) = map (listed_files table.names.keys texts) table.lists.keys in
      ap (λ (ts : List (List ℕ)). passes_by payloads' table.names.keys ts table.lists.keys table.rows.items) texts_same
      ∙ ap (λ (ps : List Pass). record { texts = located_texts payloads table.texts; lists = map (listed_files table.names.keys (located_texts payloads table.texts)) table.lists.keys; passes = ps })
      (rows_still payloads payloads' q table.lists.keys built built table.rows.items (keeps_self built) (length-map table.lists.keys (listed_files table.names.keys texts)) are.rows)

-- with more payloads, what was located is still the table of the others
pub there_still : (payloads payloads' before : List (List ℕ)) (table : LocatedPasses) → Keeps payloads payloads' → ArePassesLocated payloads table → payloads ≡ before → located_passes payloads table ≡ pass_table_of payloads → located_passes payloads' table ≡ pass_table_of before
there_still payloads payloads' before table q are same is = passes_same_still payloads payloads' table q are ∙ is ∙ ap pass_table_of same

-- the last of payloads
pub last_payload : (payloads payloads' : List (List ℕ)) (payload : List ℕ) (at : ℕ) → payloads' ≡ payloads ++ payload ∷ [] → at ≡ length payloads → nth_payload payloads' at ≡ payload
last_payload payloads payloads' payload at grown is = ap (λ (ps : List (List ℕ)). get_or ps at []) grown ∙ get_or_at payloads payload [] [] at (sym is)

-- ## The list of files over more names and texts

pub pending_named : (names names' : List FileName) (texts : List (List ℕ)) (list : PendingList) → Extends names names' → IsPending names texts list → IsPending names' texts list × (pending_files names' texts list ≡ pending_files names texts list)
pending_named names names' texts list more is =
    let n : Keeps names names' = keeps_names names names' more in
    let same : pending_files names' texts list ≡ pending_files names texts list = products_still names names' (all_texts texts list) (all_texts texts list) list.row.files n (keeps_self (all_texts texts list)) is.rows in (
      record {
        located = is.located;
        apart = is.apart;
        rows = λ k d l. (let r = is.rows k d l in record { name = omega (arith, r.name, n.longer); text = r.text });
        in_order = is.in_order;
        all = is.all;
        few = is.few;
        fits = subst (All FitsBuilt) (sym same) is.fits;
      },
      same,
    )

-- the same files where payloads have all texts, and no copy is left
pub pending_taken : (names : List FileName) (texts texts' : List (List ℕ)) (old new : PendingList) → IsPending names texts old → texts' ≡ all_texts texts old → AreTextsLocated new.fresh.held.segments new.fresh.texts → fresh_in new.fresh ≡ [] → new.row ≡ old.row → IsPending names texts' new × (pending_files names texts' new ≡ pending_files names texts old)
pending_taken names texts texts' old new is texts_is located fresh row =
    let all : all_texts texts' new ≡ all_texts texts old = ap (λ (ts : List (List ℕ)). texts' ++ ts) fresh ∙ append-nil texts' ∙ texts_is in
    let rows : new.row.files ≡ old.row.files = ap (λ (r : ListRow). r.files) row in
    let here = order_here (length texts') old.row.files (λ k d l. (let r = is.rows k d l in omega (arith, r.text, ap length texts_is))) in (
      record {
        located = located;
        apart = subst (λ (ts : List (List ℕ)). AllPairs (λ a b. a ≢ b) ts) (sym all) is.apart;
        rows = subst (λ (ts : List (List ℕ)). All (IsProductRow names ts) new.row.files) (sym all) (subst (λ (rs : List ProductRow). All (IsProductRow names (all_texts texts old)) rs) (sym rows) is.rows);
        in_order = subst (AreInOrder (length texts')) (sym rows) here.0;
        all = ap (all_known (length texts')) rows ∙ here.1 ∙ omega (arith, ap length fresh);
        few = omega (arith, ap length rows, is.few);
        fits = subst (λ (ts : List (List ℕ)). All FitsBuilt (row_products names ts new.row.files)) (sym all) (subst (λ (rs : List ProductRow). All FitsBuilt (row_products names (all_texts texts old) rs)) (sym rows) is.fits);
      },
      ap (λ (ts : List (List ℕ)). row_products names ts new.row.files) all ∙ ap (row_products names (all_texts texts old)) rows,
    )

pub pending_after : (names : List FileName) (texts texts' : List (List ℕ)) (old new : PendingList) (list : ListRef) (part : ListPart) → IsPending names texts old → IsListPart names texts list part → HasFresh texts (fresh_in old.fresh) list → texts' ≡ with_texts_of texts list → IsRenewed (is_new part) old new → IsPending names texts' new × (pending_files names texts' new ≡ pending_files names texts old)
pending_after names texts texts' old new (KnownList number) (Known found) is of fresh texts_is left =
    subst (λ (l : PendingList). IsPending names texts' l × (pending_files names texts' l ≡ pending_files names texts old)) (sym left)
    (subst (λ (ts : List (List ℕ)). IsPending names ts old × (pending_files names ts old ≡ pending_files names texts old)) (sym texts_is) (is, refl))
pending_after names texts texts' old new (NewList files) (New row) is of fresh texts_is left =
    pending_taken names texts texts' old new is (texts_is ∙ fresh) left.0 left.1 left.2
pending_after names texts texts' old new (KnownList number) (New row) is of fresh texts_is left = absurd of
pending_after names texts texts' old new (NewList files) (Known found) is of fresh texts_is left = absurd of

-- ## A file more

pub added_pending : {T E : Type 0} (result : Result T E) (names : List FileName) (texts : List (List ℕ)) (file : BuiltFile) (old new : PendingList) → IsWithFile result names texts file old new → IsPending names texts new
added_pending (Ok v) names texts file old new is = is.0
added_pending (Err f) names texts file old new is = is.0

pub added_ok : {T E : Type 0} (result : Result T E) (names : List FileName) (texts : List (List ℕ)) (file : BuiltFile) (old new : PendingList) → IsWithFile result names texts file old new → OnOk result (pending_files names texts new ≡ pending_files names texts old ++ file ∷ [])
added_ok (Ok v) names texts file old new is = is.1
added_ok (Err f) names texts file old new is = tt

pub added_err : {T E : Type 0} (result : Result T E) (names : List FileName) (texts : List (List ℕ)) (file : BuiltFile) (old new : PendingList) → IsWithFile result names texts file old new → OnErr result (pending_files names texts new ≡ pending_files names texts old)
added_err (Ok v) names texts file old new is = tt
added_err (Err f) names texts file old new is = is.1

pub on_err : {T E : Type 0} {P : Type 0} (result : Result T E) → P → OnErr result P
on_err (Ok v) p = tt
on_err (Err f) p = p

pub on_err_weaker : {T E : Type 0} {P Q : Type 0} (result : Result T E) → (P → Q) → OnErr result P → OnErr result Q
on_err_weaker (Ok v) f p = tt
on_err_weaker (Err e) f p = f p

-- ## A payload more

pub with_payload : (payloads : List (List ℕ)) (segment : List ℕ) (draft : PassDraft) → IsValidPass (pass_table_of payloads) draft → pass_in segment ≡ Some draft → pass_table_of (payloads ++ segment ∷ []) ≡ with_pass (pass_table_of payloads) draft
with_payload payloads segment draft is read = table_more payloads segment ∙ sym (took_pass (pass_table_of payloads) draft is ∙ took_payload (pass_table_of payloads) segment draft read)

-- room was made
pub reserved : (held held' : HeldList) (table table' : LocatedPasses) (list : PendingList) → AreLoaded held table list → held'.segments ≡ held.segments → held'.payloads ≡ held.payloads → ((p : List (List ℕ)) → ArePassesLocated p table → ArePassesLocated p table') → ((p : List (List ℕ)) → located_passes p table' ≡ located_passes p table) → table'.names.keys ≡ table.names.keys → AreLoaded held' table' list × (pending_files table'.names.keys (located_texts held'.segments table'.texts) list ≡ pending_files table.names.keys (located_texts held.segments table.texts) list)
reserved held held' table table' list is segments payloads are same names =
    let texts : located_texts held'.segments table'.texts ≡ located_texts held.segments table.texts = ap (λ (t : PassTable). t.texts) (same held'.segments) ∙ ap (λ (p : List (List ℕ)). located_texts p table.texts) segments in (
      record {
        whole = segments ∙ is.whole ∙ sym payloads;
        are = record {
          are = are held'.segments (subst (λ (p : List (List ℕ)). ArePassesLocated p table) (sym segments) is.are.are);
          is = same held'.segments ∙ ap (λ (p : List (List ℕ)). located_passes p table) segments ∙ is.are.is ∙ ap pass_table_of (sym segments);
        };
        pending = subst (λ (ns : List FileName). IsPending ns (located_texts held'.segments table'.texts) list) (sym names) (subst (λ (ts : List (List ℕ)). IsPending table.names.keys ts list) (sym texts) is.pending);
      },
      ap (λ (ns : List FileName). pending_files ns (located_texts held'.segments table'.texts) list) names ∙ ap (λ (ts : List (List ℕ)). pending_files table.names.keys ts list) texts,
    )
