-- One more file of the list that tests run over.
use Rattle.std.proofs.Common.{◌≡◌, ◌≢◌, ℕ, suc, ◌+◌, ◌<◌, ◌≤◌, List, [], ◌∷◌, ◌++◌, length, map, get_or, Some, Result, Ok, Err, refl, sym, ap, subst, ◌∙◌, append_assoc, arith, length-append}
use Rattle.std.specs.Prelude.{All, AllPairs, Contains, OnErr, OnOk, slice_get}
use Rattle.std.proofs.lemmas.Bool.Decides.{Decides-ltb, nat_tests}
use Rattle.std.proofs.lemmas.List.{append-nil, get_or_at, get_or_default, map-append, take_all}
use Rattle.std.proofs.lemmas.List.Elements.{All-push}
use Rattle.std.proofs.lemmas.List.Quantifiers.{all_pairs_push}
use Rattle.std.proofs.lemmas.Option.{get_or_from_slice_get, slice_get-get_or, slice_get_within}
use Rattle.base.specs.declared.file.FileName.{FileName}
use Rattle.base.specs.declared.graph.BuiltFile.{BuiltFile}
use Rattle.base.specs.declared.limits.TheConstants.{FILE_LIMIT}
use Rattle.base_bytes.specs.Ranges.{ranged}
use Rattle.base_collections.specs.Splits.{AreSplit}
use Rattle.store_table.specs.Located.{AreTextsLocated, IsProductRow, no_name, nth_payload, row_product, row_products}
use Rattle.store_table.specs.declared.products.ProductRow.{ProductRow}
use Rattle.store_table.specs.declared.texts.LocatedTexts.{LocatedTexts}
use Rattle.store_table.proofs.Longer.{texts_still}
use Rattle.store_table.proofs.Keeping.{Keeps, keeps_more, keeps_self, products_still}
use Rattle.passes_table.specs.declared.pending.FreshTexts.{FreshTexts}
use Rattle.passes_table.specs.declared.pending.PendingList.{PendingList}
use Rattle.passes_codec.specs.Compaction.{FitsBuilt}
use Rattle.passes_table.specs.Pending.{AreInOrder, IsPending, IsWithFile, all_known, all_texts, fresh_in, known_after, pending_files}

pub known_push : (known : ℕ) (rows : List ProductRow) (row : ProductRow) → all_known known (rows ++ row ∷ []) ≡ known_after (all_known known rows) row
unfolding all_known
known_push known [] row = refl
known_push known (r ∷ rows) row = known_push (known_after known r) rows row

pub order_push : (known : ℕ) (rows : List ProductRow) (row : ProductRow) → AreInOrder known rows → row.text ≤ all_known known rows → AreInOrder known (rows ++ row ∷ [])
unfolding all_known AreInOrder
order_push known [] row is low = (low, tt)
order_push known (r ∷ rows) row is low = (is.0, order_push (known_after known r) rows row is.1 low)

pub known_same : (known : ℕ) (row : ProductRow) → row.text < known → known_after known row ≡ known
known_same known row low = rw ((Decides-ltb row.text known).1 low) refl

pub known_more : (known : ℕ) (row : ProductRow) → row.text ≡ known → known_after known row ≡ suc known
known_more known row at = grind (arith, nat_tests)

-- rows of texts that are there are in order, and add none
pub order_here : (known : ℕ) (rows : List ProductRow) → All (λ row. row.text < known) rows → AreInOrder known rows × (all_known known rows ≡ known)
unfolding all_known AreInOrder
order_here known [] all = (tt, refl)
order_here known (r ∷ rows) all =
    let low : r.text < known = all 0 r (omega arith) in
    let same : known_after known r ≡ known = known_same known r low in
    let rest = order_here known rows (λ k d l. all (suc k) d (omega arith)) in
    ((omega (arith, low), subst (λ (n : ℕ). AreInOrder n rows) (sym same) rest.0), ap (λ (n : ℕ). all_known n rows) same ∙ rest.1)

module _ (names : List FileName) (texts : List (List ℕ)) (old new : PendingList) (row : ProductRow) (file : BuiltFile) (is : IsPending names texts old) (keeps : Keeps (all_texts texts old) (all_texts texts new)) (located : AreTextsLocated new.fresh.held.segments new.fresh.texts) (apart : AllPairs (λ a b. a ≢ b) (all_texts texts new)) (grown : new.row.files ≡ old.row.files ++ row ∷ []) (named : slice_get names row.name ≡ Some file.name) (texted : slice_get (all_texts texts new) row.text ≡ Some file.artefact) (low : row.text ≤ length (all_texts texts old)) (next : known_after (length (all_texts texts old)) row ≡ length (all_texts texts new)) (few : length old.row.files < FILE_LIMIT) (fits : FitsBuilt file) where
  known : all_known (length texts) old.row.files ≡ length (all_texts texts old)
  known = is.all ∙ sym (length-append texts (fresh_in old.fresh))

  row_is : row_product names (all_texts texts new) row ≡ file
  row_is =
      ap (λ (n : FileName). record { name = n; artefact = get_or (all_texts texts new) row.text [] }) (get_or_from_slice_get names row.name file.name no_name named)
      ∙ ap (λ (a : List ℕ). record { name = file.name; artefact = a }) (get_or_from_slice_get (all_texts texts new) row.text file.artefact [] texted)

  old_rows : All (IsProductRow names (all_texts texts new)) old.row.files
  old_rows k d l = (let r = is.rows k d l in record { name = r.name; text = omega (arith, r.text, keeps.longer) })

  files_are : pending_files names texts new ≡ pending_files names texts old ++ file ∷ []
  files_are =
      let f : ProductRow → BuiltFile = row_product names (all_texts texts new) in
      ap (map f) grown
      ∙ map-append f old.row.files (row ∷ [])
      ∙ ap (λ (fs : List BuiltFile). fs ++ f row ∷ []) (products_still names names (all_texts texts old) (all_texts texts new) old.row.files (keeps_self names) keeps is.rows)
      ∙ ap (λ (b : BuiltFile). pending_files names texts old ++ b ∷ []) row_is

  pub pending_push : IsPending names texts new × (pending_files names texts new ≡ pending_files names texts old ++ file ∷ [])
  pending_push = (
    record {
      located = located;
      apart = apart;
      rows = subst (λ (rs : List ProductRow). All (IsProductRow names (all_texts texts new)) rs) (sym grown)
          (All-push (IsProductRow names (all_texts texts new)) old.row.files row old_rows (record { name = slice_get_within names row.name file.name named; text = slice_get_within (all_texts texts new) row.text file.artefact texted }));
      in_order = subst (AreInOrder (length texts)) (sym grown) (order_push (length texts) old.row.files row is.in_order (omega (arith, low, known)));
      all = ap (all_known (length texts)) grown ∙ known_push (length texts) old.row.files row ∙ ap (λ (n : ℕ). known_after n row) known ∙ next ∙ length-append texts (fresh_in new.fresh);
      few = omega (arith, ap length grown, length-append old.row.files (row ∷ []), few);
      fits = subst (All FitsBuilt) (sym files_are) (All-push FitsBuilt (pending_files names texts old) file is.fits fits);
    },
    files_are,
  )

-- the same rows and texts
pub pending_like : (names : List FileName) (texts : List (List ℕ)) (old new : PendingList) → IsPending names texts old → AreTextsLocated new.fresh.held.segments new.fresh.texts → new.row.files ≡ old.row.files → fresh_in new.fresh ≡ fresh_in old.fresh → IsPending names texts new × (pending_files names texts new ≡ pending_files names texts old)
pending_like names texts old new is located rows fresh =
    let all : all_texts texts new ≡ all_texts texts old = ap (λ (ts : List (List ℕ)). texts ++ ts) fresh in (
      record {
        located = located;
        apart = subst (λ (ts : List (List ℕ)). AllPairs (λ a b. a ≢ b) ts) (sym all) is.apart;
        rows = subst (λ (ts : List (List ℕ)). All (IsProductRow names ts) new.row.files) (sym all) (subst (λ (rs : List ProductRow). All (IsProductRow names (all_texts texts old)) rs) (sym rows) is.rows);
        in_order = subst (AreInOrder (length texts)) (sym rows) is.in_order;
        all = ap (all_known (length texts)) rows ∙ is.all ∙ ap (λ (ts : List (List ℕ)). length texts + length ts) (sym fresh);
        few = omega (arith, ap length rows, is.few);
        fits = subst (λ (ts : List (List ℕ)). All FitsBuilt (row_products names ts new.row.files)) (sym all) (subst (λ (rs : List ProductRow). All FitsBuilt (row_products names (all_texts texts old) rs)) (sym rows) is.fits);
      },
      ap (λ (ts : List (List ℕ)). row_products names ts new.row.files) all ∙ ap (row_products names (all_texts texts old)) rows,
    )

-- a file whose artefact is there
pub with_known : {T E : Type 0} (result : Result T E) (names : List FileName) (texts : List (List ℕ)) (old new : PendingList) (row : ProductRow) (file : BuiltFile) → IsPending names texts old → new.fresh ≡ old.fresh → OnOk result (new.row.files ≡ old.row.files ++ row ∷ []) → OnErr result (new.row.files ≡ old.row.files) → slice_get names row.name ≡ Some file.name → slice_get (all_texts texts old) row.text ≡ Some file.artefact → length old.row.files < FILE_LIMIT → FitsBuilt file → IsWithFile result names texts file old new
with_known (Ok v) names texts old new row file is same ok err named texted few fits =
    let all : all_texts texts new ≡ all_texts texts old = ap (λ (f : FreshTexts). texts ++ fresh_in f) same in
    let low : row.text < length (all_texts texts old) = slice_get_within (all_texts texts old) row.text file.artefact texted in
    pending_push names texts old new row file is (subst (Keeps (all_texts texts old)) (sym all) (keeps_self (all_texts texts old)))
    (subst (λ (f : FreshTexts). AreTextsLocated f.held.segments f.texts) (sym same) is.located)
    (subst (λ (ts : List (List ℕ)). AllPairs (λ a b. a ≢ b) ts) (sym all) is.apart)
    ok named (subst (λ (ts : List (List ℕ)). slice_get ts row.text ≡ Some file.artefact) (sym all) texted) (omega (arith, low)) (known_same (length (all_texts texts old)) row low ∙ ap length (sym all)) few fits
with_known (Err f) names texts old new row file is same ok err named texted few fits =
    pending_like names texts old new is (subst (λ (f : FreshTexts). AreTextsLocated f.held.segments f.texts) (sym same) is.located) err (ap fresh_in same)

-- a file whose artefact is new
pub with_new : {T E : Type 0} (result : Result T E) (names : List FileName) (texts : List (List ℕ)) (old new : PendingList) (row : ProductRow) (file : BuiltFile) → IsPending names texts old → AreTextsLocated new.fresh.held.segments new.fresh.texts → OnOk result (new.row.files ≡ old.row.files ++ row ∷ []) → OnErr result (new.row.files ≡ old.row.files) → OnOk result (fresh_in new.fresh ≡ fresh_in old.fresh ++ file.artefact ∷ []) → OnErr result (fresh_in new.fresh ≡ fresh_in old.fresh) → slice_get names row.name ≡ Some file.name → row.text ≡ length (all_texts texts old) → (¬ Contains (all_texts texts old) file.artefact) → length old.row.files < FILE_LIMIT → FitsBuilt file → IsWithFile result names texts file old new
with_new (Ok v) names texts old new row file is located ok err fresh_ok fresh_err named at never few fits =
    let grown : all_texts texts new ≡ all_texts texts old ++ file.artefact ∷ [] = ap (λ (ts : List (List ℕ)). texts ++ ts) fresh_ok ∙ sym (append_assoc texts (fresh_in old.fresh) (file.artefact ∷ [])) in
    let size : length (all_texts texts new) ≡ suc (length (all_texts texts old)) = omega (arith, ap length grown, length-append (all_texts texts old) (file.artefact ∷ [])) in
    let here : slice_get (all_texts texts new) row.text ≡ Some file.artefact =
    slice_get-get_or (all_texts texts new) row.text [] (omega (arith, at, size)) ∙ ap Some (ap (λ (ts : List (List ℕ)). get_or ts row.text []) grown ∙ get_or_at (all_texts texts old) file.artefact [] [] row.text (sym at)) in
    pending_push names texts old new row file is (keeps_more (all_texts texts old) (file.artefact ∷ []) (all_texts texts new) grown) located
    (subst (λ (ts : List (List ℕ)). AllPairs (λ a b. a ≢ b) ts) (sym grown) (all_pairs_push (λ (a b : List ℕ). a ≢ b) (all_texts texts old) file.artefact is.apart (λ k d l same. never (k, l, get_or_default (all_texts texts old) k file.artefact d l ∙ same))))
    ok named here (omega (arith, at)) (known_more (length (all_texts texts old)) row at ∙ sym size) few fits
with_new (Err f) names texts old new row file is located ok err fresh_ok fresh_err named at never few fits = pending_like names texts old new is located err fresh_err

-- ## Copies of artefacts

pub located_still : (segments segments' : List (List ℕ)) (texts : LocatedTexts) → Keeps segments segments' → AreTextsLocated segments texts → AreTextsLocated segments' texts
located_still segments segments' texts q are = record {
  within = λ k d l. (let low = are.within k d l in omega (arith, low, q.longer));
  split = subst (λ (ts : List (List ℕ)). AreSplit ts texts.index.splits) (sym (texts_still segments segments' texts q are)) are.split;
}

-- a copy as a segment of its own
module _ (segments segments' : List (List ℕ)) (copy : List ℕ) (grown : segments' ≡ segments ++ copy ∷ []) (at count : ℕ) (at_is : at ≡ length segments) (count_is : count ≡ length copy) where
  pub copy_there : ranged (nth_payload segments' at) (record { start = 0; count = count }) ≡ copy
  copy_there =
      let here : nth_payload segments' at ≡ copy = ap (λ (ss : List (List ℕ)). get_or ss at []) grown ∙ get_or_at segments copy [] [] at (sym at_is) in
      ap (λ (bs : List ℕ). ranged bs (record { start = 0; count = count })) here ∙ take_all count copy (omega (arith, count_is))

-- no file
pub pending_none : (names : List FileName) (texts : List (List ℕ)) (list : PendingList) → AllPairs (λ a b. a ≢ b) texts → AreTextsLocated list.fresh.held.segments list.fresh.texts → list.row.files ≡ [] → fresh_in list.fresh ≡ [] → IsPending names texts list
unfolding all_known AreInOrder
pending_none names texts list apart located rows fresh =
    let all : all_texts texts list ≡ texts = ap (λ (ts : List (List ℕ)). texts ++ ts) fresh ∙ append-nil texts in
    record {
      located = located;
      apart = subst (λ (ts : List (List ℕ)). AllPairs (λ a b. a ≢ b) ts) (sym all) apart;
      rows = subst (λ (rs : List ProductRow). All (IsProductRow names (all_texts texts list)) rs) (sym rows) (λ k d l. absurd (omega (arith, l)));
      in_order = subst (AreInOrder (length texts)) (sym rows) tt;
      all = omega (arith, ap (all_known (length texts)) rows, ap length fresh);
      few = omega (arith, ap length rows);
      fits = subst (λ (rs : List ProductRow). All FitsBuilt (row_products names (all_texts texts list) rs)) (sym rows) (λ k d l. absurd (omega (arith, l)));
    }
