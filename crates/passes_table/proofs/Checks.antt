-- Files of a new list that are valid, and lists that are there.
use Rattle.std.proofs.Common.{◌≡◌, ◌≢◌, ℕ, suc, ◌<◌, ◌≤◌, Bool, true, false, ◌&&◌, nat_le, List, [], ◌∷◌, ◌++◌, length, map, drop, get_or, refl, sym, ap, subst, ◌∙◌, arith}
use Rattle.std.specs.Prelude.{All, AllPairs, Contains}
use Rattle.std.specs.Bool.{Decides}
use Rattle.std.specs.List.{list_any}
use Rattle.std.proofs.lemmas.List.{append-nil, get_or-map, get_or_default, length-map, map-append}
use Rattle.std.proofs.lemmas.List.Elements.{All-push}
use Rattle.std.proofs.lemmas.Option.{get_or_from_slice_get, slice_get_within}
use Rattle.base.specs.declared.file.FileName.{FileName}
use Rattle.base.specs.declared.graph.BuiltFile.{BuiltFile}
use Rattle.base.specs.declared.limits.TheConstants.{ARTEFACT_LIMIT}
use Rattle.base.specs.Names.{FitsName}
use Rattle.base_bytes.specs.Sizes.{has_name_sizes}
use Rattle.base_bytes.specs.TextRefs.{is_text_ref, told_text, with_text}
use Rattle.base_bytes.proofs.Sized.{name_sizes-Decides, nat_le-Decides}
use Rattle.base_collections.specs.declared.splits.Split.{Split}
use Rattle.base_collections.specs.Splits.{AreSplit}
use Rattle.store_table.specs.Checked.{IsNameNumber, ref_number}
use Rattle.store_table.specs.Located.{AreTextsLocated, IsProductRow, located_text, no_name, row_product, row_products}
use Rattle.store_table.specs.declared.products.ProductRow.{ProductRow}
use Rattle.store_table.specs.declared.texts.LocatedText.{LocatedText}
use Rattle.store_table.specs.declared.texts.LocatedTexts.{LocatedTexts}
use Rattle.store_table.proofs.Finding.{any_decides, once_at, ref_there, ref_told, texts_once}
use Rattle.store_table.proofs.Keeping.{Keeps, keeps_more, keeps_self, keeps_text, products_still}
use Rattle.passes_codec.specs.Forms.{FileDraft}
use Rattle.passes_codec.specs.PassTables.{are_listed_files, drafted_files, is_listed_file, is_same_list, with_list_texts}
use Rattle.passes_codec.proofs.Deciding.{same_list-Decides}
use Rattle.passes_codec.proofs.Once.{files_once}
use Rattle.passes_table.specs.declared.checking.ListSoFar.{ListSoFar}
use Rattle.passes_table.specs.declared.lists.ListRow.{ListRow}
use Rattle.passes_table.specs.Additions.{AreListed, AreRowsOf, IsArtefact}
use Rattle.passes_table.specs.Located.{Extends, IsListRow, listed_files}
use Rattle.passes_table.proofs.NewLists.{drafted_push, listed_push, texts_push}
use Rattle.passes_table.proofs.Puts.{keeps_list}

pub keeps_names : {X : Type 0} (old new : List X) → Extends old new → Keeps old new
keeps_names old new is = keeps_more old is.more new is.grown

undecided : {P : Type 0} (b : Bool) → Decides b P → (¬ P) → b ≡ false
undecided true d never = absurd (never (d.0 refl))
undecided false d never = refl

-- a file whose name is not within its limits is not valid
pub not_named : (texts : List (List ℕ)) (file : FileDraft) → (¬ FitsName file.name) → is_listed_file texts file ≡ false
not_named texts file never = rw (undecided (has_name_sizes file.name) (name_sizes-Decides file.name) never) refl

-- nor is one whose artefact isn't
pub not_artefact : (texts : List (List ℕ)) (file : FileDraft) → (is_text_ref texts file.artefact ≡ true → ¬ (length (told_text texts file.artefact) ≤ ARTEFACT_LIMIT)) → is_listed_file texts file ≡ false
not_artefact texts file never = by (has_name_sizes file.name) (is_text_ref texts file.artefact) refl (nat_le (length (told_text texts file.artefact)) ARTEFACT_LIMIT) refl
  where
    by : (a b : Bool) → is_text_ref texts file.artefact ≡ b → (c : Bool) → nat_le (length (told_text texts file.artefact)) ARTEFACT_LIMIT ≡ c → (a && (b && c)) ≡ false
    by false b e c f = refl
    by true false e c f = refl
    by true true e false f = refl
    by true true e true f = absurd (never e ((nat_le-Decides (length (told_text texts file.artefact)) ARTEFACT_LIMIT).0 f))

module _ (segments : List (List ℕ)) (names names' : List FileName) (texts : List (List ℕ)) (files : List FileDraft) (list : ListSoFar) (file : FileDraft) (row : ProductRow) (fresh : LocatedTexts) (rows : List ProductRow) (are : AreListed segments names texts files list) (more : Extends names names') (named : IsNameNumber names' file.name row.name) (fits : FitsName file.name) (is : IsArtefact segments texts list.fresh fresh file.artefact row.text) (grown : rows ≡ list.rows ++ row ∷ []) where
  before : List (List ℕ)
  before = with_list_texts texts files

  -- over the texts so far
  there : is_text_ref (with_list_texts texts files) file.artefact ≡ true
  there = subst (λ (ts : List (List ℕ)). is_text_ref ts file.artefact ≡ true) (sym are.texts_are) is.there

  small : length (told_text (with_list_texts texts files) file.artefact) ≤ ARTEFACT_LIMIT
  small = subst (λ (ts : List (List ℕ)). length (told_text ts file.artefact) ≤ ARTEFACT_LIMIT) (sym are.texts_are) is.small

  number : row.text ≡ ref_number (with_list_texts texts files) file.artefact
  number = subst (λ (ts : List (List ℕ)). row.text ≡ ref_number ts file.artefact) (sym are.texts_are) is.is

  now : with_list_texts texts (files ++ file ∷ []) ≡ with_text (with_list_texts texts files) file.artefact
  now = texts_push texts files file

  file_valid : is_listed_file (with_list_texts texts files) file ≡ true
  file_valid = rw ((name_sizes-Decides file.name).1 fits, there, (nat_le-Decides (length (told_text (with_list_texts texts files) file.artefact)) ARTEFACT_LIMIT).1 small) refl

  valid : are_listed_files texts (files ++ file ∷ []) ≡ true
  valid = listed_push texts files file ∙ rw (are.valid, file_valid) refl

  name_is : get_or names' row.name no_name ≡ file.name
  name_is = get_or_from_slice_get names' row.name file.name no_name named

  text_is : get_or (with_text (with_list_texts texts files) file.artefact) row.text [] ≡ told_text (with_list_texts texts files) file.artefact
  text_is = ap (λ (n : ℕ). get_or (with_text (with_list_texts texts files) file.artefact) n []) number ∙ ref_told (with_list_texts texts files) file.artefact

  row_is : row_product names' (with_text (with_list_texts texts files) file.artefact) row ≡ record { name = file.name; artefact = told_text (with_list_texts texts files) file.artefact }
  row_is = ap (λ (n : FileName). record { name = n; artefact = get_or (with_text (with_list_texts texts files) file.artefact) row.text [] }) name_is ∙ ap (λ (a : List ℕ). record { name = file.name; artefact = a }) text_is

  row_in : IsProductRow names' (with_text (with_list_texts texts files) file.artefact) row
  row_in = record { name = slice_get_within names' row.name file.name named; text = (let low = ref_there (with_list_texts texts files) file.artefact there in omega (arith, low, number)) }

  n : Keeps names names'
  n = keeps_names names names' more

  t : Keeps (with_list_texts texts files) (with_text (with_list_texts texts files) file.artefact)
  t = keeps_text (with_list_texts texts files) file.artefact

  old_rows : All (IsProductRow names' (with_text (with_list_texts texts files) file.artefact)) list.rows
  old_rows k d l = (let r = are.rows k d l in record { name = omega (arith, r.name, n.longer); text = omega (arith, r.text, t.longer) })

  all_rows : All (IsProductRow names' (with_list_texts texts (files ++ file ∷ []))) rows
  all_rows =
      subst (λ (ts : List (List ℕ)). All (IsProductRow names' ts) rows) (sym now)
      (subst (λ (rs : List ProductRow). All (IsProductRow names' (with_text (with_list_texts texts files) file.artefact)) rs) (sym grown) (All-push (IsProductRow names' (with_text (with_list_texts texts files) file.artefact)) list.rows row old_rows row_in))

  all_are : row_products names' (with_list_texts texts (files ++ file ∷ [])) rows ≡ drafted_files texts (files ++ file ∷ [])
  all_are =
      let f : ProductRow → BuiltFile = row_product names' (with_text (with_list_texts texts files) file.artefact) in
      ap (λ (ts : List (List ℕ)). row_products names' ts rows) now
      ∙ ap (map f) grown
      ∙ map-append f list.rows (row ∷ [])
      ∙ ap (λ (fs : List BuiltFile). fs ++ f row ∷ []) (products_still names names' (with_list_texts texts files) (with_text (with_list_texts texts files) file.artefact) list.rows n t are.rows ∙ are.are)
      ∙ ap (λ (b : BuiltFile). drafted_files texts files ++ b ∷ []) row_is
      ∙ sym (drafted_push texts files file)

  -- one more valid file
  pub listed_next : AreListed segments names' texts (files ++ file ∷ []) (record { rows = rows; fresh = fresh })
  listed_next = record {
    valid = valid;
    fresh = is.located;
    texts_are = now ∙ ap (λ (ts : List (List ℕ)). with_text ts file.artefact) are.texts_are ∙ sym is.texts_are;
    rows = all_rows;
    are = all_are;
  }

-- ## The same lists

no_built : BuiltFile
no_built = record { name = record { library = []; path = [] }; artefact = [] }

same_rows : (a b : ProductRow) → a.name ≡ b.name → a.text ≡ b.text → a ≡ b
same_rows a b e f = ap (λ (n : ℕ). record { name = n; text = a.text }) e ∙ ap (λ (n : ℕ). record { name = b.name; text = n }) f

pub texts_apart : (texts : List (List ℕ)) (splits : List Split) → AreSplit texts splits → AllPairs (λ a b. a ≢ b) texts
texts_apart texts splits split i j d low high e =
    let il : i < length texts = omega (arith, low, high) in
    let same : i ≡ j = texts_once texts splits split i j il high (get_or_default texts i [] d il ∙ e ∙ get_or_default texts j d [] high) in
    omega (arith, same, low)

module _ (names : List FileName) (texts : List (List ℕ)) (names_once : AllPairs (λ a b. a ≢ b) names) (texts_are : AllPairs (λ a b. a ≢ b) texts) where
  one_row : (a b : ProductRow) → IsProductRow names texts a → IsProductRow names texts b → row_product names texts a ≡ row_product names texts b → a ≡ b
  one_row a b x y e =
      same_rows a b (once_at names no_name names_once a.name b.name x.name y.name (ap (λ (f : BuiltFile). f.name) e)) (once_at texts [] texts_are a.text b.text x.text y.text (ap (λ (f : BuiltFile). f.artefact) e))

  -- files are the same only where their rows are
  pub rows_same : (a b : List ProductRow) → All (IsProductRow names texts) a → All (IsProductRow names texts) b → row_products names texts a ≡ row_products names texts b → a ≡ b
  rows_same [] [] x y e = refl
  rows_same [] (q ∷ b) x y e = absurd (omega (arith, ap length e))
  rows_same (p ∷ a) [] x y e = absurd (omega (arith, ap length e))
  rows_same (p ∷ a) (q ∷ b) x y e =
      let first : p ≡ q = one_row p q (x 0 p (omega arith)) (y 0 q (omega arith)) (ap (λ (fs : List BuiltFile). get_or fs 0 no_built) e) in
      let rest : a ≡ b = rows_same a b (λ k d l. x (suc k) d (omega arith)) (λ k d l. y (suc k) d (omega arith)) (ap (drop 1) e) in
      ap (λ (r : ProductRow). r ∷ a) first ∙ ap (λ (rs : List ProductRow). q ∷ rs) rest

module _ (names : List FileName) (texts : List (List ℕ)) (lists : List ListRow) (files : List FileDraft) (row : ListRow) (names_once : AllPairs (λ a b. a ≢ b) names) (texts_are : AllPairs (λ a b. a ≢ b) texts) (lists_are : All (IsListRow names texts) lists) (valid : are_listed_files texts files ≡ true) (of : AreRowsOf names texts files row) where
  same_list : (l : ListRow) → IsListRow names texts l → listed_files names texts l ≡ drafted_files texts files → l ≡ row
  same_list l is e =
      let all : List (List ℕ) = with_list_texts texts files in
      let k : Keeps texts (with_list_texts texts files) = keeps_list texts files in
      let there : All (IsProductRow names (with_list_texts texts files)) l.files = λ i d low. (let r = is i d low in record { name = r.name; text = omega (arith, r.text, k.longer) }) in
      let same : row_products names (with_list_texts texts files) l.files ≡ row_products names (with_list_texts texts files) row.files = products_still names names texts (with_list_texts texts files) l.files (keeps_self names) k is ∙ e ∙ sym of.are in
      ap (λ (rs : List ProductRow). record { files = rs }) (rows_same names (with_list_texts texts files) names_once (files_once texts files texts_are valid) l.files row.files there of.rows same)

  list_there : Contains (map (listed_files names texts) lists) (drafted_files texts files) → Contains lists row
  list_there has =
      let k : ℕ = has.0 in
      let low : k < length lists = omega (arith, has.1, length-map lists (listed_files names texts)) in (
        k,
        low,
        same_list (get_or lists k row) (lists_are k row low) (sym (get_or-map (listed_files names texts) lists k row (drafted_files texts files) low) ∙ has.2),
      )

  -- a list whose row isn't there is new
  pub list_new : (¬ Contains lists row) → list_any (is_same_list (drafted_files texts files)) (map (listed_files names texts) lists) ≡ false
  list_new never = by (list_any (is_same_list (drafted_files texts files)) (map (listed_files names texts) lists)) refl
    where
      by : (b : Bool) → list_any (is_same_list (drafted_files texts files)) (map (listed_files names texts) lists) ≡ b → b ≡ false
      by true e = absurd (never (list_there ((any_decides same_list-Decides (map (listed_files names texts) lists) (drafted_files texts files)).0 e)))
      by false e = refl

-- ## No file

no_texts : (segments : List (List ℕ)) (fresh : LocatedTexts) → fresh.indices.items ≡ [] → fresh.index.splits ≡ [] → AreTextsLocated segments fresh
no_texts segments fresh none splits = record {
  within = rw (none) (λ k d l. absurd (omega (arith, l)));
  split = record {
    as_many = ap length splits ∙ sym (ap (λ (xs : List LocatedText). length (map (located_text segments) xs)) none);
    each = λ n other low. absurd (omega (arith, low, ap (λ (xs : List LocatedText). length (map (located_text segments) xs)) none));
  };
}

pub none_listed : (segments : List (List ℕ)) (names : List FileName) (texts : List (List ℕ)) (list : ListSoFar) → list.rows ≡ [] → list.fresh.indices.items ≡ [] → list.fresh.index.splits ≡ [] → AreListed segments names texts [] list
unfolding with_list_texts are_listed_files drafted_files
none_listed segments names texts list rows none splits = record {
  valid = refl;
  fresh = no_texts segments list.fresh none splits;
  texts_are = sym (ap (λ (xs : List LocatedText). texts ++ map (located_text segments) xs) none ∙ append-nil texts);
  rows = rw (rows) (λ k d l. absurd (omega (arith, l)));
  are = ap (row_products names texts) rows;
}

-- the rows of a list that is there
pub list_rows_in : (names : List FileName) (texts : List (List ℕ)) (lists : List ListRow) → All (IsListRow names texts) lists → (number : ℕ) (list : ListRow) → number < length lists → get_or lists number list ≡ list → IsListRow names texts list
list_rows_in names texts lists are number list low e = subst (IsListRow names texts) e (are number list low)
