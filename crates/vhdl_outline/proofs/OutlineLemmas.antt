-- Outlines grow with their texts and scans.
use Rattle.std.proofs.Common.{◌≡◌, ℕ, zero, suc, ◌+◌, ◌<◌, ◌≤◌, ◌⊎◌, inl, inr, List, [], ◌∷◌, ◌++◌, Some, get_or, length, map, take, refl, sym, ◌∙◌, ap, subst, arith}
use Rattle.std.specs.Prelude.{slice_get}
use Rattle.std.specs.List.{All}
use Rattle.std.specs.Option.{option_map}
use Rattle.std.proofs.lemmas.List.{length-map, length_push}
use Rattle.std.proofs.lemmas.Option.{slice_get-get_or, slice_get_within}
use Rattle.base.specs.declared.design.Scan.{Scan}
use Rattle.vhdl_spec.specs.Units.{role_of, roles_of}
use Rattle.vhdl_spec.specs.Scans.{AreScansOf, IsScanOf}
use Rattle.vhdl_spec.proofs.Lying.{tokens_few}
use Rattle.vhdl_spec.proofs.Placed.{units_few}
use Rattle.vhdl_outline.specs.UnresolvedRefs.{UnresolvedRefsLieIn}
use Rattle.vhdl_outline.specs.declared.runs.FileFacts.{FileFacts}
use Rattle.vhdl_outline.specs.Runs.{UnitRunsLieIn, file_runs, unit_runs}
use Rattle.vhdl_outline.specs.declared.outlines.FileOutline.{FileOutline}
use Rattle.vhdl_outline.specs.declared.outlines.Outlines.{Outlines}
use Rattle.vhdl_outline.specs.declared.outlines.UnitScope.{UnitScope}
use Rattle.vhdl_outline.specs.Outlines.{AreOutlined, AreOutlinesOf, FilesAreOf, FilesLieIn, HasAdded, IsOutlineOf, UnresolvedAreOf, OutlineLiesIn, file_scopes, scope_of, scopes_of}

pub few_units : (text : List ℕ) (scan : Scan) → IsScanOf text scan → length scan.units ≤ length text
few_units text scan is =
    let few = units_few text scan.tokens.list 0 0 is.elements (length (roles_of text scan.tokens.list)) is.outline in
    omega (arith, length-map scan.tokens.list (role_of text), tokens_few text scan.tokens is.tokens, ap length is.units)

-- what is in a list with one element more was there, or is that element
pub got_push : {X : Type 0} (xs : List X) (x : X) (i : ℕ) (y : X) → slice_get (xs ++ x ∷ []) i ≡ Some y → (slice_get xs i ≡ Some y) ⊎ ((i ≡ length xs) × (x ≡ y))
got_push [] x zero y is = let same : x ≡ y = cc in inr (refl, same)
got_push [] x (suc i) y is = let never : ⊥ = cc in absurd never
got_push (z ∷ xs) x zero y is = inl is
got_push (z ∷ xs) x (suc i) y is = elim (got_push xs x i y is) [
  | inl before ↦ inl before
  | inr last ↦ inr (ap suc last.0, last.1)
]

-- one element more
pub take_got : {X : Type 0} (xs : List X) (i : ℕ) (x : X) → slice_get xs i ≡ Some x → take (i + 1) xs ≡ take i xs ++ x ∷ []
take_got [] i x is = let never : ⊥ = cc in absurd never
take_got {X} (y ∷ xs) zero x is = let same : y ≡ x = cc in ap (λ (q : X). q ∷ []) same
take_got {X} (y ∷ xs) (suc i) x is =
    let next : suc i + 1 ≡ suc (i + 1) = omega arith in
    rw next (ap (λ (rest : List X). y ∷ rest) (take_got xs i x is))

-- what is made of one element more
pub mapped_more : {X Y : Type 0} (f : X → Y) (xs : List X) (i : ℕ) (y : Y) → option_map f (slice_get xs i) ≡ Some y → map f (take (i + 1) xs) ≡ map f (take i xs) ++ y ∷ []
mapped_more f [] i y is = let never : ⊥ = cc in absurd never
mapped_more {X} {Y} f (x ∷ xs) zero y is = let same : f x ≡ y = cc in ap (λ (q : Y). q ∷ []) same
mapped_more {X} {Y} f (x ∷ xs) (suc i) y is =
    let next : suc i + 1 ≡ suc (i + 1) = omega arith in
    rw next (ap (λ (rest : List Y). f x ∷ rest) (mapped_more f xs i y is))

-- appending a file with the units, scopes, unresolved references and testbench facts of a scan adds the outline of that scan
pub added : (text : List ℕ) (scan : Scan) (old new : Outlines) (file : FileOutline) → IsScanOf text scan → file.units ≡ scan.units → file.scopes ≡ map (scope_of text scan) scan.units → UnresolvedAreOf text scan file.unresolved → All (UnresolvedRefsLieIn text) file.unresolved → file.runs ≡ file_runs text scan → All (UnitRunsLieIn text) file.runs.units → new.files ≡ old.files ++ file ∷ [] → HasAdded text scan old new
added text scan old new file is units scopes are lie runs runs_lie files = record {
  file = file;
  is = record { units = units; scopes = scopes; unresolved = are; runs = runs };
  lies = record {
    each = are.each ∙ ap length (sym units);
    few = let few = few_units text scan is in omega (arith, few, ap length units);
    unresolved = lie;
    each_runs = ap (λ (r : FileFacts). length r.units) runs ∙ length-map scan.units (unit_runs text scan.tokens.list) ∙ ap length (sym units);
    runs = runs_lie;
  };
  files = files;
}

pub no_files : FilesAreOf [] [] []
no_files = record { scanned = refl; each = refl; are = λ i text scan file in_texts in_scans in_files. let never : ⊥ = cc in absurd never }

pub no_outlines : AreOutlinesOf [] [] (record { files = [] })
no_outlines = record { files = no_files }

pub none_lie : FilesLieIn [] []
none_lie = record { each = refl; lie = λ i text file in_texts in_files. let never : ⊥ = cc in absurd never }

-- one file more
files_more : (texts : List (List ℕ)) (scans : List Scan) (files : List FileOutline) (text : List ℕ) (scan : Scan) (file : FileOutline) → FilesAreOf texts scans files → IsOutlineOf text scan file → FilesAreOf (texts ++ text ∷ []) (scans ++ scan ∷ []) (files ++ file ∷ [])
files_more texts scans files text scan file are is = record {
  scanned = length_push scans scan ∙ (ap (λ (n : ℕ). n + 1) are.scanned ∙ sym (length_push texts text));
  each = length_push files file ∙ (ap (λ (n : ℕ). n + 1) are.each ∙ sym (length_push texts text));
  are = λ i t s f in_texts in_scans in_files.
      by_index i t s f (got_push texts text i t in_texts) (got_push scans scan i s in_scans) (got_push files file i f in_files);
} where
  by_index : (i : ℕ) (t : List ℕ) (s : Scan) (f : FileOutline) → (slice_get texts i ≡ Some t) ⊎ ((i ≡ length texts) × (text ≡ t)) → (slice_get scans i ≡ Some s) ⊎ ((i ≡ length scans) × (scan ≡ s)) → (slice_get files i ≡ Some f) ⊎ ((i ≡ length files) × (file ≡ f)) → IsOutlineOf t s f
  by_index i t s f (inl a) (inl b) (inl d) = are.are i t s f a b d
  by_index i t s f (inl a) (inl b) (inr d) = absurd (omega (arith, slice_get_within texts i t a, d.0, are.each))
  by_index i t s f (inl a) (inr b) d = absurd (omega (arith, slice_get_within texts i t a, b.0, are.scanned))
  by_index i t s f (inr a) (inl b) d = absurd (omega (arith, slice_get_within scans i s b, a.0, are.scanned))
  by_index i t s f (inr a) (inr b) (inl d) = absurd (omega (arith, slice_get_within files i f d, a.0, are.each))
  by_index i t s f (inr a) (inr b) (inr d) =
      subst (λ (q : List ℕ). IsOutlineOf q s f) a.1 (subst (λ (q : Scan). IsOutlineOf text q f) b.1 (subst (IsOutlineOf text scan) d.1 is))

pub outlines_more : (texts : List (List ℕ)) (scans : List Scan) (text : List ℕ) (scan : Scan) (old new : Outlines) → AreOutlinesOf texts scans old → HasAdded text scan old new → AreOutlinesOf (texts ++ text ∷ []) (scans ++ scan ∷ []) new
outlines_more texts scans text scan old new are added = record {
  files = subst (FilesAreOf (texts ++ text ∷ []) (scans ++ scan ∷ [])) (sym added.files) (files_more texts scans old.files text scan added.file are.files added.is);
}

-- without the first file
later : (text : List ℕ) (texts : List (List ℕ)) (scan : Scan) (scans : List Scan) (file : FileOutline) (files : List FileOutline) → FilesAreOf (text ∷ texts) (scan ∷ scans) (file ∷ files) → FilesAreOf texts scans files
later text texts scan scans file files are = record {
  scanned = omega (arith, are.scanned);
  each = omega (arith, are.each);
  are = λ i t s f in_texts in_scans in_files. are.are (suc i) t s f in_texts in_scans in_files;
}

-- what the units name is kept file by file
pub scopes_kept : (texts : List (List ℕ)) (scans : List Scan) (files : List FileOutline) → FilesAreOf texts scans files → file_scopes files ≡ scopes_of texts scans
scopes_kept [] scans [] are = refl
scopes_kept [] scans (file ∷ files) are = absurd (omega (arith, are.each))
scopes_kept (text ∷ texts) [] files are = absurd (omega (arith, are.scanned))
scopes_kept (text ∷ texts) (scan ∷ scans) [] are = absurd (omega (arith, are.each))
scopes_kept (text ∷ texts) (scan ∷ scans) (file ∷ files) are =
    ap (λ (some : List UnitScope). some ++ file_scopes files) (are.are 0 text scan file refl refl refl).scopes
    ∙ ap (λ (some : List UnitScope). map (scope_of text scan) scan.units ++ some) (scopes_kept texts scans files (later text texts scan scans file files are))

-- what holds of two lists item by item holds with one item more of each
by_push : {X Y : Type 0} (P : X → Y → Type 0) (xs : List X) (ys : List Y) (x : X) (y : Y) → length ys ≡ length xs → ((i : ℕ) (a : X) (b : Y) → slice_get xs i ≡ Some a → slice_get ys i ≡ Some b → P a b) → P x y
    → (i : ℕ) (a : X) (b : Y) → slice_get (xs ++ x ∷ []) i ≡ Some a → slice_get (ys ++ y ∷ []) i ≡ Some b → P a b
by_push P xs ys x y each all last i a b in_xs in_ys = by (got_push xs x i a in_xs) (got_push ys y i b in_ys) where
  by : (slice_get xs i ≡ Some a) ⊎ ((i ≡ length xs) × (x ≡ a)) → (slice_get ys i ≡ Some b) ⊎ ((i ≡ length ys) × (y ≡ b)) → P a b
  by (inl d) (inl e) = all i a b d e
  by (inl d) (inr e) = absurd (omega (arith, slice_get_within xs i a d, e.0, each))
  by (inr d) (inl e) = absurd (omega (arith, slice_get_within ys i b e, d.0, each))
  by (inr d) (inr e) = subst (λ q. P q b) d.1 (subst (P x) e.1 last)

some_lie : (texts : List (List ℕ)) (files : List FileOutline) (text : List ℕ) (file : FileOutline) → FilesLieIn texts files → OutlineLiesIn text file → FilesLieIn (texts ++ text ∷ []) (files ++ file ∷ [])
some_lie texts files text file lie lies = record {
  each = length_push files file ∙ (ap (λ (n : ℕ). n + 1) lie.each ∙ sym (length_push texts text));
  lie = by_push OutlineLiesIn texts files text file lie.each lie.lie lies;
}

pub lie_more : (texts : List (List ℕ)) (text : List ℕ) (scan : Scan) (old new : Outlines) → FilesLieIn texts old.files → HasAdded text scan old new → FilesLieIn (texts ++ text ∷ []) new.files
lie_more texts text scan old new lie added = subst (FilesLieIn (texts ++ text ∷ [])) (sym added.files) (some_lie texts old.files text added.file lie added.lies)

no_scan : Scan
no_scan = record { tokens = record { list = []; comments = [] }; units = [] }

-- the text and the scan of a file
pub got_file : (texts : List (List ℕ)) (scans : List Scan) (files : List FileOutline) (at : ℕ) (file : FileOutline) → FilesAreOf texts scans files → slice_get files at ≡ Some file → (text : List ℕ) × (scan : Scan) × (slice_get texts at ≡ Some text) × (slice_get scans at ≡ Some scan) × IsOutlineOf text scan file
got_file texts scans files at file are is =
    let within : at < length files = slice_get_within files at file is in
    let in_texts = slice_get-get_or texts at [] (omega (arith, within, are.each)) in
    let in_scans = slice_get-get_or scans at no_scan (omega (arith, within, are.each, are.scanned)) in
    (get_or texts at [], get_or scans at no_scan, in_texts, in_scans, are.are at (get_or texts at []) (get_or scans at no_scan) file in_texts in_scans is)

-- one scan more
pub scans_more : (texts : List (List ℕ)) (scans : List Scan) (text : List ℕ) (scan : Scan) → AreScansOf texts scans → IsScanOf text scan → AreScansOf (texts ++ text ∷ []) (scans ++ scan ∷ [])
scans_more texts scans text scan are is = record {
  each = length_push scans scan ∙ (ap (λ (n : ℕ). n + 1) are.each ∙ sym (length_push texts text));
  are = by_push IsScanOf texts scans text scan are.each are.are is;
}

pub no_scans : AreScansOf [] []
no_scans = record { each = refl; are = λ i text scan in_texts in_scans. let never : ⊥ = cc in absurd never }

pub none_outlined : AreOutlined [] (record { files = [] })
none_outlined = record { scans = []; scanned = no_scans; are = no_outlines; lie = none_lie }

-- the outline of one text more
pub outlined_more : (texts : List (List ℕ)) (text : List ℕ) (scan : Scan) (old new : Outlines) (are : AreOutlined texts old) → IsScanOf text scan → HasAdded text scan old new → AreOutlined (texts ++ text ∷ []) new
outlined_more texts text scan old new are is added = record {
  scans = are.scans ++ scan ∷ [];
  scanned = scans_more texts are.scans text scan are.scanned is;
  are = outlines_more texts are.scans text scan old new are.are added;
  lie = lie_more texts text scan old new are.lie added;
}
