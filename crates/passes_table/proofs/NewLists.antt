-- New lists, file by file.
use Rattle.std.proofs.Common.{◌≡◌, ℕ, ◌≤◌, Bool, true, false, ◌&&◌, List, [], ◌∷◌, ◌++◌, length, refl, sym, ap, ◌∙◌, arith, append_assoc, length-append, Option, Some}
use Rattle.std.proofs.lemmas.Bool.{and_parts}
use Rattle.std.proofs.lemmas.Option.{same_Some}
use Rattle.base.specs.declared.graph.BuiltFile.{BuiltFile}
use Rattle.base_bytes.specs.TextRefs.{TextRef, is_text_ref, told_text, with_text}
use Rattle.base_bytes.specs.TextRefs.TextRef.{ByNumber, InFull}
use Rattle.base_bytes.proofs.Fields.{bind_some}
use Rattle.base_bytes.proofs.Many.{with_prefix}
use Rattle.passes_codec.specs.Forms.{FileDraft}
use Rattle.passes_codec.specs.PassTables.{are_listed_files, drafted_files, is_listed_file, with_list_texts}

pub texts_append : (texts : List (List ℕ)) (xs ys : List FileDraft) → with_list_texts texts (xs ++ ys) ≡ with_list_texts (with_list_texts texts xs) ys
unfolding with_list_texts
texts_append texts [] ys = refl
texts_append texts (x ∷ xs) ys = texts_append (with_text texts x.artefact) xs ys

pub drafted_append : (texts : List (List ℕ)) (xs ys : List FileDraft) → drafted_files texts (xs ++ ys) ≡ drafted_files texts xs ++ drafted_files (with_list_texts texts xs) ys
unfolding drafted_files with_list_texts
drafted_append texts [] ys = refl
drafted_append texts (x ∷ xs) ys = ap (λ (fs : List BuiltFile). record { name = x.name; artefact = told_text texts x.artefact } ∷ fs) (drafted_append (with_text texts x.artefact) xs ys)

and_assoc : (a b c : Bool) → (a && (b && c)) ≡ ((a && b) && c)
and_assoc true b c = refl
and_assoc false b c = refl

pub listed_append : (texts : List (List ℕ)) (xs ys : List FileDraft) → are_listed_files texts (xs ++ ys) ≡ (are_listed_files texts xs && are_listed_files (with_list_texts texts xs) ys)
unfolding are_listed_files with_list_texts
listed_append texts [] ys = refl
listed_append texts (x ∷ xs) ys =
    ap (λ (b : Bool). is_listed_file texts x && b) (listed_append (with_text texts x.artefact) xs ys) ∙ and_assoc (is_listed_file texts x) (are_listed_files (with_text texts x.artefact) xs) (are_listed_files (with_list_texts (with_text texts x.artefact) xs) ys)

-- one more file
pub texts_push : (texts : List (List ℕ)) (xs : List FileDraft) (x : FileDraft) → with_list_texts texts (xs ++ x ∷ []) ≡ with_text (with_list_texts texts xs) x.artefact
unfolding with_list_texts
texts_push texts xs x = texts_append texts xs (x ∷ [])

pub drafted_push : (texts : List (List ℕ)) (xs : List FileDraft) (x : FileDraft) → drafted_files texts (xs ++ x ∷ []) ≡ drafted_files texts xs ++ record { name = x.name; artefact = told_text (with_list_texts texts xs) x.artefact } ∷ []
unfolding drafted_files
drafted_push texts xs x = drafted_append texts xs (x ∷ [])

and_true : (b : Bool) → (b && true) ≡ b
and_true true = refl
and_true false = refl

pub listed_push : (texts : List (List ℕ)) (xs : List FileDraft) (x : FileDraft) → are_listed_files texts (xs ++ x ∷ []) ≡ (are_listed_files texts xs && is_listed_file (with_list_texts texts xs) x)
unfolding are_listed_files
listed_push texts xs x = listed_append texts xs (x ∷ []) ∙ ap (λ (b : Bool). are_listed_files texts xs && b) (and_true (is_listed_file (with_list_texts texts xs) x))

-- texts are added at the end alone
one_longer : (texts : List (List ℕ)) (source : TextRef) → length texts ≤ length (with_text texts source)
one_longer texts (ByNumber number) = omega arith
one_longer texts (InFull text) = omega (arith, length-append texts (text ∷ []))

pub texts_longer : (texts : List (List ℕ)) (xs : List FileDraft) → length texts ≤ length (with_list_texts texts xs)
unfolding with_list_texts
texts_longer texts [] = omega arith
texts_longer texts (x ∷ xs) = omega (arith, one_longer texts x.artefact, texts_longer (with_text texts x.artefact) xs)

-- files that are read so far are the first of all
pub rest_of : (prefix files : List FileDraft) (read : Option (List FileDraft × List ℕ)) (left : List ℕ) → with_prefix prefix read ≡ Some (files, left) → (rest : List FileDraft) × (files ≡ prefix ++ rest)
rest_of prefix files read left e =
    let a = bind_some read (λ x. Some (prefix ++ x.0, x.1)) (files, left) e in
    (a.0.0, sym (ap (λ (p : List FileDraft × List ℕ). p.0) (same_Some (prefix ++ a.0.0, a.0.1) (files, left) a.2)))

module _ (texts : List (List ℕ)) (prefix rest files : List FileDraft) (file : FileDraft) (e : files ≡ (prefix ++ file ∷ []) ++ rest) where
  whole : files ≡ prefix ++ file ∷ rest
  whole = e ∙ append_assoc prefix (file ∷ []) rest

  -- the next of valid files is valid
  pub next_listed : are_listed_files texts files ≡ true → is_listed_file (with_list_texts texts prefix) file ≡ true
  unfolding are_listed_files
  next_listed all =
      let parts = and_parts _ _ (sym (listed_append texts prefix (file ∷ rest)) ∙ ap (are_listed_files texts) (sym whole) ∙ all) in
      (and_parts _ _ parts.1).0

  pub next_ref : are_listed_files texts files ≡ true → is_text_ref (with_list_texts texts prefix) file.artefact ≡ true
  next_ref all =
      let one = and_parts _ _ (next_listed all) in
      (and_parts _ _ one.1).0

  pub next_fits : length (with_text (with_list_texts texts prefix) file.artefact) ≤ length (with_list_texts texts files)
  unfolding with_list_texts
  next_fits =
      omega (
        arith,
        ap length (ap (with_list_texts texts) whole ∙ texts_append texts prefix (file ∷ rest)),
        texts_longer (with_text (with_list_texts texts prefix) file.artefact) rest,
      )

  -- where one isn't, not all are
  pub next_not : is_listed_file (with_list_texts texts prefix) file ≡ false → are_listed_files texts files ≡ false
  unfolding are_listed_files
  next_not none =
      ap (are_listed_files texts) whole ∙ listed_append texts prefix (file ∷ rest) ∙ rw (none) (and_false (are_listed_files texts prefix))
    where
      and_false : (b : Bool) → (b && false) ≡ false
      and_false true = refl
      and_false false = refl

-- no file adds no text
pub texts_none : (texts : List (List ℕ)) → texts ≡ with_list_texts texts []
unfolding with_list_texts
texts_none texts = refl
