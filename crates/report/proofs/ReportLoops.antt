-- The text and the refused files of a build, file after file.
use Rattle.std.proofs.Common.{◌≡◌, ℕ, ◌+◌, ◌<◌, ◌≤◌, cond, true, false, List, [], ◌∷◌, ◌++◌, length, get_or, drop, sym, ap, ◌∙◌, arith}
use Rattle.std.proofs.lemmas.Bool.{cond-true, cond-false}
use Rattle.std.proofs.lemmas.List.{drop_more, drop_all, append-nil, append_assoc}
use Rattle.base.specs.declared.graph.Entry.{Entry}
use Rattle.base.specs.declared.file.FileName.{FileName}
use Rattle.run_spec.specs.declared.statuses.FileStatus.{FileStatus}
use Rattle.run_spec.specs.Statuses.{is_refused, refused_files}
use Rattle.report.specs.Texts.{file_text, files_text}

module _ (entries : List Entry) (statuses : List FileStatus) (i : ℕ) (entry : Entry) (status : FileStatus) (all : length statuses ≡ length entries) (lt : i < length entries) (entry_is : entry ≡ get_or entries i entry) (status_is : status ≡ get_or statuses i status) where
  drop_entries : drop i entries ≡ entry ∷ drop (i + 1) entries
  drop_entries = drop_more entries i entry lt ∙ ap (λ (e : Entry). e ∷ drop (i + 1) entries) (sym entry_is)

  drop_statuses : drop i statuses ≡ status ∷ drop (i + 1) statuses
  drop_statuses = drop_more statuses i status (omega arith) ∙ ap (λ (m : FileStatus). m ∷ drop (i + 1) statuses) (sym status_is)

  text_more : (limit : ℕ) → files_text limit (drop i entries) (drop i statuses) ≡ file_text limit entry status ++ files_text limit (drop (i + 1) entries) (drop (i + 1) statuses)
  unfolding files_text
  text_more limit = ap (λ (es : List Entry). files_text limit es (drop i statuses)) drop_entries ∙ ap (files_text limit (entry ∷ drop (i + 1) entries)) drop_statuses

  pub file_put : (limit : ℕ) (out next whole : List ℕ) → next ≡ out ++ file_text limit entry status → out ++ files_text limit (drop i entries) (drop i statuses) ≡ whole → next ++ files_text limit (drop (i + 1) entries) (drop (i + 1) statuses) ≡ whole
  file_put limit out next whole put h =
      ap (λ (o : List ℕ). o ++ files_text limit (drop (i + 1) entries) (drop (i + 1) statuses)) put ∙ append_assoc out (file_text limit entry status) (files_text limit (drop (i + 1) entries) (drop (i + 1) statuses))
      ∙ ap (λ (t : List ℕ). out ++ t) (sym (text_more limit)) ∙ h

  refused_more : refused_files (drop i entries) (drop i statuses) ≡ cond (is_refused status) (entry.name ∷ refused_files (drop (i + 1) entries) (drop (i + 1) statuses)) (refused_files (drop (i + 1) entries) (drop (i + 1) statuses))
  unfolding refused_files
  refused_more = ap (λ (es : List Entry). refused_files es (drop i statuses)) drop_entries ∙ ap (refused_files (entry ∷ drop (i + 1) entries)) drop_statuses

  pub refused_put : (files next whole : List FileName) → is_refused status ≡ true → next ≡ files ++ entry.name ∷ [] → files ++ refused_files (drop i entries) (drop i statuses) ≡ whole → next ++ refused_files (drop (i + 1) entries) (drop (i + 1) statuses) ≡ whole
  refused_put files next whole t put h =
      ap (λ (f : List FileName). f ++ refused_files (drop (i + 1) entries) (drop (i + 1) statuses)) put ∙ append_assoc files (entry.name ∷ []) (refused_files (drop (i + 1) entries) (drop (i + 1) statuses))
      ∙ ap (λ (f : List FileName). files ++ f) (sym (refused_more ∙ cond-true (is_refused status) (entry.name ∷ refused_files (drop (i + 1) entries) (drop (i + 1) statuses)) (refused_files (drop (i + 1) entries) (drop (i + 1) statuses)) t)) ∙ h

  pub refused_passed : (files next whole : List FileName) → is_refused status ≡ false → next ≡ files → files ++ refused_files (drop i entries) (drop i statuses) ≡ whole → next ++ refused_files (drop (i + 1) entries) (drop (i + 1) statuses) ≡ whole
  refused_passed files next whole f same h =
      ap (λ (fs : List FileName). fs ++ refused_files (drop (i + 1) entries) (drop (i + 1) statuses)) same
      ∙ ap (λ (fs : List FileName). files ++ fs) (sym (refused_more ∙ cond-false (is_refused status) (entry.name ∷ refused_files (drop (i + 1) entries) (drop (i + 1) statuses)) (refused_files (drop (i + 1) entries) (drop (i + 1) statuses)) f)) ∙ h

pub text_ends : (limit : ℕ) (entries : List Entry) (statuses : List FileStatus) (i : ℕ) (out whole : List ℕ) → length entries ≤ i → out ++ files_text limit (drop i entries) (drop i statuses) ≡ whole → out ≡ whole
unfolding files_text
text_ends limit entries statuses i out whole le h = sym (append-nil out) ∙ ap (λ (es : List Entry). out ++ files_text limit es (drop i statuses)) (sym (drop_all i entries le)) ∙ h

pub refused_ends : (entries : List Entry) (statuses : List FileStatus) (i : ℕ) (files whole : List FileName) → length entries ≤ i → files ++ refused_files (drop i entries) (drop i statuses) ≡ whole → files ≡ whole
unfolding refused_files
refused_ends entries statuses i files whole le h = sym (append-nil files) ∙ ap (λ (es : List Entry). files ++ refused_files es (drop i statuses)) (sym (drop_all i entries le)) ∙ h
