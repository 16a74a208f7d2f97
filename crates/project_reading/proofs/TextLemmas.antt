-- The texts of the files of a project, one after the other.
use Rattle.std.proofs.Common.{◌≡◌, ℕ, ◌+◌, ◌<◌, ◌≤◌, List, [], ◌∷◌, ◌++◌, length, get_or, drop, Option, Result, Ok, Err, sym, ap, ◌∙◌}
use Rattle.std.proofs.lemmas.List.{append-nil, drop_more, drop_all}
use Rattle.base.specs.declared.limits.TheConstants.{TEXT_LIMIT}
use Rattle.base.specs.declared.project.ProjectFile.{ProjectFile}
use Rattle.outside.specs.Trees.{read_end}
use Rattle.project_reading.specs.Reading.{SourceReading, text_of, texts_of, and_others}
use Rattle.project_reading.specs.Sources.{Gives}
use Rattle.project_reading.specs.declared.stops.ReadStop.{ReadStop}
use Rattle.project_reading.specs.declared.stops.ReadStop.TheVariants as stop
use Rattle.project_reading.proofs.Afters.{after, after_more}

module _ (tree : List ℕ → Option (List ℕ)) (before : ℕ) (files : List ProjectFile) (i : ℕ) (file : ProjectFile) (texts : List (List ℕ)) (whole : Result (List (List ℕ)) SourceReading) (lt : i < length files) (is : file ≡ get_or files i file)
    (h : after texts (texts_of tree before (drop i files)) ≡ whole) where
  abbrev others : List ℕ → Result (List (List ℕ)) SourceReading
  others text = texts_of tree (before + length text) (drop (i + 1) files)

  next_text : texts_of tree before (drop i files) ≡ and_others others (text_of file.name before (read_end (tree file.name.path) TEXT_LIMIT))
  unfolding texts_of
  next_text = ap (texts_of tree before) (drop_more files i file lt ∙ ap (λ (f : ProjectFile). f ∷ drop (i + 1) files) (sym is))

  -- one more file is read
  pub text_then : (text : List ℕ) → text_of file.name before (read_end (tree file.name.path) TEXT_LIMIT) ≡ Ok text → after (texts ++ text ∷ []) (texts_of tree (before + length text) (drop (i + 1) files)) ≡ whole
  text_then text got =
      sym (after_more texts text (others text))
      ∙ ap (λ (one : Result (List ℕ) SourceReading). after texts (and_others others one)) (sym got)
      ∙ ap (after texts) (sym next_text) ∙ h

  no_text : (reading : SourceReading) → text_of file.name before (read_end (tree file.name.path) TEXT_LIMIT) ≡ Err reading → whole ≡ Err reading
  no_text reading none =
      sym h ∙ ap (after texts) next_text
      ∙ ap (λ (one : Result (List ℕ) SourceReading). after texts (and_others others one)) none

  -- a file gives no text
  pub no_text_then : (fault : ReadStop) → Gives (text_of file.name before (read_end (tree file.name.path) TEXT_LIMIT)) (Err fault) → Gives whole (Err fault)
  no_text_then (stop.Refused reason) none = no_text _ none
  no_text_then (stop.Over limit number) none = no_text _ none
  no_text_then stop.Failed none = tt
  no_text_then stop.NoMemory none = tt

-- all files are read
pub all_texts : (tree : List ℕ → Option (List ℕ)) (before : ℕ) (files : List ProjectFile) (i : ℕ) (texts : List (List ℕ)) (whole : Result (List (List ℕ)) SourceReading) → length files ≤ i → after texts (texts_of tree before (drop i files)) ≡ whole → whole ≡ Ok texts
unfolding texts_of
all_texts tree before files i texts whole le h =
    sym h ∙ ap (λ (fs : List ProjectFile). after texts (texts_of tree before fs)) (drop_all i files le) ∙ ap (λ (all : List (List ℕ)). Ok all) (append-nil texts)
