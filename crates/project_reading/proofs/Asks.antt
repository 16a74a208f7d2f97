-- What a tree was asked for, read after read.
use Rattle.std.proofs.Common.{◌≡◌, ◌+◌, ◌<◌, ◌≤◌, ℕ, List, [], ◌∷◌, ◌++◌, length, get_or, take, drop, Result, Ok, Err, refl, sym, ap, subst, ◌∙◌, append_assoc, Option, None, Some, Bool, true, false}
use Rattle.std.specs.Prelude.{nat_le, if◌then◌else◌}
use Rattle.std.proofs.lemmas.List.{append-nil, take_more, take_all, drop_more, map-append, take-append-drop}
use Rattle.base.specs.declared.project.ProjectFile.{ProjectFile}
use Rattle.outside.specs.declared.tree.ReadEnd.TheVariants.{Got, Absent, TooLong}
use Rattle.outside.specs.Trees.{read_end}
use Rattle.project_reading.specs.Asked.{AsksFirst, AsksInOrder, file_paths}
use Rattle.project_reading.specs.declared.stops.ReadStop.{ReadStop}

-- all was asked for
pub all_first : (paths old new : List (List ℕ)) → new ≡ old ++ paths → AsksFirst paths old new
all_first paths old new all = record { first = paths; rest = []; split = sym (append-nil paths); asked = all }

-- if the first of some paths were asked for, they are also the first when more paths follow
pub first_of_more : (paths more old new : List (List ℕ)) → AsksFirst paths old new → AsksFirst (paths ++ more) old new
first_of_more paths more old new h = record { first = h.first; rest = h.rest ++ more; split = ap (λ (ps : List (List ℕ)). ps ++ more) h.split ∙ append_assoc h.first h.rest more; asked = h.asked }

-- paths that were asked for, and then the first of more
pub asked_then : (paths more old mid new : List (List ℕ)) → mid ≡ old ++ paths → AsksFirst more mid new → AsksFirst (paths ++ more) old new
asked_then paths more old mid new before h = record { first = paths ++ h.first; rest = h.rest; split = ap (λ (ps : List (List ℕ)). paths ++ ps) h.split ∙ sym (append_assoc paths h.first h.rest); asked = h.asked ∙ ap (λ (ps : List (List ℕ)). ps ++ h.first) before ∙ append_assoc old paths h.first }

-- paths that were asked for, and then more paths in order
pub then_in_order : {T : Type 0} (answer : Result T ReadStop) (paths more old mid new : List (List ℕ)) → mid ≡ old ++ paths → AsksInOrder answer more mid new → AsksInOrder answer (paths ++ more) old new
then_in_order (Ok value) paths more old mid new before after = after ∙ ap (λ (ps : List (List ℕ)). ps ++ more) before ∙ append_assoc old paths more
then_in_order (Err stop) paths more old mid new before after = asked_then paths more old mid new before after

module _ (files : List ProjectFile) (i : ℕ) (file : ProjectFile) (old mid : List (List ℕ)) (lt : i < length files) (is : file ≡ get_or files i file) (before : mid ≡ old ++ file_paths (take i files)) where
  -- the file at hand was asked for
  pub one_more_asked : (new : List (List ℕ)) → new ≡ mid ++ file.name.path ∷ [] → new ≡ old ++ file_paths (take (i + 1) files)
  one_more_asked new more =
      more ∙ ap (λ (ps : List (List ℕ)). ps ++ file.name.path ∷ []) before ∙ append_assoc old (file_paths (take i files)) (file.name.path ∷ [])
      ∙ ap (λ (ps : List (List ℕ)). old ++ ps) (sym (map-append (λ (f : ProjectFile). f.name.path) (take i files) (file ∷ [])))
      ∙ ap (λ (f : ProjectFile). old ++ file_paths (take i files ++ f ∷ [])) is
      ∙ ap (λ (fs : List ProjectFile). old ++ file_paths fs) (sym (take_more files i file lt))

  -- the file at hand is the last that was asked for, if it was
  pub stops_asking : (new : List (List ℕ)) → AsksFirst (file.name.path ∷ []) mid new → AsksFirst (file_paths files) old new
  stops_asking new h =
      let all : file_paths files ≡ file_paths (take i files) ++ file_paths (drop i files) = ap file_paths (sym (take-append-drop i files)) ∙ map-append (λ (f : ProjectFile). f.name.path) (take i files) (drop i files) in
      let here : file_paths (drop i files) ≡ (file.name.path ∷ []) ++ file_paths (drop (i + 1) files) = ap file_paths (drop_more files i file lt) ∙ ap (λ (f : ProjectFile). file_paths (f ∷ drop (i + 1) files)) (sym is) in
      subst (λ (ps : List (List ℕ)). AsksFirst ps old new) (sym (all ∙ ap (λ (ps : List (List ℕ)). file_paths (take i files) ++ ps) here))
      (asked_then (file_paths (take i files)) ((file.name.path ∷ []) ++ file_paths (drop (i + 1) files)) old mid new before (first_of_more (file.name.path ∷ []) (file_paths (drop (i + 1) files)) mid new h))

-- every file was asked for
pub all_asked : (files : List ProjectFile) (i : ℕ) (old new : List (List ℕ)) → length files ≤ i → new ≡ old ++ file_paths (take i files) → new ≡ old ++ file_paths files
all_asked files i old new le h = h ∙ ap (λ (fs : List ProjectFile). old ++ file_paths fs) (take_all i files le)

-- a file of which nothing is read isn't there
pub absent_is_none : (file : Option (List ℕ)) (limit : ℕ) → read_end file limit ≡ Absent → file ≡ None
absent_is_none None limit is = refl
absent_is_none (Some bytes) limit is = absurd (unread (nat_le (length bytes) limit) is)
  where
    unread : (fits : Bool) → (if fits then Got bytes else TooLong) ≡ Absent → ⊥
    unread true is = cc
    unread false is = cc

-- nothing was asked for
pub asks_none : (paths before : List (List ℕ)) → AsksFirst paths before before
asks_none paths before = record { first = []; rest = paths; split = refl; asked = sym (append-nil before) }

-- no more was asked for
pub asks_no_more : {T : Type 0} (answer : Result T ReadStop) (old new : List (List ℕ)) → new ≡ old → AsksInOrder answer [] old new
asks_no_more (Ok value) old new same = same ∙ sym (append-nil old)
asks_no_more (Err stop) old new same = all_first [] old new (same ∙ sym (append-nil old))
