-- The files of a linked project are a graph, and its first files are, one after the other.
use Rattle.std.proofs.Common.{◌≡◌, ◌≢◌, ℕ, zero, suc, ◌+◌, ◌<◌, ◌≤◌, Bool, true, Some, List, [], ◌∷◌, ◌++◌, length, map, get_or, take, drop, refl, sym, ap, subst, ◌∙◌, arith, inl, inr}
use Rattle.std.specs.Prelude.{All, AllPairs, Contains, slice_get, sum_by, filter}
use Rattle.std.specs.List.{filter_map}
use Rattle.std.specs.Option.{option_map}
use Rattle.std.proofs.Math.ListN.{set}
use Rattle.std.proofs.lemmas.Bool.{cases_Bool, cases_lt, cond-true, cond-false}
use Rattle.std.proofs.lemmas.List.{length-map, get_or-map, get_or_default, get_or-set_other, length-set, take_more, take-append-drop}
use Rattle.std.proofs.lemmas.List.Elements.{filter_passes, All-filter}
use Rattle.std.proofs.lemmas.List.Kept.{IsStrictlyIncreasing-filter}
use Rattle.std.proofs.lemmas.List.Sums.{sum_by-cons, sum_by-set}
use Rattle.std.proofs.lemmas.Option.{slice_get-get_or}
use Rattle.base.specs.declared.file.FileName.{FileName}
use Rattle.base.specs.declared.graph.Entry.{Entry}
use Rattle.base.specs.declared.project.ProjectFile.{ProjectFile}
use Rattle.base.specs.declared.project.Project.{Project}
use Rattle.base.specs.Graphs.{IsEntryAt, IsGraph}
use Rattle.base.specs.Projects.{IsProject}
use Rattle.base.specs.PresentGraph.{below}
use Rattle.base.proofs.GraphPrefixes.{IsGraph-prefix}
use Rattle.base_collections.specs.declared.set.PositionSet.{PositionSet}
use Rattle.base_collections.specs.Positions.{has}
use Rattle.order.specs.BuildOrder.{AreEdges, IsBuildOrder}
use Rattle.order.specs.LinkedGraph.{reaches, closure_of, linked_entry, linked, FitTexts}
use Rattle.order.proofs.Finds.{Contains-later, Contains-first, in_below, below_all, below_rises, filter_below}
use Rattle.order.proofs.Reaching.{reached_before, reaches_on}
use Rattle.project_graph.specs.Rows.{row_has}
use Rattle.project_graph.proofs.RowSteps.{row_at}

pub no_file : ProjectFile
no_file = record { name = record { library = []; path = [] }; command = [] }

-- ## What passes a test

kept : (p : ℕ → Bool) (xs : List ℕ) (x : ℕ) → Contains xs x → p x ≡ true → Contains (filter p xs) x
kept p [] x there does = absurd (omega (arith, there.1))
kept p (y ∷ ys) x (zero, lt, is) does =
    subst (λ (zs : List ℕ). Contains zs x) (sym (cond-true (p y) (y ∷ filter p ys) (filter p ys) (ap p is ∙ does))) (subst (λ (z : ℕ). Contains (y ∷ filter p ys) z) is (Contains-first y (filter p ys)))
kept p (y ∷ ys) x (suc k, lt, is) does =
    let rest : Contains (filter p ys) x = kept p ys x (k, omega arith, is) does in
    elim (cases_Bool (p y)) [
      | inl here ↦ subst (λ (zs : List ℕ). Contains zs x) (sym (cond-true (p y) (y ∷ filter p ys) (filter p ys) here)) (Contains-later y x (filter p ys) rest)
      | inr fails ↦ subst (λ (zs : List ℕ). Contains zs x) (sym (cond-false (p y) (y ∷ filter p ys) (filter p ys) fails)) rest
    ]

-- ## Sums over some texts, each once

same_sum : (f g : ℕ → ℕ) (ys : List ℕ) → ((k : ℕ) → k < length ys → f (get_or ys k 0) ≡ g (get_or ys k 0)) → sum_by f ys ≡ sum_by g ys
same_sum f g [] same = refl
same_sum f g (y ∷ ys) same = omega (arith, sum_by-cons f y ys, sum_by-cons g y ys, same 0 (omega arith), same_sum f g ys (λ k lt. same (suc k) (omega arith)))

sum_distinct : (texts : List (List ℕ)) (ys : List ℕ) → AllPairs (λ a b. a ≢ b) ys → All (λ y. y < length texts) ys → sum_by (λ at. length (get_or texts at [])) ys ≤ sum_by (λ (text : List ℕ). length text) texts
sum_distinct texts [] distinct within = omega arith
sum_distinct texts (y ∷ ys) distinct within =
    let without : List (List ℕ) = set texts y [] in
    let here : y < length texts = within 0 0 (omega arith) in
    let count : length without ≡ length texts = length-set texts y [] in
    let rest = sum_distinct without ys (λ i j d a b. distinct (suc i) (suc j) d (omega arith) (omega arith)) (λ k d lt. omega (arith, within (suc k) d (omega arith), count)) in
    let same : sum_by (λ at. length (get_or texts at [])) ys ≡ sum_by (λ at. length (get_or without at [])) ys = same_sum (λ at. length (get_or texts at [])) (λ at. length (get_or without at [])) ys
    (λ k lt. ap (λ (text : List ℕ). length text) (sym (get_or-set_other texts y (get_or ys k 0) [] [] (λ e. distinct 0 (suc k) 0 (omega arith) (omega arith) (sym e))))) in
    omega (arith, sum_by-cons (λ at. length (get_or texts at [])) y ys, sum_by-set (λ (text : List ℕ). length text) texts y [] [] here, rest, same)

sum_of_map : {X : Type 0} (f : X → ℕ) (g : ℕ → X) (ys : List ℕ) → sum_by f (map g ys) ≡ sum_by (λ y. f (g y)) ys
sum_of_map f g [] = refl
sum_of_map f g (y ∷ ys) = omega (arith, sum_by-cons f (g y) (map g ys), sum_by-cons (λ k. f (g k)) y ys, sum_of_map f g ys)

-- ## The files of a linked project

picked : (f : ℕ → ProjectFile → Entry) (files : List ProjectFile) (ys : List ℕ) → ((k : ℕ) → k < length ys → get_or ys k 0 < length files) → filter_map (λ at. option_map (f at) (slice_get files at)) ys ≡ map (λ at. f at (get_or files at no_file)) ys
picked f files [] within = refl
picked f files (y ∷ ys) within =
    let found : slice_get files y ≡ Some (get_or files y no_file) = slice_get-get_or files y no_file (within 0 (omega arith)) in
    rw found (ap (λ (es : List Entry). f y (get_or files y no_file) ∷ es) (picked f files ys (λ k lt. within (suc k) (omega arith))))

module _ (project : Project) (texts : List (List ℕ)) (edges : List (List ℕ)) (order : List ℕ) (proper : IsProject project) (fit : FitTexts project.files texts) (are : AreEdges edges) (as_many : length edges ≡ length project.files) (is : IsBuildOrder edges order) where
  abbrev pub whole : List Entry
  whole = linked project.files texts edges order

  -- the file at a rank of the order
  abbrev pub file_at : ℕ → ProjectFile
  file_at rank = get_or project.files (get_or order rank 0) no_file

  abbrev pub entry_at : ℕ → Entry
  entry_at rank = linked_entry edges order texts (get_or order rank 0) (file_at rank)

  pub file_within : (rank : ℕ) → rank < length order → get_or order rank 0 < length project.files
  file_within rank lt = omega (arith, is.within rank 0 lt)

  linked_is : whole ≡ map (λ at. linked_entry edges order texts at (get_or project.files at no_file)) order
  unfolding linked
  linked_is = picked (linked_entry edges order texts) project.files order file_within

  pub length-linked : length whole ≡ length order
  length-linked = ap (λ (es : List Entry). length es) linked_is ∙ length-map order (λ at. linked_entry edges order texts at (get_or project.files at no_file))

  pub get_or-linked : (rank : ℕ) (d : Entry) → rank < length order → get_or whole rank d ≡ entry_at rank
  get_or-linked rank d lt = ap (λ (es : List Entry). get_or es rank d) linked_is ∙ get_or-map (λ at. linked_entry edges order texts at (get_or project.files at no_file)) order rank 0 d lt

  -- what a file has in its closure, it reaches; and what it reaches is there
  in_closure : (rank at : ℕ) → at < length order → reaches edges (get_or order rank 0) (get_or order at 0) ≡ true → Contains (closure_of edges order (get_or order rank 0)) at
  in_closure rank at low reached = kept (λ position. reaches edges (get_or order rank 0) (get_or order position 0)) (below (length order)) at (in_below (length order) at low) reached

  closure_reached : (rank : ℕ) → All (λ at. reaches edges (get_or order rank 0) (get_or order at 0) ≡ true) (closure_of edges order (get_or order rank 0))
  closure_reached rank = filter_passes (λ position. reaches edges (get_or order rank 0) (get_or order position 0)) (below (length order))

  closure_within : (rank : ℕ) → All (λ at. at < length order) (closure_of edges order (get_or order rank 0))
  closure_within rank = All-filter (λ position. reaches edges (get_or order rank 0) (get_or order position 0)) (λ at. at < length order) (below (length order)) (below_all (length order))

  closed_at : (rank at : ℕ) → rank < length order → at < length order → reaches edges (get_or order rank 0) (get_or order at 0) ≡ true → All (Contains (closure_of edges order (get_or order rank 0))) (closure_of edges order (get_or order at 0))
  closed_at rank at lt low reached k d l =
      in_closure rank (get_or (closure_of edges order (get_or order at 0)) k d) (closure_within at k d l)
      (reaches_on edges order is (suc rank) rank (get_or order at 0) (get_or order (get_or (closure_of edges order (get_or order at 0)) k d) 0) (omega arith) lt reached (closure_reached at k d l))

  is_entry : (rank : ℕ) → rank < length order → IsEntryAt whole rank (entry_at rank)
  is_entry rank lt =
      let file = proper.each (get_or order rank 0) no_file (file_within rank lt) in
      record {
        rising = IsStrictlyIncreasing-filter (λ position. reaches edges (get_or order rank 0) (get_or order position 0)) (below (length order)) (below_rises (length order));
        before = λ k d l. reached_before edges order is (suc rank) rank (get_or (closure_of edges order (get_or order rank 0)) k d) (omega arith) lt (closure_within rank k d l) (closure_reached rank k d l);
        closed = λ k d l other.
            let at : ℕ = get_or (closure_of edges order (get_or order rank 0)) k d in
            subst (λ (e : Entry). All (Contains (closure_of edges order (get_or order rank 0))) e.deps) (sym (get_or-linked at other (closure_within rank k d l))) (closed_at rank at lt (closure_within rank k d l) (closure_reached rank k d l));
        name = file.name;
        command = file.command;
        text = fit.small.short (get_or order rank 0) [] (omega (arith, file_within rank lt, fit.each));
      }

  names_apart : (i j : ℕ) → i < j → j < length order → (file_at i).name ≢ (file_at j).name
  names_apart i j a b same =
      elim (cases_lt (get_or order i 0) (get_or order j 0)) [
        | inl l ↦ proper.distinct (get_or order i 0) (get_or order j 0) no_file l (file_within j b) same
        | inr l ↦
            let apart : get_or order i 0 ≢ get_or order j 0 = is.distinct i j 0 a b in
            let less : get_or order j 0 < get_or order i 0 = omega (arith, apart) in
            proper.distinct (get_or order j 0) (get_or order i 0) no_file less (file_within i (omega arith)) (sym same)
      ]

  text_sum : sum_by (λ (e : Entry). length e.text) whole ≤ sum_by (λ (text : List ℕ). length text) texts
  text_sum =
      let same : sum_by (λ (e : Entry). length e.text) whole ≡ sum_by (λ at. length (get_or texts at [])) order =
      ap (sum_by (λ (e : Entry). length e.text)) linked_is ∙ sum_of_map (λ (e : Entry). length e.text) (λ at. linked_entry edges order texts at (get_or project.files at no_file)) order in
      omega (arith, same, sum_distinct texts order is.distinct (λ k d lt. omega (arith, is.within k d lt, fit.each)))

  pub linked_is_graph : IsGraph whole
  linked_is_graph = record {
    few = omega (arith, length-linked, is.count, are.few);
    distinct = λ i j d a b.
        let high : j < length order = omega (arith, length-linked) in
        let low : i < length order = omega (arith, length-linked) in
        subst (λ (e : Entry). e.name ≢ (get_or whole j d).name) (sym (get_or-linked i d low)) (subst (λ (e : Entry). (file_at i).name ≢ e.name) (sym (get_or-linked j d high)) (names_apart i j a high));
    each = λ i d lt. let low : i < length order = omega (arith, length-linked) in subst (IsEntryAt whole i) (sym (get_or-linked i d low)) (is_entry i low);
    small = omega (arith, text_sum, fit.small.few_bytes);
  }

  -- the graph so far, with one file more
  pub linked_more : (rank : ℕ) (entry : Entry) → rank < length order → entry ≡ entry_at rank → take rank whole ++ entry ∷ [] ≡ take (rank + 1) whole
  linked_more rank entry lt same = ap (λ (e : Entry). take rank whole ++ e ∷ []) (same ∙ sym (get_or-linked rank entry lt)) ∙ sym (take_more whole rank entry (omega (arith, length-linked)))

  pub more_is_graph : (rank : ℕ) (entry : Entry) → rank < length order → entry ≡ entry_at rank → IsGraph (take rank whole ++ entry ∷ [])
  more_is_graph rank entry lt same =
      subst IsGraph (sym (linked_more rank entry lt same))
      (IsGraph-prefix (take (rank + 1) whole) (drop (rank + 1) whole) (subst IsGraph (sym (take-append-drop (rank + 1) whole)) linked_is_graph))

  same_entry : (e : Entry) (name : FileName) (command : List (List ℕ)) (text deps : List ℕ) → e.name ≡ name → e.command ≡ command → e.text ≡ text → e.deps ≡ deps → e ≡ record { name = name; command = command; text = text; deps = deps }
  same_entry e name command text deps n c t d =
      ap (λ (x : FileName). record { name = x; command = e.command; text = e.text; deps = e.deps }) n
      ∙ ap (λ (x : List (List ℕ)). record { name = name; command = x; text = e.text; deps = e.deps }) c
      ∙ ap (λ (x : List ℕ). record { name = name; command = command; text = x; deps = e.deps }) t
      ∙ ap (λ (x : List ℕ). record { name = name; command = command; text = text; deps = x }) d

  -- the file that is made for a rank
  pub entry_made : (ordered : List ℕ) (files : List ProjectFile) (rank : ℕ) (file : ProjectFile) (row : PositionSet) (rows : List PositionSet) (entry : Entry) → ordered ≡ order → files ≡ project.files
      → rank < length ordered → file ≡ get_or files (get_or ordered rank 0) file → row ≡ get_or rows rank row → length rows ≡ length ordered
      → ((at k : ℕ) → at < length ordered → k < length ordered → row_has rows at k ≡ reaches edges (get_or ordered at 0) (get_or ordered k 0))
      → entry.name ≡ file.name → entry.command ≡ file.command → entry.text ≡ get_or texts (get_or order rank 0) [] → entry.deps ≡ filter (has row) (below (length ordered)) → entry ≡ entry_at rank
  entry_made ordered files rank file row rows entry o f lt file_is row_is many reached name command text deps =
      let low : rank < length order = omega (arith, ap (λ (xs : List ℕ). length xs) o) in
      let position : get_or ordered rank 0 ≡ get_or order rank 0 = ap (λ (xs : List ℕ). get_or xs rank 0) o in
      let the_file : file ≡ file_at rank =
      file_is ∙ ap (λ (fs : List ProjectFile). get_or fs (get_or ordered rank 0) file) f ∙ ap (λ (k : ℕ). get_or project.files k file) position ∙ get_or_default project.files (get_or order rank 0) file no_file (file_within rank low) in
      let rows_say : (k : ℕ) → k < length order → has row k ≡ reaches edges (get_or order rank 0) (get_or order k 0) = λ k within.
      sym (row_at rows rank k row (omega arith) row_is) ∙ reached rank k lt (omega (arith, ap (λ (xs : List ℕ). length xs) o)) ∙ ap (λ (xs : List ℕ). reaches edges (get_or xs rank 0) (get_or xs k 0)) o in
      let the_deps : entry.deps ≡ closure_of edges order (get_or order rank 0) =
      deps ∙ ap (λ (xs : List ℕ). filter (has row) (below (length xs))) o ∙ filter_below (has row) (λ k. reaches edges (get_or order rank 0) (get_or order k 0)) (length order) rows_say in
      same_entry entry (file_at rank).name (file_at rank).command (get_or texts (get_or order rank 0) []) (closure_of edges order (get_or order rank 0)) (name ∙ ap (λ (x : ProjectFile). x.name) the_file) (command ∙ ap (λ (x : ProjectFile). x.command) the_file) text the_deps

-- taking the text of the file at a rank leaves the texts of the files at later ranks unchanged
pub left_texts : (edges : List (List ℕ)) (order : List ℕ) → IsBuildOrder edges order → (texts left : List (List ℕ)) (rank : ℕ)
    → ((at : ℕ) → rank ≤ at → at < length order → get_or left (get_or order at 0) [] ≡ get_or texts (get_or order at 0) [])
    → (at : ℕ) → rank + 1 ≤ at → at < length order → get_or (set left (get_or order rank 0) []) (get_or order at 0) [] ≡ get_or texts (get_or order at 0) []
left_texts edges order is texts left rank before at later within =
    get_or-set_other left (get_or order rank 0) (get_or order at 0) [] [] (λ e. is.distinct rank at 0 (omega arith) within (sym e)) ∙ before at (omega arith) within
