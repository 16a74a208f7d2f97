-- The tests of files decide what they denote.
use Rattle.std.proofs.Common.{◌≡◌, ◌≢◌, ◌<◌, ◌≤◌, ◌+◌, ◌-◌, ◌∙◌, ℕ, suc, Bool, true, not, ◌&&◌, ◌==◌, List, [], ◌∷◌, length, get_or, refl, sym, ap, subst, arith}
use Rattle.std.specs.Prelude.{All, AllPairs, Contains, sum_by, nat_le, nat_lt}
use Rattle.std.specs.Bool.{Decides}
use Rattle.std.specs.List.{list_all, list_any, enumerate_from, range_with_len}
use Rattle.std.specs.List.Sorted.{IsStrictlyIncreasing}
use Rattle.std.proofs.lemmas.Bool.{leb-true, le-leb}
use Rattle.std.proofs.lemmas.Bool.Decides.{Decides-like, Decides-and, Decides-not, Decides-eqb, Decides-ltb, Decides-by_and, Decides-by_or}
use Rattle.std.proofs.lemmas.List.{get_or_default}
use Rattle.std.proofs.lemmas.List.FromFn.{length-enumerate_from, get_or-enumerate_from, length-range_with_len, get_or-range_with_len}
use Rattle.std.proofs.lemmas.List.Kept.{AllPairs-cons, AllPairs-from_increasing}
use Rattle.std.proofs.lemmas.Option.{slice_get-get_or}
use Rattle.std.proofs.lemmas.Slice.Eq.{bytes_eq-Decides}
use Rattle.base.specs.declared.file.FileName.{FileName}
use Rattle.base.specs.declared.graph.Entry.{Entry}
use Rattle.base.specs.Names.{is_same_name, IsBetween, FitsName, FitsCommand}
use Rattle.base.specs.Graphs.{IsEntryAt, IsGraph}
use Rattle.base.specs.View.{IsView}
use Rattle.store_form_2.specs.Views.{all_pairs, holds_all, found_deps, fit_deps, stands, is_graph, is_whole, is_view}
use Rattle.base_bytes.proofs.Sized.{all-Decides, command_sizes-Decides, name_sizes-Decides, nat_le-Decides, same_name-Decides}
use Rattle.base.specs.declared.limits.TheConstants.{FILE_LIMIT, GRAPH_TEXT_LIMIT, TEXT_LIMIT}

all_pairs-Decides : {X : Type 0} (test : X → X → Bool) (R : X → X → Type 0) → ((x y : X) → Decides (test x y) (R x y)) → (xs : List X) → Decides (all_pairs test xs) (AllPairs R xs)
unfolding all_pairs
all_pairs-Decides test R each [] = (λ _ i j d a b. absurd (omega arith), λ _. refl)
all_pairs-Decides test R each (x ∷ xs) =
    Decides-like (list_all (test x) xs && all_pairs test xs) (λ h. AllPairs-cons R x xs h.0 h.1)
    (λ pairs. (λ k d l. pairs 0 (suc k) d (omega arith) (omega arith), λ i j d a b. pairs (suc i) (suc j) d (omega arith) (omega arith)))
    (Decides-and (list_all (test x) xs) (all_pairs test xs) (all-Decides (test x) (R x) (each x) xs) (all_pairs-Decides test R each xs))

contains-Decides : (deps : List ℕ) (position : ℕ) → Decides (list_any (λ dep. dep == position) deps) (Contains deps position)
contains-Decides deps position =
    Decides-like (list_any (λ dep. dep == position) deps) (λ h. (h.0, h.1, h.2 position)) (λ h. (h.0, h.1, λ d. get_or_default deps h.0 d position h.1 ∙ h.2))
    (Decides-by_or (λ dep. dep == position) (λ dep. dep ≡ position) (list_any (λ dep. dep == position)) (λ dep. Decides-eqb dep position) refl (λ _ _. refl) deps)

holds_all-Decides : (deps positions : List ℕ) → Decides (holds_all deps positions) (All (Contains deps) positions)
holds_all-Decides deps = all-Decides (λ position. list_any (λ dep. dep == position) deps) (Contains deps) (contains-Decides deps)

rising-Decides : (deps : List ℕ) → Decides (all_pairs nat_lt deps) (IsStrictlyIncreasing deps)
rising-Decides deps =
    Decides-like (all_pairs nat_lt deps) (λ pairs k l. pairs k (k + 1) 0 (omega arith) l) (AllPairs-from_increasing deps) (all_pairs-Decides nat_lt (λ a b. a < b) Decides-ltb deps)

-- the dependencies of a file that is there
deps_there : (files : List Entry) (rank : ℕ) (other : Entry) → rank < length files → found_deps files rank ≡ (get_or files rank other).deps
deps_there files rank other lt = rw (slice_get-get_or files rank other lt) refl

abbrev FitDeps : List Entry → ℕ → List ℕ → Type 0
FitDeps files rank deps = IsStrictlyIncreasing deps × (All (λ dep. dep < rank) deps × All (λ dep. All (Contains deps) (found_deps files dep)) deps)

fit_deps-Decides : (files : List Entry) (rank : ℕ) (deps : List ℕ) → Decides (fit_deps files rank deps) (FitDeps files rank deps)
unfolding fit_deps
fit_deps-Decides files rank deps =
    Decides-and _ _ (rising-Decides deps)
    (Decides-and _ _ (all-Decides (λ dep. nat_lt dep rank) (λ dep. dep < rank) (λ dep. Decides-ltb dep rank) deps)
    (all-Decides (λ dep. holds_all deps (found_deps files dep)) (λ dep. All (Contains deps) (found_deps files dep)) (λ dep. holds_all-Decides deps (found_deps files dep)) deps))

stands-Decides : (files : List Entry) (rank : ℕ) (entry : Entry) → rank < length files → Decides (stands files rank entry) (IsEntryAt files rank entry)
unfolding stands
stands-Decides files rank entry lt =
    Decides-like (stands files rank entry)
    (λ h. record {
      rising = h.0.0;
      before = h.0.1.0;
      closed = λ k d l other. subst (All (Contains entry.deps)) (deps_there files (get_or entry.deps k d) other (omega (arith, h.0.1.0 k d l, lt))) (h.0.1.1 k d l);
      name = h.1.0;
      command = h.1.1.0;
      text = h.1.1.1;
    })
    (λ at. (
      (at.rising, (at.before, λ k d l. subst (All (Contains entry.deps)) (sym (deps_there files (get_or entry.deps k d) entry (omega (arith, at.before k d l, lt)))) (at.closed k d l entry))),
      (at.name, (at.command, at.text)),
    ))
    (Decides-and _ _ (fit_deps-Decides files rank entry.deps) (Decides-and _ _ (name_sizes-Decides entry.name) (Decides-and _ _ (command_sizes-Decides entry.command) (nat_le-Decides (length entry.text) TEXT_LIMIT))))

-- a file with its rank
located_at : (files : List Entry) (rank : ℕ) (d : ℕ × Entry) → rank < length files → get_or (enumerate_from 0 files) rank d ≡ (rank, get_or files rank d.1)
located_at files rank d lt = get_or-enumerate_from 0 files rank d lt ∙ ap (λ (n : ℕ). (n, get_or files rank d.1)) (omega arith)

abbrev AllStand : List Entry → Type 0
AllStand files = (rank : ℕ) (other : Entry) → rank < length files → IsEntryAt files rank (get_or files rank other)

all_stand-Decides : (files : List Entry) → Decides (list_all (λ located. stands files located.0 located.1) (enumerate_from 0 files)) (AllStand files)
all_stand-Decides files =
    let passes : ℕ × Entry → Type 0 = λ located. stands files located.0 located.1 ≡ true in
    Decides-like _
    (λ all rank other lt. (stands-Decides files rank (get_or files rank other) lt).0
    (subst passes (located_at files rank (rank, other) lt) (all rank (rank, other) (omega (arith, length-enumerate_from 0 files)))))
    (λ all rank d l.
    let lt : rank < length files = omega (arith, length-enumerate_from 0 files) in
    subst passes (sym (located_at files rank d lt)) ((stands-Decides files rank (get_or files rank d.1) lt).1 (all rank d.1 lt)))
    (all-Decides (λ located. stands files located.0 located.1) passes (λ located. (λ e. e, λ e. e)) (enumerate_from 0 files))

is_graph-Decides : (files : List Entry) → Decides (is_graph files) (IsGraph files)
unfolding is_graph
is_graph-Decides files =
    Decides-like (is_graph files)
    (λ h. record { few = h.0; distinct = h.1.0; each = h.1.1.0; small = h.1.1.1 })
    (λ valid. (valid.few, (valid.distinct, (valid.each, valid.small))))
    (Decides-and _ _ (nat_le-Decides (length files) FILE_LIMIT)
    (Decides-and _ _
    (all_pairs-Decides (λ entry other. not (is_same_name entry.name other.name)) (λ entry other. entry.name ≢ other.name) (λ entry other. Decides-not _ (same_name-Decides entry.name other.name)) files)
    (Decides-and _ _ (all_stand-Decides files) (nat_le-Decides (sum_by (λ entry. length entry.text) files) GRAPH_TEXT_LIMIT))))

-- what a rank past the end reads
no_file : Entry
no_file = record { name = record { library = []; path = [] }; command = []; text = []; deps = [] }

is_whole-Decides : (files : List Entry) → Decides (is_whole files) (IsView files)
unfolding is_whole
is_whole-Decides files =
    let last : ℕ = length files - 1 in
    Decides-like (is_whole files)
    (λ h. record {
      some = h.0;
      whole = λ n rank other e lt.
          let same : last ≡ n = omega (arith, e) in
          let low : rank < last = omega (arith, same) in
          let at : Contains (found_deps files last) (get_or (range_with_len 0 last) rank 0) = h.1 rank 0 (omega (arith, length-range_with_len 0 last)) in
          let value : get_or (range_with_len 0 last) rank 0 ≡ rank = omega (arith, get_or-range_with_len 0 last rank 0 low) in
          subst (λ (m : ℕ). Contains (get_or files m other).deps rank) same
          (subst (λ (deps : List ℕ). Contains deps rank) (deps_there files last other (omega (arith, h.0))) (subst (Contains (found_deps files last)) value at));
    })
    (λ view. (
      view.some,
      λ rank d l.
          let low : rank < last = omega (arith, length-range_with_len 0 last) in
          let value : get_or (range_with_len 0 last) rank d ≡ rank = omega (arith, get_or-range_with_len 0 last rank d low) in
          let at : Contains (get_or files last no_file).deps rank = view.whole last rank no_file (omega (arith, view.some)) low in
          subst (Contains (found_deps files last)) (sym value) (subst (λ (deps : List ℕ). Contains deps rank) (sym (deps_there files last no_file (omega (arith, view.some)))) at),
    ))
    (Decides-and _ _ (Decides-ltb 0 (length files)) (holds_all-Decides (found_deps files last) (range_with_len 0 last)))

-- files are a view exactly where they pass the test
pub is_view-Decides : (files : List Entry) → Decides (is_view files) (IsGraph files × IsView files)
is_view-Decides files = Decides-and _ _ (is_graph-Decides files) (is_whole-Decides files)
