-- A new file unfolds to a graph exactly if it fits the files that it depends on.
use Rattle.std.proofs.Common.{◌≡◌, ℕ, suc, ◌+◌, ◌<◌, eqb, List, [], ◌∷◌, ◌++◌, length, map, get_or, refl, sym, ap, subst, ◌∙◌, arith, inl, inr, length-append}
use Rattle.std.specs.Prelude.{All, Contains, sum_by}
use Rattle.std.specs.List.Sorted.{IsStrictlyIncreasing}
use Rattle.std.proofs.lemmas.Bool.{cases_lt}
use Rattle.std.proofs.lemmas.List.{get_or-map, get_or_append_left, get_or_at, get_or_default, length-map}
use Rattle.std.proofs.lemmas.List.Sums.{fails_before_first, passes_at_first, position_or_len_is, sum_by-cons, sum_by_push}
use Rattle.base.specs.declared.graph.Entry.{Entry}
use Rattle.base.specs.Graphs.{IsEntryAt, IsGraph}
use Rattle.base.specs.View.{IsView, part, rank_in, renumbered, view, viewed}
use Rattle.store_form_2.proofs.StandingRows.{is_whole}
use Rattle.project_views.proofs.Parts.{map_same, no_entry, part_is}
use Rattle.project_views.proofs.Rising.{before_later}
use Rattle.project_views.proofs.ViewLaws.{viewed_is}
use Rattle.store_form_2.specs.Fitting.{FitsNew, IsListed}
use Rattle.store_form_2.specs.Nodes.{AreOnce}
use Rattle.store_form_2.proofs.Closed.{IsClosed, Unfolds, file_of_part, found_at, length-closed, rank_at}

-- a number among the first of a list has the same rank where more follow
rank_front : (xs more : List ℕ) (x : ℕ) → rank_in xs x < length xs → rank_in (xs ++ more) x ≡ rank_in xs x
rank_front xs more x lt =
    let i : ℕ = rank_in xs x in
    let test = λ (other : ℕ). eqb other x in
    position_or_len_is test (xs ++ more) i 0 (omega (arith, length-append xs more))
    (λ k l. rw (get_or_append_left xs more 0 k (omega arith)) (fails_before_first test xs k 0 l))
    (λ l. rw (get_or_append_left xs more 0 i lt) (passes_at_first test xs 0 lt))

-- and one that is found before a bound among the first
rank_back : (xs more : List ℕ) (x : ℕ) → rank_in (xs ++ more) x < length xs → rank_in xs x ≡ rank_in (xs ++ more) x
rank_back xs more x lt =
    let i : ℕ = rank_in (xs ++ more) x in
    let test = λ (other : ℕ). eqb other x in
    let longer : i < length (xs ++ more) = omega (arith, length-append xs more) in
    position_or_len_is test xs i 0 (omega arith)
    (λ k l. rw (← get_or_append_left xs more 0 k (omega arith)) (fails_before_first test (xs ++ more) k 0 l))
    (λ l. rw (← get_or_append_left xs more 0 i lt) (passes_at_first test (xs ++ more) 0 longer))

sum_of_map : {X Y : Type 0} (f : Y → ℕ) (g : X → Y) (xs : List X) → sum_by f (map g xs) ≡ sum_by (λ x. f (g x)) xs
sum_of_map f g [] = refl
sum_of_map f g (x ∷ xs) = sum_by-cons f (g x) (map g xs) ∙ ap (λ (n : ℕ). f (g x) + n) (sum_of_map f g xs) ∙ sym (sum_by-cons (λ x. f (g x)) x xs)

pub sum_alike : (f g : ℕ → ℕ) (xs : List ℕ) → ((k : ℕ) → k < length xs → f (get_or xs k 0) ≡ g (get_or xs k 0)) → sum_by f xs ≡ sum_by g xs
sum_alike f g [] same = refl
sum_alike f g (x ∷ xs) same = omega (arith, sum_by-cons f x xs, sum_by-cons g x xs, same 0 (omega arith), sum_alike f g xs (λ k l. same (suc k) (omega arith)))

-- ranks of the same numbers
same_by_rank : (f g : ℕ → ℕ) (xs : List ℕ) → ((j : ℕ) → j < length xs → f (get_or xs j 0) ≡ g (get_or xs j 0)) → map f xs ≡ map g xs
same_by_rank f g xs same = map_same f g xs 0 same

-- what holds numbers holds their ranks
holds_ranks : (f : ℕ → ℕ) (holder xs : List ℕ) → All (Contains holder) xs → All (Contains (map f holder)) (map f xs)
holds_ranks f holder xs holds j d m =
    let l : j < length xs = omega (arith, length-map xs f) in
    let held = holds j 0 l in
    let here : get_or (map f xs) j d ≡ f (get_or xs j 0) = get_or-map f xs j 0 d l in
    subst (Contains (map f holder)) (sym here)
    (held.0, omega (arith, held.1, length-map holder f), get_or-map f holder held.0 (get_or xs j 0) (f (get_or xs j 0)) held.1 ∙ ap f held.2)

module _ (files : List Entry) (entry : Entry) (unfolds : Unfolds files (length files)) (graphs : (p : ℕ) → p < length files → IsGraph (view files p)) (there : All (λ dep. dep < length files) entry.deps) where
  abbrev n : ℕ
  n = length files

  abbrev all : List Entry
  all = files ++ entry ∷ []

  abbrev deps : List ℕ
  deps = entry.deps

  abbrev positions : List ℕ
  positions = deps ++ n ∷ []

  abbrev file : ℕ → Entry
  file k = get_or files (get_or deps k 0) no_entry

  n_low : n < length all
  n_low = omega (arith, length-append files (entry ∷ []))

  own : get_or all n no_entry ≡ entry
  own = get_or_at files entry [] no_entry n refl

  viewed_new : viewed all n ≡ positions
  viewed_new = viewed_is all n no_entry n_low ∙ ap (λ (e : Entry). e.deps ++ n ∷ []) own

  size : length positions ≡ length deps + 1
  size = length-append deps (n ∷ [])

  inner : (k : ℕ) → k < length deps → get_or positions k 0 ≡ get_or deps k 0
  inner k l = get_or_append_left deps (n ∷ []) 0 k l

  last : (k : ℕ) → length deps ≡ k → get_or positions k 0 ≡ n
  last k e = get_or_at deps n [] 0 k e

  low : (k : ℕ) → k < length deps → get_or deps k 0 < n
  low k l = there k 0 l

  within : (k : ℕ) → k < length positions → get_or positions k 0 < length all
  within k l =
      elim (cases_lt k (length deps)) [
        | inl a ↦ omega (arith, inner k a, low k a, n_low)
        | inr a ↦ let e : length deps ≡ k = omega (arith, size) in omega (arith, last k e, n_low)
      ]

  view_is : view all n ≡ map (λ p. renumbered positions (get_or all p no_entry)) positions
  view_is = ap (part all) viewed_new ∙ part_is all positions no_entry within

  count : length (view all n) ≡ length deps + 1
  count = ap length view_is ∙ length-map positions (λ p. renumbered positions (get_or all p no_entry)) ∙ size

  at_position : (k : ℕ) → k < length positions → get_or (view all n) k no_entry ≡ renumbered positions (get_or all (get_or positions k 0) no_entry)
  at_position k l = ap (λ (es : List Entry). get_or es k no_entry) view_is ∙ get_or-map (λ p. renumbered positions (get_or all p no_entry)) positions k 0 no_entry l

  -- the files of the view
  inner_file : (k : ℕ) → k < length deps → get_or (view all n) k no_entry ≡ renumbered positions (file k)
  inner_file k l =
      at_position k (omega (arith, size))
      ∙ ap (λ (p : ℕ). renumbered positions (get_or all p no_entry)) (inner k l)
      ∙ ap (renumbered positions) (get_or_append_left files (entry ∷ []) no_entry (get_or deps k 0) (low k l))

  last_file : get_or (view all n) (length deps) no_entry ≡ renumbered positions entry
  last_file =
      at_position (length deps) (omega (arith, size))
      ∙ ap (λ (p : ℕ). renumbered positions (get_or all p no_entry)) (last (length deps) refl)
      ∙ ap (renumbered positions) own

  -- each file is an entry at the last rank of its own view
  own_entry : (p : ℕ) → p < n → IsEntryAt (view files p) (length (get_or files p no_entry).deps) (renumbered (viewed files p) (get_or files p no_entry))
  own_entry p l =
      let inside : List ℕ = (get_or files p no_entry).deps in
      let is = unfolds.closed p l in
      let size_p : length (viewed files p) ≡ length inside + 1 = ap length (viewed_is files p no_entry l) ∙ length-append inside (p ∷ []) in
      let k_low : length inside < length (viewed files p) = omega (arith, size_p) in
      let position : get_or (viewed files p) (length inside) 0 ≡ p = ap (λ (ps : List ℕ). get_or ps (length inside) 0) (viewed_is files p no_entry l) ∙ get_or_at inside p [] 0 (length inside) refl in
      let file_is : get_or (view files p) (length inside) no_entry ≡ renumbered (viewed files p) (get_or files p no_entry) = file_of_part files (viewed files p) is (length inside) k_low ∙ ap (λ (q : ℕ). renumbered (viewed files p) (get_or files q no_entry)) position in
      subst (IsEntryAt (view files p) (length inside)) file_is ((graphs p l).each (length inside) no_entry (omega (arith, length-closed files (viewed files p) is, size_p)))

  -- its dependencies have theirs
  held : (p j d : ℕ) → p < n → j < length (get_or files p no_entry).deps → All (Contains (get_or files p no_entry).deps) (get_or files (get_or (get_or files p no_entry).deps j d) no_entry).deps
  held p j d l m i c k =
      let inside : List ℕ = (get_or files p no_entry).deps in
      let x : ℕ = get_or inside j 0 in
      let x_is : get_or inside j d ≡ x = get_or_default inside j d 0 m in
      let is = subst (IsClosed files) (viewed_is files p no_entry l) (unfolds.closed p l) in
      let size_p : length (inside ++ p ∷ []) ≡ length inside + 1 = length-append inside (p ∷ []) in
      let x_there : get_or (inside ++ p ∷ []) j 0 ≡ x = get_or_append_left inside (p ∷ []) 0 j m in
      let outer : List ℕ = (get_or files (get_or inside j d) no_entry).deps in
      let same : outer ≡ (get_or files x no_entry).deps = ap (λ (q : ℕ). (get_or files q no_entry).deps) x_is in
      let k_same : i < length (get_or files x no_entry).deps = omega (arith, ap length same, k) in
      let y : ℕ = get_or (get_or files x no_entry).deps i c in
      let in_all : Contains (inside ++ p ∷ []) y = subst (λ (q : ℕ). All (Contains (inside ++ p ∷ [])) (get_or files q no_entry).deps) x_there (is.closed j (omega (arith, size_p))) i c k_same in
      let x_low : x < p = unfolds.below p l j 0 m in
      let y_low : y < x = unfolds.below x (omega (arith, x_low, l)) i c k_same in
      let index : in_all.0 < length inside = elim (cases_lt in_all.0 (length inside)) [
        | inl a ↦ a
        | inr a ↦ let e : length inside ≡ in_all.0 = omega (arith, size_p, in_all.1) in absurd (omega (arith, get_or_at inside p [] y in_all.0 e, in_all.2, x_low, y_low))
      ] in
      let here : Contains inside y = (in_all.0, index, sym (get_or_append_left inside (p ∷ []) y in_all.0 index) ∙ in_all.2) in
      subst (λ (ds : List ℕ). Contains inside (get_or ds i c)) (sym same) here

  sum_is : sum_by (λ (e : Entry). length e.text) (view all n) ≡ sum_by (λ p. length (get_or files p no_entry).text) deps + length entry.text
  sum_is =
      let f = λ (e : Entry). length e.text in
      let g = λ (p : ℕ). renumbered positions (get_or all p no_entry) in
      let h = λ (p : ℕ). length (get_or all p no_entry).text in
      let whole : sum_by f (view all n) ≡ sum_by h deps + h n = ap (sum_by f) view_is ∙ sum_of_map f g positions ∙ sum_by_push h deps n in
      let inner_sum : sum_by h deps ≡ sum_by (λ p. length (get_or files p no_entry).text) deps =
      sum_alike h (λ p. length (get_or files p no_entry).text) deps (λ k l. ap (λ (e : Entry). length e.text) (get_or_append_left files (entry ∷ []) no_entry (get_or deps k 0) (low k l))) in
      omega (arith, whole, inner_sum, ap (λ (e : Entry). length e.text) own)

  module _ (fits : FitsNew files entry no_entry) where
    once_deps : (i j : ℕ) → i < length deps → j < length deps → get_or deps i 0 ≡ get_or deps j 0 → i ≡ j
    once_deps i j l m e =
        let names : (file i).name ≡ (file j).name = ap (λ (p : ℕ). (get_or files p no_entry).name) e in
        elim (cases_lt i j) [
          | inl a ↦ absurd (fits.names i j a m names)
          | inr a ↦ elim (cases_lt j i) [
            | inl b ↦ absurd (fits.names j i b l (sym names))
            | inr b ↦ omega arith
          ]
        ]

    once : AreOnce positions
    once i j d l m e =
        let equal : get_or positions i 0 ≡ get_or positions j 0 = get_or_default positions i 0 d l ∙ e ∙ get_or_default positions j d 0 m in
        elim (cases_lt i (length deps)) [
          | inl a ↦ elim (cases_lt j (length deps)) [
            | inl b ↦ once_deps i j a b (sym (inner i a) ∙ equal ∙ inner j b)
            | inr b ↦ let end : length deps ≡ j = omega (arith, size) in absurd (omega (arith, low i a, inner i a, equal, last j end))
          ]
          | inr a ↦ let end : length deps ≡ i = omega (arith, size) in
              elim (cases_lt j (length deps)) [
                | inl b ↦ absurd (omega (arith, low j b, inner j b, equal, last i end))
                | inr b ↦ omega (arith, size)
              ]
        ]

    own_rank : (i : ℕ) → i < length deps → rank_in positions (get_or deps i 0) ≡ i
    own_rank i l = ap (rank_in positions) (sym (inner i l)) ∙ rank_at positions once i (omega (arith, size))

    -- ranks among all are those among the dependencies
    ranks_are : (k : ℕ) → k < length deps → map (rank_in positions) (file k).deps ≡ map (rank_in deps) (file k).deps
    ranks_are k l = same_by_rank (rank_in positions) (rank_in deps) (file k).deps (λ j m.
        let before = (fits.listed k l).before j 0 (omega (arith, length-map (file k).deps (rank_in deps))) in
        let rank : rank_in deps (get_or (file k).deps j 0) < k = subst (λ (x : ℕ). x < k) (get_or-map (rank_in deps) (file k).deps j 0 0 m) before in
        rank_front deps (n ∷ []) (get_or (file k).deps j 0) (omega (arith, rank)))

    entry_fits : (k : ℕ) → k < length deps → IsEntryAt (view all n) k (renumbered positions (file k))
    entry_fits k l =
        let p : ℕ = get_or deps k 0 in
        let inside : List ℕ = (file k).deps in
        let ranks : List ℕ = map (rank_in positions) inside in
        let before : All (λ dep. dep < k) ranks = subst (All (λ dep. dep < k)) (sym (ranks_are k l)) (fits.listed k l).before in
        let known = own_entry p (low k l) in
        record {
          rising = subst IsStrictlyIncreasing (sym (ranks_are k l)) (fits.listed k l).rising;
          before = before;
          closed = λ j d m other.
              let m_in : j < length inside = omega (arith, length-map inside (rank_in positions)) in
              let x : ℕ = get_or inside j 0 in
              let rank : ℕ = rank_in positions x in
              let rank_is : get_or ranks j d ≡ rank = get_or-map (rank_in positions) inside j 0 d m_in in
              let rank_low : rank < k = omega (arith, before j d m, rank_is) in
              let rank_deps : rank < length deps = omega arith in
              let dep_is : get_or deps rank 0 ≡ x = sym (inner rank rank_deps) ∙ found_at positions x (omega (arith, size)) in
              let entry_is : get_or (view all n) rank other ≡ renumbered positions (get_or files x no_entry) =
              get_or_default (view all n) rank other no_entry (omega (arith, count)) ∙ inner_file rank rank_deps ∙ ap (λ (q : ℕ). renumbered positions (get_or files q no_entry)) dep_is in
              let holds : All (Contains inside) (get_or files x no_entry).deps = held p j 0 (low k l) m_in in
              subst (λ (q : ℕ). All (Contains ranks) (get_or (view all n) q other).deps) (sym rank_is)
              (subst (λ (e : Entry). All (Contains ranks) e.deps) (sym entry_is) (holds_ranks (rank_in positions) inside (get_or files x no_entry).deps holds));
          name = known.name;
          command = known.command;
          text = known.text;
        }

    entry_last : IsEntryAt (view all n) (length deps) (renumbered positions entry)
    entry_last =
        let ranks : List ℕ = map (rank_in positions) deps in
        let rank : (i d : ℕ) → i < length deps → get_or ranks i d ≡ i = λ i d l. get_or-map (rank_in positions) deps i 0 d l ∙ own_rank i l in
        let every : (q : ℕ) → q < length deps → Contains ranks q = λ q l. (q, omega (arith, length-map deps (rank_in positions)), rank q q l) in
        record {
          rising = λ i l.
              let b : i + 1 < length deps = omega (arith, length-map deps (rank_in positions)) in
              omega (arith, rank i 0 (omega arith), rank (i + 1) 0 b);
          before = λ i d l. let b : i < length deps = omega (arith, length-map deps (rank_in positions)) in omega (arith, rank i d b);
          closed = λ i d l other.
              let b : i < length deps = omega (arith, length-map deps (rank_in positions)) in
              let entry_is : get_or (view all n) i other ≡ renumbered positions (file i) = get_or_default (view all n) i other no_entry (omega (arith, count)) ∙ inner_file i b in
              subst (λ (q : ℕ). All (Contains ranks) (get_or (view all n) q other).deps) (sym (rank i d b))
              (subst (λ (e : Entry). All (Contains ranks) e.deps) (sym entry_is) (λ j c m.
              every (get_or (map (rank_in positions) (file i).deps) j c) (omega (arith, (entry_fits i b).before j c m))));
          name = fits.name;
          command = fits.command;
          text = fits.text;
        }

    pub fits_graph : IsGraph (view all n)
    fits_graph = record {
      few = omega (arith, count, fits.few);
      distinct = λ i j d a b.
          let i_low : i < length deps = omega (arith, count) in
          let left : get_or (view all n) i d ≡ renumbered positions (file i) = get_or_default (view all n) i d no_entry (omega (arith, count)) ∙ inner_file i i_low in
          elim (cases_lt j (length deps)) [
            | inl c ↦ let right : get_or (view all n) j d ≡ renumbered positions (file j) = get_or_default (view all n) j d no_entry b ∙ inner_file j c in
                λ e. fits.names i j a c (sym (ap (λ (x : Entry). x.name) left) ∙ e ∙ ap (λ (x : Entry). x.name) right)
            | inr c ↦ let end : j ≡ length deps = omega (arith, count) in
                let right : get_or (view all n) j d ≡ renumbered positions entry = get_or_default (view all n) j d no_entry b ∙ ap (λ (k : ℕ). get_or (view all n) k no_entry) end ∙ last_file in
                λ e. fits.own_name i i_low (sym (ap (λ (x : Entry). x.name) left) ∙ e ∙ ap (λ (x : Entry). x.name) right)
          ];
      each = λ k d l.
          elim (cases_lt k (length deps)) [
            | inl c ↦ subst (IsEntryAt (view all n) k) (sym (get_or_default (view all n) k d no_entry l ∙ inner_file k c)) (entry_fits k c)
            | inr c ↦ let end : k ≡ length deps = omega (arith, count) in
                subst (λ (q : ℕ). IsEntryAt (view all n) q (get_or (view all n) q d)) (sym end)
                (subst (IsEntryAt (view all n) (length deps)) (sym (get_or_default (view all n) (length deps) d no_entry (omega (arith, count)) ∙ last_file)) entry_last)
          ];
      small = omega (arith, sum_is, fits.small);
    }

  module _ (valid : IsGraph (view all n)) where
    pub graph_whole : IsView (view all n)
    graph_whole =
        let low : length deps < length (view all n) = omega (arith, count) in
        is_whole (view all n) (length deps) (renumbered positions entry) (omega (arith, count))
        (sym (get_or_default (view all n) (length deps) (renumbered positions entry) no_entry low ∙ last_file))
        (λ rank l other. valid.each rank other l) (length-map deps (rank_in positions))

    name_at : (k : ℕ) → k < length deps → (get_or (view all n) k no_entry).name ≡ (file k).name
    name_at k l = ap (λ (e : Entry). e.name) (inner_file k l)

    own_entry_at : IsEntryAt (view all n) (length deps) (renumbered positions entry)
    own_entry_at = subst (IsEntryAt (view all n) (length deps)) last_file (valid.each (length deps) no_entry (omega (arith, count)))

    listed_at : (k : ℕ) → k < length deps → IsListed deps k (file k).deps
    listed_at k l =
        let at : IsEntryAt (view all n) k (renumbered positions (file k)) = subst (IsEntryAt (view all n) k) (inner_file k l) (valid.each k no_entry (omega (arith, count))) in
        let same : map (rank_in deps) (file k).deps ≡ map (rank_in positions) (file k).deps = same_by_rank (rank_in deps) (rank_in positions) (file k).deps (λ j m.
        let before = at.before j 0 (omega (arith, length-map (file k).deps (rank_in positions))) in
        let rank : rank_in positions (get_or (file k).deps j 0) < k = subst (λ (x : ℕ). x < k) (get_or-map (rank_in positions) (file k).deps j 0 0 m) before in
        rank_back deps (n ∷ []) (get_or (file k).deps j 0) (omega (arith, rank))) in
        record {
          rising = subst IsStrictlyIncreasing (sym same) at.rising;
          before = subst (All (λ rank. rank < k)) (sym same) at.before;
        }

    pub graph_fits : FitsNew files entry no_entry
    graph_fits = record {
      few = omega (arith, count, valid.few);
      names = λ i j a b e. valid.distinct i j no_entry a (omega (arith, count)) (name_at i (omega arith) ∙ e ∙ sym (name_at j b));
      own_name = λ i l e. valid.distinct i (length deps) no_entry l (omega (arith, count)) (name_at i l ∙ e ∙ sym (ap (λ (x : Entry). x.name) last_file));
      listed = listed_at;
      name = own_entry_at.name;
      command = own_entry_at.command;
      text = own_entry_at.text;
      small = omega (arith, sum_is, valid.small);
    }

-- A dependency that a listed one lists is listed.
module _ (files : List Entry) (deps : List ℕ) (unfolds : Unfolds files (length files)) (graphs : (p : ℕ) → p < length files → IsGraph (view files p)) (there : All (λ dep. dep < length files) deps) (once : AreOnce deps) (k j : ℕ) (lj : j < length deps) (lk : k < length deps) (listed : IsListed deps j (get_or files (get_or deps j 0) no_entry).deps) (in_it : Contains (get_or files (get_or deps j 0) no_entry).deps (get_or deps k 0)) where
  abbrev p : ℕ
  p = get_or deps j 0

  abbrev inside : List ℕ
  inside = (get_or files p no_entry).deps

  abbrev outer : List ℕ
  outer = inside ++ p ∷ []

  abbrev q : ℕ
  q = get_or deps k 0

  abbrev inner_deps : List ℕ
  inner_deps = (get_or files q no_entry).deps

  p_low : p < length files
  p_low = there j 0 lj

  is : IsClosed files outer
  is = subst (IsClosed files) (viewed_is files p no_entry p_low) (unfolds.closed p p_low)

  view_p : view files p ≡ part files outer
  view_p = ap (part files) (viewed_is files p no_entry p_low)

  i_low : in_it.0 < length outer
  i_low = omega (arith, in_it.1, length-append inside (p ∷ []))

  q_at : get_or outer in_it.0 0 ≡ q
  q_at = get_or_append_left inside (p ∷ []) 0 in_it.0 in_it.1 ∙ get_or_default inside in_it.0 0 q in_it.1 ∙ in_it.2

  at : IsEntryAt (view files p) in_it.0 (renumbered outer (get_or files q no_entry))
  at =
      let file_is : get_or (view files p) in_it.0 no_entry ≡ renumbered outer (get_or files q no_entry) =
      ap (λ (es : List Entry). get_or es in_it.0 no_entry) view_p ∙ file_of_part files outer is in_it.0 i_low ∙ ap (λ (r : ℕ). renumbered outer (get_or files r no_entry)) q_at in
      subst (IsEntryAt (view files p) in_it.0) file_is ((graphs p p_low).each in_it.0 no_entry (omega (arith, ap length view_p, length-closed files outer is, i_low)))

  -- where a number of the inner list is in the list between
  index : (m : ℕ) → m < length inner_deps → rank_in outer (get_or inner_deps m 0) < in_it.0
  index m l = subst (λ (x : ℕ). x < in_it.0) (get_or-map (rank_in outer) inner_deps m 0 0 l) (at.before m 0 (omega (arith, length-map inner_deps (rank_in outer))))

  between : (m : ℕ) → m < length inner_deps → get_or inside (rank_in outer (get_or inner_deps m 0)) 0 ≡ get_or inner_deps m 0
  between m l =
      let x : ℕ = get_or inner_deps m 0 in
      let low : rank_in outer x < length inside = omega (arith, index m l, in_it.1) in
      sym (get_or_append_left inside (p ∷ []) 0 (rank_in outer x) low) ∙ found_at outer x (omega (arith, index m l, i_low))

  abbrev rank_of_inside : ℕ → ℕ
  rank_of_inside a = rank_in deps (get_or inside a 0)

  rises : (a b : ℕ) → a < b → b < length inside → rank_of_inside a < rank_of_inside b
  rises a b low l =
      let less = before_later (map (rank_in deps) inside) listed.rising a b low (omega (arith, length-map inside (rank_in deps))) in
      rw (← get_or-map (rank_in deps) inside a 0 0 (omega arith), ← get_or-map (rank_in deps) inside b 0 0 l) less

  rank_is : (m : ℕ) → m < length inner_deps → rank_in deps (get_or inner_deps m 0) ≡ rank_of_inside (rank_in outer (get_or inner_deps m 0))
  rank_is m l = ap (rank_in deps) (sym (between m l))

  k_is : rank_of_inside in_it.0 ≡ k
  k_is = ap (rank_in deps) (get_or_default inside in_it.0 0 q in_it.1 ∙ in_it.2) ∙ rank_at deps once k lk

  pub listed_through : IsListed deps k inner_deps
  listed_through = record {
    rising = λ m l.
        let a : m < length inner_deps = omega (arith, length-map inner_deps (rank_in deps)) in
        let b : m + 1 < length inner_deps = omega (arith, length-map inner_deps (rank_in deps)) in
        let inner_rising = at.rising m (omega (arith, length-map inner_deps (rank_in outer))) in
        let less : rank_in outer (get_or inner_deps m 0) < rank_in outer (get_or inner_deps (m + 1) 0) =
        rw (← get_or-map (rank_in outer) inner_deps m 0 0 a, ← get_or-map (rank_in outer) inner_deps (m + 1) 0 0 b) inner_rising in
        rw (get_or-map (rank_in deps) inner_deps m 0 0 a, get_or-map (rank_in deps) inner_deps (m + 1) 0 0 b, rank_is m a, rank_is (m + 1) b)
        (rises (rank_in outer (get_or inner_deps m 0)) (rank_in outer (get_or inner_deps (m + 1) 0)) less (omega (arith, index (m + 1) b, in_it.1)));
    before = λ m d l.
        let a : m < length inner_deps = omega (arith, length-map inner_deps (rank_in deps)) in
        let low = rises (rank_in outer (get_or inner_deps m 0)) in_it.0 (index m a) in_it.1 in
        omega (arith, get_or-map (rank_in deps) inner_deps m 0 d a, rank_is m a, low, k_is);
  }
