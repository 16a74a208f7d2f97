-- The view of a file is a graph, and a view within it is the view in the graph.
use Rattle.std.proofs.Common.{◌≡◌, ℕ, ◌+◌, ◌<◌, List, [], ◌∷◌, ◌++◌, length, map, get_or, Some, refl, sym, ap, subst, ◌∙◌, arith, inl, inr}
use Rattle.std.specs.Prelude.{All, Contains, slice_get}
use Rattle.std.specs.List.Sorted.{IsStrictlyIncreasing}
use Rattle.std.proofs.lemmas.Bool.{cases_lt}
use Rattle.std.proofs.lemmas.List.{length-append, length-map, get_or-map, get_or_default, get_or_append_left, get_or_at, map_push}
use Rattle.std.proofs.lemmas.List.Elements.{Contains-append_left, All-contains_itself}
use Rattle.std.proofs.lemmas.Option.{slice_get-get_or}
use Rattle.base.specs.declared.graph.Entry.{Entry}
use Rattle.base.specs.Graphs.{IsGraph}
use Rattle.base.specs.View.{IsView}
use Rattle.base.specs.View.{rank_in, renumbered, part, viewed, view}
use Rattle.project_views.proofs.Numbering.{rank_at, rank_of, rank_within, rank_lower}
use Rattle.project_views.specs.Parts.{IsPart}
use Rattle.project_views.proofs.Parts.{no_entry, map_same, map_map, part_is, length-part, get_or-part, at_rank, part_is_graph}

pub viewed_is : (graph : List Entry) (at : ℕ) (d : Entry) → at < length graph → viewed graph at ≡ (get_or graph at d).deps ++ at ∷ []
unfolding viewed
viewed_is graph at d lt = rw (slice_get-get_or graph at d lt) refl

pub length-viewed : (graph : List Entry) (at : ℕ) (d : Entry) → at < length graph → length (viewed graph at) ≡ length (get_or graph at d).deps + 1
length-viewed graph at d lt = ap length (viewed_is graph at d lt) ∙ length-append (get_or graph at d).deps (at ∷ [])

module _ (graph : List Entry) (at : ℕ) (valid : IsGraph graph) (lt : at < length graph) where
  abbrev deps : List ℕ
  deps = (get_or graph at no_entry).deps

  count : length (deps ++ at ∷ []) ≡ length deps + 1
  count = length-append deps (at ∷ [])

  left : (k d : ℕ) → k < length deps → get_or (deps ++ at ∷ []) k d ≡ get_or deps k d
  left k d l = get_or_append_left deps (at ∷ []) d k l

  last : (k d : ℕ) → length deps ≡ k → get_or (deps ++ at ∷ []) k d ≡ at
  last k d e = get_or_at deps at [] d k e

  rising : IsStrictlyIncreasing (deps ++ at ∷ [])
  rising k l =
      let a : k < length deps = omega (arith, count) in
      elim (cases_lt (k + 1) (length deps)) [
        | inl b ↦ rw (left k 0 a, left (k + 1) 0 b) ((valid.each at no_entry lt).rising k b)
        | inr b ↦ let e : length deps ≡ k + 1 = omega arith in rw (left k 0 a, last (k + 1) 0 e) ((valid.each at no_entry lt).before k 0 a)
      ]

  within : All (λ p. p < length graph) (deps ++ at ∷ [])
  within k d l =
      elim (cases_lt k (length deps)) [
        | inl a ↦ rw (left k d a) (omega (arith, (valid.each at no_entry lt).before k d a))
        | inr a ↦ let e : length deps ≡ k = omega (arith, count) in rw (last k d e) lt
      ]

  closed : All (λ p. (other : Entry) → All (Contains (deps ++ at ∷ [])) (get_or graph p other).deps) (deps ++ at ∷ [])
  closed k d l other =
      elim (cases_lt k (length deps)) [
        | inl a ↦ rw (left k d a) (λ j c m. Contains-append_left deps (at ∷ []) _ ((valid.each at no_entry lt).closed k d a other j c m))
        | inr a ↦ let e : length deps ≡ k = omega (arith, count) in
            rw (last k d e) (rw (get_or_default graph at other no_entry lt) (λ j c m. Contains-append_left deps (at ∷ []) _ (All-contains_itself deps j c m)))
      ]

  pub viewed_is_part : IsPart graph (viewed graph at)
  viewed_is_part = subst (IsPart graph) (sym (viewed_is graph at no_entry lt)) (record { rising = rising; within = within; closed = closed })

  pub view_is_graph : IsGraph (view graph at)
  view_is_graph = part_is_graph graph (viewed graph at) viewed_is_part valid

-- a part of a part is the part of the whole
module _ (graph : List Entry) (outer inner : List ℕ) (is_outer : IsPart graph outer) (is_inner : IsPart graph inner) (held : All (Contains outer) inner) where
  abbrev both : List ℕ
  both = map (rank_in outer) inner

  both_rising : IsStrictlyIncreasing both
  both_rising i l =
      let a : i < length inner = omega (arith, length-map inner (rank_in outer)) in
      let b : i + 1 < length inner = omega (arith, length-map inner (rank_in outer)) in
      rw (get_or-map (rank_in outer) inner i 0 0 a, get_or-map (rank_in outer) inner (i + 1) 0 0 b)
      (rank_lower outer is_outer.rising (get_or inner i 0) (get_or inner (i + 1) 0) (held i 0 a) (held (i + 1) 0 b) (is_inner.rising i b))

  number_twice : (x : ℕ) → Contains inner x → rank_in both (rank_in outer x) ≡ rank_in inner x
  number_twice x in_it =
      let at : get_or both in_it.0 (rank_in outer x) ≡ rank_in outer x = get_or-map (rank_in outer) inner in_it.0 x (rank_in outer x) in_it.1 ∙ ap (rank_in outer) in_it.2 in
      rank_of both both_rising (rank_in outer x) (in_it.0, omega (arith, in_it.1, length-map inner (rank_in outer)), at) ∙ sym (rank_of inner is_inner.rising x in_it)

  renumber_twice : (xs : List ℕ) → All (Contains inner) xs → map (rank_in both) (map (rank_in outer) xs) ≡ map (rank_in inner) xs
  renumber_twice xs in_it =
      map_map (rank_in both) (rank_in outer) xs ∙ map_same (λ x. rank_in both (rank_in outer x)) (rank_in inner) xs 0 (λ k l. number_twice (get_or xs k 0) (in_it k 0 l))

  both_within : (j : ℕ) → j < length both → get_or both j 0 < length (part graph outer)
  both_within j l =
      let a : j < length inner = omega (arith, length-map inner (rank_in outer)) in
      rw (get_or-map (rank_in outer) inner j 0 0 a, length-part graph outer is_outer) (rank_within outer is_outer.rising (get_or inner j 0) (held j 0 a))

  one_file : (k : ℕ) → k < length inner → renumbered both (get_or (part graph outer) (rank_in outer (get_or inner k 0)) no_entry) ≡ renumbered inner (get_or graph (get_or inner k 0) no_entry)
  one_file k l =
      let entry : Entry = get_or graph (get_or inner k 0) no_entry in
      ap (renumbered both) (at_rank graph outer is_outer (get_or inner k 0) no_entry (held k 0 l))
      ∙ ap (λ (ds : List ℕ). record { name = entry.name; command = entry.command; text = entry.text; deps = ds }) (renumber_twice entry.deps (is_inner.closed k 0 l no_entry))

  pub part_of_part : part (part graph outer) both ≡ part graph inner
  part_of_part =
      part_is (part graph outer) both no_entry both_within
      ∙ map_map (λ p. renumbered both (get_or (part graph outer) p no_entry)) (rank_in outer) inner
      ∙ map_same (λ q. renumbered both (get_or (part graph outer) (rank_in outer q) no_entry)) (λ q. renumbered inner (get_or graph q no_entry)) inner 0 one_file
      ∙ sym (part_is graph inner no_entry (λ k l. is_inner.within k 0 l))

-- the view of a file within a view is its view in the graph
module _ (graph : List Entry) (at k : ℕ) (valid : IsGraph graph) (lt : at < length graph) (within_view : k < length (view graph at)) where
  is : IsPart graph (viewed graph at)
  is = viewed_is_part graph at valid lt

  l : k < length (viewed graph at)
  l = omega (arith, within_view, length-part graph (viewed graph at) is)

  abbrev p : ℕ
  p = get_or (viewed graph at) k 0

  p_in : Contains (viewed graph at) p
  p_in = (k, l, get_or_default (viewed graph at) k p 0 l)

  abbrev entry : Entry
  entry = get_or graph p no_entry

  held : All (Contains (viewed graph at)) (entry.deps ++ p ∷ [])
  held j c m =
      elim (cases_lt j (length entry.deps)) [
        | inl a ↦ rw (get_or_append_left entry.deps (p ∷ []) c j a) (is.closed k 0 l no_entry j c a)
        | inr a ↦ let e : length entry.deps ≡ j = omega (arith, length-append entry.deps (p ∷ [])) in rw (get_or_at entry.deps p [] c j e) p_in
      ]

  same_positions : viewed (view graph at) k ≡ map (rank_in (viewed graph at)) (viewed graph p)
  same_positions =
      viewed_is (view graph at) k no_entry within_view
      ∙ ap (λ (e : Entry). e.deps ++ k ∷ []) (get_or-part graph (viewed graph at) is k no_entry l)
      ∙ ap (λ (n : ℕ). map (rank_in (viewed graph at)) entry.deps ++ n ∷ []) (sym (rank_at (viewed graph at) is.rising k 0 l))
      ∙ sym (map_push (rank_in (viewed graph at)) entry.deps p)
      ∙ ap (map (rank_in (viewed graph at))) (sym (viewed_is graph p no_entry (is.within k 0 l)))

  pub view_of_view : view (view graph at) k ≡ view graph p
  view_of_view =
      let q_held : All (Contains (viewed graph at)) (viewed graph p) = subst (All (Contains (viewed graph at))) (sym (viewed_is graph p no_entry (is.within k 0 l))) held in
      ap (part (view graph at)) same_positions
      ∙ part_of_part graph (viewed graph at) (viewed graph p) is (viewed_is_part graph p valid (is.within k 0 l)) q_held

-- the view of the last file within a view
module _ (graph : List Entry) (at last : ℕ) (valid : IsGraph graph) (lt : at < length graph) (is_last : last + 1 ≡ length (view graph at)) where
  abbrev inner_deps : List ℕ
  inner_deps = (get_or graph at no_entry).deps

  at_last : get_or (viewed graph at) last 0 ≡ at
  at_last =
      let e : length inner_deps ≡ last = omega (arith, is_last, length-part graph (viewed graph at) (viewed_is_part graph at valid lt), length-viewed graph at no_entry lt) in
      ap (λ (ps : List ℕ). get_or ps last 0) (viewed_is graph at no_entry lt) ∙ get_or_at inner_deps at [] 0 last e

module _ (graph : List Entry) (at : ℕ) (valid : IsGraph graph) (lt : at < length graph) where
  abbrev own_deps : List ℕ
  own_deps = (get_or graph at no_entry).deps

  is_part : IsPart graph (viewed graph at)
  is_part = viewed_is_part graph at valid lt

  -- the dependencies of the last file of a view, by their numbers
  number_at : (last rank : ℕ) (other : Entry) → last + 1 ≡ length (view graph at) → rank < last → Contains (get_or (view graph at) last other).deps rank
  number_at last rank other is_last low =
      let count : length own_deps ≡ last = omega (arith, is_last, length-part graph (viewed graph at) is_part, length-viewed graph at no_entry lt) in
      let l : last < length (viewed graph at) = omega (arith, is_last, length-part graph (viewed graph at) is_part) in
      let here : get_or (view graph at) last other ≡ renumbered (viewed graph at) (get_or graph at no_entry) =
      get_or-part graph (viewed graph at) is_part last other l ∙ ap (λ (n : ℕ). renumbered (viewed graph at) (get_or graph n other)) (at_last graph at last valid lt is_last) ∙ ap (renumbered (viewed graph at)) (get_or_default graph at other no_entry lt) in
      let a : rank < length own_deps = omega arith in
      let position : get_or own_deps rank 0 ≡ get_or (viewed graph at) rank 0 = sym (ap (λ (ps : List ℕ). get_or ps rank 0) (viewed_is graph at no_entry lt) ∙ get_or_append_left own_deps (at ∷ []) 0 rank a) in
      subst (λ (e : Entry). Contains e.deps rank) (sym here)
      (rank, omega (arith, length-map own_deps (rank_in (viewed graph at))), get_or-map (rank_in (viewed graph at)) own_deps rank 0 rank a ∙ ap (rank_in (viewed graph at)) position ∙ rank_at (viewed graph at) is_part.rising rank 0 (omega arith))

  pub view_is_whole : IsView (view graph at)
  view_is_whole = record { some = omega (arith, length-part graph (viewed graph at) is_part, length-viewed graph at no_entry lt); whole = number_at }

-- the positions of a view, as the code makes them
pub viewed_of : (graph : List Entry) (at : ℕ) (entry : Entry) → slice_get graph at ≡ Some entry → viewed graph at ≡ entry.deps ++ at ∷ []
unfolding viewed
viewed_of graph at entry found = rw found refl
