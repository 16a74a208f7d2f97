-- Positions of files that depend on each other alone, each once, in any order; and parts of parts.
use Rattle.std.proofs.Common.{◌≡◌, ℕ, ◌+◌, ◌<◌, ◌≤◌, eqb, List, [], ◌∷◌, ◌++◌, length, map, get_or, refl, sym, ap, subst, ◌∙◌, arith, inl, inr, length-append}
use Rattle.std.specs.Prelude.{All, Contains}
use Rattle.std.proofs.lemmas.Bool.{cases_lt, eq-eqb, eqb-true, ne_eqb}
use Rattle.std.proofs.lemmas.List.{get_or-map, get_or_append_left, get_or_at, get_or_default, length-map, map_push}
use Rattle.std.proofs.lemmas.List.Sums.{passes_at_first, position_or_len_is}
use Rattle.base.specs.declared.graph.Entry.{Entry}
use Rattle.base.specs.View.{part, rank_in, renumbered, view, viewed}
use Rattle.project_views.proofs.Parts.{map_map, map_same, no_entry, part_is}
use Rattle.project_views.proofs.ViewLaws.{viewed_is}
use Rattle.store_form_2.specs.Nodes.{AreOnce}

-- the number of each position, where each is there once
module _ (positions : List ℕ) (once : AreOnce positions) where
  pub rank_at : (k : ℕ) → k < length positions → rank_in positions (get_or positions k 0) ≡ k
  rank_at k lt =
      position_or_len_is (λ other. eqb other (get_or positions k 0)) positions k 0 (omega arith)
      (λ j low. ne_eqb (get_or positions j 0) (get_or positions k 0) (λ e. let same : j ≡ k = once j k 0 (omega arith) lt e in omega arith))
      (λ l. eq-eqb (get_or positions k 0) (get_or positions k 0) refl)

  pub rank_of : (x : ℕ) (in_it : Contains positions x) → rank_in positions x ≡ in_it.0
  rank_of x in_it = ap (rank_in positions) (sym (get_or_default positions in_it.0 0 x in_it.1 ∙ in_it.2)) ∙ rank_at in_it.0 in_it.1

  pub get_or-rank : (x : ℕ) → Contains positions x → get_or positions (rank_in positions x) 0 ≡ x
  get_or-rank x in_it = ap (λ (k : ℕ). get_or positions k 0) (rank_of x in_it) ∙ get_or_default positions in_it.0 0 x in_it.1 ∙ in_it.2

-- a position whose number is one is there
pub found : (positions : List ℕ) (x : ℕ) → rank_in positions x < length positions → Contains positions x
found positions x lt =
    let passes = passes_at_first (λ other. eqb other x) positions x lt in
    (rank_in positions x, lt, eqb-true (get_or positions (rank_in positions x) x) x passes)

pub found_at : (positions : List ℕ) (x : ℕ) → rank_in positions x < length positions → get_or positions (rank_in positions x) 0 ≡ x
found_at positions x lt = eqb-true (get_or positions (rank_in positions x) 0) x (passes_at_first (λ other. eqb other x) positions 0 lt)

-- Positions of files, each once, that depend on each other alone.
pub record IsClosed (files : List Entry) (positions : List ℕ) : Type 0 where
  pub once : AreOnce positions
  pub within : (k : ℕ) → k < length positions → get_or positions k 0 < length files
  pub closed : (k : ℕ) → k < length positions → All (Contains positions) (get_or files (get_or positions k 0) no_entry).deps

module _ (files : List Entry) (positions : List ℕ) (is : IsClosed files positions) where
  pub length-closed : length (part files positions) ≡ length positions
  length-closed = ap length (part_is files positions no_entry is.within) ∙ length-map positions (λ p. renumbered positions (get_or files p no_entry))

  pub file_of_part : (k : ℕ) → k < length positions → get_or (part files positions) k no_entry ≡ renumbered positions (get_or files (get_or positions k 0) no_entry)
  file_of_part k lt = ap (λ (es : List Entry). get_or es k no_entry) (part_is files positions no_entry is.within) ∙ get_or-map (λ p. renumbered positions (get_or files p no_entry)) positions k 0 no_entry lt

-- a part of a part is the part of the whole
module _ (files : List Entry) (outer inner : List ℕ) (is_outer : IsClosed files outer) (is_inner : IsClosed files inner) (held : All (Contains outer) inner) where
  abbrev both : List ℕ
  both = map (rank_in outer) inner

  both_at : (k : ℕ) → k < length inner → get_or both k 0 ≡ rank_in outer (get_or inner k 0)
  both_at k lt = get_or-map (rank_in outer) inner k 0 0 lt

  both_once : AreOnce both
  both_once i j other l m e =
      let a : i < length inner = omega (arith, length-map inner (rank_in outer)) in
      let b : j < length inner = omega (arith, length-map inner (rank_in outer)) in
      let same : rank_in outer (get_or inner i 0) ≡ rank_in outer (get_or inner j 0) = sym (both_at i a) ∙ get_or_default both i 0 other l ∙ e ∙ get_or_default both j other 0 m ∙ both_at j b in
      let positions : get_or inner i 0 ≡ get_or inner j 0 =
      sym (get_or-rank outer is_outer.once (get_or inner i 0) (held i 0 a)) ∙ ap (λ (k : ℕ). get_or outer k 0) same ∙ get_or-rank outer is_outer.once (get_or inner j 0) (held j 0 b) in
      is_inner.once i j 0 a b positions

  number_twice : (x : ℕ) → Contains inner x → rank_in both (rank_in outer x) ≡ rank_in inner x
  number_twice x in_it =
      let at : get_or both in_it.0 (rank_in outer x) ≡ rank_in outer x = get_or-map (rank_in outer) inner in_it.0 x (rank_in outer x) in_it.1 ∙ ap (rank_in outer) in_it.2 in
      rank_of both both_once (rank_in outer x) (in_it.0, omega (arith, in_it.1, length-map inner (rank_in outer)), at) ∙ sym (rank_of inner is_inner.once x in_it)

  renumber_twice : (xs : List ℕ) → All (Contains inner) xs → map (rank_in both) (map (rank_in outer) xs) ≡ map (rank_in inner) xs
  renumber_twice xs in_it =
      map_map (rank_in both) (rank_in outer) xs ∙ map_same (λ x. rank_in both (rank_in outer x)) (rank_in inner) xs 0 (λ k l. number_twice (get_or xs k 0) (in_it k 0 l))

  both_within : (j : ℕ) → j < length both → get_or both j 0 < length (part files outer)
  both_within j l =
      let a : j < length inner = omega (arith, length-map inner (rank_in outer)) in
      let in_it = held j 0 a in
      rw (both_at j a, length-closed files outer is_outer, rank_of outer is_outer.once (get_or inner j 0) in_it) in_it.1

  one_file : (k : ℕ) → k < length inner → renumbered both (get_or (part files outer) (rank_in outer (get_or inner k 0)) no_entry) ≡ renumbered inner (get_or files (get_or inner k 0) no_entry)
  one_file k l =
      let p : ℕ = get_or inner k 0 in
      let entry : Entry = get_or files p no_entry in
      let in_it = held k 0 l in
      let low : rank_in outer p < length outer = rw (rank_of outer is_outer.once p in_it) in_it.1 in
      let there : get_or (part files outer) (rank_in outer p) no_entry ≡ renumbered outer entry =
      file_of_part files outer is_outer (rank_in outer p) low ∙ ap (λ (q : ℕ). renumbered outer (get_or files q no_entry)) (get_or-rank outer is_outer.once p in_it) in
      ap (renumbered both) there
      ∙ ap (λ (ds : List ℕ). record { name = entry.name; command = entry.command; text = entry.text; deps = ds }) (renumber_twice entry.deps (is_inner.closed k l))

  pub part_of_closed : part (part files outer) both ≡ part files inner
  part_of_closed =
      part_is (part files outer) both no_entry both_within
      ∙ map_map (λ p. renumbered both (get_or (part files outer) p no_entry)) (rank_in outer) inner
      ∙ map_same (λ q. renumbered both (get_or (part files outer) (rank_in outer q) no_entry)) (λ q. renumbered inner (get_or files q no_entry)) inner 0 one_file
      ∙ sym (part_is files inner no_entry is_inner.within)

-- Files up to a bound, each behind its dependencies and with those of its dependencies.
pub record Unfolds (files : List Entry) (bound : ℕ) : Type 0 where
  pub within : bound ≤ length files
  pub below : (at : ℕ) → at < bound → All (λ dep. dep < at) (get_or files at no_entry).deps
  pub closed : (at : ℕ) → at < bound → IsClosed files (viewed files at)

-- the view of a file within a view is its view among the files
module _ (files : List Entry) (bound at k : ℕ) (unfolds : Unfolds files bound) (lt : at < bound) (low : k < length (viewed files at)) where
  abbrev positions : List ℕ
  positions = viewed files at

  abbrev p : ℕ
  p = get_or positions k 0

  abbrev entry : Entry
  entry = get_or files p no_entry

  at_low : at < length files
  at_low = omega (arith, unfolds.within)

  is : IsClosed files positions
  is = unfolds.closed at lt

  p_low : p < length files
  p_low = is.within k low

  p_bound : p < bound
  p_bound =
      let deps : List ℕ = (get_or files at no_entry).deps in
      let same : p ≡ get_or (deps ++ at ∷ []) k 0 = ap (λ (ps : List ℕ). get_or ps k 0) (viewed_is files at no_entry at_low) in
      elim (cases_lt k (length deps)) [
        | inl a ↦ let here : get_or (deps ++ at ∷ []) k 0 ≡ get_or deps k 0 = get_or_append_left deps (at ∷ []) 0 k a in omega (arith, same, here, unfolds.below at lt k 0 a)
        | inr a ↦
            let size : length positions ≡ length deps + 1 = ap length (viewed_is files at no_entry at_low) ∙ length-append deps (at ∷ []) in
            let end : length deps ≡ k = omega (arith, size, low) in
            omega (arith, same, get_or_at deps at [] 0 k end)
      ]

  p_in : Contains positions p
  p_in = (k, low, get_or_default positions k p 0 low)

  held : All (Contains positions) (entry.deps ++ p ∷ [])
  held j c m =
      elim (cases_lt j (length entry.deps)) [
        | inl a ↦ rw (get_or_append_left entry.deps (p ∷ []) c j a) (is.closed k low j c a)
        | inr a ↦ let e : length entry.deps ≡ j = omega (arith, length-append entry.deps (p ∷ [])) in rw (get_or_at entry.deps p [] c j e) p_in
      ]

  within_view : k < length (view files at)
  within_view = omega (arith, low, length-closed files positions is)

  same_positions : viewed (view files at) k ≡ map (rank_in positions) (viewed files p)
  same_positions =
      viewed_is (view files at) k no_entry within_view
      ∙ ap (λ (e : Entry). e.deps ++ k ∷ []) (file_of_part files positions is k low)
      ∙ ap (λ (n : ℕ). map (rank_in positions) entry.deps ++ n ∷ []) (sym (rank_at positions is.once k low))
      ∙ sym (map_push (rank_in positions) entry.deps p)
      ∙ ap (map (rank_in positions)) (sym (viewed_is files p no_entry p_low))

  pub view_within : view (view files at) k ≡ view files p
  view_within =
      let q_held : All (Contains positions) (viewed files p) = subst (All (Contains positions)) (sym (viewed_is files p no_entry p_low)) held in
      ap (part (view files at)) same_positions
      ∙ part_of_closed files positions (viewed files p) is (unfolds.closed p p_bound) q_held
