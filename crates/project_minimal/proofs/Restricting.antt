-- The files at kept positions, one after the other.
use Rattle.std.proofs.Common.{◌≡◌, ℕ, ◌+◌, ◌<◌, ◌≤◌, List, [], ◌∷◌, ◌++◌, length, map, get_or, set, take, sym, ap, subst, ◌∙◌, arith}
use Rattle.std.specs.Prelude.{All, Contains, slice_index}
use Rattle.std.proofs.lemmas.List.{get_or-set_other, take_more}
use Rattle.base.specs.declared.graph.Entry.{Entry}
use Rattle.base.specs.View.{part, rank_in, renumbered}
use Rattle.project_views.specs.Numbers.{IsNumbered, with_numbers}
use Rattle.project_views.specs.Parts.{IsPart}
use Rattle.project_views.proofs.Numbering.{get_or-rank, rank_within}
use Rattle.project_views.proofs.Parts.{get_or-part, length-part, map_same}
use Rattle.project_views.proofs.Rising.{before_later}
use Rattle.project_minimal.specs.Nothing.{no_entry}

contained : (n : ℕ) (kept : List ℕ) (x : ℕ) → All (λ position. position < n) kept → Contains kept x → x < n
contained n kept x within (k, low, is) = omega (arith, within k x low, is)

module _ (graph : List Entry) (kept : List ℕ) (is : IsPart graph kept) where
  -- what a kept file depends on is in the table of all files
  pub deps_within : (i n : ℕ) (entry : Entry) → i < length kept → n ≡ length graph → entry ≡ get_or graph (get_or kept i 0) no_entry → All (λ dep. dep < n) entry.deps
  deps_within i n entry low count same k d within =
      let held : Contains kept (get_or entry.deps k d) = subst (λ (e : Entry). All (Contains kept) e.deps) (sym same) (is.closed i 0 low no_entry) k d within in
      omega (arith, contained (length graph) kept (get_or entry.deps k d) is.within held, count)

  -- one more file with the new numbers of what it depends on
  pub part_more : (table : List ℕ) (i : ℕ) (entry moved : Entry) → i < length kept → IsNumbered table kept (length kept) → entry ≡ get_or graph (get_or kept i 0) no_entry → moved ≡ with_numbers table entry
      → take i (part graph kept) ++ moved ∷ [] ≡ take (i + 1) (part graph kept)
  part_more table i entry moved low numbered same is_moved =
      let same_deps : map (slice_index table) entry.deps ≡ map (rank_in kept) entry.deps = map_same (slice_index table) (rank_in kept) entry.deps 0
      (λ k m.
      let held : Contains kept (get_or entry.deps k 0) = subst (λ (e : Entry). All (Contains kept) e.deps) (sym same) (is.closed i 0 low no_entry) k 0 m in
      ap (slice_index table) (sym (get_or-rank kept is.rising (get_or entry.deps k 0) 0 held)) ∙ numbered (rank_in kept (get_or entry.deps k 0)) (rank_within kept is.rising (get_or entry.deps k 0) held)) in
      let renumber : moved ≡ renumbered kept entry = is_moved ∙ ap (λ (ds : List ℕ). record { name = entry.name; command = entry.command; text = entry.text; deps = ds }) same_deps in
      let here : get_or (part graph kept) i no_entry ≡ moved = get_or-part graph kept is i no_entry low ∙ ap (renumbered kept) (sym same) ∙ sym renumber in
      let within : i < length (part graph kept) = omega (arith, length-part graph kept is, low) in
      ap (λ (e : Entry). take i (part graph kept) ++ e ∷ []) (sym here) ∙ sym (take_more (part graph kept) i no_entry within)

  -- the files at later kept positions don't change
  pub left_entries : (left : List Entry) (i : ℕ) → ((k : ℕ) → i ≤ k → k < length kept → get_or left (get_or kept k 0) no_entry ≡ get_or graph (get_or kept k 0) no_entry)
      → (k : ℕ) → i + 1 ≤ k → k < length kept → get_or (set left (get_or kept i 0) no_entry) (get_or kept k 0) no_entry ≡ get_or graph (get_or kept k 0) no_entry
  left_entries left i before k later within =
      get_or-set_other left (get_or kept i 0) (get_or kept k 0) no_entry no_entry (λ e. let less = before_later kept is.rising i k (omega (arith, later)) within in omega (arith, less, e)) ∙ before k (omega (arith, later)) within
