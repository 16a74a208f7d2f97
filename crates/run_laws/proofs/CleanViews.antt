-- A clean build of a closed part of a graph, as of a view, gives what one of the graph gives at the slots of the part.
use Rattle.std.proofs.Common.{◌≡◌, ℕ, zero, suc, ◌<◌, Bool, List, map, [], ◌∷◌, length, get_or, Option, Some, refl, sym, ap, subst, ◌∙◌, arith}
use Rattle.std.specs.Prelude.{Contains, slice_get, is_some}
use Rattle.std.specs.List.{filter_map, cons_option}
use Rattle.std.proofs.lemmas.List.{get_or_default}
use Rattle.std.proofs.lemmas.List.Folds.{list_all-map}
use Rattle.std.proofs.lemmas.Option.{slice_get-get_or}
use Rattle.base.specs.declared.graph.Entry.{Entry}
use Rattle.base.specs.declared.child.Request.{Request}
use Rattle.base.specs.declared.child.Exit.{Exit}
use Rattle.base.specs.Graphs.{IsEntryAt, IsGraph}
use Rattle.base.specs.View.{rank_in, renumbered, part, viewed, view}
use Rattle.run_spec.specs.CleanBuild.{Result, built_of, built_below, is_free, next_result, clean_build}
use Rattle.project_views.proofs.Numbering.{rank_at, rank_within, get_or-rank, rank_lower}
use Rattle.project_views.specs.Parts.{IsPart}
use Rattle.project_views.proofs.Parts.{no_entry, length-part, get_or-part, part_is_graph}
use Rattle.project_views.proofs.ViewLaws.{viewed_is_part}
use Rattle.run_laws.proofs.CleanRanks.{list_all-same, filter_map-cons, filter_map-same, step, length-clean, clean_at}

pub filter_map-map : {X Y Z : Type 0} (f : Y → Option Z) (g : X → Y) (xs : List X) → filter_map f (map g xs) ≡ filter_map (λ x. f (g x)) xs
filter_map-map f g [] = refl
filter_map-map f g (x ∷ xs) = ap (cons_option (f (g x))) (filter_map-map f g xs)

-- the items at these slots, one after the other
pub items_at : {X : Type 0} (all : List X) (slots : List ℕ) (items : List X) → length items ≡ length slots
    → ((k : ℕ) → k < length slots → slice_get items k ≡ slice_get all (get_or slots k 0)) → items ≡ filter_map (slice_get all) slots
items_at all [] [] count h = refl
items_at all [] (item ∷ items) count h = absurd (omega (arith, count))
items_at all (slot ∷ slots) [] count h = absurd (omega (arith, count))
items_at {X} all (slot ∷ slots) (item ∷ items) count h =
    ap (λ (xs : List X). item ∷ xs) (items_at all slots items (omega (arith, count)) (λ k l. h (suc k) (omega arith)))
    ∙ sym (filter_map-cons (slice_get all) slot slots (Some item) (sym (h 0 (omega arith))))

-- a file whose dependencies have new numbers, where the results there are the same
pub renumbered_next : (answer : Request → Exit) (a b : List Result) (positions : List ℕ) (entry : Entry)
    → ((k : ℕ) → k < length entry.deps → slice_get a (rank_in positions (get_or entry.deps k 0)) ≡ slice_get b (get_or entry.deps k 0))
    → next_result answer a (renumbered positions entry) ≡ next_result answer b entry
unfolding step
renumbered_next answer a b positions entry h =
    let free : is_free a (renumbered positions entry) ≡ is_free b entry =
    list_all-map (λ dep. is_some (built_of (slice_get a dep))) (rank_in positions) entry.deps
    ∙ list_all-same (λ dep. is_some (built_of (slice_get a (rank_in positions dep)))) (λ dep. is_some (built_of (slice_get b dep))) entry.deps 0
    (λ k l. ap (λ (r : Option Result). is_some (built_of r)) (h k l)) in
    let built : built_below a (renumbered positions entry) ≡ built_below b entry =
    filter_map-map (λ dep. built_of (slice_get a dep)) (rank_in positions) entry.deps
    ∙ filter_map-same (λ dep. built_of (slice_get a (rank_in positions dep))) (λ dep. built_of (slice_get b dep)) entry.deps 0 (λ k l. ap built_of (h k l)) in
    ap (λ (t : Bool). step answer entry t (built_below a (renumbered positions entry))) free ∙ ap (step answer entry (is_free b entry)) built

module _ (answer : Request → Exit) (graph : List Entry) (valid : IsGraph graph) (positions : List ℕ) (is : IsPart graph positions) where
  -- each slot of the part has the result of the position that it is of
  same_up_to : (n k : ℕ) → k < n → k < length positions → slice_get (clean_build answer (part graph positions)) k ≡ slice_get (clean_build answer graph) (get_or positions k 0)
  same_up_to zero k low l = absurd (omega arith)
  same_up_to (suc n) k low l =
      let p : ℕ = get_or positions k 0 in
      let within : p < length graph = is.within k 0 l in
      let entry : Entry = get_or graph p no_entry in
      let here : slice_get graph p ≡ Some entry = slice_get-get_or graph p no_entry within in
      let in_part : k < length (part graph positions) = omega (arith, length-part graph positions is) in
      let same : get_or (part graph positions) k no_entry ≡ renumbered positions entry = get_or-part graph positions is k no_entry l in
      let there : slice_get (part graph positions) k ≡ Some (renumbered positions entry) = slice_get-get_or (part graph positions) k no_entry in_part ∙ ap (λ (e : Entry). Some e) same in
      let old : IsEntryAt graph p entry = valid.each p no_entry within in
      let new : IsEntryAt (part graph positions) k (renumbered positions entry) = subst (IsEntryAt (part graph positions) k) same ((part_is_graph graph positions is valid).each k no_entry in_part) in
      let p_held : Contains positions p = (k, l, get_or_default positions k p 0 l) in
      clean_at answer (part graph positions) k (renumbered positions entry) there new.before
      ∙ ap (λ (r : Result). Some r) (renumbered_next answer (clean_build answer (part graph positions)) (clean_build answer graph) positions entry (λ j m.
      let q : ℕ = get_or entry.deps j 0 in
      let held : Contains positions q = is.closed k 0 l no_entry j 0 m in
      let lower : rank_in positions q < rank_in positions p = rank_lower positions is.rising q p held p_held (old.before j 0 m) in
      let low_enough : rank_in positions q < n = omega (arith, lower, rank_at positions is.rising k 0 l) in
      same_up_to n (rank_in positions q) low_enough (rank_within positions is.rising q held) ∙ ap (slice_get (clean_build answer graph)) (get_or-rank positions is.rising q 0 held)))
      ∙ sym (clean_at answer graph p entry here old.before)

  -- a clean build of a part gives the results at the slots of the part
  pub clean_part : clean_build answer (part graph positions) ≡ filter_map (slice_get (clean_build answer graph)) positions
  clean_part =
      items_at (clean_build answer graph) positions (clean_build answer (part graph positions)) (length-clean answer (part graph positions) ∙ length-part graph positions is)
      (λ k l. same_up_to (suc k) k (omega arith) l)

-- a clean build of a view gives the results at the slots of the view
pub clean_view : (answer : Request → Exit) (graph : List Entry) → IsGraph graph → (at : ℕ) → at < length graph
    → clean_build answer (view graph at) ≡ filter_map (slice_get (clean_build answer graph)) (viewed graph at)
clean_view answer graph valid at lt = clean_part answer graph valid (viewed graph at) (viewed_is_part graph at valid lt)
