-- The artefacts of a build as its children end: each stays, follows from those before it, and comes by the good end of a child
-- once all below it are there.
use Rattle.std.proofs.Common.{◌≡◌, ℕ, ◌<◌, ◌≤◌, ◌==◌, Bool, true, false, ◌&&◌, ◌||◌, cond, List, [], ◌∷◌, ◌++◌, length, map, get_or, Option, Some, None, refl, sym, ap, ap₂, subst, ◌∙◌, arith, inl, inr, is_some, All}
use Rattle.std.specs.Option.{option_map_or}
use Rattle.std.proofs.lemmas.Bool.{cases_Bool, cases_lt, cond-true, cond-false, false≢true}
use Rattle.std.proofs.lemmas.Option.{none-some, slice_get_cases}
use Rattle.std.proofs.lemmas.List.{map-append}
use Rattle.base.specs.declared.graph.Entry.{Entry}
use Rattle.base.specs.Graphs.{IsGraph, IsEntryAt}
use Rattle.outside.specs.Records.{deps_at}
use Rattle.run_spec.specs.Folds.{upto}
use Rattle.run_spec.specs.Moves.{EndedChild, IsStepwise}
use Rattle.run_spec.specs.ChildJournal.{Work, End, child_of_end, artefact_so_far, output_at, or_else, has_all, built_at, next_artefact, artefact_by, workload_of}
use Rattle.run_spec.proofs.Journal.{output_at-push_other}
use Rattle.run_spec.proofs.FoldLaws.{upto_both, upto_at, upto_longer, upto_past}
use Rattle.run_spec.proofs.BuiltLists.{Keeps, has_all_more, built_more, has_all_same, built_same}

-- what a file of a graph depends on comes before it
pub deps_before : (graph : List Entry) → IsGraph graph → (position : ℕ) → All (λ dep. dep < position) (deps_at graph position)
deps_before graph is position = elim ((slice_get_cases graph position).1) [
  | inl found ↦
      let entry : IsEntryAt graph position found.0 = subst (IsEntryAt graph position) found.3 (is.each position found.0 found.1) in
      subst (All (λ dep. dep < position)) (sym (ap (λ (o : Option Entry). option_map_or (λ (e : Entry). e.deps) o []) found.2)) entry.before
  | inr none ↦ subst (All (λ dep. dep < position)) (sym (ap (λ (o : Option Entry). option_map_or (λ (e : Entry). e.deps) o []) none.1)) (λ k d lt. absurd (omega (arith, lt)))
]

-- ## What was printed

-- what a child printed stays
pub output_more : (ended more : List EndedChild) (at : ℕ) (artefact : List ℕ) → output_at ended at ≡ Some artefact → output_at (ended ++ more) at ≡ Some artefact
unfolding output_at
output_more [] more at artefact is = absurd (none-some artefact is)
output_more (end ∷ ended) more at artefact is = elim (cases_Bool (end.position == at && end.ok)) [
  | inl does ↦ cond-true (end.position == at && end.ok) (Some end.output) (output_at (ended ++ more) at) does ∙ sym (cond-true (end.position == at && end.ok) (Some end.output) (output_at ended at) does) ∙ is
  | inr fails ↦ cond-false (end.position == at && end.ok) (Some end.output) (output_at (ended ++ more) at) fails
      ∙ output_more ended more at artefact (sym (cond-false (end.position == at && end.ok) (Some end.output) (output_at ended at) fails) ∙ is)
]

-- one more end prints for its file alone, where it is a good one
some_if : (b : Bool) (x : List ℕ) → is_some (cond b (Some x) None) ≡ b
some_if true x = refl
some_if false x = refl

pub output_one : (ended : List EndedChild) (end : EndedChild) (at : ℕ) → is_some (output_at (ended ++ end ∷ []) at) ≡ (is_some (output_at ended at) || (end.position == at && end.ok))
unfolding output_at
output_one [] end at = some_if (end.position == at && end.ok) end.output
output_one (first ∷ ended) end at = elim (cases_Bool (first.position == at && first.ok)) [
  | inl does ↦ ap is_some (cond-true (first.position == at && first.ok) (Some first.output) (output_at (ended ++ end ∷ []) at) does)
      ∙ sym (ap (λ o. is_some o || (end.position == at && end.ok)) (cond-true (first.position == at && first.ok) (Some first.output) (output_at ended at) does))
  | inr fails ↦ ap is_some (cond-false (first.position == at && first.ok) (Some first.output) (output_at (ended ++ end ∷ []) at) fails) ∙ output_one ended end at
      ∙ sym (ap (λ o. is_some o || (end.position == at && end.ok)) (cond-false (first.position == at && first.ok) (Some first.output) (output_at ended at) fails))
]

-- ## An artefact stays

or_else_more : (o p q : Option (List ℕ)) (artefact : List ℕ) → ((x : List ℕ) → p ≡ Some x → q ≡ Some x) → or_else o p ≡ Some artefact → or_else o q ≡ Some artefact
or_else_more None p q artefact more is = more artefact is
or_else_more (Some x) p q artefact more is = is

-- a file that is given an artefact
pub next_parts : (work : Work) (ended : List EndedChild) (f : ℕ → Option (List ℕ)) (at : ℕ) (artefact : List ℕ) → next_artefact work ended f at ≡ Some artefact
    → (has_all f (deps_at work.graph at) ≡ true) × (or_else (work.current at (built_at work.graph f (deps_at work.graph at))) (output_at ended at) ≡ Some artefact)
next_parts work ended f at artefact is = elim (cases_Bool (has_all f (deps_at work.graph at))) [
  | inl all ↦ (all, sym (cond-true (has_all f (deps_at work.graph at)) (or_else (work.current at (built_at work.graph f (deps_at work.graph at))) (output_at ended at)) None all) ∙ is)
  | inr fails ↦ absurd (none-some artefact (sym (cond-false (has_all f (deps_at work.graph at)) (or_else (work.current at (built_at work.graph f (deps_at work.graph at))) (output_at ended at)) None fails) ∙ is))
]

module _ (work : Work) (ended more : List EndedChild) where
  keeps_next : (f g : ℕ → Option (List ℕ)) (at : ℕ) → Keeps f g → (artefact : List ℕ) → next_artefact work ended f at ≡ Some artefact → next_artefact work (ended ++ more) g at ≡ Some artefact
  keeps_next f g at keeps artefact is =
      let deps : List ℕ = deps_at work.graph at in
      let parts : (has_all f deps ≡ true) × (or_else (work.current at (built_at work.graph f deps)) (output_at ended at) ≡ Some artefact) = next_parts work ended f at artefact is in
      cond-true (has_all g deps) (or_else (work.current at (built_at work.graph g deps)) (output_at (ended ++ more) at)) None (has_all_more f g keeps deps parts.0)
      ∙ ap (λ built. or_else (work.current at built) (output_at (ended ++ more) at)) (built_more work.graph f g keeps deps parts.0)
      ∙ or_else_more (work.current at (built_at work.graph f deps)) (output_at ended at) (output_at (ended ++ more) at) artefact (output_more ended more at) parts.1

  pub artefact_stays : Keeps (artefact_by work ended) (artefact_by work (ended ++ more))
  unfolding artefact_by
  artefact_stays at =
      upto_both (λ k o p. (artefact : List ℕ) → o ≡ Some artefact → p ≡ Some artefact) (next_artefact work ended) None (next_artefact work (ended ++ more)) None (λ k artefact is. is)
      (λ f g k keeps. keeps_next f g k keeps) (length work.graph) at

-- ## It follows from those before it

-- nothing but the artefacts of what a file depends on, and what its child printed, decides its own
pub next_same : (work : Work) (a b : List EndedChild) (f g : ℕ → Option (List ℕ)) (at : ℕ) → All (λ dep. f dep ≡ g dep) (deps_at work.graph at) → output_at a at ≡ output_at b at
    → next_artefact work a f at ≡ next_artefact work b g at
next_same work a b f g at same out =
    let deps : List ℕ = deps_at work.graph at in
    ap₂ (λ (all : Bool) (artefact : Option (List ℕ)). cond all artefact None) (has_all_same f g deps same)
    (ap₂ (λ built printed. or_else (work.current at built) printed) (built_same work.graph f g deps same) out)

pub none_past : (work : Work) (ended : List EndedChild) (at : ℕ) → length work.graph ≤ at → artefact_by work ended at ≡ None
unfolding artefact_by
none_past work ended at le = upto_past (next_artefact work ended) None (length work.graph) at le

module _ (work : Work) (ordered : (position : ℕ) → All (λ dep. dep < position) (deps_at work.graph position)) where
  -- where the ends of the files below a position print the same, these have the same artefacts
  pub same_below : (a b : List EndedChild) (end : ℕ) → ((k : ℕ) → k < end → output_at a k ≡ output_at b k) → (k : ℕ) → k < end → artefact_by work a k ≡ artefact_by work b k
  unfolding artefact_by
  same_below a b end out =
      upto_both (λ k o p. k < end → o ≡ p) (next_artefact work a) None (next_artefact work b) None (λ k lt. refl)
      (λ f g k same lt. next_same work a b f g k (λ j d l. same (get_or (deps_at work.graph k) j d) (omega (arith, ordered k j d l))) (out k lt)) (length work.graph)

  -- the artefact of a file, by those of all files
  pub artefact_at : (ended : List EndedChild) (at : ℕ) → at < length work.graph → artefact_by work ended at ≡ next_artefact work ended (artefact_by work ended) at
  unfolding artefact_by
  artefact_at ended at lt =
      upto_at (next_artefact work ended) None (length work.graph) at lt
      ∙ next_same work ended ended (upto (next_artefact work ended) None at) (upto (next_artefact work ended) None (length work.graph)) at
      (λ j d l. upto_longer (next_artefact work ended) None at (length work.graph) (get_or (deps_at work.graph at) j d) (ordered at j d l) (omega (arith, ordered at j d l))) refl

  -- where all below it have one
  pub artefact_free : (ended : List EndedChild) (at : ℕ) → at < length work.graph → has_all (artefact_by work ended) (deps_at work.graph at) ≡ true
      → artefact_by work ended at ≡ or_else (work.current at (built_at work.graph (artefact_by work ended) (deps_at work.graph at))) (output_at ended at)
  artefact_free ended at lt all = artefact_at ended at lt ∙ cond-true (has_all (artefact_by work ended) (deps_at work.graph at)) (or_else (work.current at (built_at work.graph (artefact_by work ended) (deps_at work.graph at))) (output_at ended at)) None all

  -- a file has one only where all below it have
  pub artefact_deps : (ended : List EndedChild) (at : ℕ) → is_some (artefact_by work ended at) ≡ true → has_all (artefact_by work ended) (deps_at work.graph at) ≡ true
  artefact_deps ended at some = elim (cases_lt at (length work.graph)) [
    | inl lt ↦ elim (cases_Bool (has_all (artefact_by work ended) (deps_at work.graph at))) [
      | inl all ↦ all
      | inr fails ↦ absurd (false≢true (sym (ap is_some (artefact_at ended at lt ∙ cond-false (has_all (artefact_by work ended) (deps_at work.graph at)) _ None fails)) ∙ some))
    ]
    | inr le ↦ absurd (false≢true (sym (ap is_some (none_past work ended at le)) ∙ some))
  ]

  some_one : (o p q : Option (List ℕ)) (b : Bool) → is_some q ≡ (is_some p || b) → is_some (or_else o q) ≡ (is_some (or_else o p) || b)
  some_one None p q b is = is
  some_one (Some x) p q b is = refl

  -- one more end
  pub artefact_one : (ended : List EndedChild) (end : EndedChild) (at : ℕ) → at < length work.graph → has_all (artefact_by work ended) (deps_at work.graph at) ≡ true
      → is_some (artefact_by work (ended ++ end ∷ []) at) ≡ (is_some (artefact_by work ended at) || (end.position == at && end.ok))
  artefact_one ended end at lt all =
      let deps : List ℕ = deps_at work.graph at in
      let f : ℕ → Option (List ℕ) = artefact_by work ended in
      let g : ℕ → Option (List ℕ) = artefact_by work (ended ++ end ∷ []) in
      let keeps : Keeps f g = artefact_stays work ended (end ∷ []) in
      ap is_some (artefact_free (ended ++ end ∷ []) at lt (has_all_more f g keeps deps all) ∙ ap (λ built. or_else (work.current at built) (output_at (ended ++ end ∷ []) at)) (built_more work.graph f g keeps deps all))
      ∙ some_one (work.current at (built_at work.graph f deps)) (output_at ended at) (output_at (ended ++ end ∷ []) at) (end.position == at && end.ok) (output_one ended end at)
      ∙ ap (λ o. is_some o || (end.position == at && end.ok)) (sym (artefact_free ended at lt all))

  -- so what a build makes follows step by step
  pub stepwise_ordered : IsStepwise (workload_of work)
  unfolding has_all
  stepwise_ordered = record {
    before = λ position lt. ordered position;
    after_deps = λ ended position lt made. artefact_deps ended position made;
    by_end = λ ended end position lt all. artefact_one ended end position lt all;
  }

-- the same of ends with their requests and exits
pub so_far_stays : (work : Work) (ends more : List End) (position : ℕ) (artefact : List ℕ) → artefact_so_far work ends position ≡ Some artefact → artefact_so_far work (ends ++ more) position ≡ Some artefact
so_far_stays work ends more position artefact is =
    ap (λ ended. artefact_by work ended position) (map-append child_of_end ends more) ∙ artefact_stays work (map child_of_end ends) (map child_of_end more) position artefact is

output_other : (ended : List EndedChild) (end : EndedChild) (at : ℕ) → (end.position ≡ at → ⊥) → output_at ended at ≡ output_at (ended ++ end ∷ []) at
output_other ended end at other = sym (output_at-push_other ended end at other)

pub so_far_below : (work : Work) → IsGraph work.graph → (ends : List End) (end : End) (position : ℕ) → position < end.position → artefact_so_far work (ends ++ end ∷ []) position ≡ artefact_so_far work ends position
so_far_below work is ends end position lt =
    ap (λ ended. artefact_by work ended position) (map-append child_of_end ends (end ∷ []))
    ∙ sym (same_below work (deps_before work.graph is) (map child_of_end ends) (map child_of_end ends ++ child_of_end end ∷ []) end.position
    (λ k low. output_other (map child_of_end ends) (child_of_end end) k (λ e. omega (arith, e, low))) position lt)

pub stepwise : (work : Work) → IsGraph work.graph → IsStepwise (workload_of work)
stepwise work is = stepwise_ordered work (deps_before work.graph is)
