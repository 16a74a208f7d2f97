-- The result of a clean build at each position: the result of the file there, over all results.
use Rattle.std.proofs.Common.{◌≡◌, ℕ, zero, suc, ◌+◌, ◌<◌, Bool, ◌&&◌, cond, List, [], ◌∷◌, ◌++◌, length, get_or, Option, Some, refl, sym, ap, ◌∙◌, arith}
use Rattle.std.specs.Prelude.{All, slice_get, is_some}
use Rattle.std.specs.List.{list_all, filter_map, cons_option}
use Rattle.std.proofs.lemmas.List.{length-append}
use Rattle.base.specs.declared.graph.Entry.{Entry}
use Rattle.base.specs.declared.graph.BuiltFile.{BuiltFile}
use Rattle.base.specs.declared.child.Request.{Request}
use Rattle.base.specs.declared.child.Exit.{Exit}
use Rattle.base.specs.Jobs.{compile_request}
use Rattle.run_spec.specs.CleanBuild.{Result, Blocked, built_of, built_below, result_of, is_free, next_result, results_after, clean_build}
use Rattle.run_spec.proofs.Ranks.{slice_get-pushed, slice_get-push_other}

-- a test that says the same of each item says the same of all
pub list_all-same : {X : Type 0} (p q : X → Bool) (xs : List X) (d : X) → ((k : ℕ) → k < length xs → p (get_or xs k d) ≡ q (get_or xs k d)) → list_all p xs ≡ list_all q xs
list_all-same p q [] d h = refl
list_all-same p q (x ∷ xs) d h = ap (λ (b : Bool). b && list_all p xs) (h 0 (omega arith)) ∙ ap (λ (b : Bool). q x && b) (list_all-same p q xs d (λ k l. h (suc k) (omega arith)))

-- one item more, where what is picked of it is known
pub filter_map-cons : {X Y : Type 0} (f : X → Option Y) (x : X) (xs : List X) (here : Option Y) → f x ≡ here → filter_map f (x ∷ xs) ≡ cons_option here (filter_map f xs)
filter_map-cons {X} {Y} f x xs here h = ap (λ (y : Option Y). cons_option y (filter_map f xs)) h

-- functions that give the same at each item pick the same
pub filter_map-same : {X Y : Type 0} (f g : X → Option Y) (xs : List X) (d : X) → ((k : ℕ) → k < length xs → f (get_or xs k d) ≡ g (get_or xs k d)) → filter_map f xs ≡ filter_map g xs
filter_map-same f g [] d h = refl
filter_map-same {X} {Y} f g (x ∷ xs) d h =
    filter_map-cons f x xs (g x) (h 0 (omega arith)) ∙ ap (cons_option (g x)) (filter_map-same f g xs d (λ k l. h (suc k) (omega arith)))

-- the result of a file, by whether all files that it depends on are made, and by these files
unfoldable pub step : (Request → Exit) → Entry → Bool → List BuiltFile → Result
step answer entry free built = cond free (result_of entry (answer (compile_request entry built))) Blocked

module _ (answer : Request → Exit) where
  -- results that are the same at all that a file depends on
  pub same_next : (a b : List Result) (entry : Entry) → ((k : ℕ) → k < length entry.deps → slice_get a (get_or entry.deps k 0) ≡ slice_get b (get_or entry.deps k 0))
      → next_result answer a entry ≡ next_result answer b entry
  unfolding step
  same_next a b entry h =
      let free : is_free a entry ≡ is_free b entry =
      list_all-same (λ dep. is_some (built_of (slice_get a dep))) (λ dep. is_some (built_of (slice_get b dep))) entry.deps 0 (λ k l. ap (λ (r : Option Result). is_some (built_of r)) (h k l)) in
      let built : built_below a entry ≡ built_below b entry =
      filter_map-same (λ dep. built_of (slice_get a dep)) (λ dep. built_of (slice_get b dep)) entry.deps 0 (λ k l. ap built_of (h k l)) in
      ap (λ (t : Bool). step answer entry t (built_below a entry)) free ∙ ap (step answer entry (is_free b entry)) built

  pub length-after : (results : List Result) (entries : List Entry) → length (results_after answer results entries) ≡ length results + length entries
  unfolding results_after
  length-after results [] = omega arith
  length-after results (entry ∷ entries) = omega (arith, length-after (results ++ next_result answer results entry ∷ []) entries, length-append results (next_result answer results entry ∷ []))

  -- the results so far stay
  pub prefix_after : (results : List Result) (entries : List Entry) (k : ℕ) → k < length results → slice_get (results_after answer results entries) k ≡ slice_get results k
  unfolding results_after
  prefix_after results [] k lt = refl
  prefix_after results (entry ∷ entries) k lt =
      prefix_after (results ++ next_result answer results entry ∷ []) entries k (omega (arith, length-append results (next_result answer results entry ∷ [])))
      ∙ slice_get-push_other results (next_result answer results entry) k (λ e. omega arith)

  at_after : (results : List Result) (entries : List Entry) (k : ℕ) (entry : Entry) → slice_get entries k ≡ Some entry → All (λ dep. dep < length results + k) entry.deps
      → slice_get (results_after answer results entries) (length results + k) ≡ Some (next_result answer (results_after answer results entries) entry)
  unfolding results_after
  at_after results [] k entry found low = absurd (let nothing : ⊥ = cc in nothing)
  at_after results (first ∷ rest) zero entry found low =
      let same : first ≡ entry = cc in
      let next : Result = next_result answer results first in
      let all : List Result = results_after answer (results ++ next ∷ []) rest in
      let position : length results + 0 ≡ length results = omega arith in
      ap (slice_get all) position
      ∙ prefix_after (results ++ next ∷ []) rest (length results) (omega (arith, length-append results (next ∷ [])))
      ∙ slice_get-pushed results next
      ∙ ap (λ (e : Entry). Some (next_result answer results e)) same
      ∙ ap (λ (r : Result). Some r) (same_next results all entry (λ j l. sym (prefix_after results (first ∷ rest) (get_or entry.deps j 0) (omega (arith, low j 0 l)))))
  at_after results (first ∷ rest) (suc k) entry found low =
      let next : Result = next_result answer results first in
      let all : List Result = results_after answer (results ++ next ∷ []) rest in
      let count : length (results ++ next ∷ []) ≡ length results + 1 = length-append results (next ∷ []) in
      let position : length results + suc k ≡ length (results ++ next ∷ []) + k = omega arith in
      ap (slice_get all) position ∙ at_after (results ++ next ∷ []) rest k entry found (λ j d l. omega (arith, low j d l))

pub length-clean : (answer : Request → Exit) (graph : List Entry) → length (clean_build answer graph) ≡ length graph
length-clean answer graph = omega (arith, length-after answer [] graph)

-- the result of the file at a position, over all results
pub clean_at : (answer : Request → Exit) (graph : List Entry) (at : ℕ) (entry : Entry) → slice_get graph at ≡ Some entry → All (λ dep. dep < at) entry.deps
    → slice_get (clean_build answer graph) at ≡ Some (next_result answer (clean_build answer graph) entry)
clean_at answer graph at entry found low =
    let position : at ≡ 0 + at = omega arith in
    ap (slice_get (clean_build answer graph)) position ∙ at_after answer [] graph at entry found (λ j d l. omega (arith, low j d l))
