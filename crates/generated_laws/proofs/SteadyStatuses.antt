-- The statuses of the settled build if a clean build makes all files and the records are what it makes. A file is fresh if a record
-- is current over what a clean build makes below it. Otherwise it is compiled.
use Rattle.std.proofs.Common.{◌≡◌, ℕ, zero, suc, ◌+◌, ◌<◌, ◌==◌, Bool, true, false, not, cond, List, map, [], ◌∷◌, ◌++◌, Option, Some, None, refl, ap, ◌∙◌, arith, is_some}
use Rattle.std.specs.Prelude.{slice_get, count_by}
use Rattle.std.proofs.lemmas.Bool.{cond-true, eq-eqb}
use Rattle.std.proofs.lemmas.List.{map_push}
use Rattle.std.proofs.lemmas.List.Sums.{sum_by-append}
use Rattle.base.specs.declared.graph.Entry.{Entry}
use Rattle.base.specs.declared.graph.BuiltFile.{BuiltFile}
use Rattle.base.specs.declared.child.Request.{Request}
use Rattle.base.specs.declared.child.Exit.{Exit}
use Rattle.base.specs.Graphs.{IsGraph}
use Rattle.base.specs.PresentGraph.{below}
use Rattle.run_spec.specs.declared.statuses.FileStatus.TheVariants as status
use Rattle.run_spec.specs.CleanBuild.{built_below, is_free, clean_build, RecordsClean}
use Rattle.run_spec.specs.Statuses.{steady_status, is_compiled}
use Rattle.run_spec.specs.Settled as settled
use Rattle.run_spec.specs.Settled.{settle, settled_by}
use Rattle.run_laws.proofs.CleanSettled.{settle_is_clean}
use Rattle.generated_laws.specs.Edits.{AcceptsAll}
use Rattle.generated_laws.proofs.MadeFiles.{asks, free, good}

-- ## Counting

-- how many of the statuses of all files are of compiled ones, by a test of the positions
pub count-map_below : {X : Type 0} (p : X → Bool) (f : ℕ → X) (q : ℕ → Bool) (n : ℕ) → ((k : ℕ) → k < n → p (f k) ≡ q k) → count_by p (map f (below n)) ≡ count_by q (below n)
unfolding below
count-map_below p f q zero same = refl
count-map_below {X} p f q (suc n) same =
    let here : cond {A = ℕ} (p (f n)) 1 0 ≡ cond {A = ℕ} (q n) 1 0 = ap (λ (b : Bool). cond {A = ℕ} b 1 0) (same n (omega arith)) in
    let rest : count_by p (map f (below n)) ≡ count_by q (below n) = count-map_below p f q n (λ k lt. same k (omega arith)) in
    let left : count_by p (map f (below n) ++ f n ∷ []) ≡ count_by p (map f (below n)) + count_by p (f n ∷ []) = sum_by-append (λ x. cond (p x) 1 0) (map f (below n)) (f n ∷ []) in
    let right : count_by q (below n ++ n ∷ []) ≡ count_by q (below n) + count_by q (n ∷ []) = sum_by-append (λ x. cond (q x) 1 0) (below n) (n ∷ []) in
    ap (count_by p) (map_push f (below n) n) ∙ omega (arith, here, rest, left, right)

-- a test that all positions pass
pub count-all_below : (q : ℕ → Bool) (n : ℕ) → ((k : ℕ) → k < n → q k ≡ true) → count_by q (below n) ≡ n
unfolding below
count-all_below q zero all = refl
count-all_below q (suc n) all =
    let last : cond {A = ℕ} (q n) 1 0 ≡ 1 = cond-true (q n) 1 0 (all n (omega arith)) in
    let rest : count_by q (below n) ≡ n = count-all_below q n (λ k lt. all k (omega arith)) in
    sum_by-append (λ x. cond (q x) 1 0) (below n) (n ∷ []) ∙ omega (arith, last, rest)

-- ## Statuses

status_by : (kept : Option (List ℕ)) (exit : Exit) → exit.code ≡ 0 → steady_status (settled_by kept (Some exit)) ≡ cond (is_some kept) status.Fresh status.Compiled
status_by (Some artefact) exit code = refl
status_by None exit code = ap steady_status (cond-true (exit.code == 0) (settled.Compiled exit.output) (settled.Refused exit.code exit.output) (eq-eqb exit.code 0 code))

turned : (kept : Option (List ℕ)) → cond (is_some kept) status.Fresh status.Compiled ≡ cond (not (is_some kept)) status.Compiled status.Fresh
turned (Some artefact) = refl
turned None = refl

pub is_compiled_if : (stale : Bool) → is_compiled (cond stale status.Compiled status.Fresh) ≡ stale
is_compiled_if true = refl
is_compiled_if false = refl

module _ (answer : Request → Exit) (graph : List Entry) (valid : IsGraph graph) (makes : AcceptsAll answer graph) (current : ℕ → List BuiltFile → Option (List ℕ)) (records : RecordsClean answer graph current)
    (at : ℕ) (entry : Entry) (found : slice_get graph at ≡ Some entry) where
  abbrev kept : Option (List ℕ)
  kept = current at (built_below (clean_build answer graph) entry)

  settle_is_made : settle answer graph current at ≡ settled_by kept (Some (answer (asks answer graph valid makes entry)))
  settle_is_made =
      settle_is_clean answer graph valid current records at entry found
      ∙ cond-true (is_free (clean_build answer graph) entry) (settled_by kept (Some (answer (asks answer graph valid makes entry)))) settled.Blocked (free answer graph valid makes at entry found)

  pub steady_is : steady_status (settle answer graph current at) ≡ cond (is_some kept) status.Fresh status.Compiled
  steady_is = ap steady_status settle_is_made ∙ status_by kept (answer (asks answer graph valid makes entry)) (good answer graph valid makes at entry found)

  pub stale_is : steady_status (settle answer graph current at) ≡ cond (not (is_some kept)) status.Compiled status.Fresh
  stale_is = steady_is ∙ turned kept
