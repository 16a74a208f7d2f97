-- How many files a build compiles, and that it makes all, where a clean build makes all files and what is recorded is what it makes.
use Rattle.std.proofs.Common.{◌≡◌, ℕ, zero, suc, ◌<◌, Bool, true, false, not, cond, List, map, [], ◌∷◌, length, Option, Some, None, refl, ap, subst, ◌∙◌, arith, inl, inr, is_some}
use Rattle.std.specs.Prelude.{slice_get, count_by}
use Rattle.std.specs.List.{list_all}
use Rattle.std.specs.Option.{option_and_then}
use Rattle.std.proofs.lemmas.Bool.{and_from}
use Rattle.std.proofs.lemmas.List.{map_push}
use Rattle.std.proofs.lemmas.List.Folds.{list_all-append}
use Rattle.std.proofs.lemmas.Option.{slice_get_cases, none-some}
use Rattle.base.specs.declared.file.FileName.{FileName}
use Rattle.base.specs.declared.graph.Entry.{Entry}
use Rattle.base.specs.declared.graph.BuiltFile.{BuiltFile}
use Rattle.base.specs.declared.child.Request.{Request}
use Rattle.base.specs.declared.child.Exit.{Exit}
use Rattle.base.specs.declared.child.Event.{Event}
use Rattle.base.specs.Graphs.{IsGraph}
use Rattle.base.specs.PresentGraph.{below}
use Rattle.outside.specs.Records.{Record, asked_of}
use Rattle.run_spec.specs.declared.statuses.FileStatus.{FileStatus}
use Rattle.run_spec.specs.declared.statuses.FileStatus.TheVariants as status
use Rattle.run_spec.specs.CleanBuild.{built_below, clean_build, RecordsClean}
use Rattle.run_spec.specs.ChildJournal.{Work, Answered, IsWhole}
use Rattle.run_spec.specs.Commits.{work_of}
use Rattle.run_spec.specs.Statuses.{statuses_of, steady_status, steady_statuses, is_compiled}
use Rattle.run_spec.specs.Recorded.{artefact_for, current_by_request}
use Rattle.run_spec.specs.Settled.{settle}
use Rattle.run_laws.proofs.JournalSettled.{map-below_same, all_steady}
use Rattle.run_laws.proofs.TrueRecords.{records_clean}
use Rattle.run_build.specs.Ran.{is_made}
use Rattle.generated_laws.specs.Compiled.{CompilesOnly}
use Rattle.generated_laws.specs.Edits.{AcceptsAll}
use Rattle.generated_laws.proofs.SteadyStatuses.{count-map_below, count-all_below, steady_is, stale_is, is_compiled_if}
use Rattle.generated_laws.proofs.StatusesUnrefused.{none_refused}

-- a test that all positions pass
all_of_below : {X : Type 0} (p : X → Bool) (f : ℕ → X) (n : ℕ) → ((k : ℕ) → k < n → p (f k) ≡ true) → list_all p (map f (below n)) ≡ true
unfolding below
all_of_below p f zero all = refl
all_of_below p f (suc n) all =
    ap (list_all p) (map_push f (below n) n) ∙ list_all-append p (map f (below n)) (f n ∷ [])
    ∙ and_from (list_all p (map f (below n))) (list_all p (f n ∷ [])) (all_of_below p f n (λ k lt. all k (omega arith))) (and_from (p (f n)) true (all n (omega arith)) refl)

made_by : (kept : Option (List ℕ)) → is_made (cond (is_some kept) status.Fresh status.Compiled) ≡ true
made_by (Some artefact) = refl
made_by None = refl

module _ (answer : Request → Exit) (work : Work) (valid : IsGraph work.graph) (makes : AcceptsAll answer work.graph) (records : RecordsClean answer work.graph work.current)
    (events : List Event) (whole : IsWhole work events) (answered : Answered answer events) where
  pub steady : statuses_of work events ≡ steady_statuses answer work.graph work.current
  steady = all_steady answer work valid events whole answered (inr (none_refused answer work valid makes records events whole.lawful answered))

  -- it makes all files
  pub all_made : list_all is_made (statuses_of work events) ≡ true
  all_made = ap (list_all is_made) steady ∙ all_of_below is_made (λ at. steady_status (settle answer work.graph work.current at)) (length work.graph) made_one where
    made_one : (at : ℕ) → at < length work.graph → is_made (steady_status (settle answer work.graph work.current at)) ≡ true
    made_one at lt = elim (slice_get_cases work.graph at).1 [
      | inl here ↦ ap is_made (steady_is answer work.graph valid makes work.current records at here.0 here.2) ∙ made_by (work.current at (built_below (clean_build answer work.graph) here.0))
      | inr past ↦ absurd (omega (arith, past.0, lt))
    ]

  -- it compiles the files that have no current record over what a clean build makes below them
  module _ (test : ℕ → Bool) (tells : (at : ℕ) (entry : Entry) → slice_get work.graph at ≡ Some entry → not (is_some (work.current at (built_below (clean_build answer work.graph) entry))) ≡ test at) where
    abbrev status_if : ℕ → FileStatus
    status_if at = cond (test at) status.Compiled status.Fresh

    statuses_are : statuses_of work events ≡ map status_if (below (length work.graph))
    statuses_are = steady ∙ map-below_same (λ at. steady_status (settle answer work.graph work.current at)) status_if (length work.graph) one where
      one : (at : ℕ) → at < length work.graph → steady_status (settle answer work.graph work.current at) ≡ status_if at
      one at lt = elim (slice_get_cases work.graph at).1 [
        | inl here ↦ stale_is answer work.graph valid makes work.current records at here.0 here.2 ∙ ap (λ (b : Bool). cond b status.Compiled status.Fresh) (tells at here.0 here.2)
        | inr past ↦ absurd (omega (arith, past.0, lt))
      ]

    pub compiled : CompilesOnly work.graph test (count_by test (below (length work.graph))) (statuses_of work events)
    compiled = record { statuses_are = statuses_are; count_is = ap (count_by is_compiled) statuses_are ∙ count-map_below is_compiled status_if test (length work.graph) (λ at lt. is_compiled_if (test at)) }

-- ## Over no record

abbrev nothing : FileName → Option Record
nothing name = None

pub none_current : (graph : List Entry) (at : ℕ) (built : List BuiltFile) → current_by_request nothing graph at built ≡ None
unfolding current_by_request
none_current graph at built = from (slice_get graph at) where
  from : (found : Option Entry) → option_and_then (λ entry. option_and_then (artefact_for (asked_of entry built)) (nothing entry.name)) found ≡ None
  from None = refl
  from (Some entry) = refl

-- a build over no record
abbrev pub bare : (slots : ℕ) → List Entry → Work
bare slots graph = work_of nothing graph slots false

module _ (answer : Request → Exit) (slots : ℕ) (graph : List Entry) (valid : IsGraph graph) where
  pub bare_clean : RecordsClean answer graph (bare slots graph).current
  bare_clean = records_clean answer nothing graph valid (λ name kept is. absurd (none-some kept is))

  -- each file is compiled
  pub all_compiled : AcceptsAll answer graph → (events : List Event) → IsWhole (bare slots graph) events → Answered answer events → CompilesOnly graph (λ at. true) (length graph) (statuses_of (bare slots graph) events)
  all_compiled makes events whole answered =
      subst (λ (count : ℕ). CompilesOnly graph (λ at. true) count (statuses_of (bare slots graph) events)) (count-all_below (λ at. true) (length graph) (λ at lt. refl))
      (compiled answer (bare slots graph) valid makes bare_clean events whole answered (λ at. true)
      (λ at entry found. ap (λ (o : Option (List ℕ)). not (is_some o)) (none_current graph at (built_below (clean_build answer graph) entry))))
