-- What a clean build makes where all that it asks is answered with the code 0: all files.
use Rattle.std.proofs.Common.{◌≡◌, ℕ, ◌<◌, ◌==◌, true, cond, List, [], get_or, Option, Some, None, ap, subst, ◌∙◌, arith, inl, inr, is_some}
use Rattle.std.specs.Prelude.{All, slice_get}
use Rattle.std.specs.Option.{option_and_then, option_map_or}
use Rattle.std.proofs.lemmas.Bool.{cond-true, eq-eqb}
use Rattle.std.proofs.lemmas.Option.{slice_get_cases, slice_get_within}
use Rattle.base.specs.declared.graph.Entry.{Entry}
use Rattle.base.specs.declared.graph.BuiltFile.{BuiltFile}
use Rattle.base.specs.declared.child.Request.{Request}
use Rattle.base.specs.declared.child.Exit.{Exit}
use Rattle.base.specs.Graphs.{IsGraph}
use Rattle.base.specs.Jobs.{compile_request}
use Rattle.outside.specs.Records.{deps_at}
use Rattle.run_spec.specs.CleanBuild.{Result, Made, Refused, Blocked, built_of, built_below, result_of, is_free, clean_build}
use Rattle.run_spec.proofs.Artefacts.{deps_before}
use Rattle.run_spec.proofs.FoldLaws.{by_all_below}
use Rattle.run_laws.proofs.CleanRanks.{clean_at}
use Rattle.run_laws.proofs.JournalKeeps.{list_all-from_All}
use Rattle.generated_laws.specs.Edits.{AcceptsAll, clean_file}

pub entry_deps : (graph : List Entry) (at : ℕ) (entry : Entry) → slice_get graph at ≡ Some entry → deps_at graph at ≡ entry.deps
entry_deps graph at entry found = ap (λ (o : Option Entry). option_map_or (λ (e : Entry). e.deps) o []) found

module _ (answer : Request → Exit) (graph : List Entry) (valid : IsGraph graph) (makes : AcceptsAll answer graph) where
  abbrev clean : List Result
  clean = clean_build answer graph

  -- what the compiler of a file is asked over what a clean build makes
  abbrev pub asks : Entry → Request
  asks entry = compile_request entry (built_below clean entry)

  -- the file that is made
  abbrev pub made_file : Entry → BuiltFile
  made_file entry = record { name = entry.name; artefact = (answer (asks entry)).output }

  module _ (at : ℕ) (entry : Entry) (found : slice_get graph at ≡ Some entry) where
    pub deps_low : All (λ dep. dep < at) entry.deps
    deps_low = subst (All (λ dep. dep < at)) (entry_deps graph at entry found) (deps_before graph valid at)

    good_of_free : is_free clean entry ≡ true → (answer (asks entry)).code ≡ 0
    good_of_free free =
        makes at (asks entry)
        (ap (option_and_then (λ e. cond (is_free clean e) (Some (compile_request e (built_below clean e))) None)) found ∙ cond-true (is_free clean entry) (Some (asks entry)) None free)

    made_of_free : is_free clean entry ≡ true → slice_get clean at ≡ Some (Made (made_file entry))
    made_of_free free =
        clean_at answer graph at entry found deps_low
        ∙ ap (λ (r : Result). Some r)
        (cond-true (is_free clean entry) (result_of entry (answer (asks entry))) Blocked free
        ∙ cond-true ((answer (asks entry)).code == 0) (Made (made_file entry)) (Refused (answer (asks entry)).code (answer (asks entry)).output) (eq-eqb (answer (asks entry)).code 0 (good_of_free free)))

  -- each file is asked for over all that it depends on
  pub free : (at : ℕ) (entry : Entry) → slice_get graph at ≡ Some entry → is_free clean entry ≡ true
  free =
      by_all_below (λ at. (entry : Entry) → slice_get graph at ≡ Some entry → is_free clean entry ≡ true)
      (λ at before entry found. list_all-from_All (λ dep. is_some (built_of (slice_get clean dep))) entry.deps
      (λ k d l. some_dep at before entry found (get_or entry.deps k d) (deps_low at entry found k d l)))
    where
      some_dep : (at : ℕ) → ((d : ℕ) → d < at → (entry : Entry) → slice_get graph d ≡ Some entry → is_free clean entry ≡ true) → (entry : Entry) → slice_get graph at ≡ Some entry →
          (dep : ℕ) → dep < at → is_some (built_of (slice_get clean dep)) ≡ true
      some_dep at before entry found dep low = elim (slice_get_cases graph dep).1 [
        | inl here ↦ ap (λ (r : Option Result). is_some (built_of r)) (made_of_free dep here.0 here.2 (before dep low here.0 here.2))
        | inr past ↦ absurd (omega (arith, past.0, low, slice_get_within graph at entry found))
      ]

  pub good : (at : ℕ) (entry : Entry) → slice_get graph at ≡ Some entry → (answer (asks entry)).code ≡ 0
  good at entry found = good_of_free at entry found (free at entry found)

  pub made : (at : ℕ) (entry : Entry) → slice_get graph at ≡ Some entry → slice_get clean at ≡ Some (Made (made_file entry))
  made at entry found = made_of_free at entry found (free at entry found)

  pub clean_file_is : (at : ℕ) (entry : Entry) → slice_get graph at ≡ Some entry → clean_file answer graph at ≡ Some (made_file entry)
  clean_file_is at entry found = ap built_of (made at entry found)
