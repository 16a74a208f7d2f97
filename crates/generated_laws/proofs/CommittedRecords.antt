-- What a build over no current record commits if a clean build makes all files: one record for each file. The record has the clean
-- build's request for the file, and the artefact that the clean build makes of it.
use Rattle.std.proofs.Common.{◌≡◌, ℕ, ◌<◌, ◌==◌, ◌&&◌, Bool, true, false, cond, List, map, [], ◌∷◌, length, get_or, Option, Some, None, sym, ap, ap₂, subst, ◌∙◌, inl, inr, is_some}
use Rattle.std.specs.Prelude.{All, slice_get}
use Rattle.std.specs.List.{list_any, filter_map}
use Rattle.std.specs.Option.{option_or, option_and_then}
use Rattle.std.proofs.lemmas.Bool.{cases_Bool, cases_eq, cond-true, cond-false, eqb-true, and_parts, or_left, or_right, or_cases, false≢true, true≢false}
use Rattle.std.proofs.lemmas.List.Concat.{flat_map-cons}
use Rattle.std.proofs.lemmas.List.Elements.{All-nil, All-cons, All-head, All-tail, All-append}
use Rattle.std.proofs.lemmas.List.Folds.{list_any-append}
use Rattle.std.proofs.lemmas.Option.{none-some, same_Some, slice_get_within}
use Rattle.base.specs.declared.file.FileName.{FileName}
use Rattle.base.specs.declared.graph.Entry.{Entry}
use Rattle.base.specs.declared.graph.BuiltFile.{BuiltFile}
use Rattle.base.specs.declared.child.Request.{Request}
use Rattle.base.specs.declared.child.Exit.{Exit}
use Rattle.base.specs.declared.child.Event.{Event}
use Rattle.base.specs.Graphs.{IsGraph}
use Rattle.base.specs.Jobs.{compile_request}
use Rattle.outside.specs.Records.{Asked, Record, asked_of, is_of, latest, deps_at}
use Rattle.run_spec.specs.CleanBuild.{Result, RecordsClean, built_of, built_below, clean_build, clean_request, is_free}
use Rattle.run_spec.specs.ChildJournal.{Work, End, child_of_end, output_at, or_else, has_all, built_at, built_file, artefact_so_far, artefact_after, progress_of, Answered, IsWhole}
use Rattle.run_spec.specs.Commits.{record_at, commit_of, commits_of, commits}
use Rattle.run_spec.specs.Settled.{artefact_settled}
use Rattle.run_spec.proofs.Artefacts.{deps_before, artefact_free, artefact_deps}
use Rattle.run_spec.proofs.BuiltLists.{built_more}
use Rattle.run_spec.proofs.LatestRecords.{latest_none}
use Rattle.run_spec.proofs.RecordNames.{asked_is, is_of_own, is_of_other}
use Rattle.run_laws.proofs.CleanRanks.{filter_map-same}
use Rattle.run_laws.proofs.CleanSettled.{file_settled}
use Rattle.run_laws.proofs.JournalAnswers.{answers_of}
use Rattle.run_laws.proofs.JournalProgress.{some_value}
use Rattle.run_laws.proofs.JournalSettled.{made_settled_so_far, all_files_made}
use Rattle.generated_laws.specs.Edits.{AcceptsAll}
use Rattle.generated_laws.proofs.MadeFiles.{entry_deps, asks, free}
use Rattle.generated_laws.proofs.StatusesUnrefused.{end_clean, none_refused}
use Rattle.generated_laws.proofs.StartedOver.{IsEndStarted, ends_started}

-- the latest record of a name, where all records of the name are the same
latest_wanted : (name : FileName) (want : Record) (records : List Record) → All (λ kept. is_of name kept ≡ true → kept ≡ want) records → list_any (is_of name) records ≡ true → latest name records ≡ Some want
unfolding latest
latest_wanted name want [] all some = absurd (false≢true some)
latest_wanted name want (first ∷ rest) all some = elim (cases_Bool (list_any (is_of name) rest)) [
  | inl later ↦
      ap (λ (r : Option Record). option_or r (cond (is_of name first) (Some first) None))
      (latest_wanted name want rest (All-tail (λ kept. is_of name kept ≡ true → kept ≡ want) first rest all) later)
  | inr none ↦ elim (or_cases (is_of name first) (list_any (is_of name) rest) some) [
    | inl here ↦
        ap (λ (r : Option Record). option_or r (cond (is_of name first) (Some first) None)) (latest_none name rest none)
        ∙ cond-true (is_of name first) (Some first) None here
        ∙ ap (λ (r : Record). Some r) (All-head (λ kept. is_of name kept ≡ true → kept ≡ want) first rest all here)
    | inr later ↦ absurd (true≢false (sym later ∙ none))
  ]
]

module _ (answer : Request → Exit) (work : Work) (valid : IsGraph work.graph) (makes : AcceptsAll answer work.graph) (records : RecordsClean answer work.graph work.current) where
  abbrev graph : List Entry
  graph = work.graph

  abbrev clean : List Result
  clean = clean_build answer graph

  -- the record of a file
  abbrev pub wanted : Entry → Record
  wanted entry = record { asked = asked_of entry (built_below clean entry); artefact = (answer (asks answer graph valid makes entry)).output }

  -- the files below a file as the settled build makes them
  below_clean : (at : ℕ) (entry : Entry) → slice_get graph at ≡ Some entry → built_at graph (artefact_settled answer graph work.current) (deps_at graph at) ≡ built_below clean entry
  unfolding built_at
  below_clean at entry found =
      ap (filter_map (λ dep. built_file (slice_get graph dep) (artefact_settled answer graph work.current dep))) (entry_deps graph at entry found)
      ∙ filter_map-same (λ dep. built_file (slice_get graph dep) (artefact_settled answer graph work.current dep)) (λ dep. built_of (slice_get clean dep)) entry.deps 0
      (λ k l. file_settled answer graph valid work.current records (get_or entry.deps k 0))

  asks_is : (at : ℕ) (entry : Entry) → slice_get graph at ≡ Some entry → clean_request answer graph at ≡ Some (asks answer graph valid makes entry)
  asks_is at entry found =
      ap (option_and_then (λ e. cond (is_free clean e) (Some (compile_request e (built_below clean e))) None)) found
      ∙ cond-true (is_free clean entry) (Some (asks answer graph valid makes entry)) None (free answer graph valid makes at entry found)

  module _ (events : List Event) (whole : IsWhole work events) (answered : Answered answer events) where
    abbrev ends : List End
    ends = (progress_of work events).ends

    -- what would be committed of an end
    abbrev IsWanted : End → Type 0
    IsWanted end = (entry : Entry) → slice_get graph end.position ≡ Some entry → record_at graph end.position end.below end.exit.output ≡ wanted entry

    end_wanted : (end : End) → IsEndStarted work ends end → end.exit ≡ answer end.request → clean_request answer graph end.position ≡ Some end.request → IsWanted end
    end_wanted end over answers asked entry found =
        let files : end.below ≡ built_below clean entry =
        over.1
        ∙ sym (built_more graph (artefact_so_far work ends) (artefact_settled answer graph work.current) (made_settled_so_far answer work valid events whole.lawful answered) (deps_at graph end.position) over.0)
        ∙ below_clean end.position entry found in
        let request : end.request ≡ asks answer graph valid makes entry = same_Some end.request (asks answer graph valid makes entry) (sym asked ∙ asks_is end.position entry found) in
        ap₂ (λ (asked : Asked) (output : List ℕ). record { asked = asked; artefact = output })
        (asked_is graph end.position entry found end.below ∙ ap (asked_of entry) files)
        (ap (λ (exit : Exit). exit.output) answers ∙ ap (λ (r : Request). (answer r).output) request)

    all_wanted : All IsWanted ends
    all_wanted k d lt =
        let end : End = get_or ends k d in
        end_wanted end (ends_started answer work (deps_before graph valid) events whole.lawful answered k d lt) (end_answers k d lt) (end_clean answer work valid makes records events whole.lawful answered k d lt)
      where
        end_answers : All (λ end. end.exit ≡ answer end.request) ends
        end_answers j e l = ((answers_of answer work (deps_before graph valid) events whole.lawful answered).ends j e l).answered

    module _ (at : ℕ) (entry : Entry) (found : slice_get graph at ≡ Some entry) where
      abbrev IsTheOne : Record → Type 0
      IsTheOne kept = is_of entry.name kept ≡ true → kept ≡ wanted entry

      abbrev has : List Record → Bool
      has more = list_any (is_of entry.name) more

      -- what is committed of one end
      commit_one : (end : End) → IsWanted end → All IsTheOne (commit_of graph end)
      commit_one end want = elim (cases_Bool (end.exit.code == 0)) [
        | inl good ↦ subst (All IsTheOne) (sym (cond-true (end.exit.code == 0) (record_at graph end.position end.below end.exit.output ∷ []) [] good))
            (All-cons IsTheOne (record_at graph end.position end.below end.exit.output) [] one (All-nil IsTheOne))
        | inr bad ↦ subst (All IsTheOne) (sym (cond-false (end.exit.code == 0) (record_at graph end.position end.below end.exit.output ∷ []) [] bad)) (All-nil IsTheOne)
      ] where
        one : IsTheOne (record_at graph end.position end.below end.exit.output)
        one of = elim (cases_eq end.position at) [
          | inl same ↦ want entry (ap (slice_get graph) same ∙ found)
          | inr other ↦ absurd (true≢false (sym of ∙ is_of_other graph end.position at end.below end.exit.output entry valid found other))
        ]

      all_ones : (xs : List End) → All IsWanted xs → All IsTheOne (commits_of graph xs)
      all_ones [] all = All-nil IsTheOne
      all_ones (end ∷ xs) all =
          subst (All IsTheOne) (sym (flat_map-cons (commit_of graph) end xs))
          (All-append IsTheOne (commit_of graph end) (commits_of graph xs) (commit_one end (All-head IsWanted end xs all)) (all_ones xs (All-tail IsWanted end xs all)))

      -- a file of which something was printed has a record
      has_one : (xs : List End) (output : List ℕ) → output_at (map child_of_end xs) at ≡ Some output → has (commits_of graph xs) ≡ true
      unfolding output_at
      has_one [] output is = absurd (none-some output is)
      has_one (end ∷ xs) output is =
          ap has (flat_map-cons (commit_of graph) end xs) ∙ list_any-append (is_of entry.name) (commit_of graph end) (commits_of graph xs) ∙ elim (cases_Bool (end.position == at && end.exit.code == 0)) [
            | inl does ↦
                let both = and_parts (end.position == at) (end.exit.code == 0) does in
                or_left (has (commit_of graph end)) (has (commits_of graph xs))
                (ap has (cond-true (end.exit.code == 0) (record_at graph end.position end.below end.exit.output ∷ []) [] both.1)
                ∙ or_left (is_of entry.name (record_at graph end.position end.below end.exit.output)) false
                (is_of_own graph end.position entry (ap (slice_get graph) (eqb-true end.position at both.0) ∙ found) end.below end.exit.output))
            | inr fails ↦
                or_right (has (commit_of graph end)) (has (commits_of graph xs))
                (has_one xs output (sym (cond-false (end.position == at && end.exit.code == 0) (Some end.exit.output) (output_at (map child_of_end xs) at) fails) ∙ is))
          ]

      module _ (unrecorded : (built : List BuiltFile) → work.current at built ≡ None) where
        within : at < length graph
        within = slice_get_within graph at entry found

        made : is_some (artefact_after work events at) ≡ true
        made = all_files_made answer work valid events whole answered (none_refused answer work valid makes records events whole.lawful answered) at within

        printed : (output : List ℕ) × (output_at (map child_of_end ends) at ≡ Some output)
        printed =
            let artefact = some_value (artefact_after work events at) made in
            let all : has_all (artefact_so_far work ends) (deps_at graph at) ≡ true = artefact_deps work (deps_before graph valid) (map child_of_end ends) at made in (
              artefact.0,
              sym (ap (λ (o : Option (List ℕ)). or_else o (output_at (map child_of_end ends) at)) (unrecorded (built_at graph (artefact_so_far work ends) (deps_at graph at))))
                  ∙ sym (artefact_free work (deps_before graph valid) (map child_of_end ends) at within all) ∙ artefact.1,
            )

        -- the latest record of its name
        pub latest_is : latest entry.name (commits work events) ≡ Some (wanted entry)
        latest_is = latest_wanted entry.name (wanted entry) (commits work events) (all_ones ends all_wanted) (has_one ends printed.0 printed.1)
