-- The settled build makes what a clean build makes, where nothing is recorded, and where what is recorded is what a clean build makes.
use Rattle.std.proofs.Common.{◌≡◌, ℕ, ◌<◌, ◌==◌, Bool, true, false, cond, List, [], length, get_or, Option, Some, None, refl, sym, ap, ap₂, subst, ◌∙◌, arith, inl, inr, is_some}
use Rattle.std.specs.Prelude.{All, slice_get}
use Rattle.std.specs.Option.{option_map, option_map_or, option_and_then}
use Rattle.std.specs.List.{list_all, filter_map}
use Rattle.std.proofs.lemmas.Bool.{cases_Bool, cond-true, cond-false}
use Rattle.std.proofs.lemmas.Option.{none-some, same_Some, slice_get_within, slice_get_cases, slice_get_past}
use Rattle.base.specs.declared.graph.Entry.{Entry}
use Rattle.base.specs.declared.graph.BuiltFile.{BuiltFile}
use Rattle.base.specs.declared.child.Request.{Request}
use Rattle.base.specs.declared.child.Exit.{Exit}
use Rattle.base.specs.Graphs.{IsGraph}
use Rattle.base.specs.Jobs.{compile_request}
use Rattle.outside.specs.Records.{deps_at}
use Rattle.run_spec.specs.CleanBuild.{Result, Made, Refused, Blocked, built_of, built_below, result_of, is_free, clean_build, clean_request, RecordsClean}
use Rattle.run_spec.specs.ChildJournal.{built_file, has_all, built_at}
use Rattle.run_spec.specs.Settled as settled
use Rattle.run_spec.specs.Settled.{Settled, settled_artefact, request_over, settled_by_exit, settled_by, settle, artefact_settled, is_asked, request_unless, none_current, IsTrueOver}
use Rattle.run_spec.proofs.Artefacts.{deps_before}
use Rattle.run_spec.proofs.BuiltLists.{has_all_same, built_same}
use Rattle.run_spec.proofs.FoldLaws.{by_all_below}
use Rattle.run_spec.proofs.SettledBuild.{settle_at, settled_past, true_same}
use Rattle.run_laws.proofs.CleanRanks.{list_all-same, filter_map-same, length-clean, clean_at}

-- what an exit says of a file, in both
exit_says : (entry : Entry) (exit : Exit) → built_file (Some entry) (settled_artefact (settled_by_exit exit)) ≡ built_of (Some (result_of entry exit))
exit_says entry exit = elim (cases_Bool (exit.code == 0)) [ inl good ↦ rw good refl | inr bad ↦ rw bad refl ]

some_file : (entry : Entry) (artefact : Option (List ℕ)) → is_some artefact ≡ is_some (built_file (Some entry) artefact)
some_file entry None = refl
some_file entry (Some artefact) = refl

entry_deps : (graph : List Entry) (at : ℕ) (entry : Entry) → slice_get graph at ≡ Some entry → deps_at graph at ≡ entry.deps
entry_deps graph at entry found = ap (λ (o : Option Entry). option_map_or (λ (e : Entry). e.deps) o []) found

module _ (answer : Request → Exit) (graph : List Entry) (valid : IsGraph graph) where
  abbrev clean : List Result
  clean = clean_build answer graph

  abbrev bare : ℕ → Option (List ℕ)
  bare position = artefact_settled answer graph none_current position

  -- what both make below a file
  module _ (at : ℕ) (entry : Entry) (found : slice_get graph at ≡ Some entry) (before : (dep : ℕ) → dep < at → built_file (slice_get graph dep) (bare dep) ≡ built_of (slice_get clean dep)) where
    low : All (λ dep. dep < at) entry.deps
    low = subst (All (λ dep. dep < at)) (entry_deps graph at entry found) (deps_before graph valid at)

    lt : at < length graph
    lt = slice_get_within graph at entry found

    some_dep : (dep : ℕ) → dep < at → is_some (bare dep) ≡ is_some (built_of (slice_get clean dep))
    some_dep dep less = elim (slice_get_cases graph dep).1 [
      | inl here ↦ some_file here.0 (bare dep) ∙ ap (λ (o : Option Entry). is_some (built_file o (bare dep))) (sym here.2) ∙ ap is_some (before dep less)
      | inr past ↦ absurd (omega (arith, past.0, less, lt))
    ]

    same_free : has_all bare (deps_at graph at) ≡ is_free clean entry
    unfolding has_all
    same_free = ap (list_all (λ dep. is_some (bare dep))) (entry_deps graph at entry found) ∙ list_all-same (λ dep. is_some (bare dep)) (λ dep. is_some (built_of (slice_get clean dep))) entry.deps 0 (λ k l. some_dep (get_or entry.deps k 0) (low k 0 l))

    same_below : built_at graph bare (deps_at graph at) ≡ built_below clean entry
    unfolding built_at
    same_below =
        ap (filter_map (λ dep. built_file (slice_get graph dep) (bare dep))) (entry_deps graph at entry found)
        ∙ filter_map-same (λ dep. built_file (slice_get graph dep) (bare dep)) (λ dep. built_of (slice_get clean dep)) entry.deps 0 (λ k l. before (get_or entry.deps k 0) (low k 0 l))

    -- the result of the file without records, in terms of the clean build
    settled_clean : settle answer graph none_current at ≡ cond (is_free clean entry) (settled_by_exit (answer (compile_request entry (built_below clean entry)))) settled.Blocked
    settled_clean =
        settle_at answer graph none_current (deps_before graph valid) at lt
        ∙ ap₂ (λ (all : Bool) (built : List BuiltFile). cond all (settled_by None (option_map answer (request_over graph at built))) settled.Blocked) same_free same_below
        ∙ ap (λ (o : Option Entry). cond (is_free clean entry) (settled_by None (option_map answer (option_map (λ e. compile_request e (built_below clean entry)) o))) settled.Blocked) found

    both_say : (free : Bool) (exit : Exit) → built_file (Some entry) (settled_artefact (cond free (settled_by_exit exit) settled.Blocked)) ≡ built_of (Some (cond free (result_of entry exit) Blocked))
    both_say true exit = exit_says entry exit
    both_say false exit = refl

    file_clean : built_file (slice_get graph at) (bare at) ≡ built_of (slice_get clean at)
    file_clean =
        ap₂ (λ (o : Option Entry) (s : Settled). built_file o (settled_artefact s)) found settled_clean
        ∙ both_say (is_free clean entry) (answer (compile_request entry (built_below clean entry))) ∙ ap built_of (sym (clean_at answer graph at entry found low))

  -- the settled build with nothing recorded is the clean build
  pub bare_clean : (at : ℕ) → built_file (slice_get graph at) (bare at) ≡ built_of (slice_get clean at)
  bare_clean =
      by_all_below (λ at. built_file (slice_get graph at) (bare at) ≡ built_of (slice_get clean at))
      (λ at before. elim (slice_get_cases graph at).1 [
        | inl here ↦ file_clean at here.0 here.2 before
        | inr past ↦ ap₂ built_file past.1 (ap settled_artefact (settled_past answer graph none_current at (omega (arith, past.0)))) ∙ ap built_of (sym (slice_get_past clean at (omega (arith, past.0, length-clean answer graph))))
      ])

  made_file : (entry : Entry) (artefact : Option (List ℕ)) (x : List ℕ) → built_file (Some entry) artefact ≡ Some (record { name = entry.name; artefact = x }) → artefact ≡ Some x
  made_file entry None x h = absurd (none-some (record { name = entry.name; artefact = x }) h)
  made_file entry (Some y) x h = let same : y ≡ x = ap (λ (file : BuiltFile). file.artefact) (same_Some (record { name = entry.name; artefact = y }) (record { name = entry.name; artefact = x }) h) in ap (λ (z : List ℕ). Some z) same

  free_part : (all : Bool) (s : Settled) (x : List ℕ) → settled_artefact (cond all s settled.Blocked) ≡ Some x → settled_artefact s ≡ Some x
  free_part true s x h = h
  free_part false s x h = absurd (none-some x h)

  -- where what is recorded is what a clean build makes, the settled build makes that too
  pub records_settled : (current : ℕ → List BuiltFile → Option (List ℕ)) → RecordsClean answer graph current → (at : ℕ) → artefact_settled answer graph current at ≡ bare at
  records_settled current records = true_same answer graph current (deps_before graph valid) true_at
    where
      true_at : (k : ℕ) → k < length graph → has_all bare (deps_at graph k) ≡ true → IsTrueOver answer graph current k (built_at graph bare (deps_at graph k))
      true_at k less every x says = elim (slice_get_cases graph k).1 [
        | inl here ↦
            let entry : Entry = here.0 in
            let made : slice_get clean k ≡ Some (Made (record { name = entry.name; artefact = x })) =
            records k x entry here.2 (sym (same_free k entry here.2 (λ dep under. bare_clean dep)) ∙ every) (ap (current k) (sym (same_below k entry here.2 (λ dep under. bare_clean dep))) ∙ says) in
            let is : bare k ≡ Some x = made_file entry (bare k) x (ap (λ (o : Option Entry). built_file o (bare k)) (sym here.2) ∙ bare_clean k ∙ ap built_of made) in
            free_part (has_all bare (deps_at graph k)) (settled_by None (option_map answer (request_over graph k (built_at graph bare (deps_at graph k))))) x
            (sym (ap settled_artefact (settle_at answer graph none_current (deps_before graph valid) k less)) ∙ is)
        | inr past ↦ absurd (omega (arith, past.0, less))
      ]

  made_result : (result : Option Result) (file : BuiltFile) → built_of result ≡ Some file → result ≡ Some (Made file)
  made_result None file h = absurd (none-some file h)
  made_result (Some (Made other)) file h = ap (λ (f : BuiltFile). Some (Made f)) (same_Some other file h)
  made_result (Some (Refused code output)) file h = absurd (none-some file h)
  made_result (Some Blocked) file h = absurd (none-some file h)

  module _ (current : ℕ → List BuiltFile → Option (List ℕ)) (records : RecordsClean answer graph current) where
    -- so that what the settled build makes is what a clean build makes
    pub file_settled : (at : ℕ) → built_file (slice_get graph at) (artefact_settled answer graph current at) ≡ built_of (slice_get clean at)
    file_settled at = ap (built_file (slice_get graph at)) (records_settled current records at) ∙ bare_clean at

    pub made_settled : (at : ℕ) (entry : Entry) (artefact : List ℕ) → slice_get graph at ≡ Some entry → artefact_settled answer graph current at ≡ Some artefact → slice_get clean at ≡ Some (Made (record { name = entry.name; artefact = artefact }))
    made_settled at entry artefact found is = made_result (slice_get clean at) (record { name = entry.name; artefact = artefact }) (sym (file_settled at) ∙ ap₂ built_file found is)

    asked_free : (all : Bool) (s : Settled) → is_asked (cond all s settled.Blocked) ≡ true → all ≡ true
    asked_free true s h = refl
    asked_free false s h = h

    -- and each request of the settled build is that of a clean build
    pub request_clean : (at : ℕ) (request : Request) → request_unless answer graph current at ≡ Some request → clean_request answer graph at ≡ Some request
    request_clean at request is = elim (cases_Bool (is_asked (settle answer graph current at))) [
      | inr other ↦ absurd (none-some request (sym (cond-false (is_asked (settle answer graph current at)) _ None other) ∙ is))
      | inl asked ↦ elim (slice_get_cases graph at).1 [
        | inr past ↦ absurd (none-some request (sym (ap (option_map (λ e. compile_request e (built_at graph (artefact_settled answer graph current) (deps_at graph at)))) past.1)
            ∙ sym (cond-true (is_asked (settle answer graph current at)) (request_over graph at (built_at graph (artefact_settled answer graph current) (deps_at graph at))) None asked) ∙ is))
        | inl here ↦
            let entry : Entry = here.0 in
            let all : ℕ → Option (List ℕ) = artefact_settled answer graph current in
            let same_all : (dep : ℕ) → all dep ≡ bare dep = records_settled current records in
            let free : is_free clean entry ≡ true =
            sym (same_free at entry here.2 (λ dep less. bare_clean dep)) ∙ sym (has_all_same all bare (deps_at graph at) (λ k d l. same_all (get_or (deps_at graph at) k d)))
            ∙ asked_free (has_all all (deps_at graph at)) _ (sym (ap is_asked (settle_at answer graph current (deps_before graph valid) at here.1)) ∙ asked) in
            let built : built_at graph all (deps_at graph at) ≡ built_below clean entry =
            built_same graph all bare (deps_at graph at) (λ k d l. same_all (get_or (deps_at graph at) k d)) ∙ same_below at entry here.2 (λ dep less. bare_clean dep) in
            let asks : request_over graph at (built_at graph all (deps_at graph at)) ≡ Some request =
            sym (cond-true (is_asked (settle answer graph current at)) (request_over graph at (built_at graph all (deps_at graph at))) None asked) ∙ is in
            rw (here.2, free) (sym (ap (λ (b : List BuiltFile). Some (compile_request entry b)) built) ∙ sym (ap (option_map (λ e. compile_request e (built_at graph all (deps_at graph at)))) here.2) ∙ asks)
      ]
    ]

    -- so that the result of a file follows from the results of a clean build below it
    module _ (at : ℕ) (entry : Entry) (found : slice_get graph at ≡ Some entry) where
      abbrev all : ℕ → Option (List ℕ)
      all = artefact_settled answer graph current

      abbrev asks : Request
      asks = compile_request entry (built_below clean entry)

      all_below : has_all all (deps_at graph at) ≡ is_free clean entry
      all_below = has_all_same all bare (deps_at graph at) (λ k d l. records_settled current records (get_or (deps_at graph at) k d)) ∙ same_free at entry found (λ dep less. bare_clean dep)

      files_below : built_at graph all (deps_at graph at) ≡ built_below clean entry
      files_below = built_same graph all bare (deps_at graph at) (λ k d l. records_settled current records (get_or (deps_at graph at) k d)) ∙ same_below at entry found (λ dep less. bare_clean dep)

      pub settle_is_clean : settle answer graph current at ≡ cond (is_free clean entry) (settled_by (current at (built_below clean entry)) (Some (answer asks))) settled.Blocked
      settle_is_clean =
          settle_at answer graph current (deps_before graph valid) at (slice_get_within graph at entry found)
          ∙ ap₂ (λ (free : Bool) (built : List BuiltFile). cond free (settled_by (current at built) (option_map answer (request_over graph at built))) settled.Blocked) all_below files_below
          ∙ ap (λ (o : Option Entry). cond (is_free clean entry) (settled_by (current at (built_below clean entry)) (option_map answer (option_map (λ e. compile_request e (built_below clean entry)) o))) settled.Blocked) found

      exit_asked : (exit : Exit) → is_asked (settled_by_exit exit) ≡ true
      exit_asked exit = elim (cases_Bool (exit.code == 0)) [ inl good ↦ rw good refl | inr bad ↦ rw bad refl ]

      asked_where : (free : Bool) (kept : Option (List ℕ)) (exit : Exit) (request : Request) →
          cond (is_asked (cond free (settled_by kept (Some exit)) settled.Blocked)) (Some request) None ≡ cond (is_some kept) None (cond free (Some request) None)
      asked_where true None exit request = cond-true (is_asked (settled_by_exit exit)) (Some request) None (exit_asked exit)
      asked_where true (Some artefact) exit request = refl
      asked_where false None exit request = refl
      asked_where false (Some artefact) exit request = refl

      -- and it asks what a clean build asks, of the files that have no current record over what a clean build makes below them
      pub request_is_clean : request_unless answer graph current at ≡ cond (is_some (current at (built_below clean entry))) None (clean_request answer graph at)
      request_is_clean =
          ap₂ (λ (s : Settled) (built : List BuiltFile). cond (is_asked s) (request_over graph at built) None) settle_is_clean files_below
          ∙ ap (λ (o : Option Entry). cond (is_asked (cond (is_free clean entry) (settled_by (current at (built_below clean entry)) (Some (answer asks))) settled.Blocked)) (option_map (λ e. compile_request e (built_below clean entry)) o) None) found
          ∙ asked_where (is_free clean entry) (current at (built_below clean entry)) (answer asks) asks
          ∙ ap (λ (o : Option Entry). cond (is_some (current at (built_below clean entry))) None (option_and_then (λ e. cond (is_free clean e) (Some (compile_request e (built_below clean e))) None) o)) (sym found)
