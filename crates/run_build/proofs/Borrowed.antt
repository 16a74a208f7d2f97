-- What the store lends of files that are made, once all is committed.
use Rattle.std.proofs.Common.{◌≡◌, ℕ, suc, ◌<◌, ◌≤◌, Bool, true, List, [], ◌∷◌, ◌++◌, length, get_or, map, Option, Some, None, refl, sym, ap, subst, ◌∙◌, arith, inl, inr}
use Rattle.std.specs.Prelude.{All, slice_get, is_some}
use Rattle.std.specs.Option.{option_map, option_and_then, option_map_or}
use Rattle.std.specs.List.{filter_map, flat_map, list_all}
use Rattle.std.proofs.lemmas.Map.Keys.{sorted_from_strictly_increasing}
use Rattle.std.proofs.lemmas.Map.Views.{length-le_from_below}
use Rattle.std.proofs.lemmas.Bool.{cases_lt, and_parts, false≢true}
use Rattle.std.proofs.lemmas.List.Elements.{All-nil, All-cons, All-head, All-tail}
use Rattle.std.proofs.lemmas.Option.{none-some, same_Some, slice_get-get_or, slice_get_within, get_or_from_slice_get}
use Rattle.base.specs.declared.file.FileName.{FileName}
use Rattle.base.specs.declared.graph.Entry.{Entry}
use Rattle.base.specs.declared.graph.BuiltFile.{BuiltFile}
use Rattle.base.specs.declared.child.Request.{Request}
use Rattle.base.specs.declared.child.MaybeText.{MaybeText}
use Rattle.base.specs.declared.child.MaybeText.TheVariants.{Nothing}
use Rattle.base.specs.Graphs.{IsGraph, IsEntryAt}
use Rattle.base.specs.Jobs.{built_bytes, compile_input, compile_request}
use Rattle.child_compile_request.specs.declared.writing.RequestWriter.{RequestWriter}
use Rattle.child_compile_request.specs.Written as job
use Rattle.child_compile_request.proofs.WrittenInput.{compile_input-is}
use Rattle.outside.specs.Records.{Asked, Record, HasLatest, IsRecorded, asked_of, built_of_record, deps_at, latest_built, no_built}
use Rattle.run_spec.specs.ChildJournal.{Work, End, BuildProgress, child_of_end, or_else, output_at, built_file, built_at, has_all, artefact_so_far, files_below, request_at}
use Rattle.run_spec.proofs.BuiltLists.{has_all_at}
use Rattle.run_spec.proofs.RecordedArtefacts.{record_of_current}
use Rattle.run_spec.proofs.RecordNames.{asked_is}
use Rattle.run_spec.proofs.Artefacts.{deps_before, next_parts, artefact_at, none_past}
use Rattle.run_laws.proofs.CleanRanks.{filter_map-cons, filter_map-same}
use Rattle.run_spec.specs.Commits.{work_of, record_at, commits_of}
use Rattle.run_build.specs.Commits.{latest_after}
use Rattle.run_build.specs.Requests.{borrowed_file, borrowed_at, borrowed_request}
use Rattle.run_build.specs.UnderWay.{IsDueOver, IsKnown, HasRecords}
use Rattle.run_build.proofs.RecordsThen.{uncommitted, printed_of}

-- the file at a position, with its form
pub entry_is : (graph : List Entry) (position : ℕ) (entry : Entry) → IsGraph graph → slice_get graph position ≡ Some entry → IsEntryAt graph position entry
entry_is graph position entry is at = subst (IsEntryAt graph position) (get_or_from_slice_get graph position entry entry at) (is.each position entry (slice_get_within graph position entry at))

pub some_there : {X : Type 0} (o : Option X) → is_some o ≡ true → (x : X) × (o ≡ Some x)
some_there None h = absurd (false≢true h)
some_there (Some x) h = (x, refl)

pub item_at : {X : Type 0} (xs : List X) (k : ℕ) → k < length xs → (x : X) × (slice_get xs k ≡ Some x)
item_at [] k lt = absurd (omega arith)
item_at (x ∷ xs) k lt = (get_or (x ∷ xs) k x, slice_get-get_or (x ∷ xs) k x lt)

-- a test that all items pass
pub All-from_test : {X : Type 0} (p : X → Bool) (xs : List X) → list_all p xs ≡ true → All (λ x. p x ≡ true) xs
All-from_test p [] all = All-nil (λ x. p x ≡ true)
All-from_test p (x ∷ xs) all = let parts = and_parts (p x) (list_all p xs) all in All-cons (λ y. p y ≡ true) x xs parts.0 (All-from_test p xs parts.1)

abbrev pub file_of : FileName → List ℕ → BuiltFile
file_of name artefact = record { name = name; artefact = artefact }

-- what a store lends that knows the records of made files
pub borrowed_same : (graph : List Entry) (latest_of : FileName → Option Record) (made : ℕ → Option (List ℕ)) (position : ℕ) (entry : Entry) (artefact : List ℕ) (below : List BuiltFile) → slice_get graph position ≡ Some entry → made position ≡ Some artefact →
    latest_of entry.name ≡ Some (record_at graph position below artefact) → built_file (slice_get graph position) (made position) ≡ borrowed_at latest_of graph position
unfolding borrowed_at
borrowed_same graph latest_of made position entry artefact below at is latest =
    ap (λ (o : Option Entry). built_file o (made position)) at ∙ ap (built_file (Some entry)) is
    ∙ sym (ap (option_and_then (borrowed_file latest_of)) at ∙ ap (option_map (λ (kept : Record). record { name = entry.name; artefact = kept.artefact })) latest)

or_nothing : (kept : Option (List ℕ)) → or_else kept None ≡ kept
or_nothing None = refl
or_nothing (Some artefact) = refl

module _ (graph : List Entry) (first : FileName → Option Record) (slots : ℕ) (keep_going : Bool) (progress : BuildProgress) (latest_of : FileName → Option Record) (is : IsGraph graph) (has : HasRecords (work_of first graph slots keep_going) first progress) (knows : (name : FileName) → latest_of name ≡ latest_after (commits_of graph progress.ends) first name) where
  abbrev ends : List End
  ends = progress.ends

  abbrev work : Work
  work = work_of first graph slots keep_going

  abbrev made : ℕ → Option (List ℕ)
  made = artefact_so_far work ends

  ordered : (position : ℕ) → All (λ dep. dep < position) (deps_at graph position)
  ordered = deps_before graph is

  -- what a made file is made by: its record, or a child
  made_parts : (position : ℕ) (artefact : List ℕ) → made position ≡ Some artefact → (has_all made (deps_at graph position) ≡ true) × (or_else (work.current position (files_below work ends position)) (output_at (map child_of_end ends) position) ≡ Some artefact)
  made_parts position artefact found = elim (cases_lt position (length graph)) [
    | inl lt ↦ next_parts work (map child_of_end ends) made position artefact (sym (artefact_at work ordered (map child_of_end ends) position lt) ∙ found)
    | inr le ↦ absurd (none-some artefact (sym (none_past work (map child_of_end ends) position le) ∙ found))
  ]

  -- the store knows the record of a made file
  pub knows_made : (position : ℕ) (entry : Entry) (artefact : List ℕ) → slice_get graph position ≡ Some entry → made position ≡ Some artefact → latest_of entry.name ≡ Some (record_at graph position (files_below work ends position) artefact)
  knows_made position entry artefact at found = by (output_at (map child_of_end ends) position) refl
    where
      files : List BuiltFile
      files = files_below work ends position

      gives : or_else (work.current position files) (output_at (map child_of_end ends) position) ≡ Some artefact
      gives = (made_parts position artefact found).1

      by : (out : Option (List ℕ)) → output_at (map child_of_end ends) position ≡ out → latest_of entry.name ≡ Some (record_at graph position files artefact)
      by None none =
          let current : work.current position files ≡ Some artefact = sym (or_nothing (work.current position files)) ∙ ap (or_else (work.current position files)) (sym none) ∙ gives in
          knows entry.name ∙ uncommitted graph is position entry at ends first none
          ∙ record_of_current first graph position entry files at artefact current
          ∙ ap (λ (asked : Asked). Some (record { asked = asked; artefact = artefact })) (sym (asked_is graph position entry at files))
      by (Some output) printed =
          let both : All (λ end. IsDueOver work ends end.position end.below × IsKnown graph first ends end) ends = λ k d lt. (has.ends k d lt, has.known k d lt) in
          let one = printed_of (λ end. IsDueOver work ends end.position end.below × IsKnown graph first ends end) position ends output both printed in
          let end : End = one.0 in
          let below_is : end.below ≡ files = one.4.0.below_is ∙ ap (files_below work ends) one.1 in
          let none : work.current position files ≡ None = ap (λ (b : List BuiltFile). work.current position b) (sym below_is) ∙ ap (λ (p : ℕ). work.current p end.below) (sym one.1) ∙ one.4.0.stale in
          let same : output ≡ artefact = same_Some output artefact (sym (ap (λ (o : Option (List ℕ)). or_else o (Some output)) none) ∙ ap (or_else (work.current position files)) (sym printed) ∙ gives) in
          knows entry.name ∙ one.4.1 entry (ap (slice_get graph) one.1 ∙ at) one.2
          ∙ ap (λ (p : ℕ). Some (record_at graph p end.below end.exit.output)) one.1
          ∙ ap (λ (b : List BuiltFile). Some (record_at graph position b end.exit.output)) below_is
          ∙ ap (λ (a : List ℕ). Some (record_at graph position files a)) (one.3 ∙ same)

  -- and so it has one of each made file
  pub made_latest : (position : ℕ) → position < length graph → is_some (made position) ≡ true → HasLatest latest_of graph position
  made_latest position lt found =
      let entry = item_at graph position lt in
      let artefact = some_there (made position) found in
      record { entry = entry.0; is_entry = entry.1; kept = record_at graph position (files_below work ends position) artefact.0; is = knows_made position entry.0 artefact.0 entry.1 artefact.1 }

  -- of which it has the file with its artefact
  built_latest : (position : ℕ) → position < length graph → is_some (made position) ≡ true → built_file (slice_get graph position) (made position) ≡ Some (latest_built latest_of graph position)
  built_latest position lt found =
      let entry = item_at graph position lt in
      let artefact = some_there (made position) found in
      let files : List BuiltFile = files_below work ends position in
      let kept : Record = record_at graph position files artefact.0 in
      ap (λ (o : Option Entry). built_file o (made position)) entry.1 ∙ ap (built_file (Some entry.0)) artefact.1
      ∙ ap (λ (n : FileName). Some (file_of n artefact.0)) (sym (ap (λ (a : Asked). a.name) (asked_is graph position entry.0 entry.1 files)))
      ∙ sym (ap (λ (o : Option Entry). Some (option_map_or (λ (e : Entry). option_map_or built_of_record (latest_of e.name) no_built) o no_built)) entry.1
      ∙ ap (λ (o : Option Record). Some (option_map_or built_of_record o no_built)) (knows_made position entry.0 artefact.0 entry.1 artefact.1))

  all_latest_from : (deps : List ℕ) → All (λ dep. dep < length graph) deps → All (λ dep. is_some (made dep) ≡ true) deps → built_at graph made deps ≡ map (latest_built latest_of graph) deps
  unfolding built_at
  all_latest_from [] low all = refl
  all_latest_from (dep ∷ deps) low all =
      filter_map-cons (λ d. built_file (slice_get graph d) (made d)) dep deps (Some (latest_built latest_of graph dep))
      (built_latest dep (All-head (λ d. d < length graph) dep deps low) (All-head (λ d. is_some (made d) ≡ true) dep deps all))
      ∙ ap (λ (files : List BuiltFile). latest_built latest_of graph dep ∷ files) (all_latest_from deps (All-tail (λ d. d < length graph) dep deps low) (All-tail (λ d. is_some (made d) ≡ true) dep deps all))

  -- what a file whose dependencies are made would be asked over is what the store has of them
  module _ (position : ℕ) (entry : Entry) (at : slice_get graph position ≡ Some entry) (all : All (λ dep. is_some (made dep) ≡ true) (deps_at graph position)) where
    deps_are : deps_at graph position ≡ entry.deps
    deps_are = ap (λ (o : Option Entry). option_map_or (λ (e : Entry). e.deps) o []) at

    pub files_latest : files_below work ends position ≡ map (latest_built latest_of graph) entry.deps
    files_latest =
        all_latest_from (deps_at graph position) (λ k d l. omega (arith, ordered position k d l, slice_get_within graph position entry at)) all
        ∙ ap (map (latest_built latest_of graph)) deps_are

    pub files_now : files_below work ends position ≡ map (latest_built latest_of graph) (deps_at graph position)
    files_now = files_latest ∙ ap (map (latest_built latest_of graph)) (sym deps_are)

    pub deps_latest : All (HasLatest latest_of graph) entry.deps
    deps_latest =
        subst (All (HasLatest latest_of graph)) deps_are
        (λ k d l. made_latest (get_or (deps_at graph position) k d) (omega (arith, ordered position k d l, slice_get_within graph position entry at)) (all k d l))

  -- a made file's record has what would be asked now
  pub made_recorded : (position : ℕ) → position < length graph → is_some (made position) ≡ true → IsRecorded latest_of graph position
  made_recorded position lt found =
      let entry = item_at graph position lt in
      let artefact = some_there (made position) found in
      let all : All (λ dep. is_some (made dep) ≡ true) (deps_at graph position) = has_all_at made (deps_at graph position) (made_parts position artefact.0 artefact.1).0 in
      record {
        entry = entry.0;
        is_entry = entry.1;
        built = deps_latest position entry.0 entry.1 all;
        artefact = artefact.0;
        is = knows_made position entry.0 artefact.0 entry.1 artefact.1
            ∙ ap (λ (asked : Asked). Some (record { asked = asked; artefact = artefact.0 })) (asked_is graph position entry.0 entry.1 (files_below work ends position))
            ∙ ap (λ (files : List BuiltFile). Some (record { asked = asked_of entry.0 files; artefact = artefact.0 })) (files_latest position entry.0 entry.1 all);
      }

  -- what it lends is the artefact so far
  pub borrowed_is : (position : ℕ) → position < length graph → is_some (made position) ≡ true → built_file (slice_get graph position) (made position) ≡ borrowed_at latest_of graph position
  borrowed_is position lt found =
      let entry = item_at graph position lt in
      let artefact = some_there (made position) found in
      borrowed_same graph latest_of made position entry.0 artefact.0 (files_below work ends position) entry.1 artefact.1 (knows_made position entry.0 artefact.0 entry.1 artefact.1)

  -- what a compiler is asked over borrowed artefacts is what it is to be asked
  pub request_is : (position : ℕ) → position < length graph → All (λ dep. is_some (made dep) ≡ true) (deps_at graph position) →
      borrowed_request latest_of graph position ≡ request_at work ends position
  unfolding request_at built_at
  request_is position lt all =
      let entry = item_at graph position lt in
      let there : All (λ dep. is_some (made dep) ≡ true) entry.0.deps = subst (λ (o : Option Entry). All (λ dep. is_some (made dep) ≡ true) (option_map_or (λ (e : Entry). e.deps) o [])) entry.1 all in
      let before : All (λ dep. dep < position) entry.0.deps = (entry_is graph position entry.0 is entry.1).before in
      let same : filter_map (borrowed_at latest_of graph) entry.0.deps ≡ filter_map (λ dep. built_file (slice_get graph dep) (made dep)) entry.0.deps =
      filter_map-same (borrowed_at latest_of graph) (λ dep. built_file (slice_get graph dep) (made dep)) entry.0.deps 0
      (λ k l. sym (borrowed_is (get_or entry.0.deps k 0) (omega (arith, before k 0 l, lt)) (there k 0 l))) in
      ap (option_map (λ (e : Entry). compile_request e (filter_map (borrowed_at latest_of graph) e.deps))) entry.1
      ∙ ap (λ (files : List BuiltFile). Some (compile_request entry.0 files)) same
      ∙ sym (ap (option_map (λ (e : Entry). compile_request e (filter_map (λ dep. built_file (slice_get graph dep) (made dep)) e.deps))) entry.1)

-- it depends on fewer files than come before it
pub few_deps : (graph : List Entry) (position : ℕ) (entry : Entry) → IsEntryAt graph position entry → length entry.deps ≤ position
few_deps graph position entry is = length-le_from_below position entry.deps (sorted_from_strictly_increasing entry.deps is.rising) is.before

borrowed_from : (name : FileName) (latest : Option Record) (artefact : List ℕ) → option_map (λ (kept : Record). kept.artefact) latest ≡ Some artefact →
    option_map {U = BuiltFile} (λ (kept : Record). record { name = name; artefact = kept.artefact }) latest ≡ Some (record { name = name; artefact = artefact })
borrowed_from name None artefact h = let nothing : ⊥ = cc in absurd nothing
borrowed_from name (Some kept) artefact h = let same : kept.artefact ≡ artefact = cc in ap (λ (a : List ℕ). Some (file_of name a)) same

-- what the store lends for a file
pub borrowed_of : (latest_of : FileName → Option Record) (graph : List Entry) (position : ℕ) (entry : Entry) (artefact : List ℕ) → slice_get graph position ≡ Some entry →
    Some artefact ≡ option_map (λ (kept : Record). kept.artefact) (latest_of entry.name) → borrowed_at latest_of graph position ≡ Some (record { name = entry.name; artefact = artefact })
unfolding borrowed_at
borrowed_of latest_of graph position entry artefact at is = ap (option_and_then (borrowed_file latest_of)) at ∙ borrowed_from entry.name (latest_of entry.name) artefact (sym is)

pub recorded_borrowed : (latest_of : FileName → Option Record) (graph : List Entry) (position : ℕ) → IsRecorded latest_of graph position → (file : BuiltFile) × (borrowed_at latest_of graph position ≡ Some file)
recorded_borrowed latest_of graph position recorded =
    (record { name = recorded.entry.name; artefact = recorded.artefact }, borrowed_of latest_of graph position recorded.entry recorded.artefact recorded.is_entry (sym (ap (option_map (λ (kept : Record). kept.artefact)) recorded.is)))

-- as many files are borrowed as are recorded
pub length_borrowed : (latest_of : FileName → Option Record) (graph : List Entry) (positions : List ℕ) → All (IsRecorded latest_of graph) positions → length (filter_map (borrowed_at latest_of graph) positions) ≡ length positions
length_borrowed latest_of graph [] all = refl
length_borrowed latest_of graph (position ∷ positions) all =
    let here = recorded_borrowed latest_of graph position (All-head (IsRecorded latest_of graph) position positions all) in
    ap length (filter_map-cons (borrowed_at latest_of graph) position positions (Some here.0) here.1)
    ∙ ap suc (length_borrowed latest_of graph positions (All-tail (IsRecorded latest_of graph) position positions all))

-- the request that was written over borrowed files
pub borrowed_request_is : (latest_of : FileName → Option Record) (graph : List Entry) (position : ℕ) (entry : Entry) → slice_get graph position ≡ Some entry → (deps : List ℕ) → deps ≡ entry.deps → All (IsRecorded latest_of graph) deps →
    (request : Request) (written begun : RequestWriter) → begun ≡ job.begun entry (length deps) → request.command ≡ written.command → request.input ≡ written.input → request.results ≡ Nothing →
    written.command ≡ begun.command → written.input ≡ begun.input ++ flat_map built_bytes (filter_map (borrowed_at latest_of graph) deps) → borrowed_request latest_of graph position ≡ Some request
borrowed_request_is latest_of graph position entry at deps same all request written begun begins words input results command bytes =
    let files : List BuiltFile = filter_map (borrowed_at latest_of graph) deps in
    let number : length files ≡ length deps = length_borrowed latest_of graph deps all in
    let is_input : request.input ≡ compile_input entry.name entry.text files =
    input ∙ bytes
    ∙ ap (λ (w : RequestWriter). w.input ++ flat_map built_bytes files) (begins ∙ ap (job.begun entry) (sym number)) ∙ compile_input-is entry.name entry.text files in
    let is_command : request.command ≡ entry.command = words ∙ command ∙ ap (λ (w : RequestWriter). w.command) begins in
    let is_request : request ≡ compile_request entry files =
    ap (λ (w : List (List ℕ)). record { command = w; input = request.input; results = request.results }) is_command
    ∙ ap (λ (i : List ℕ). record { command = entry.command; input = i; results = request.results }) is_input
    ∙ ap (λ (r : MaybeText). record { command = entry.command; input = compile_input entry.name entry.text files; results = r }) results in
    ap (option_map (λ (e : Entry). compile_request e (filter_map (borrowed_at latest_of graph) e.deps))) at
    ∙ ap (λ (l : List ℕ). Some (compile_request entry (filter_map (borrowed_at latest_of graph) l))) (sym same) ∙ ap (λ (r : Request). Some r) (sym is_request)
