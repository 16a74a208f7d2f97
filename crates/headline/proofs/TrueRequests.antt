-- The request that stands for a true record of a view is a true record, where the records below it are true.
use Rattle.std.proofs.Common.{◌≡◌, ℕ, ◌-◌, Bool, true, false, cond, eqb, List, map, [], ◌∷◌, ◌++◌, length, Some, refl, sym, ap, subst, ◌∙◌, arith}
use Rattle.std.specs.Prelude.{All, slice_get}
use Rattle.std.specs.List.{filter_map}
use Rattle.std.proofs.lemmas.Bool.{eqb-true}
use Rattle.std.proofs.lemmas.List.{length-append, map-append}
use Rattle.std.proofs.lemmas.Option.{same_Some}
use Rattle.base.specs.declared.graph.Entry.{Entry}
use Rattle.base.specs.declared.graph.BuiltFile.{BuiltFile}
use Rattle.base.specs.declared.child.Request.{Request}
use Rattle.base.specs.declared.child.Exit.{Exit}
use Rattle.base.specs.Graphs.{IsGraph}
use Rattle.base.specs.Jobs.{compile_request}
use Rattle.outside.specs.Records.{Record}
use Rattle.store_form_2.specs.declared.kept_view.Record.{Record as ViewRecord}
use Rattle.run_spec.specs.CleanBuild.{Result, Made, Refused, Blocked, built_of, built_below, result_of, is_free, next_result, clean_build}
use Rattle.run_spec.specs.Faithful.{IsTrueRecord}
use Rattle.run_spec.proofs.Ranks.{slice_get-pushed}
use Rattle.run_laws.proofs.CleanRanks.{length-clean}
use Rattle.store_form_2.specs.ViewRecords.{latest_views}
use Rattle.store_form_2.specs.Migrating.{built_in, migrated_requests, request_for, request_over}
use Rattle.store_form_2.proofs.Picking.{All-filter_map, picked_each}
use Rattle.store_form_2.proofs.Ranking.{All-ranked}
use Rattle.store_form_2.proofs.LatestViews.{All-latest_view, All-latest_views}
use Rattle.store_form_2.proofs.Requests.{StandsFor, stands_for}
use Rattle.store_form_2.proofs.BuiltBelow.{IsBuiltIn, is_built_in}
use Rattle.headline.specs.TrueViews.{IsTrueView}
use Rattle.headline.proofs.CleanEnds.{here_next, made_of_true}

-- a compiler that made a file answered with the code 0 and the artefact
answered_by : (entry : Entry) (exit : Exit) (zero_code : Bool) (file : BuiltFile) → eqb exit.code 0 ≡ zero_code
    → cond zero_code (Made (record { name = entry.name; artefact = exit.output })) (Refused exit.code exit.output) ≡ Made file → (exit.code ≡ 0) × (exit.output ≡ file.artefact)
answered_by entry exit true file is h =
    let same : record { name = entry.name; artefact = exit.output } ≡ file = cc in
    (eqb-true exit.code 0 is, ap (λ (f : BuiltFile). f.artefact) same)
answered_by entry exit false file is h = absurd (let nothing : ⊥ = cc in nothing)

answered : (entry : Entry) (exit : Exit) (free : Bool) (file : BuiltFile) → cond free (result_of entry exit) Blocked ≡ Made file → (exit.code ≡ 0) × (exit.output ≡ file.artefact)
answered entry exit true file h = answered_by entry exit (eqb exit.code 0) file refl h
answered entry exit false file h = absurd (let nothing : ⊥ = cc in nothing)

module _ (answer : Request → Exit) (records : List ViewRecord) (graphs : All (λ kept. IsGraph kept.view) records) (holds : All (IsTrueView answer) records) where
  -- a file below that was built so is what a clean build of the view makes
  made_below : (files : List Entry) → IsGraph files → (at : ℕ) (built : BuiltFile) → built_in records files at ≡ Some built
      → built_of (slice_get (clean_build answer files) at) ≡ Some built
  made_below files valid at built h =
      let is : IsBuiltIn records files at built = is_built_in records files at built h in
      let true_one : IsTrueView answer is.kept = All-latest_view (IsTrueView answer) is.entry.name records is.kept holds is.latest in
      ap built_of (made_of_true answer files valid at is.entry is.found is.kept is.same true_one) ∙ ap (λ (f : BuiltFile). Some f) is.is

  -- the last file of a true view is made, with the artefact
  last_made : (kept : ViewRecord) → (true_one : IsTrueView answer kept)
      → slice_get (clean_build answer kept.view) (length kept.view - 1) ≡ Some (Made (record { name = true_one.name; artefact = kept.artefact }))
  last_made kept true_one =
      let file : BuiltFile = record { name = true_one.name; artefact = kept.artefact } in
      let before : List Result = map Made true_one.prefix in
      let all : clean_build answer kept.view ≡ before ++ Made file ∷ [] = true_one.all_made ∙ map-append Made true_one.prefix (file ∷ []) in
      let count : length kept.view - 1 ≡ length before = omega (arith, length-clean answer kept.view, ap length all, length-append before (Made file ∷ [])) in
      ap (slice_get (clean_build answer kept.view)) count ∙ ap (λ (rs : List Result). slice_get rs (length before)) all ∙ slice_get-pushed before (Made file)

  one_true : (kept : ViewRecord) (is : Record) → IsGraph kept.view × IsTrueView answer kept → request_for records kept ≡ Some is → IsTrueRecord answer is
  one_true kept is both h =
      let stands : StandsFor records kept is = stands_for records kept is h in
      let results : List Result = clean_build answer kept.view in
      let entry : Entry = stands.entry in
      let file : BuiltFile = record { name = both.1.name; artefact = kept.artefact } in
      let next : next_result answer results entry ≡ Made file =
      same_Some (next_result answer results entry) (Made file) (sym (here_next answer kept.view both.0 (length kept.view - 1) entry stands.last) ∙ last_made kept both.1) in
      let below : built_below results entry ≡ stands.built =
      picked_each (built_in records kept.view) (λ dep. built_of (slice_get results dep)) (made_below kept.view both.0) entry.deps stands.built stands.below in
      let parts : ((answer (compile_request entry (built_below results entry))).code ≡ 0) × ((answer (compile_request entry (built_below results entry))).output ≡ kept.artefact) =
      answered entry (answer (compile_request entry (built_below results entry))) (is_free results entry) file next in
      let true_over : IsTrueRecord answer (request_over entry kept.artefact stands.built) = record {
        code = sym (ap (λ (files : List BuiltFile). (answer (compile_request entry files)).code) below) ∙ parts.0;
        output = sym (ap (λ (files : List BuiltFile). (answer (compile_request entry files)).output) below) ∙ parts.1;
      } in
      subst (IsTrueRecord answer) stands.is_over true_over

  -- so all of them are
  pub all_true : All (IsTrueRecord answer) (migrated_requests records)
  unfolding migrated_requests
  all_true =
      let both : All (λ kept. IsGraph kept.view × IsTrueView answer kept) records = λ i d l. (graphs i d l, holds i d l) in
      All-ranked (IsTrueRecord answer) (filter_map (request_for records) (latest_views records))
      (All-filter_map (request_for records) (λ kept. IsGraph kept.view × IsTrueView answer kept) (IsTrueRecord answer) one_true (latest_views records)
      (All-latest_views (λ kept. IsGraph kept.view × IsTrueView answer kept) records both))
