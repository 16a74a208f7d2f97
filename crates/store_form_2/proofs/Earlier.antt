-- The files below a request are those of requests over fewer files, which come before it.
use Rattle.std.proofs.Common.{◌≡◌, ℕ, ◌-◌, ◌<◌, List, [], ◌∷◌, ◌++◌, length, map, get_or, Option, Some, refl, sym, ap, subst, ◌∙◌, arith, inl, inr, ◌⊎◌}
use Rattle.std.specs.Prelude.{All, AllPairs, Contains, slice_get}
use Rattle.std.specs.List.{filter_map}
use Rattle.std.specs.Option.{option_and_then, option_map}
use Rattle.std.proofs.lemmas.List.{length-map, length-append, get_or_at, get_or_default}
use Rattle.std.proofs.lemmas.List.Elements.{All-contains, All-contains_itself, All-map, Contains-append_cases}
use Rattle.std.proofs.lemmas.Option.{get_or_from_slice_get}
use Rattle.base.specs.declared.graph.BuiltFile.{BuiltFile}
use Rattle.base.specs.declared.graph.Entry.{Entry}
use Rattle.base.specs.Graphs.{IsEntryAt, IsGraph}
use Rattle.base.specs.View.{rank_in, renumbered, viewed, view}
use Rattle.outside.specs.Records.{Record, built_of_record}
use Rattle.project_views.proofs.ViewLaws.{viewed_of}
use Rattle.project_views.proofs.Parts.{no_entry}
use Rattle.std.proofs.lemmas.List.Elements.{Contains-append_left}
use Rattle.store_form_2.specs.declared.kept_view.Record.{Record as ViewRecord}
use Rattle.store_form_2.specs.ViewRecords.{latest_views}
use Rattle.store_form_2.specs.Migrating.{built_in, each_of, migrated_requests, request_for, request_over}
use Rattle.store_form_2.proofs.Picking.{All-filter_map, AllPairs-head, length_each, picked_each}
use Rattle.store_form_2.proofs.Ranking.{All-ranked}
use Rattle.store_form_2.proofs.RankOrder.{AllPairs-after, IsOverNoMore, ranked_rise}
use Rattle.store_form_2.proofs.LatestViews.{All-latest_views, latest_among}
use Rattle.store_form_2.proofs.Members.{Contains-filter_map, Contains-map, Contains-ranked, each_some, each_there, either_first}
use Rattle.store_form_2.proofs.Requests.{StandsFor, stands_for}
use Rattle.store_form_2.proofs.BuiltBelow.{IsBuiltIn, is_built_in}
use Rattle.store_form_2.proofs.Sizes.{entry_at}
use Rattle.store_form_2.proofs.ViewParts.{built_alike, fewer_below, last_of_view}

-- A file was built by one of the requests, which is over fewer files.
record IsOfFewer (requests : List Record) (count : ℕ) (built : BuiltFile) : Type 0 where
  one : Record
  among : Contains requests one
  builds : built_of_record one ≡ built
  over : length one.asked.below < count

module _ (records : List ViewRecord) where
  -- the request for the view of a file, where all that it depends on are built in the graph
  request_of_view : (files : List Entry) → IsGraph files → (at : ℕ) (entry : Entry) → slice_get files at ≡ Some entry → (artefact : List ℕ)
      → All (λ dep. (built : BuiltFile) × (built_in records files dep ≡ Some built)) entry.deps
      → (built : List BuiltFile) × (request_for records (record { view = view files at; artefact = artefact }) ≡ Some (request_over entry artefact built)) × (length built ≡ length entry.deps)
  unfolding request_for
  request_of_view files valid at entry found artefact all =
      let positions : List ℕ = viewed files at in
      let locations : List ℕ = map (rank_in positions) entry.deps in
      let f : ℕ → Option BuiltFile = built_in records (view files at) in
      let has : (k : ℕ) → k < length entry.deps → Contains positions (get_or entry.deps k 0) = λ k l.
      subst (λ (ps : List ℕ). Contains ps (get_or entry.deps k 0)) (sym (viewed_of files at entry found))
      (Contains-append_left entry.deps (at ∷ []) (get_or entry.deps k 0) (k, l, get_or_default entry.deps k (get_or entry.deps k 0) 0 l)) in
      let inner : All (λ position. (built : BuiltFile) × (f position ≡ Some built)) locations =
      All-map (λ position. (built : BuiltFile) × (f position ≡ Some built)) (rank_in positions) entry.deps (λ k d l.
      let same : get_or entry.deps k d ≡ get_or entry.deps k 0 = get_or_default entry.deps k d 0 l in
      let one = all k d l in
      let held : Contains positions (get_or entry.deps k d) = subst (Contains positions) (sym same) (has k l) in
      (one.0, built_alike files at entry found valid records (get_or entry.deps k d) held ∙ one.1)) in
      let each = each_some f locations inner in (
        each.0,
        ap (option_and_then (λ e. option_map (request_over e artefact) (each_of (map f e.deps)))) (last_of_view files at entry found)
            ∙ ap (option_map (request_over (renumbered positions entry) artefact)) each.1,
        length_each f locations each.0 each.1 ∙ length-map entry.deps (rank_in positions),
      )

  -- a file below a request is of a request over fewer files
  module _ (kept : ViewRecord) (valid : IsGraph kept.view) (is : Record) (stands : StandsFor records kept is) where
    abbrev at : ℕ
    at = length kept.view - 1

    here : IsEntryAt kept.view at stands.entry
    here = entry_at kept.view valid at stands.entry stands.last

    over : length is.asked.below ≡ length stands.entry.deps
    over = sym (ap (λ (r : Record). length r.asked.below) stands.is_over) ∙ length_each (built_in records kept.view) stands.entry.deps stands.built stands.below

    of_fewer : (dep : ℕ) (built : BuiltFile) → Contains stands.entry.deps dep → built_in records kept.view dep ≡ Some built → IsOfFewer (migrated_requests records) (length is.asked.below) built
    unfolding migrated_requests
    of_fewer dep built has h =
        let below : IsBuiltIn records kept.view dep built = is_built_in records kept.view dep built h in
        let entry : Entry = below.entry in
        let position : IsEntryAt kept.view dep entry = entry_at kept.view valid dep entry below.found in
        let held : All (Contains stands.entry.deps) entry.deps =
        subst (λ (e : Entry). All (Contains stands.entry.deps) e.deps) (get_or_from_slice_get kept.view dep entry no_entry below.found)
        (All-contains (λ d. (other : Entry) → All (Contains stands.entry.deps) (get_or kept.view d other).deps) stands.entry.deps dep here.closed has no_entry) in
        let there : All (λ d. (b : BuiltFile) × (built_in records kept.view d ≡ Some b)) stands.entry.deps =
        each_there (built_in records kept.view) stands.entry.deps stands.built stands.below in
        let inner : All (λ d. (b : BuiltFile) × (built_in records kept.view d ≡ Some b)) entry.deps = λ k d l.
        All-contains (λ n. (b : BuiltFile) × (built_in records kept.view n ≡ Some b)) stands.entry.deps (get_or entry.deps k d) there (held k d l) in
        let made = request_of_view kept.view valid dep entry below.found below.kept.artefact inner in
        let one : Record = request_over entry below.kept.artefact made.0 in
        let of_kept : request_for records below.kept ≡ Some one =
        ap (λ (v : List Entry). request_for records (record { view = v; artefact = below.kept.artefact })) below.same ∙ made.1 in
        record {
          one = one;
          among = Contains-ranked (filter_map (request_for records) (latest_views records)) one
              (Contains-filter_map (request_for records) (latest_views records) below.kept one (latest_among entry.name records below.kept below.latest) of_kept);
          builds = below.is;
          over = omega (arith, made.2, over, fewer_below stands.entry.deps entry.deps dep here.rising position.rising has held position.before);
        }

    all_of_fewer : All (IsOfFewer (migrated_requests records) (length is.asked.below)) is.asked.below
    all_of_fewer =
        let deps : List ℕ = stands.entry.deps in
        let picked : filter_map (built_in records kept.view) deps ≡ stands.built =
        picked_each (built_in records kept.view) (built_in records kept.view) (λ dep built g. g) deps stands.built stands.below in
        let below : stands.built ≡ is.asked.below = ap (λ (r : Record). r.asked.below) stands.is_over in
        subst (All (IsOfFewer (migrated_requests records) (length is.asked.below))) (picked ∙ below)
        (All-filter_map (built_in records kept.view) (Contains deps) (IsOfFewer (migrated_requests records) (length is.asked.below)) (λ dep built has g. of_fewer dep built has g) deps (All-contains_itself deps))

  module _ (graphs : All (λ kept. IsGraph kept.view) records) where
    abbrev AreOfFewer : Record → Type 0
    AreOfFewer is = All (IsOfFewer (migrated_requests records) (length is.asked.below)) is.asked.below

    each_of_fewer : All AreOfFewer (migrated_requests records)
    unfolding migrated_requests
    each_of_fewer =
        All-ranked AreOfFewer (filter_map (request_for records) (latest_views records))
        (All-filter_map (request_for records) (λ kept. IsGraph kept.view) AreOfFewer (λ kept is valid h. all_of_fewer kept valid is (stands_for records kept is h)) (latest_views records)
        (All-latest_views (λ kept. IsGraph kept.view) records graphs))

    rise : AllPairs IsOverNoMore (migrated_requests records)
    unfolding migrated_requests
    rise = ranked_rise (filter_map (request_for records) (latest_views records))

    -- the files below a request were built by requests that come before it
    pub built_before : (before rest : List Record) (kept : Record) → migrated_requests records ≡ before ++ kept ∷ rest → All (Contains (map built_of_record before)) kept.asked.below
    built_before before rest kept same k d l =
        let whole : All AreOfFewer (before ++ kept ∷ rest) = subst (All AreOfFewer) same each_of_fewer in
        let size : length before < length (before ++ kept ∷ rest) = omega (arith, length-append before (kept ∷ rest)) in
        let own : AreOfFewer kept = subst AreOfFewer (get_or_at before kept rest kept (length before) refl) (whole (length before) kept size) in
        let one : IsOfFewer (migrated_requests records) (length kept.asked.below) (get_or kept.asked.below k d) = own k d l in
        let later : All (IsOverNoMore kept) rest = AllPairs-head IsOverNoMore kept rest (AllPairs-after IsOverNoMore before (kept ∷ rest) (subst (AllPairs IsOverNoMore) same rise)) in
        from one later (Contains-append_cases before (kept ∷ rest) one.one (subst (λ (rs : List Record). Contains rs one.one) same one.among)) where
          from : (one : IsOfFewer (migrated_requests records) (length kept.asked.below) (get_or kept.asked.below k d)) → All (IsOverNoMore kept) rest
              → Contains before one.one ⊎ Contains (kept ∷ rest) one.one → Contains (map built_of_record before) (get_or kept.asked.below k d)
          from one later (inl has) = subst (Contains (map built_of_record before)) one.builds (Contains-map built_of_record before one.one has)
          from one later (inr has) = absurd (not_later (either_first kept one.one rest has)) where
            not_later : (kept ≡ one.one) ⊎ Contains rest one.one → ⊥
            not_later (inl is) = omega (arith, ap (λ (r : Record). length r.asked.below) is, one.over)
            not_later (inr has) = omega (arith, All-contains (IsOverNoMore kept) rest one.one later has, one.over)
