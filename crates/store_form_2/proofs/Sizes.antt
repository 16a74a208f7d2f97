-- The sizes and names of a request that stands for a record of a view.
use Rattle.std.proofs.Common.{◌≡◌, ◌≢◌, ℕ, ◌-◌, ◌<◌, ◌≤◌, List, length, Some, sym, ap, subst, ◌∙◌, arith}
use Rattle.std.specs.Prelude.{All, AllPairs, slice_get}
use Rattle.std.specs.List.{filter_map}
use Rattle.std.proofs.lemmas.List.Kept.{AllPairs-from_increasing}
use Rattle.std.proofs.lemmas.Option.{slice_get_within, get_or_from_slice_get}
use Rattle.base.specs.declared.graph.BuiltFile.{BuiltFile}
use Rattle.base.specs.declared.graph.Entry.{Entry}
use Rattle.base.specs.declared.limits.TheConstants.{ARTEFACT_LIMIT, FILE_LIMIT, TEXT_LIMIT}
use Rattle.base.specs.Graphs.{IsBuiltFile, IsEntryAt, IsGraph}
use Rattle.base.specs.Names.{FitsCommand, FitsName}
use Rattle.outside.specs.Records.{Record}
use Rattle.project_views.proofs.Rising.{few}
use Rattle.store_form_2.specs.declared.kept_view.Record.{Record as ViewRecord}
use Rattle.store_form_2.specs.ViewRecords.{latest_views}
use Rattle.store_form_2.specs.Migrating.{built_in, migrated_requests, request_for, request_over}
use Rattle.store_form_2.proofs.Picking.{All-filter_map, AllPairs-filter_map, length_each, picked_each}
use Rattle.store_form_2.proofs.Ranking.{All-ranked}
use Rattle.store_form_2.proofs.LatestViews.{All-latest_view, All-latest_views}
use Rattle.store_form_2.proofs.Requests.{StandsFor, stands_for}
use Rattle.store_form_2.proofs.BuiltBelow.{IsBuiltIn, is_built_in}

-- The name, the command, the text and the artefact of a record are within their limits. It has fewer files below it than the limit.
-- Each of these is a built file, and their names differ from each other and from the record's.
pub record HasSizes (kept : Record) : Type 0 where
  pub name : FitsName kept.asked.name
  pub command : FitsCommand kept.asked.command
  pub text : length kept.asked.text ≤ TEXT_LIMIT
  pub small : length kept.artefact ≤ ARTEFACT_LIMIT
  pub few : length kept.asked.below < FILE_LIMIT
  pub below : All IsBuiltFile kept.asked.below
  pub apart : AllPairs (λ a b. a.name ≢ b.name) kept.asked.below
  pub others : All (λ other. other.name ≢ kept.asked.name) kept.asked.below

abbrev IsSmall : ViewRecord → Type 0
IsSmall kept = length kept.artefact ≤ ARTEFACT_LIMIT

pub entry_at : (graph : List Entry) → IsGraph graph → (at : ℕ) (entry : Entry) → slice_get graph at ≡ Some entry → IsEntryAt graph at entry
entry_at graph valid at entry found = subst (IsEntryAt graph at) (get_or_from_slice_get graph at entry entry found) (valid.each at entry (slice_get_within graph at entry found))

-- two files have two names
names_differ : (graph : List Entry) (i j : ℕ) (e f : Entry) → IsGraph graph → slice_get graph i ≡ Some e → slice_get graph j ≡ Some f → i < j → e.name ≢ f.name
names_differ graph i j e f is at_i at_j lt same =
    is.distinct i j e lt (slice_get_within graph j f at_j)
    (ap (λ (x : Entry). x.name) (get_or_from_slice_get graph i e e at_i) ∙ same ∙ sym (ap (λ (x : Entry). x.name) (get_or_from_slice_get graph j f e at_j)))

module _ (records : List ViewRecord) (small : All IsSmall records) (files : List Entry) (valid : IsGraph files) where
  name_of : (at : ℕ) (built : BuiltFile) → (is : IsBuiltIn records files at built) → is.entry.name ≡ built.name
  name_of at built is = ap (λ (f : BuiltFile). f.name) is.is

  built_fits : (at : ℕ) (built : BuiltFile) → built_in records files at ≡ Some built → IsBuiltFile built
  built_fits at built h =
      let is : IsBuiltIn records files at built = is_built_in records files at built h in
      let fits : IsBuiltFile (record { name = is.entry.name; artefact = is.kept.artefact }) = record {
        name = (entry_at files valid at is.entry is.found).name;
        artefact = All-latest_view IsSmall is.entry.name records is.kept small is.latest;
      } in
      subst IsBuiltFile is.is fits

  built_apart : (i j : ℕ) (a b : BuiltFile) → i < j → built_in records files i ≡ Some a → built_in records files j ≡ Some b → a.name ≢ b.name
  built_apart i j a b lt g h same =
      let one : IsBuiltIn records files i a = is_built_in records files i a g in
      let other : IsBuiltIn records files j b = is_built_in records files j b h in
      names_differ files i j one.entry other.entry valid one.found other.found lt (name_of i a one ∙ same ∙ sym (name_of j b other))

  built_other : (at : ℕ) (entry : Entry) → slice_get files at ≡ Some entry → (dep : ℕ) (built : BuiltFile) → dep < at → built_in records files dep ≡ Some built → built.name ≢ entry.name
  built_other at entry found dep built lt h same =
      let is : IsBuiltIn records files dep built = is_built_in records files dep built h in
      names_differ files dep at is.entry entry valid is.found found lt (name_of dep built is ∙ same)

module _ (records : List ViewRecord) (graphs : All (λ kept. IsGraph kept.view) records) (small : All IsSmall records) where
  one_fits : (kept : ViewRecord) (is : Record) → IsGraph kept.view × IsSmall kept → request_for records kept ≡ Some is → HasSizes is
  one_fits kept is both h =
      let stands : StandsFor records kept is = stands_for records kept is h in
      let at : ℕ = length kept.view - 1 in
      let entry : Entry = stands.entry in
      let here : IsEntryAt kept.view at entry = entry_at kept.view both.0 at entry stands.last in
      let within : at < length kept.view = slice_get_within kept.view at entry stands.last in
      let picked : filter_map (built_in records kept.view) entry.deps ≡ stands.built =
      picked_each (built_in records kept.view) (built_in records kept.view) (λ dep built g. g) entry.deps stands.built stands.below in
      let fits : HasSizes (request_over entry kept.artefact stands.built) = record {
        name = here.name;
        command = here.command;
        text = here.text;
        small = both.1;
        few = omega (arith, length_each (built_in records kept.view) entry.deps stands.built stands.below, few entry.deps here.rising at here.before, within, both.0.few);
        below = subst (All IsBuiltFile) picked (All-filter_map (built_in records kept.view) (λ dep. dep < at) IsBuiltFile (λ dep built lt g. built_fits records small kept.view both.0 dep built g) entry.deps here.before);
        apart = subst (AllPairs (λ a b. a.name ≢ b.name)) picked
            (AllPairs-filter_map (built_in records kept.view) (λ i j. i < j) (λ a b. a.name ≢ b.name) (λ i j a b lt g k. built_apart records small kept.view both.0 i j a b lt g k) entry.deps (AllPairs-from_increasing entry.deps here.rising));
        others = subst (All (λ other. other.name ≢ entry.name)) picked
            (All-filter_map (built_in records kept.view) (λ dep. dep < at) (λ other. other.name ≢ entry.name) (λ dep built lt g. built_other records small kept.view both.0 at entry stands.last dep built lt g) entry.deps here.before);
      } in
      subst HasSizes stands.is_over fits

  -- all of them have such sizes
  pub all_fit : All HasSizes (migrated_requests records)
  unfolding migrated_requests
  all_fit =
      let both : All (λ kept. IsGraph kept.view × IsSmall kept) records = λ i d l. (graphs i d l, small i d l) in
      All-ranked HasSizes (filter_map (request_for records) (latest_views records))
      (All-filter_map (request_for records) (λ kept. IsGraph kept.view × IsSmall kept) HasSizes one_fits (latest_views records)
      (All-latest_views (λ kept. IsGraph kept.view × IsSmall kept) records both))
