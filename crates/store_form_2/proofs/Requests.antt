-- The request that stands for a record of a view: what it is, and whose.
use Rattle.std.proofs.Common.{◌≡◌, ◌≢◌, true, false, List, [], ◌∷◌, map, Option, Some, None, refl, sym, ap, subst, ◌∙◌, arith, inl, inr}
use Rattle.std.specs.Prelude.{All, AllPairs}
use Rattle.std.specs.List.{filter_map, list_any, cons_option}
use Rattle.std.specs.Option.{option_and_then, option_map, option_map_or}
use Rattle.std.proofs.lemmas.Bool.{cases_Bool, cond-true, cond-false, and_from}
use Rattle.std.proofs.lemmas.Option.{none-some, same_Some}
use Rattle.std.proofs.lemmas.List.Kept.{AllPairs-cons}
use Rattle.std.proofs.lemmas.Slice.Eq.{bytes_eq-Decides}
use Rattle.base.specs.declared.file.FileName.{FileName}
use Rattle.base.specs.declared.graph.BuiltFile.{BuiltFile}
use Rattle.base.specs.declared.graph.Entry.{Entry}
use Rattle.base.specs.Names.{is_same_name}
use Rattle.outside.specs.Records.{Record}
use Rattle.store_form_2.specs.declared.kept_view.Record.{Record as ViewRecord}
use Rattle.store_form_2.specs.ViewRecords.{ends_in, is_followed, last_file, latest_views}
use Rattle.store_form_2.specs.Migrating.{built_in, each_of, migrated_requests, request_for, request_over}
use Rattle.store_form_2.proofs.Picking.{All-filter_map}
use Rattle.store_form_2.proofs.Ranking.{pairs_ranked}
use Rattle.store_form_2.proofs.LatestViews.{All-latest_views, each_fails}

-- A record is the request that stands for a record of a view. It asks for the view's last file, over the built form of each file
-- that this file depends on.
pub record StandsFor (records : List ViewRecord) (kept : ViewRecord) (is : Record) : Type 0 where
  pub entry : Entry
  pub last : last_file kept.view ≡ Some entry
  pub built : List BuiltFile
  pub below : each_of (map (built_in records kept.view) entry.deps) ≡ Some built
  pub is_over : request_over entry kept.artefact built ≡ is

module _ (records : List ViewRecord) (kept : ViewRecord) (is : Record) where
  over : (entry : Entry) → last_file kept.view ≡ Some entry → (below : Option (List BuiltFile)) → each_of (map (built_in records kept.view) entry.deps) ≡ below
      → option_map (request_over entry kept.artefact) below ≡ Some is → StandsFor records kept is
  over entry last None found h = absurd (none-some is h)
  over entry last (Some built) found h =
      record { entry = entry; last = last; built = built; below = found; is_over = same_Some (request_over entry kept.artefact built) is h }

  of_last : (last : Option Entry) → last_file kept.view ≡ last
      → option_and_then (λ entry. option_map (request_over entry kept.artefact) (each_of (map (built_in records kept.view) entry.deps))) last ≡ Some is → StandsFor records kept is
  of_last None at h = absurd (none-some is h)
  of_last (Some entry) at h = over entry at (each_of (map (built_in records kept.view) entry.deps)) refl h

  pub stands_for : request_for records kept ≡ Some is → StandsFor records kept is
  unfolding request_for
  stands_for h = of_last (last_file kept.view) refl h

is_own_name : (name : FileName) → is_same_name name name ≡ true
is_own_name name = and_from _ _ ((bytes_eq-Decides name.library name.library).1 refl) ((bytes_eq-Decides name.path name.path).1 refl)

-- the view of the record ends in the name of the request
pub ends_in_name : (records : List ViewRecord) (kept : ViewRecord) (is : Record) → StandsFor records kept is → ends_in is.asked.name kept ≡ true
ends_in_name records kept is stands =
    ap (λ (last : Option Entry). option_map_or (λ entry. is_same_name entry.name is.asked.name) last false) stands.last
    ∙ ap (λ (r : Record). is_same_name stands.entry.name r.asked.name) (sym stands.is_over)
    ∙ is_own_name stands.entry.name

abbrev pub OfOtherName : Record → Record → Type 0
OfOtherName a b = a.asked.name ≢ b.asked.name

-- a record that isn't followed has a name that no later request has
module _ (records : List ViewRecord) where
  others : (first : ViewRecord) (is : Record) (rest : List ViewRecord) → StandsFor records first is → is_followed rest first ≡ false
      → All (OfOtherName is) (filter_map (request_for records) (latest_views rest))
  others first is rest stands last =
      let name : stands.entry.name ≡ is.asked.name = ap (λ (r : Record). r.asked.name) stands.is_over in
      let none : list_any (ends_in is.asked.name) rest ≡ false =
      sym (ap (λ (n : FileName). list_any (ends_in n) rest) name) ∙ sym (ap (λ (o : Option Entry). option_map_or (λ entry. list_any (ends_in entry.name) rest) o false) stands.last) ∙ last in
      All-filter_map (request_for records) (λ x. ends_in is.asked.name x ≡ false) (OfOtherName is)
      (λ x other fails found same.
      let here : ends_in other.asked.name x ≡ true = ends_in_name records x other (stands_for records x other found) in
      let both : false ≡ true = sym fails ∙ ap (λ (n : FileName). ends_in n x) same ∙ here in
      let nothing : ⊥ = cc in
      nothing)
      (latest_views rest)
      (All-latest_views (λ x. ends_in is.asked.name x ≡ false) rest (each_fails (ends_in is.asked.name) rest none))

  one_more : (first : ViewRecord) (rest : List ViewRecord) (here : Option Record) → request_for records first ≡ here → is_followed rest first ≡ false
      → AllPairs OfOtherName (filter_map (request_for records) (latest_views rest)) → AllPairs OfOtherName (cons_option here (filter_map (request_for records) (latest_views rest)))
  one_more first rest None found last pairs = pairs
  one_more first rest (Some is) found last pairs =
      AllPairs-cons OfOtherName is (filter_map (request_for records) (latest_views rest)) (others first is rest (stands_for records first is found) last) pairs

  pub apart : (some : List ViewRecord) → AllPairs OfOtherName (filter_map (request_for records) (latest_views some))
  unfolding latest_views
  apart [] = λ i j d lt l. absurd (omega arith)
  apart (first ∷ rest) =
      elim (cases_Bool (is_followed rest first)) [
        | inl followed ↦
            subst (λ (xs : List ViewRecord). AllPairs OfOtherName (filter_map (request_for records) xs)) (sym (cond-true (is_followed rest first) (latest_views rest) (first ∷ latest_views rest) followed)) (apart rest)
        | inr last ↦
            subst (λ (xs : List ViewRecord). AllPairs OfOtherName (filter_map (request_for records) xs)) (sym (cond-false (is_followed rest first) (latest_views rest) (first ∷ latest_views rest) last))
            (one_more first rest (request_for records first) refl last (apart rest))
      ]

-- each of the requests is of another file
pub names_apart : (records : List ViewRecord) → AllPairs OfOtherName (migrated_requests records)
unfolding migrated_requests
names_apart records =
    pairs_ranked OfOtherName (λ a b differ same. differ (sym same)) (filter_map (request_for records) (latest_views records)) (apart records records)
