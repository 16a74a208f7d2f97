-- The view of a file in a graph: its last file, those before it, and how they were built.
use Rattle.std.proofs.Common.{◌≡◌, ℕ, ◌-◌, ◌+◌, ◌<◌, List, [], ◌∷◌, ◌++◌, length, map, get_or, Option, Some, refl, sym, ap, subst, ◌∙◌, arith}
use Rattle.std.specs.Prelude.{All, Contains, slice_get}
use Rattle.std.specs.List.{filter_map, cons_option}
use Rattle.std.specs.List.Sorted.{IsStrictlyIncreasing}
use Rattle.std.specs.Option.{option_and_then}
use Rattle.std.proofs.lemmas.List.{length_push, length-map, get_or-map, get_or_at, map_push}
use Rattle.std.proofs.lemmas.List.Elements.{filter_map-append}
use Rattle.std.proofs.lemmas.Option.{slice_get-get_or, slice_get_within}
use Rattle.base.specs.declared.graph.Entry.{Entry}
use Rattle.base.specs.Graphs.{IsGraph}
use Rattle.base.specs.View.{rank_in, renumbered, part, viewed, view}
use Rattle.project_views.specs.Parts.{IsPart}
use Rattle.project_views.proofs.Numbering.{rank_within, get_or-rank, rank_lower}
use Rattle.project_views.proofs.Parts.{no_entry, length-part, at_rank}
use Rattle.project_views.proofs.Rising.{few}
use Rattle.project_views.proofs.ViewLaws.{viewed_of, viewed_is_part, view_of_view}
use Rattle.store_form_2.specs.declared.kept_view.Record.{Record as ViewRecord}
use Rattle.store_form_2.specs.ViewRecords.{last_file, latest_view}
use Rattle.store_form_2.specs.Migrating.{built_in, built_where}

last_pushed : (prefix : List Entry) (last : Entry) → last_file (prefix ++ last ∷ []) ≡ Some last
last_pushed prefix last =
    let within : length prefix < length (prefix ++ last ∷ []) = omega (arith, length_push prefix last) in
    let count : length (prefix ++ last ∷ []) - 1 ≡ length prefix = omega (arith, length_push prefix last) in
    ap (slice_get (prefix ++ last ∷ [])) count
    ∙ slice_get-get_or (prefix ++ last ∷ []) (length prefix) last within
    ∙ ap (λ (e : Entry). Some e) (get_or_at prefix last [] last (length prefix) refl)

module _ (files : List Entry) (at : ℕ) (entry : Entry) (found : slice_get files at ≡ Some entry) where
  abbrev own : Entry
  own = renumbered (viewed files at) entry

  picked : filter_map (slice_get files) (viewed files at) ≡ filter_map (slice_get files) entry.deps ++ entry ∷ []
  picked =
      ap (filter_map (slice_get files)) (viewed_of files at entry found) ∙ filter_map-append (slice_get files) entry.deps (at ∷ [])
      ∙ ap (λ (o : Option Entry). filter_map (slice_get files) entry.deps ++ cons_option o []) found

  -- the last file of the view
  pub last_of_view : last_file (view files at) ≡ Some own
  unfolding part
  last_of_view =
      let before : List Entry = filter_map (slice_get files) entry.deps in
      ap (λ (es : List Entry). last_file (map (renumbered (viewed files at)) es)) picked
      ∙ ap last_file (map_push (renumbered (viewed files at)) before entry)
      ∙ last_pushed (map (renumbered (viewed files at)) before) own

  module _ (valid : IsGraph files) where
    within : at < length files
    within = slice_get_within files at entry found

    is_part : IsPart files (viewed files at)
    is_part = viewed_is_part files at valid within

    -- a file of the view is built in it as in the graph
    pub built_alike : (records : List ViewRecord) (dep : ℕ) → Contains (viewed files at) dep
        → built_in records (view files at) (rank_in (viewed files at) dep) ≡ built_in records files dep
    unfolding built_in
    built_alike records dep has =
        let positions : List ℕ = viewed files at in
        let rank : ℕ = rank_in positions dep in
        let low : rank < length positions = rank_within positions is_part.rising dep has in
        let dep_low : dep < length files = subst (λ (n : ℕ). n < length files) has.2 (is_part.within has.0 dep has.1) in
        let file : Entry = get_or files dep no_entry in
        let there : slice_get (view files at) rank ≡ Some (renumbered positions file) =
        slice_get-get_or (view files at) rank no_entry (omega (arith, low, length-part files positions is_part)) ∙ ap (λ (e : Entry). Some e) (at_rank files positions is_part dep no_entry has) in
        let same : view (view files at) rank ≡ view files dep =
        view_of_view files at rank valid within (omega (arith, low, length-part files positions is_part)) ∙ ap (view files) (get_or-rank positions is_part.rising dep 0 has) in
        ap (λ (o : Option Entry). option_and_then (λ e. option_and_then (built_where (view (view files at) rank) e) (latest_view e.name records)) o) there
        ∙ ap (λ (v : List Entry). option_and_then (built_where v file) (latest_view file.name records)) same
        ∙ sym (ap (λ (o : Option Entry). option_and_then (λ e. option_and_then (built_where (view files dep) e) (latest_view e.name records)) o) (slice_get-get_or files dep no_entry dep_low))

-- numbers below one of a rising list, all in it, are fewer than it has
pub fewer_below : (all some : List ℕ) (one : ℕ) → IsStrictlyIncreasing all → IsStrictlyIncreasing some → Contains all one → All (Contains all) some → All (λ n. n < one) some → length some < length all
fewer_below all some one rising some_rise has held below =
    let locations : List ℕ = map (rank_in all) some in
    let count : length locations ≡ length some = length-map some (rank_in all) in
    let locations_rise : IsStrictlyIncreasing locations = λ k l.
    let a : k < length some = omega (arith, count) in
    let b : k + 1 < length some = omega (arith, count) in
    rw (get_or-map (rank_in all) some k 0 0 a, get_or-map (rank_in all) some (k + 1) 0 0 b)
    (rank_lower all rising (get_or some k 0) (get_or some (k + 1) 0) (held k 0 a) (held (k + 1) 0 b) (some_rise k b)) in
    let low : All (λ p. p < rank_in all one) locations = λ k d l.
    let a : k < length some = omega (arith, count) in
    rw (get_or-map (rank_in all) some k 0 d a) (rank_lower all rising (get_or some k 0) one (held k 0 a) has (below k 0 a)) in
    omega (arith, few locations locations_rise (rank_in all one) low, count, rank_within all rising one has)
