-- The bytes of gathered files stay the same while the latest records of these files do.
use Rattle.std.proofs.Common.{◌≡◌, ℕ, ◌+◌, ◌<◌, List, [], ◌∷◌, ◌++◌, length, map, get_or, Option, Some, refl, sym, ap, ◌∙◌, arith}
use Rattle.std.specs.Prelude.{All}
use Rattle.std.specs.Option.{option_map, option_map_or, option_and_then}
use Rattle.std.specs.List.{filter_map, flat_map}
use Rattle.std.proofs.lemmas.Grind.{flat_map-append}
use Rattle.std.proofs.lemmas.List.Elements.{All-head, All-tail, filter_map-append}
use Rattle.base.specs.declared.file.FileName.{FileName}
use Rattle.base.specs.declared.graph.BuiltFile.{BuiltFile}
use Rattle.base.specs.declared.graph.Entry.{Entry}
use Rattle.base.specs.Graphs.{IsGraph}
use Rattle.base.specs.Jobs.{built_bytes}
use Rattle.base.specs.PresentGraph.{below}
use Rattle.base.proofs.Below.{below-zero, below-more, length-below, get_or-below}
use Rattle.outside.specs.Records.{Record, HasLatest, asked_of, built_of_record, latest_built, no_built}
use Rattle.run_laws.proofs.CleanRanks.{filter_map-same}
use Rattle.run_build.specs.declared.requests.Gathered.{Gathered}
use Rattle.run_build.specs.Requests.{borrowed_file, borrowed_at, AreRecorded, KeepsFirst, IsGathered}
use Rattle.run_build.proofs.Borrowed.{entry_is}

-- the bytes of files with the artefacts that are borrowed
abbrev pub borrowed_bytes : (FileName → Option Record) → List Entry → List ℕ → List ℕ
borrowed_bytes latest_of graph positions = flat_map built_bytes (filter_map (borrowed_at latest_of graph) positions)

-- at first none are gathered
pub none_gathered : (latest_of : FileName → Option Record) (graph : List Entry) → IsGathered latest_of graph (record { count = 0; files = [] })
none_gathered latest_of graph = record { recorded = λ position lt. absurd (omega (arith, lt)); are = sym (ap (borrowed_bytes latest_of graph) below-zero) }

-- files, and others behind them
pub borrowed_both : (latest_of : FileName → Option Record) (graph : List Entry) (first others : List ℕ) → borrowed_bytes latest_of graph (first ++ others) ≡ borrowed_bytes latest_of graph first ++ borrowed_bytes latest_of graph others
borrowed_both latest_of graph first others =
    ap (flat_map built_bytes) (filter_map-append (borrowed_at latest_of graph) first others)
    ∙ flat_map-append built_bytes (filter_map (borrowed_at latest_of graph) first) (filter_map (borrowed_at latest_of graph) others)

-- one file more
pub gathered_more : (latest_of : FileName → Option Record) (graph : List Entry) (count : ℕ) (bytes more : List ℕ) → bytes ≡ borrowed_bytes latest_of graph (below count) → more ≡ bytes ++ borrowed_bytes latest_of graph (count ∷ [])
    → more ≡ borrowed_bytes latest_of graph (below (count + 1))
gathered_more latest_of graph count bytes more are then =
    then ∙ ap (λ (l : List ℕ). l ++ borrowed_bytes latest_of graph (count ∷ [])) are
    ∙ sym (ap (borrowed_bytes latest_of graph) (below-more count) ∙ borrowed_both latest_of graph (below count) (count ∷ []))

module _ (graph : List Entry) (is : IsGraph graph) (old new : FileName → Option Record) (count : ℕ) (keeps : KeepsFirst graph count old new) (recorded : AreRecorded old graph count) where
  has_still : (dep : ℕ) → dep < count → HasLatest old graph dep → HasLatest new graph dep
  has_still dep lt has = record { entry = has.entry; is_entry = has.is_entry; kept = has.kept; is = keeps dep has.entry lt has.is_entry ∙ has.is }

  built_still : (dep : ℕ) → dep < count → latest_built new graph dep ≡ latest_built old graph dep
  built_still dep lt =
      let here = recorded dep lt in
      ap (λ (o : Option Entry). option_map_or (λ (e : Entry). option_map_or built_of_record (new e.name) no_built) o no_built) here.is_entry
      ∙ ap (λ (o : Option Record). option_map_or built_of_record o no_built) (keeps dep here.entry lt here.is_entry)
      ∙ sym (ap (λ (o : Option Entry). option_map_or (λ (e : Entry). option_map_or built_of_record (old e.name) no_built) o no_built) here.is_entry)

  all_built_still : (deps : List ℕ) → All (λ dep. dep < count) deps → map (latest_built new graph) deps ≡ map (latest_built old graph) deps
  all_built_still [] low = refl
  all_built_still (dep ∷ deps) low =
      ap (λ (b : BuiltFile). b ∷ map (latest_built new graph) deps) (built_still dep (All-head (λ d. d < count) dep deps low))
      ∙ ap (λ (l : List BuiltFile). latest_built old graph dep ∷ l) (all_built_still deps (All-tail (λ d. d < count) dep deps low))

  recorded_still : AreRecorded new graph count
  recorded_still position lt =
      let here = recorded position lt in
      let before = (entry_is graph position here.entry is here.is_entry).before in
      let low : All (λ dep. dep < count) here.entry.deps = λ k d l. omega (arith, before k d l, lt) in
      record {
        entry = here.entry;
        is_entry = here.is_entry;
        built = λ k d l. has_still (get_or here.entry.deps k d) (low k d l) (here.built k d l);
        artefact = here.artefact;
        is = keeps position here.entry lt here.is_entry ∙ here.is
            ∙ ap (λ (files : List BuiltFile). Some (record { asked = asked_of here.entry files; artefact = here.artefact })) (sym (all_built_still here.entry.deps low));
      }

  borrowed_still : (position : ℕ) → position < count → borrowed_at old graph position ≡ borrowed_at new graph position
  unfolding borrowed_at
  borrowed_still position lt =
      let here = recorded position lt in
      ap (option_and_then (borrowed_file old)) here.is_entry
      ∙ ap (option_map {U = BuiltFile} (λ (kept : Record). record { name = here.entry.name; artefact = kept.artefact })) (sym (keeps position here.entry lt here.is_entry))
      ∙ sym (ap (option_and_then (borrowed_file new)) here.is_entry)

  borrowed_bytes_still : borrowed_bytes old graph (below count) ≡ borrowed_bytes new graph (below count)
  borrowed_bytes_still = ap (flat_map built_bytes) (filter_map-same (borrowed_at old graph) (borrowed_at new graph) (below count) 0 each) where
    each : (k : ℕ) → k < length (below count) → borrowed_at old graph (get_or (below count) k 0) ≡ borrowed_at new graph (get_or (below count) k 0)
    each k l =
        let lt : k < count = omega (arith, l, length-below count) in
        ap (borrowed_at old graph) (get_or-below count k 0 lt) ∙ borrowed_still k lt ∙ sym (ap (borrowed_at new graph) (get_or-below count k 0 lt))

-- where the records of the gathered files stay, what was gathered does
pub gathered_still : (graph : List Entry) → IsGraph graph → (old new : FileName → Option Record) (gathered : Gathered) → KeepsFirst graph gathered.count old new → IsGathered old graph gathered → IsGathered new graph gathered
gathered_still graph is old new gathered keeps before = record {
  recorded = recorded_still graph is old new gathered.count keeps before.recorded;
  are = before.are ∙ borrowed_bytes_still graph is old new gathered.count keeps before.recorded;
}
