-- What a store lends after a build, where all files are made: each with the artefact that it has then.
use Rattle.std.proofs.Common.{◌≡◌, ℕ, zero, suc, ◌<◌, Bool, true, false, List, [], ◌∷◌, length, get_or, Option, Some, None, refl, sym, ap, subst, ◌∙◌, arith}
use Rattle.std.specs.Prelude.{slice_get}
use Rattle.std.specs.Option.{option_map, option_and_then}
use Rattle.std.specs.List.{filter_map, list_all}
use Rattle.std.proofs.lemmas.Bool.{and_parts, false≢true}
use Rattle.std.proofs.lemmas.Option.{none-some, same_Some, slice_get-get_or}
use Rattle.base.specs.declared.file.FileName.{FileName}
use Rattle.base.specs.declared.graph.Entry.{Entry}
use Rattle.base.specs.PresentGraph.{below}
use Rattle.base.proofs.Below.{get_or-below, length-below}
use Rattle.outside.specs.Records.{Record}
use Rattle.run_spec.specs.declared.statuses.FileStatus.{FileStatus}
use Rattle.base.specs.declared.child.Exit.{Exit}
use Rattle.base.specs.declared.child.Event.{Event}
use Rattle.run_spec.specs.ChildJournal.{Work, progress_of, files_below, exit_at, built_file, artefact_after}
use Rattle.run_spec.specs.Commits.{record_at}
use Rattle.run_spec.specs.Statuses.{status_of, status_at, statuses_of}
use Rattle.run_laws.proofs.CleanRanks.{filter_map-same}
use Rattle.run_build.specs.Ran.{built_by, is_made}
use Rattle.run_build.specs.Requests.{borrowed_file, borrowed_at}

-- an item of a list of which each is made
pub made_at : (statuses : List FileStatus) (position : ℕ) (status : FileStatus) → list_all is_made statuses ≡ true → slice_get statuses position ≡ Some status → is_made status ≡ true
made_at [] position status all at = absurd (none-some status at)
made_at (first ∷ statuses) zero status all at = ap is_made (sym (same_Some first status at)) ∙ (and_parts (is_made first) (list_all is_made statuses) all).0
made_at (first ∷ statuses) (suc position) status all at = made_at statuses position status (and_parts (is_made first) (list_all is_made statuses) all).1 at

pub item_at : {X : Type 0} (xs : List X) (k : ℕ) → k < length xs → (x : X) × (slice_get xs k ≡ Some x)
item_at [] k lt = absurd (omega arith)
item_at (x ∷ xs) k lt = (get_or (x ∷ xs) k x, slice_get-get_or (x ∷ xs) k x lt)

-- a file that is fresh or compiled has an artefact
has_status_has : (keep_going : Bool) (exit : Option Exit) (artefact : Option (List ℕ)) → is_made (status_of keep_going exit artefact) ≡ true → (it : List ℕ) × (artefact ≡ Some it)
has_status_has keep_going exit (Some it) made = (it, refl)
has_status_has keep_going (Some exit) None made = absurd (false≢true made)
has_status_has true None None made = absurd (false≢true made)
has_status_has false None None made = absurd (false≢true made)

module _ (s : Work) (events : List Event) (latest_of : FileName → Option Record)
    (knows : (position : ℕ) (entry : Entry) (artefact : List ℕ) → slice_get s.graph position ≡ Some entry → artefact_after s events position ≡ Some artefact → latest_of entry.name ≡ Some (record_at s.graph position (files_below s (progress_of s events).ends position) artefact)) where
  abbrev there : ℕ → Type 0
  there position = borrowed_at latest_of s.graph position ≡ built_file (slice_get s.graph position) (artefact_after s events position)

  borrowed_one : (position : ℕ) (entry : Entry) (artefact : List ℕ) → slice_get s.graph position ≡ Some entry → artefact_after s events position ≡ Some artefact → there position
  unfolding borrowed_at
  borrowed_one position entry artefact at is =
      ap (option_and_then (borrowed_file latest_of)) at
      ∙ ap (option_map (λ (kept : Record). record { name = entry.name; artefact = kept.artefact })) (knows position entry artefact at is)
      ∙ sym (ap (λ (o : Option Entry). built_file o (artefact_after s events position)) at ∙ ap (built_file (Some entry)) is)

  -- if all files are made, the borrowed files and artefacts are the ones that were built
  pub borrowed_are : (status_there : (position : ℕ) → position < length s.graph → slice_get (statuses_of s events) position ≡ Some (status_at s (progress_of s events).ends position)) → list_all is_made (statuses_of s events) ≡ true →
      filter_map (borrowed_at latest_of s.graph) (below (length s.graph)) ≡ built_by s events
  borrowed_are status_there all =
      filter_map-same (borrowed_at latest_of s.graph) (λ position. built_file (slice_get s.graph position) (artefact_after s events position)) (below (length s.graph)) 0
      (λ k within.
      let inside : k < length s.graph = subst (λ (n : ℕ). k < n) (length-below (length s.graph)) within in
      subst there (sym (get_or-below (length s.graph) k 0 inside)) (each k inside)) where
        each : (k : ℕ) → k < length s.graph → there k
        each k inside =
            let made : is_made (status_at s (progress_of s events).ends k) ≡ true = made_at (statuses_of s events) k (status_at s (progress_of s events).ends k) all (status_there k inside) in
            let entry = item_at s.graph k inside in
            let artefact = has_status_has s.keep_going (exit_at (progress_of s events).ends k) (artefact_after s events k) made in
            borrowed_one k entry.0 artefact.0 entry.1 artefact.1
