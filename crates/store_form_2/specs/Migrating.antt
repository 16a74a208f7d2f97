-- Which records of requests stand for records of views.
use Rattle.std.specs.Prelude.{ℕ, List, [], ◌∷◌, length, map, slice_get, Option, Some, None, if◌then◌else◌}
use Rattle.std.specs.Cmp.Lexicographic.{slice_cmp}
use Rattle.std.specs.List.{filter_map}
use Rattle.std.specs.Option.{option_and_then, option_map}
use Rattle.std.specs.Ordering.{is_gt, nat_cmp, on, then_cmp}
use Rattle.std.specs.declared.cmp.Ordering.{Ordering}
use Rattle.base.specs.declared.graph.BuiltFile.{BuiltFile}
use Rattle.base.specs.declared.graph.Entry.{Entry}
use Rattle.base.specs.View.{view}
use Rattle.outside.specs.Records.{Record, asked_of}
use Rattle.store_form_2.specs.declared.kept_view.Record.{Record as ViewRecord}
use Rattle.store_form_2.specs.ViewRecords.{is_same_view, last_file, latest_view, latest_views}

-- a file as a record built it, where that record is of this view
abbrev pub built_where : List Entry → Entry → ViewRecord → Option BuiltFile
built_where present entry kept = if is_same_view kept.view present then Some (record { name = entry.name; artefact = kept.artefact }) else None

-- a file of a view as its latest record built it, where that record is of the view that the file has here
unfoldable pub built_in : List ViewRecord → List Entry → ℕ → Option BuiltFile
built_in records files at = option_and_then (λ entry. option_and_then (built_where (view files at) entry) (latest_view entry.name records)) (slice_get files at)

-- all of some values, where each is there
unfoldable pub each_of : {X : Type 0} → List (Option X) → Option (List X)
each_of [] = Some []
each_of (first ∷ rest) = option_and_then (λ x. option_map (λ xs. x ∷ xs) (each_of rest)) first

-- a file over what was built below it, with its artefact
abbrev pub request_over : Entry → List ℕ → List BuiltFile → Record
request_over entry artefact built = record { asked = asked_of entry built; artefact = artefact }

-- The request that stands for a record of a view: its last file over the files that this depends on, where the latest record
-- of each is of the view that it has here.
unfoldable pub request_for : List ViewRecord → ViewRecord → Option Record
request_for records kept = option_and_then (λ entry. option_map (request_over entry kept.artefact) (each_of (map (built_in records kept.view) entry.deps))) (last_file kept.view)

-- records over fewer files come first; of as many, those are ordered by library and path, as bytes
abbrev pub rank_cmp : Record → Record → Ordering
rank_cmp = then_cmp (on (λ kept. length kept.asked.below) nat_cmp) (then_cmp (on (λ kept. kept.asked.name.library) (slice_cmp nat_cmp)) (on (λ kept. kept.asked.name.path) (slice_cmp nat_cmp)))

-- one more record among sorted ones
unfoldable pub put_ranked : Record → List Record → List Record
put_ranked new [] = new ∷ []
put_ranked new (first ∷ rest) = if is_gt (rank_cmp new first) then first ∷ put_ranked new rest else new ∷ first ∷ rest

-- records, sorted
unfoldable pub ranked : List Record → List Record
ranked [] = []
ranked (first ∷ rest) = put_ranked first (ranked rest)

-- the requests that stand for the latest records of views, those over fewer files first
unfoldable pub migrated_requests : List ViewRecord → List Record
migrated_requests records = ranked (filter_map (request_for records) (latest_views records))
