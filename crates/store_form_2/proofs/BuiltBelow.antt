-- The files below a request: each is a file of the view as its latest record built it.
use Rattle.std.proofs.Common.{◌≡◌, ℕ, List, Option, Some, None, refl}
use Rattle.std.specs.Prelude.{slice_get}
use Rattle.std.specs.Option.{option_and_then}
use Rattle.std.proofs.lemmas.Option.{none-some, cond_some}
use Rattle.base.specs.declared.graph.BuiltFile.{BuiltFile}
use Rattle.base.specs.declared.graph.Entry.{Entry}
use Rattle.base.specs.View.{view}
use Rattle.store_form_2.specs.declared.kept_view.Record.{Record as ViewRecord}
use Rattle.store_form_2.specs.ViewRecords.{is_same_view, latest_view}
use Rattle.store_form_2.specs.Migrating.{built_in, built_where}
use Rattle.store_form_2.proofs.SameViews.{same_views}

-- A file of a view has a latest record, which is of the view that it has here, and built it so.
pub record IsBuiltIn (records : List ViewRecord) (files : List Entry) (at : ℕ) (built : BuiltFile) : Type 0 where
  pub entry : Entry
  pub found : slice_get files at ≡ Some entry
  pub kept : ViewRecord
  pub latest : latest_view entry.name records ≡ Some kept
  pub same : kept.view ≡ view files at
  pub is : record { name = entry.name; artefact = kept.artefact } ≡ built

module _ (records : List ViewRecord) (files : List Entry) (at : ℕ) (built : BuiltFile) where
  of_record : (entry : Entry) → slice_get files at ≡ Some entry → (latest : Option ViewRecord) → latest_view entry.name records ≡ latest
      → option_and_then (built_where (view files at) entry) latest ≡ Some built → IsBuiltIn records files at built
  of_record entry found None is h = absurd (none-some built h)
  of_record entry found (Some kept) is h =
      let parts = cond_some (is_same_view kept.view (view files at)) (record { name = entry.name; artefact = kept.artefact }) built h in
      record { entry = entry; found = found; kept = kept; latest = is; same = (same_views kept.view (view files at)).0 parts.0; is = parts.1 }

  of_file : (here : Option Entry) → slice_get files at ≡ here
      → option_and_then (λ entry. option_and_then (built_where (view files at) entry) (latest_view entry.name records)) here ≡ Some built → IsBuiltIn records files at built
  of_file None found h = absurd (none-some built h)
  of_file (Some entry) found h = of_record entry found (latest_view entry.name records) refl h

  pub is_built_in : built_in records files at ≡ Some built → IsBuiltIn records files at built
  unfolding built_in
  is_built_in h = of_file (slice_get files at) refl h
