-- A file that wasn't checked: no end of its child is committed, so its latest record stays, and fits where it is current.
use Rattle.std.proofs.Common.{◌≡◌, ℕ, Bool, true, false, eqb, ◌&&◌, List, map, [], ◌∷◌, Option, Some, None, refl, sym, ap, subst, ◌∙◌}
use Rattle.std.specs.Prelude.{◌↔◌, All, IsTrue, is_some, slice_get}
use Rattle.std.specs.List.{list_any}
use Rattle.std.proofs.lemmas.Bool.{cond-false, or_parts, true≢false}
use Rattle.std.proofs.lemmas.Option.{same_Some}
use Rattle.base.specs.declared.file.FileName.{FileName}
use Rattle.base.specs.declared.graph.BuiltFile.{BuiltFile}
use Rattle.base.specs.declared.graph.Entry.{Entry}
use Rattle.outside.specs.Records.{Record, HasLatest, IsRecorded, asked_of, latest_built}
use Rattle.run_spec.specs.ChildJournal.{End, child_of_end, output_at}
use Rattle.run_spec.specs.Recorded.{current_by_request}
use Rattle.run_spec.proofs.RecordedArtefacts.{record_of_current, current_of_record}
use Rattle.run_build.proofs.Orderly.{is_end_of}

-- a file without an end printed nothing
pub none_printed : (at : ℕ) (ends : List End) → list_any (is_end_of at) (map child_of_end ends) ≡ false → output_at (map child_of_end ends) at ≡ None
unfolding output_at
none_printed at [] none = refl
none_printed at (end ∷ ends) none =
    let parts = or_parts (eqb end.position at) (list_any (is_end_of at) (map child_of_end ends)) none in
    cond-false (eqb end.position at && eqb end.exit.code 0) (Some end.exit.output) (output_at (map child_of_end ends) at) (ap (λ (b : Bool). b && eqb end.exit.code 0) parts.0) ∙ none_printed at ends parts.1

-- a record of a file over files that the store has, by a store that has the same latest record of it
module _ (first now : FileName → Option Record) (graph : List Entry) (at : ℕ) (entry : Entry) (found : slice_get graph at ≡ Some entry) (same : now entry.name ≡ first entry.name) (files : List BuiltFile) (files_are : files ≡ map (latest_built now graph) entry.deps) (built : All (HasLatest now graph) entry.deps) where
  pub recorded_current : IsRecorded now graph at → is_some (current_by_request first graph at files) ≡ true
  recorded_current recorded =
      let is : recorded.entry ≡ entry = same_Some recorded.entry entry (sym recorded.is_entry ∙ found) in
      let latest : now entry.name ≡ Some (record { asked = asked_of entry (map (latest_built now graph) entry.deps); artefact = recorded.artefact }) =
      subst (λ (e : Entry). now e.name ≡ Some (record { asked = asked_of e (map (latest_built now graph) e.deps); artefact = recorded.artefact })) is recorded.is in
      let over : first entry.name ≡ Some (record { asked = asked_of entry files; artefact = recorded.artefact }) =
      sym same ∙ latest ∙ ap (λ (below : List BuiltFile). Some (record { asked = asked_of entry below; artefact = recorded.artefact })) (sym files_are) in
      ap is_some (current_of_record first graph at entry files found recorded.artefact over)

  current_recorded : (artefact : List ℕ) → current_by_request first graph at files ≡ Some artefact → IsRecorded now graph at
  current_recorded artefact current = record {
    entry = entry;
    is_entry = found;
    built = built;
    artefact = artefact;
    is = same ∙ record_of_current first graph at entry files found artefact current ∙ ap (λ (below : List BuiltFile). Some (record { asked = asked_of entry below; artefact = artefact })) files_are;
  }

  -- a test of the one tells what is current by the other
  pub fits_as : (fits : Bool) → (IsTrue fits ↔ IsRecorded now graph at) → fits ≡ is_some (current_by_request first graph at files)
  fits_as true says = sym (recorded_current (says.0 refl))
  fits_as false says = by (current_by_request first graph at files) refl
    where
      by : (o : Option (List ℕ)) → current_by_request first graph at files ≡ o → false ≡ is_some (current_by_request first graph at files)
      by None e = sym (ap is_some e)
      by (Some artefact) e = absurd (true≢false (sym (says.1 (current_recorded artefact e))))
