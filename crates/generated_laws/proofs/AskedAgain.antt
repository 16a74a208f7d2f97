-- What the records of a first build give to a build after an edit: a file has a current record over what a clean build makes below
-- it exactly where the edit doesn't touch it.
use Rattle.std.proofs.Common.{◌≡◌, ℕ, ◌==◌, true, false, not, List, Option, Some, None, refl, sym, ap, ap₂, ◌∙◌, inl, inr, is_some}
use Rattle.std.specs.Prelude.{slice_get}
use Rattle.std.specs.List.{list_all, list_any, filter_map}
use Rattle.std.proofs.lemmas.Bool.{cases_Bool, cases_eq, or_cases, eqb-true, eqb-false, or_parts}
use Rattle.std.proofs.lemmas.Option.{same_Some}
use Rattle.base.specs.declared.file.FileName.{FileName}
use Rattle.base.specs.declared.graph.Entry.{Entry}
use Rattle.base.specs.declared.graph.BuiltFile.{BuiltFile}
use Rattle.base.specs.declared.child.Request.{Request}
use Rattle.base.specs.declared.child.Exit.{Exit}
use Rattle.base.specs.Graphs.{IsGraph}
use Rattle.outside.specs.Records.{Asked, Record, asked_of, request_of, deps_at}
use Rattle.run_spec.specs.CleanBuild.{Result, built_of, built_below, clean_build}
use Rattle.run_spec.specs.Recorded.{current_by_request}
use Rattle.run_spec.proofs.RecordedArtefacts.{record_of_current, current_of_record}
use Rattle.generated_laws.specs.Edits.{AcceptsAll, IsEdit, clean_file, is_touched}
use Rattle.generated_laws.proofs.MadeFiles.{entry_deps, free, made_file, clean_file_is}
use Rattle.generated_laws.proofs.TouchedFiles.{same_picked, same_below}

-- The file at a position before an edit and after it: its name and dependencies stay the same. If it isn't the edited file, its
-- whole entry stays the same.
record IsSameFile (is_edited : Type 0) (entry other : Entry) : Type 0 where
  name : other.name ≡ entry.name
  deps : other.deps ≡ entry.deps
  same : (is_edited → ⊥) → other ≡ entry

module _ (edited : ℕ) (before after : List Entry) (edit : IsEdit edited before after) where
  -- the file before the edit
  file_before : (at : ℕ) (other : Entry) → slice_get after at ≡ Some other → (entry : Entry) × (slice_get before at ≡ Some entry) × IsSameFile (at ≡ edited) entry other
  file_before at other found = elim (cases_eq at edited) [
    | inl is ↦
        let new : Entry = record { name = edit.entry.name; command = edit.entry.command; text = edit.text; deps = edit.entry.deps } in
        let same : new ≡ other = same_Some new other (sym edit.is_edited ∙ ap (slice_get after) (sym is) ∙ found) in
        (edit.entry, ap (slice_get before) is ∙ edit.is_entry, record { name = ap (λ (e : Entry). e.name) (sym same); deps = ap (λ (e : Entry). e.deps) (sym same); same = λ not_edited. absurd (not_edited is) })
    | inr not_edited ↦ (other, sym (edit.others at not_edited) ∙ found, record { name = refl; deps = refl; same = λ _. refl })
  ]

  module _ (answer : Request → Exit) (valid : IsGraph before) (valid_after : IsGraph after) (makes : AcceptsAll answer before) (makes_after : AcceptsAll answer after) (latest_of : FileName → Option Record)
      (latest_is : (at : ℕ) (entry : Entry) → slice_get before at ≡ Some entry → latest_of entry.name ≡ Some (record { asked = asked_of entry (built_below (clean_build answer before) entry); artefact = (made_file answer before valid makes entry).artefact })) where
    abbrev old : List Result
    old = clean_build answer before

    abbrev new : List Result
    new = clean_build answer after

    abbrev current : ℕ → List BuiltFile → Option (List ℕ)
    current = current_by_request latest_of after

    -- a file that isn't touched has a current record
    fresh : (at : ℕ) (other : Entry) → slice_get after at ≡ Some other → is_touched before edited at ≡ false → is_some (current at (built_below new other)) ≡ true
    fresh at other found untouched =
        let file = file_before at other found in
        let entry : Entry = file.0 in
        let same : other ≡ entry = file.2.same (eqb-false at edited (or_parts (at == edited) (list_any (λ dep. dep == edited) (deps_at before at)) untouched).0) in
        let files : built_below old entry ≡ built_below new entry = same_below edited before after valid edit answer at entry file.1 untouched in
        let artefact : List ℕ = (made_file answer before valid makes entry).artefact in
        let kept : latest_of other.name ≡ Some (record { asked = asked_of other (built_below new other); artefact = artefact }) =
        ap (λ (e : Entry). latest_of e.name) same ∙ latest_is at entry file.1
        ∙ ap (λ (built : List BuiltFile). Some (record { asked = asked_of entry built; artefact = artefact })) files
        ∙ ap (λ (e : Entry). Some (record { asked = asked_of e (built_below new e); artefact = artefact })) (sym same) in
        ap is_some (current_of_record latest_of after at other (built_below new other) found artefact kept)

    -- where a file has one, it was asked the same before
    asked_same : (at : ℕ) (other entry : Entry) → slice_get after at ≡ Some other → slice_get before at ≡ Some entry → other.name ≡ entry.name → (artefact : List ℕ) → current at (built_below new other) ≡ Some artefact →
        asked_of entry (built_below old entry) ≡ asked_of other (built_below new other)
    asked_same at other entry found found_before name artefact is =
        let was : Record = record { asked = asked_of entry (built_below old entry); artefact = (made_file answer before valid makes entry).artefact } in
        let now : Record = record { asked = asked_of other (built_below new other); artefact = artefact } in
        ap (λ (r : Record). r.asked)
        (same_Some was now (sym (latest_is at entry found_before) ∙ ap latest_of (sym name) ∙ record_of_current latest_of after at other (built_below new other) found artefact is))

    -- and so, if it is touched, the edited file has the same artefact
    edited_same : (at : ℕ) (other entry : Entry) → slice_get after at ≡ Some other → slice_get before at ≡ Some entry → other.name ≡ entry.name → other.deps ≡ entry.deps → is_touched before edited at ≡ true →
        asked_of entry (built_below old entry) ≡ asked_of other (built_below new other) → clean_file answer before edited ≡ clean_file answer after edited
    edited_same at other entry found found_before name deps touched same = elim (or_cases (at == edited) (list_any (λ dep. dep == edited) (deps_at before at)) touched) [
      | inl is ↦
          let here : clean_file answer before at ≡ clean_file answer after at =
          clean_file_is answer before valid makes at entry found_before
          ∙ ap₂ (λ (n : FileName) (asked : Asked). Some (record { name = n; artefact = (answer (request_of asked)).output })) (sym name) same
          ∙ sym (clean_file_is answer after valid_after makes_after at other found) in
          let position : at ≡ edited = eqb-true at edited is in
          ap (clean_file answer before) (sym position) ∙ here ∙ ap (clean_file answer after) position
      | inr below ↦
          let files : built_below old entry ≡ built_below new other = ap (λ (asked : Asked). asked.below) same in
          same_picked (λ dep. built_of (slice_get old dep)) (λ dep. built_of (slice_get new dep)) entry.deps (free answer before valid makes at entry found_before)
          (ap (list_all (λ dep. is_some (built_of (slice_get new dep)))) (sym deps) ∙ free answer after valid_after makes_after at other found)
          (files ∙ ap (filter_map (λ dep. built_of (slice_get new dep))) deps)
          edited (ap (list_any (λ dep. dep == edited)) (sym (entry_deps before at entry found_before)) ∙ below)
    ]

    module _ (differs : clean_file answer before edited ≡ clean_file answer after edited → ⊥) where
      stale : (at : ℕ) (other : Entry) → slice_get after at ≡ Some other → is_touched before edited at ≡ true → is_some (current at (built_below new other)) ≡ false
      stale at other found touched = from (current at (built_below new other)) refl where
        from : (kept : Option (List ℕ)) → current at (built_below new other) ≡ kept → is_some (current at (built_below new other)) ≡ false
        from None is = ap is_some is
        from (Some artefact) is =
            let file = file_before at other found in
            absurd (differs (edited_same at other file.0 found file.1 file.2.name file.2.deps touched (asked_same at other file.0 found file.1 file.2.name artefact is)))

      pub tells : (at : ℕ) (other : Entry) → slice_get after at ≡ Some other → not (is_some (current at (built_below new other))) ≡ is_touched before edited at
      tells at other found = elim (cases_Bool (is_touched before edited at)) [
        | inl touched ↦ ap not (stale at other found touched) ∙ sym touched
        | inr untouched ↦ ap not (fresh at other found untouched) ∙ sym untouched
      ]
