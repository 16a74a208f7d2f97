-- The artefact recorded for a file over given files below it, and the record that holds the artefact.
use Rattle.std.proofs.Common.{◌≡◌, ℕ, List, Option, Some, None, refl, sym, ap, ◌∙◌, inl, inr}
use Rattle.std.specs.Prelude.{slice_get, ◌↔◌}
use Rattle.std.specs.Option.{option_and_then}
use Rattle.std.proofs.lemmas.Bool.{cases_Bool, cond-true, cond-false}
use Rattle.std.proofs.lemmas.Option.{none-some, same_Some}
use Rattle.base.specs.declared.file.FileName.{FileName}
use Rattle.base.specs.declared.graph.BuiltFile.{BuiltFile}
use Rattle.base.specs.declared.graph.Entry.{Entry}
use Rattle.outside.specs.Records.{Asked, Record, asked_of}
use Rattle.run_spec.specs.Recorded.{is_same_asked, artefact_for, current_by_request}
use Rattle.run_spec.proofs.SameAsked.{same_asked}

-- a record that gives its artefact for these inputs has exactly these inputs
of_asked : (asked : Asked) (kept : Record) (artefact : List ℕ) → artefact_for asked kept ≡ Some artefact → kept ≡ record { asked = asked; artefact = artefact }
of_asked asked kept artefact h =
    elim (cases_Bool (is_same_asked kept.asked asked)) [
      | inl t ↦
          ap (λ (a : Asked). record { asked = a; artefact = kept.artefact }) ((same_asked kept.asked asked).0 t)
          ∙ ap (λ (bytes : List ℕ). record { asked = asked; artefact = bytes }) (same_Some kept.artefact artefact (sym (cond-true (is_same_asked kept.asked asked) (Some kept.artefact) None t) ∙ h))
      | inr f ↦ absurd (none-some artefact (sym (cond-false (is_same_asked kept.asked asked) (Some kept.artefact) None f) ∙ h))
    ]

-- and a record with these inputs gives its artefact
of_record : (asked : Asked) (artefact : List ℕ) → artefact_for asked (record { asked = asked; artefact = artefact }) ≡ Some artefact
of_record asked artefact = cond-true (is_same_asked asked asked) (Some artefact) None ((same_asked asked asked).1 refl)

of_latest : (asked : Asked) (latest : Option Record) (artefact : List ℕ) → option_and_then (artefact_for asked) latest ≡ Some artefact → latest ≡ Some (record { asked = asked; artefact = artefact })
of_latest asked None artefact h = absurd (none-some artefact h)
of_latest asked (Some kept) artefact h = ap (λ (k : Record). Some k) (of_asked asked kept artefact h)

module _ (latest_of : FileName → Option Record) (graph : List Entry) (at : ℕ) (entry : Entry) (built : List BuiltFile) (is : slice_get graph at ≡ Some entry) where
  abbrev of_file : Entry → Option (List ℕ)
  of_file entry = option_and_then (artefact_for (asked_of entry built)) (latest_of entry.name)

  pub current_is : current_by_request latest_of graph at built ≡ option_and_then (artefact_for (asked_of entry built)) (latest_of entry.name)
  unfolding current_by_request
  current_is = ap (option_and_then of_file) is

  -- the current artefact is that of the latest record, if it has the inputs of the file now, and no other
  pub record_of_current : (artefact : List ℕ) → current_by_request latest_of graph at built ≡ Some artefact → latest_of entry.name ≡ Some (record { asked = asked_of entry built; artefact = artefact })
  record_of_current artefact h = of_latest (asked_of entry built) (latest_of entry.name) artefact (sym current_is ∙ h)

  pub current_of_record : (artefact : List ℕ) → latest_of entry.name ≡ Some (record { asked = asked_of entry built; artefact = artefact }) → current_by_request latest_of graph at built ≡ Some artefact
  current_of_record artefact h = current_is ∙ ap (option_and_then (artefact_for (asked_of entry built))) h ∙ of_record (asked_of entry built) artefact
