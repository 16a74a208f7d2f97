-- The examples of "Records, and what a stop can leave".
use Rattle.std.specs.Prelude.{◌≡◌, ◌∷◌, true, false, List, [], Option, Some, None, codes}
use Rattle.base.specs.declared.file.FileName.{FileName}
use Rattle.base.specs.declared.graph.BuiltFile.{BuiltFile}
use Rattle.base.specs.declared.graph.Entry.{Entry}
use Rattle.outside.specs.Records.{IsAllOrLatest, Record, asked_now, asked_of, built_of_record, deps_at, latest, latest_alone, latest_built, request_of}
use Rattle.run_spec.specs.Commits.{commits}
use Rattle.run_spec.specs.Faithful.{IsTrueRecord}
use Rattle.run_spec.specs.Recorded.{current_by_request, is_same_asked}
use Rattle.tests_examples.specs.Example.{Ra, Rb, Rw, a_built, a_name, accepting, b_file, b_name, b_request, built, events, exit, file, files, one_slot, recorded, with_end_of_b}

-- of Ra, Rb and Rw
abbrev three : List Record
three = Ra ∷ Rb ∷ Rw ∷ []

-- a.vhd with the text w, which depends on no file
abbrev other_a : Entry
other_a = file a_name (codes "w") []

-- a.vhd with the artefact 8
abbrev other_built : BuiltFile
other_built = built a_name (codes "8")

-- the record of a with the text w and the artefact that it had with x
abbrev same_artefact : Record
same_artefact = recorded other_a [] (codes "1")

-- the latest of these records that is of a file, if one is
abbrev over : List Record → FileName → Option Record
over records it = latest it records

-- the latest records
pub record LatestRecords : Type 0 where
  pub of_a : latest a_name three ≡ Some Rw
  pub of_b : latest b_name three ≡ Some Rb
  pub each : latest_alone three ≡ Rb ∷ Rw ∷ []
  pub all : IsAllOrLatest three three
  pub alone : IsAllOrLatest three (Rb ∷ Rw ∷ [])

-- what compilers were asked, and what they would be asked now
pub record AskedFiles : Type 0 where
  pub request : request_of Rb.asked ≡ b_request
  pub built_so : built_of_record Ra ≡ a_built
  pub built_last : latest_built (over three) files 0 ≡ other_built
  pub of_b : asked_now (over (Ra ∷ Rb ∷ [])) files b_file ≡ Rb.asked
  pub over_other : asked_now (over three) files b_file ≡ asked_of b_file (other_built ∷ [])
  pub same : is_same_asked Rb.asked (asked_of b_file (a_built ∷ [])) ≡ true
  pub not_same : is_same_asked Rb.asked (asked_of b_file (other_built ∷ [])) ≡ false

-- the current artefact of a file: 1 at 0, 2 at 1 over a's 1, and nothing at 2, which is past the last file
pub record CurrentFiles : Type 0 where
  pub first : current_by_request (over (Ra ∷ Rb ∷ [])) files 0 [] ≡ Some (codes "1")
  pub second : current_by_request (over (Ra ∷ Rb ∷ [])) files 1 (a_built ∷ []) ≡ Some (codes "2")
  -- not over another artefact of a,
  pub below_differs : current_by_request (over (Ra ∷ Rb ∷ [])) files 1 (other_built ∷ []) ≡ None
  -- nor over none
  pub none_below : current_by_request (over (Ra ∷ Rb ∷ [])) files 1 [] ≡ None
  pub third : current_by_request (over (Ra ∷ Rb ∷ [])) files 2 [] ≡ None
  -- where the text of a was changed a isn't current; b is, where a's artefact is the same
  pub changed : current_by_request (over (Ra ∷ Rb ∷ [])) (other_a ∷ b_file ∷ []) 0 [] ≡ None
  pub still_current : current_by_request (over (Ra ∷ Rb ∷ same_artefact ∷ [])) (other_a ∷ b_file ∷ []) 1 (a_built ∷ []) ≡ Some (codes "2")
  pub deps : deps_at files 1 ≡ 0 ∷ []

-- what a build commits: where both end with code 0 Ra and Rb, where b ends with code 3 Ra
pub record BuildCommits : Type 0 where
  pub both : commits one_slot events ≡ Ra ∷ Rb ∷ []
  pub first : commits one_slot (with_end_of_b (exit 3 [])) ≡ Ra ∷ []

-- the records of a and of b are true
pub record TrueRecords : Type 0 where
  pub of_a : IsTrueRecord accepting Ra
  pub of_b : IsTrueRecord accepting Rb
