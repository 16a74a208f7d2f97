-- The latest records of names, record after record.
use Rattle.std.proofs.Common.{◌≡◌, ℕ, cond, List, [], ◌∷◌, ◌++◌, Option, Some, refl, sym, ap, ◌∙◌}
use Rattle.std.specs.Prelude.{slice_get}
use Rattle.std.proofs.lemmas.Bool.{cond-true, cond-false}
use Rattle.base.specs.declared.file.FileName.{FileName}
use Rattle.base.specs.declared.graph.BuiltFile.{BuiltFile}
use Rattle.base.specs.declared.graph.Entry.{Entry}
use Rattle.base.specs.Graphs.{IsGraph}
use Rattle.outside.specs.Records.{Record, is_of, with_record}
use Rattle.run_spec.proofs.RecordNames.{is_of_own, is_of_other}
use Rattle.run_spec.specs.Commits.{record_at}
use Rattle.run_build.specs.Commits.{latest_after}

pub latest_after-append : (xs ys : List Record) (before : FileName → Option Record) (name : FileName) → latest_after (xs ++ ys) before name ≡ latest_after ys (latest_after xs before) name
latest_after-append [] ys before name = refl
latest_after-append (x ∷ xs) ys before name = latest_after-append xs ys (with_record x before) name

pub latest_after-same : (xs : List Record) (before other : FileName → Option Record) → ((name : FileName) → before name ≡ other name) → (name : FileName) → latest_after xs before name ≡ latest_after xs other name
latest_after-same [] before other same name = same name
latest_after-same (x ∷ xs) before other same name = latest_after-same xs (with_record x before) (with_record x other) (λ n. ap (λ (o : Option Record). cond (is_of n x) (Some x) o) (same n)) name

-- adding two lists of records in turn gives the same latest records as adding both at once
pub latest_then : (xs ys : List Record) (before middle now : FileName → Option Record) → ((name : FileName) → middle name ≡ latest_after xs before name) → ((name : FileName) → now name ≡ latest_after ys middle name)
    → (name : FileName) → now name ≡ latest_after (xs ++ ys) before name
latest_then xs ys before middle now first second name = second name ∙ latest_after-same ys middle (latest_after xs before) first name ∙ sym (latest_after-append xs ys before name)

module _ (graph : List Entry) (position : ℕ) (entry : Entry) (at : slice_get graph position ≡ Some entry) where
  -- once it is committed it is the latest of that name
  pub latest_here : (below : List BuiltFile) (artefact : List ℕ) (before : FileName → Option Record) → with_record (record_at graph position below artefact) before entry.name ≡ Some (record_at graph position below artefact)
  latest_here below artefact before =
      cond-true (is_of entry.name (record_at graph position below artefact)) (Some (record_at graph position below artefact)) (before entry.name) (is_of_own graph position entry at below artefact)

-- the record of another file doesn't change the latest record of a name
pub latest_elsewhere : (graph : List Entry) → IsGraph graph → (i j : ℕ) (f : Entry) → slice_get graph j ≡ Some f → (i ≡ j → ⊥) → (below : List BuiltFile) (artefact : List ℕ) (before : FileName → Option Record)
    → with_record (record_at graph i below artefact) before f.name ≡ before f.name
latest_elsewhere graph is i j f at_j differ below artefact before =
    cond-false (is_of f.name (record_at graph i below artefact)) (Some (record_at graph i below artefact)) (before f.name) (is_of_other graph i j below artefact f is at_j differ)
