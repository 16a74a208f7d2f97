-- Whose record a record of a file is.
use Rattle.std.proofs.Common.{◌≡◌, ℕ, ◌<◌, true, false, List, [], length, Option, Some, None, refl, sym, ap, subst, ◌∙◌, arith, inl, inr}
use Rattle.std.specs.Prelude.{slice_get}
use Rattle.std.specs.Option.{option_map_or}
use Rattle.std.proofs.lemmas.Bool.{cases_Bool, cases_order}
use Rattle.std.proofs.lemmas.Option.{slice_get_within, get_or_from_slice_get}
use Rattle.base.specs.declared.file.FileName.{FileName}
use Rattle.base.specs.declared.graph.BuiltFile.{BuiltFile}
use Rattle.base.specs.declared.graph.Entry.{Entry}
use Rattle.base.specs.Graphs.{IsGraph, IsEntryAt}
use Rattle.base.specs.Names.{is_same_name}
use Rattle.outside.specs.Records.{Asked, asked_of, is_of}
use Rattle.run_spec.specs.Commits.{asked_over, record_at}
use Rattle.run_spec.proofs.SameAsked.{same_names}

module _ (graph : List Entry) (position : ℕ) (entry : Entry) (at : slice_get graph position ≡ Some entry) where
  pub asked_is : (below : List BuiltFile) → asked_over graph position below ≡ asked_of entry below
  asked_is below = ap (λ (o : Option Entry). option_map_or (λ (e : Entry). asked_of e below) o (record { command = []; name = record { library = []; path = [] }; text = []; below = below })) at

  -- the record of a file is of the file's name
  pub is_of_record : (below : List BuiltFile) (artefact : List ℕ) (name : FileName) → is_of name (record_at graph position below artefact) ≡ is_same_name entry.name name
  is_of_record below artefact name = ap (λ (a : Asked). is_same_name a.name name) (asked_is below)

  pub is_of_own : (below : List BuiltFile) (artefact : List ℕ) → is_of entry.name (record_at graph position below artefact) ≡ true
  is_of_own below artefact = is_of_record below artefact entry.name ∙ (same_names entry.name entry.name).1 refl

-- two files have two names
names_differ : (graph : List Entry) (i j : ℕ) (e f : Entry) → IsGraph graph → slice_get graph i ≡ Some e → slice_get graph j ≡ Some f → i < j → e.name ≡ f.name → ⊥
names_differ graph i j e f is at_i at_j lt same =
    is.distinct i j e lt (slice_get_within graph j f at_j) (ap (λ (x : Entry). x.name) (get_or_from_slice_get graph i e e at_i) ∙ same ∙ sym (ap (λ (x : Entry). x.name) (get_or_from_slice_get graph j f e at_j)))

pub other_name : (graph : List Entry) (i j : ℕ) (e f : Entry) → IsGraph graph → slice_get graph i ≡ Some e → slice_get graph j ≡ Some f → (i ≡ j → ⊥) → is_same_name e.name f.name ≡ false
other_name graph i j e f is at_i at_j differ =
    elim (cases_Bool (is_same_name e.name f.name)) [
      | inl t ↦
          let same : e.name ≡ f.name = (same_names e.name f.name).0 t in
          elim (cases_order i j) [
            | inl equal ↦ absurd (differ equal)
            | inr (inl low) ↦ absurd (names_differ graph i j e f is at_i at_j low same)
            | inr (inr high) ↦ absurd (names_differ graph j i f e is at_j at_i high (sym same))
          ]
      | inr f ↦ f
    ]

-- no file of a graph has the empty name
named : (graph : List Entry) (k : ℕ) (entry : Entry) → IsGraph graph → slice_get graph k ≡ Some entry → is_same_name (record { library = []; path = [] }) entry.name ≡ false
named graph k entry is at =
    let form : IsEntryAt graph k entry = subst (IsEntryAt graph k) (get_or_from_slice_get graph k entry entry at) (is.each k entry (slice_get_within graph k entry at)) in
    elim (cases_Bool (is_same_name (record { library = []; path = [] }) entry.name)) [
      | inl t ↦
          let same : ◌≡◌ {A = FileName} (record { library = []; path = [] }) entry.name = (same_names (record { library = []; path = [] }) entry.name).0 t in
          absurd (omega (arith, form.name.library.at_least, ap (λ (n : FileName). length n.library) same))
      | inr f ↦ f
    ]

-- the record of another position is of another name, or of none
pub is_of_other : (graph : List Entry) (position k : ℕ) (below : List BuiltFile) (artefact : List ℕ) (entry : Entry) → IsGraph graph → slice_get graph k ≡ Some entry → (position ≡ k → ⊥) → is_of entry.name (record_at graph position below artefact) ≡ false
is_of_other graph position k below artefact entry is at_k differ = from (slice_get graph position) refl where
  from : (here : Option Entry) → slice_get graph position ≡ here → is_of entry.name (record_at graph position below artefact) ≡ false
  from None at = ap (λ (o : Option Entry). is_same_name (option_map_or (λ (e : Entry). asked_of e below) o (record { command = []; name = record { library = []; path = [] }; text = []; below = below })).name entry.name) at ∙ named graph k entry is at_k
  from (Some other) at = is_of_record graph position other at below artefact entry.name ∙ other_name graph position k other entry is at at_k differ
