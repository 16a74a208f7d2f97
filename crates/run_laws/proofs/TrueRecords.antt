-- True records: what they say of a clean build; and the latest record of a name.
use Rattle.std.proofs.Common.{◌≡◌, ℕ, ◌<◌, Bool, true, false, cond, eqb, List, [], ◌∷◌, Option, Some, None, refl, sym, ap, ap₂, subst, ◌∙◌, arith, inl, inr}
use Rattle.std.specs.Prelude.{All, slice_get}
use Rattle.std.specs.List.{list_any}
use Rattle.std.specs.Option.{option_or}
use Rattle.std.proofs.lemmas.Bool.{cases_Bool, cond-true, cond-false, eq-eqb, or_cases}
use Rattle.std.proofs.lemmas.List.Elements.{All-cons, All-tail}
use Rattle.std.proofs.lemmas.Option.{slice_get_within, get_or_from_slice_get, same_Some}
use Rattle.base.specs.declared.file.FileName.{FileName}
use Rattle.base.specs.declared.graph.Entry.{Entry}
use Rattle.base.specs.declared.graph.BuiltFile.{BuiltFile}
use Rattle.base.specs.declared.child.Request.{Request}
use Rattle.base.specs.declared.child.Exit.{Exit}
use Rattle.base.specs.Graphs.{IsGraph}
use Rattle.base.specs.Jobs.{compile_request}
use Rattle.outside.specs.Records.{Record, asked_of, is_of, latest, is_replaced, latest_alone}
use Rattle.run_spec.specs.CleanBuild.{Result, Made, Refused, Blocked, built_below, result_of, is_free, next_result, clean_build, RecordsClean}
use Rattle.run_spec.specs.Faithful.{IsTrueRecord}
use Rattle.run_spec.specs.Recorded.{current_by_request}
use Rattle.run_spec.proofs.SameAsked.{same_names}
use Rattle.run_spec.proofs.RecordedArtefacts.{record_of_current}
use Rattle.run_laws.proofs.CleanRanks.{clean_at}

-- what a compiler that answers so makes of a file
made_by : (entry : Entry) (exit : Exit) (artefact : List ℕ) → exit.code ≡ 0 → exit.output ≡ artefact → result_of entry exit ≡ Made (record { name = entry.name; artefact = artefact })
made_by entry exit artefact code output =
    cond-true (eqb exit.code 0) (Made (record { name = entry.name; artefact = exit.output })) (Refused exit.code exit.output) (eq-eqb exit.code 0 code)
    ∙ ap (λ (bytes : List ℕ). Made (record { name = entry.name; artefact = bytes })) output

-- where the latest records are true, what is recorded of each file over what a clean build makes below it is what a clean
-- build makes of it
pub records_clean : (answer : Request → Exit) (latest_of : FileName → Option Record) (graph : List Entry) → IsGraph graph
    → ((name : FileName) (kept : Record) → latest_of name ≡ Some kept → IsTrueRecord answer kept)
    → RecordsClean answer graph (current_by_request latest_of graph)
records_clean answer latest_of graph valid holds position artefact entry found free current =
    let below : List BuiltFile = built_below (clean_build answer graph) entry in
    let kept : Record = record { asked = asked_of entry below; artefact = artefact } in
    let is : IsTrueRecord answer kept = holds entry.name kept (record_of_current latest_of graph position entry below found artefact current) in
    let before : All (λ dep. dep < position) entry.deps =
    subst (λ (e : Entry). All (λ dep. dep < position) e.deps) (get_or_from_slice_get graph position entry entry found) (valid.each position entry (slice_get_within graph position entry found)).before in
    clean_at answer graph position entry found before
    ∙ ap (λ (r : Result). Some r) (cond-true (is_free (clean_build answer graph) entry) (result_of entry (answer (compile_request entry below))) Blocked free ∙ made_by entry (answer (compile_request entry below)) artefact is.code is.output)

or_none : (r : Option Record) → option_or r None ≡ r
or_none None = refl
or_none (Some kept) = refl

or_some : (r : Option Record) (last : Record) → (kept : Record) × (option_or r (Some last) ≡ Some kept)
or_some None last = (last, refl)
or_some (Some kept) last = (kept, refl)

-- a name that a record is of has a latest record
has_latest : (name : FileName) (records : List Record) → list_any (is_of name) records ≡ true → (kept : Record) × (latest name records ≡ Some kept)
unfolding latest
has_latest name [] t = absurd (let nothing : ⊥ = cc in nothing)
has_latest name (first ∷ rest) t =
    elim (or_cases (is_of name first) (list_any (is_of name) rest) t) [
      | inl here ↦
          let found = or_some (latest name rest) first in
          (found.0, ap (option_or (latest name rest)) (cond-true (is_of name first) (Some first) None here) ∙ found.1)
      | inr later ↦
          let found = has_latest name rest later in
          (found.0, ap (λ (r : Option Record). option_or r (cond (is_of name first) (Some first) None)) found.1)
    ]

-- so that a record which is replaced is never the latest
not_latest : (name : FileName) (first : Record) (rest : List Record) → is_replaced rest first ≡ true → option_or (latest name rest) (cond (is_of name first) (Some first) None) ≡ latest name rest
not_latest name first rest replaced =
    elim (cases_Bool (is_of name first)) [
      | inl of ↦
          let found = has_latest name rest (subst (λ (n : FileName). list_any (is_of n) rest ≡ true) ((same_names first.asked.name name).0 of) replaced) in
          ap (λ (r : Option Record). option_or r (cond (is_of name first) (Some first) None)) found.1 ∙ sym found.1
      | inr other ↦ ap (option_or (latest name rest)) (cond-false (is_of name first) (Some first) None other) ∙ or_none (latest name rest)
    ]

-- the latest record of a name is the same among the latest of each name
pub latest-latest_alone : (name : FileName) (records : List Record) → latest name (latest_alone records) ≡ latest name records
unfolding latest latest_alone
latest-latest_alone name [] = refl
latest-latest_alone name (first ∷ rest) =
    elim (cases_Bool (is_replaced rest first)) [
      | inl replaced ↦
          ap (latest name) (cond-true (is_replaced rest first) (latest_alone rest) (first ∷ latest_alone rest) replaced)
          ∙ latest-latest_alone name rest
          ∙ sym (not_latest name first rest replaced)
      | inr last ↦
          ap (latest name) (cond-false (is_replaced rest first) (latest_alone rest) (first ∷ latest_alone rest) last)
          ∙ ap (λ (r : Option Record). option_or r (cond (is_of name first) (Some first) None)) (latest-latest_alone name rest)
    ]

-- what holds of all records holds of the latest of each name
pub All-latest_alone : (P : Record → Type 0) (records : List Record) → All P records → All P (latest_alone records)
unfolding latest_alone
All-latest_alone P [] holds = holds
All-latest_alone P (first ∷ rest) holds =
    let others : All P (latest_alone rest) = All-latest_alone P rest (All-tail P first rest holds) in
    elim (cases_Bool (is_replaced rest first)) [
      | inl replaced ↦ subst (All P) (sym (cond-true (is_replaced rest first) (latest_alone rest) (first ∷ latest_alone rest) replaced)) others
      | inr last ↦ subst (All P) (sym (cond-false (is_replaced rest first) (latest_alone rest) (first ∷ latest_alone rest) last))
          (All-cons P first (latest_alone rest) (holds 0 first (omega arith)) others)
    ]

either : (P : Record → Type 0) (first kept : Record) (rest : Option Record) (of : Bool)
    → P first → ((k : Record) → rest ≡ Some k → P k) → option_or rest (cond of (Some first) None) ≡ Some kept → P kept
either P first kept (Some later) of one more h = more kept h
either P first kept None true one more h = subst P (same_Some first kept h) one
either P first kept None false one more h = absurd (let nothing : ⊥ = cc in nothing)

-- and of the latest record of a name
pub All-latest : (P : Record → Type 0) (name : FileName) (records : List Record) (kept : Record) → All P records → latest name records ≡ Some kept → P kept
unfolding latest
All-latest P name [] kept holds is = absurd (let nothing : ⊥ = cc in nothing)
All-latest P name (first ∷ rest) kept holds is =
    either P first kept (latest name rest) (is_of name first) (holds 0 first (omega arith)) (λ k found. All-latest P name rest k (All-tail P first rest holds) found) is
