-- The latest of the latest records, and what compaction keeps of these.
use Rattle.std.proofs.Common.{◌≡◌, Bool, true, false, cond, ◌||◌, List, [], ◌∷◌, map, Option, Some, None, refl, sym, ap, subst, ◌∙◌, inl, inr}
use Rattle.std.specs.List.{list_any}
use Rattle.std.specs.Option.{option_or}
use Rattle.std.proofs.lemmas.Bool.{cases_Bool, cond-true, cond-false, or_cases}
use Rattle.base.specs.declared.file.FileName.{FileName}
use Rattle.store_codec.specs.Compaction.{compacted_from, compacted_requests, none_compacted}
use Rattle.store_codec.specs.Forms.{request_payload_bytes}
use Rattle.outside.specs.Records.{Record as RequestRecord, is_of as asks_for, is_replaced as is_overtaken, latest as latest_request, latest_alone as latest_requests}
use Rattle.base_collections.specs.NameLaws.{names_decide}

or_none : (r : Option RequestRecord) → option_or r None ≡ r
or_none None = refl
or_none (Some kept) = refl

or_some : (r : Option RequestRecord) (last : RequestRecord) → (kept : RequestRecord) × (option_or r (Some last) ≡ Some kept)
or_some None last = (last, refl)
or_some (Some kept) last = (kept, refl)

-- a name that a record is of has a latest record
has_latest : (name : FileName) (records : List RequestRecord) → list_any (asks_for name) records ≡ true → (kept : RequestRecord) × (latest_request name records ≡ Some kept)
unfolding latest_request
has_latest name [] t = absurd (let nothing : ⊥ = cc in nothing)
has_latest name (first ∷ rest) t =
    elim (or_cases (asks_for name first) (list_any (asks_for name) rest) t) [
      | inl here ↦
          let found = or_some (latest_request name rest) first in
          (found.0, ap (option_or (latest_request name rest)) (cond-true (asks_for name first) (Some first) None here) ∙ found.1)
      | inr later ↦
          let found = has_latest name rest later in
          (found.0, ap (λ (r : Option RequestRecord). option_or r (cond (asks_for name first) (Some first) None)) found.1)
    ]

-- a record that is overtaken has its name among the later ones
later_name : (name : FileName) (first : RequestRecord) (later : List RequestRecord) → asks_for name first ≡ true → is_overtaken later first ≡ true → list_any (asks_for name) later ≡ true
later_name name first later of overtaken = subst (λ (n : FileName). list_any (asks_for n) later ≡ true) ((names_decide first.asked.name name).0 of) overtaken

-- so that it is never the latest
not_latest : (name : FileName) (first : RequestRecord) (rest : List RequestRecord) → is_overtaken rest first ≡ true → option_or (latest_request name rest) (cond (asks_for name first) (Some first) None) ≡ latest_request name rest
not_latest name first rest overtaken =
    elim (cases_Bool (asks_for name first)) [
      | inl of ↦
          let found = has_latest name rest (later_name name first rest of overtaken) in
          ap (λ (r : Option RequestRecord). option_or r (cond (asks_for name first) (Some first) None)) found.1 ∙ sym found.1
      | inr other ↦ ap (option_or (latest_request name rest)) (cond-false (asks_for name first) (Some first) None other) ∙ or_none (latest_request name rest)
    ]

-- the latest record of a name is the same among the latest of each name
pub latest_request-latest_requests : (name : FileName) (records : List RequestRecord) → latest_request name (latest_requests records) ≡ latest_request name records
unfolding latest_request latest_requests
latest_request-latest_requests name [] = refl
latest_request-latest_requests name (first ∷ rest) =
    elim (cases_Bool (is_overtaken rest first)) [
      | inl overtaken ↦
          ap (latest_request name) (cond-true (is_overtaken rest first) (latest_requests rest) (first ∷ latest_requests rest) overtaken)
          ∙ latest_request-latest_requests name rest
          ∙ sym (not_latest name first rest overtaken)
      | inr last ↦
          ap (latest_request name) (cond-false (is_overtaken rest first) (latest_requests rest) (first ∷ latest_requests rest) last)
          ∙ ap (λ (r : Option RequestRecord). option_or r (cond (asks_for name first) (Some first) None)) (latest_request-latest_requests name rest)
    ]

either : (of : Bool) (later : Bool) → (of ≡ true → later ≡ true) → of || later ≡ later
either true later known = sym (known refl)
either false later known = refl

-- a name has a record among the latest exactly where it has one
any-latest_requests : (name : FileName) (records : List RequestRecord) → list_any (asks_for name) (latest_requests records) ≡ list_any (asks_for name) records
unfolding latest_requests
any-latest_requests name [] = refl
any-latest_requests name (first ∷ rest) =
    elim (cases_Bool (is_overtaken rest first)) [
      | inl overtaken ↦
          ap (list_any (asks_for name)) (cond-true (is_overtaken rest first) (latest_requests rest) (first ∷ latest_requests rest) overtaken)
          ∙ any-latest_requests name rest
          ∙ sym (either (asks_for name first) (list_any (asks_for name) rest) (λ of. later_name name first rest of overtaken))
      | inr last ↦
          ap (list_any (asks_for name)) (cond-false (is_overtaken rest first) (latest_requests rest) (first ∷ latest_requests rest) last)
          ∙ ap (λ (later : Bool). asks_for name first || later) (any-latest_requests name rest)
    ]

-- the latest of the latest records are the latest
pub latest_requests-latest_requests : (records : List RequestRecord) → latest_requests (latest_requests records) ≡ latest_requests records
unfolding latest_requests
latest_requests-latest_requests [] = refl
latest_requests-latest_requests (first ∷ rest) =
    elim (cases_Bool (is_overtaken rest first)) [
      | inl overtaken ↦
          let is = cond-true (is_overtaken rest first) (latest_requests rest) (first ∷ latest_requests rest) overtaken in
          ap latest_requests is ∙ latest_requests-latest_requests rest ∙ sym is
      | inr last ↦
          let is = cond-false (is_overtaken rest first) (latest_requests rest) (first ∷ latest_requests rest) last in
          ap latest_requests is
          ∙ cond-false (is_overtaken (latest_requests rest) first) (latest_requests (latest_requests rest)) (first ∷ latest_requests (latest_requests rest)) (any-latest_requests first.asked.name rest ∙ last)
          ∙ ap (λ (rs : List RequestRecord). first ∷ rs) (latest_requests-latest_requests rest)
          ∙ sym is
    ]

-- so compaction keeps of them what it keeps of all
pub compacted-latest_requests : (records : List RequestRecord) → compacted_requests (latest_requests records) ≡ compacted_requests records
unfolding compacted_requests
compacted-latest_requests records = ap (λ (rs : List RequestRecord). map request_payload_bytes (compacted_from none_compacted rs).payloads) (latest_requests-latest_requests records)
