-- The latest of the latest records, and what compaction keeps of these.
use Rattle.std.proofs.Common.{◌≡◌, Bool, true, false, ◌||◌, List, [], ◌∷◌, map, cond, refl, sym, ap, subst, ◌∙◌, inl, inr}
use Rattle.std.specs.Prelude.{All}
use Rattle.std.specs.List.{list_any}
use Rattle.std.proofs.lemmas.Bool.{cases_Bool, cond-true, cond-false}
use Rattle.std.proofs.lemmas.List.Elements.{All-cons, All-head, All-nil, All-tail}
use Rattle.base.specs.declared.file.FileName.{FileName}
use Rattle.base_collections.specs.NameLaws.{names_decide}
use Rattle.outside.specs.Records.{Record as RequestRecord, is_of as asks_for, is_replaced as is_overtaken, latest_alone as latest_requests}
use Rattle.store_codec.specs.Compaction.{compacted_from, compacted_requests, none_compacted}
use Rattle.store_codec.specs.Forms.{request_payload_bytes}

-- a record that is overtaken has its name among the later ones
later_name : (name : FileName) (first : RequestRecord) (later : List RequestRecord) → asks_for name first ≡ true → is_overtaken later first ≡ true → list_any (asks_for name) later ≡ true
later_name name first later of overtaken = subst (λ (n : FileName). list_any (asks_for n) later ≡ true) ((names_decide first.asked.name name).0 of) overtaken

either : (of : Bool) (later : Bool) → (of ≡ true → later ≡ true) → of || later ≡ later
either true later known = sym (known refl)
either false later known = refl

-- so a name has a record among the latest exactly where it has one
any-latest_requests : (name : FileName) (records : List RequestRecord) → list_any (asks_for name) (latest_requests records) ≡ list_any (asks_for name) records
unfolding latest_requests
any-latest_requests name [] = refl
any-latest_requests name (first ∷ rest) =
    elim (cases_Bool (is_overtaken rest first)) [
      | inl overtaken ↦
          ap (list_any (asks_for name)) (cond-true (is_overtaken rest first) (latest_requests rest) (first ∷ latest_requests rest) overtaken)
          ∙ any-latest_requests name rest
          ∙ sym (either (asks_for name first) (list_any (asks_for name) rest) (λ of. later_name name first rest of overtaken))
      | inr last ↦
          ap (list_any (asks_for name)) (cond-false (is_overtaken rest first) (latest_requests rest) (first ∷ latest_requests rest) last)
          ∙ ap (λ (later : Bool). asks_for name first || later) (any-latest_requests name rest)
    ]

-- the latest of the latest records are the latest
pub latest-latest_requests : (records : List RequestRecord) → latest_requests (latest_requests records) ≡ latest_requests records
unfolding latest_requests
latest-latest_requests [] = refl
latest-latest_requests (first ∷ rest) =
    elim (cases_Bool (is_overtaken rest first)) [
      | inl overtaken ↦
          let is = cond-true (is_overtaken rest first) (latest_requests rest) (first ∷ latest_requests rest) overtaken in
          ap latest_requests is ∙ latest-latest_requests rest ∙ sym is
      | inr last ↦
          let is = cond-false (is_overtaken rest first) (latest_requests rest) (first ∷ latest_requests rest) last in
          ap latest_requests is
          ∙ cond-false (is_overtaken (latest_requests rest) first) (latest_requests (latest_requests rest)) (first ∷ latest_requests (latest_requests rest)) (any-latest_requests first.asked.name rest ∙ last)
          ∙ ap (λ (rs : List RequestRecord). first ∷ rs) (latest-latest_requests rest)
          ∙ sym is
    ]

-- so compaction keeps of them what it keeps of all
pub compacted-latest_requests : (records : List RequestRecord) → compacted_requests (latest_requests records) ≡ compacted_requests records
unfolding compacted_requests
compacted-latest_requests records = ap (λ (rs : List RequestRecord). map request_payload_bytes (compacted_from none_compacted rs).payloads) (latest-latest_requests records)

-- what all records have the latest have
pub all-latest_requests : (P : RequestRecord → Type 0) (records : List RequestRecord) → All P records → All P (latest_requests records)
unfolding latest_requests
all-latest_requests P [] all = All-nil P
all-latest_requests P (first ∷ rest) all =
    let others = all-latest_requests P rest (All-tail P first rest all) in
    by (is_overtaken rest first) (All-head P first rest all) others
  where
    by : (b : Bool) → P first → All P (latest_requests rest) → All P (cond b (latest_requests rest) (first ∷ latest_requests rest))
    by true one others = others
    by false one others = All-cons P first (latest_requests rest) one others
