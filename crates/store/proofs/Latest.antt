-- The latest record of a name, by the numbers of the names of all records.
use Rattle.std.proofs.Common.{◌≡◌, ◌≢◌, ℕ, zero, suc, ◌<◌, Bool, true, false, List, [], ◌∷◌, length, map, get_or, None, Some, Option, refl, sym, ap, ◌∙◌, arith}
use Rattle.std.specs.Prelude.{All, AllPairs, Contains, slice_get, if◌then◌else◌}
use Rattle.std.specs.Option.{option_or}
use Rattle.std.proofs.lemmas.List.{get_or-map, get_or_default, length-map}
use Rattle.std.proofs.lemmas.Option.{get_or_from_slice_get, none-some, same_Some, slice_get-get_or, slice_get_within}
use Rattle.base.specs.declared.file.FileName.{FileName}
use Rattle.base.specs.declared.graph.BuiltFile.{BuiltFile}
use Rattle.base_collections.specs.Indexes.{IsLastWith}
use Rattle.base_collections.specs.NameLaws.{names_decide}
use Rattle.outside.specs.Records.{Record as RequestRecord, is_of as asks_for, latest as latest_request}
use Rattle.store_table.specs.declared.products.ProductRow.{ProductRow}
use Rattle.store_table.specs.declared.table.RecordRow.{RecordRow}
use Rattle.store_table.specs.Located.{IsRecordRow, no_name, row_record}
use Rattle.store_table.proofs.Finding.{once_at}
use Rattle.store_table.proofs.Puts.{no_record}
use Rattle.store.specs.Held.{IsLatestRow}

-- no later record has the name
latest_none : (name : FileName) (records : List RequestRecord) → ((k : ℕ) (other : RequestRecord) → k < length records → asks_for name (get_or records k other) ≡ false) → latest_request name records ≡ None
unfolding latest_request
latest_none name [] none = refl
latest_none name (first ∷ rest) none = rw (latest_none name rest (λ k other l. none (suc k) other (omega arith)), none 0 first (omega arith)) refl

latest_at : (name : FileName) (records : List RequestRecord) (n : ℕ) → n < length records → ((other : RequestRecord) → asks_for name (get_or records n other) ≡ true) → ((k : ℕ) (other : RequestRecord) → n < k → k < length records → asks_for name (get_or records k other) ≡ false) → latest_request name records ≡ slice_get records n
unfolding latest_request
latest_at name [] n low is none = absurd (omega arith)
latest_at name (first ∷ rest) zero low is none = rw (latest_none name rest (λ k other l. none (suc k) other (omega arith) (omega arith)), is first) refl
latest_at name (first ∷ rest) (suc n) low is none =
    let l : n < length rest = omega arith in
    let later : latest_request name rest ≡ slice_get rest n = latest_at name rest n l is (λ k other a b. none (suc k) other (omega arith) (omega arith)) in
    rw (later, slice_get-get_or rest n first l) refl

-- a latest record is of its name
first_named : (name : FileName) (first kept : RequestRecord) (b : Bool) → asks_for name first ≡ b → (if b then Some first else None) ≡ Some kept → kept.asked.name ≡ name
first_named name first kept true t e = ap (λ (r : RequestRecord). r.asked.name) (sym (same_Some first kept e)) ∙ (names_decide first.asked.name name).0 t
first_named name first kept false t e = absurd (none-some kept e)

pub latest_named : (name : FileName) (records : List RequestRecord) (kept : RequestRecord) → latest_request name records ≡ Some kept → kept.asked.name ≡ name
unfolding latest_request
latest_named name [] kept e = absurd (none-some kept e)
latest_named name (first ∷ rest) kept e = by (latest_request name rest) refl e (λ k f. latest_named name rest k f)
  where
    by : (o : Option RequestRecord) → latest_request name rest ≡ o → option_or o (if asks_for name first then Some first else None) ≡ Some kept → ((k : RequestRecord) → latest_request name rest ≡ Some k → k.asked.name ≡ name) → kept.asked.name ≡ name
    by (Some k) f e rest_named = rest_named kept (f ∙ e)
    by None f e rest_named = first_named name first kept (asks_for name first) refl e

module _ (payloads : List (List ℕ)) (names : List FileName) (texts : List (List ℕ)) (rows : List ProductRow) (products : List BuiltFile) (records : List RecordRow) (once : AllPairs (λ a b. a ≢ b) names) (are : All (IsRecordRow payloads names texts rows) records) (name : FileName) where
  record_name : (k : ℕ) (other : RequestRecord) → k < length records → (get_or (map (row_record payloads names texts products) records) k other).asked.name ≡ get_or names (get_or records k no_record).name no_name
  record_name k other l = ap (λ (r : RequestRecord). r.asked.name) (get_or-map (row_record payloads names texts products) records k no_record other l)

  name_low : (k : ℕ) → k < length records → (get_or records k no_record).name < length names
  name_low k l = (are k no_record l).name

  own : (number k : ℕ) (other : RequestRecord) → slice_get names number ≡ Some name → k < length records → (get_or records k no_record).name ≡ number → asks_for name (get_or (map (row_record payloads names texts products) records) k other) ≡ true
  own number k other at l same =
      (names_decide (get_or (map (row_record payloads names texts products) records) k other).asked.name name).1
      (record_name k other l ∙ ap (λ (n : ℕ). get_or names n no_name) same ∙ get_or_from_slice_get names number name no_name at)

  different : (k : ℕ) (other : RequestRecord) → k < length records → (get_or names (get_or records k no_record).name no_name ≢ name) → asks_for name (get_or (map (row_record payloads names texts products) records) k other) ≡ false
  different k other l differs = by (asks_for name (get_or (map (row_record payloads names texts products) records) k other)) refl
    where
      by : (b : Bool) → asks_for name (get_or (map (row_record payloads names texts products) records) k other) ≡ b → b ≡ false
      by true e = absurd (differs (sym (record_name k other l) ∙ (names_decide (get_or (map (row_record payloads names texts products) records) k other).asked.name name).0 e))
      by false e = refl

  another : (number k : ℕ) (other : RequestRecord) → slice_get names number ≡ Some name → k < length records → (get_or records k no_record).name ≢ number → asks_for name (get_or (map (row_record payloads names texts products) records) k other) ≡ false
  another number k other at l differs =
      different k other l (λ e. differs (once_at names no_name once (get_or records k no_record).name number (name_low k l) (slice_get_within names number name at) (e ∙ sym (get_or_from_slice_get names number name no_name at))))

  fingerprint_at : (fingerprints : List ℕ) (k : ℕ) → fingerprints ≡ map (λ (r : RecordRow). r.name) records → k < length records → get_or fingerprints k 0 ≡ (get_or records k no_record).name
  fingerprint_at fingerprints k e l = ap (λ (ms : List ℕ). get_or ms k 0) e ∙ get_or-map (λ (r : RecordRow). r.name) records k no_record 0 l

  pub latest_is : (fingerprints : List ℕ) (number : ℕ) (last : Option ℕ) → fingerprints ≡ map (λ (r : RecordRow). r.name) records → slice_get names number ≡ Some name → IsLastWith fingerprints number (length fingerprints) last → IsLatestRow (map (row_record payloads names texts products) records) name last
  latest_is fingerprints number None e at is =
      let size : length fingerprints ≡ length records = ap length e ∙ length-map records (λ (r : RecordRow). r.name) in
      latest_none name (map (row_record payloads names texts products) records) (λ k other l.
      let m : k < length records = omega (arith, l, length-map records (row_record payloads names texts products)) in
      another number k other at m (λ f. is k (omega (arith, m, size)) (fingerprint_at fingerprints k e m ∙ f)))
  latest_is fingerprints number (Some n) e at is =
      let size : length fingerprints ≡ length records = ap length e ∙ length-map records (λ (r : RecordRow). r.name) in
      let all : length (map (row_record payloads names texts products) records) ≡ length records = length-map records (row_record payloads names texts products) in
      let low : n < length records = omega (arith, is.0, size) in (
        omega (arith, low, all),
        latest_at name (map (row_record payloads names texts products) records) n (omega (arith, low, all)) (λ other. own number n other at low (sym (fingerprint_at fingerprints n e low) ∙ is.1)) (λ k other a l.
            let m : k < length records = omega (arith, l, all) in
            another number k other at m (λ f. is.2 k a (omega (arith, m, size)) (fingerprint_at fingerprints k e m ∙ f))),
      )

  pub latest_absent : (¬ Contains names name) → IsLatestRow (map (row_record payloads names texts products) records) name None
  latest_absent none =
      latest_none name (map (row_record payloads names texts products) records) (λ k other l.
      let m : k < length records = omega (arith, l, length-map records (row_record payloads names texts products)) in
      let n : ℕ = (get_or records k no_record).name in
      different k other m (λ e. none ((get_or records k no_record).name, name_low k m, get_or_default names (get_or records k no_record).name name no_name (name_low k m) ∙ e)))
