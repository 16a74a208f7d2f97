-- Which records are the latest of their names, by the numbers of the names.
use Rattle.std.proofs.Common.{◌≡◌, ◌≢◌, ℕ, ◌+◌, ◌-◌, ◌<◌, ◌≤◌, Bool, true, false, not, eqb, List, length, get_or, drop, None, Some, refl, sym, ap, ◌∙◌, arith, inl, inr}
use Rattle.std.proofs.lemmas.Bool.{cases_lt, eq-eqb, ne_eqb}
use Rattle.std.proofs.lemmas.List.{get_or-drop, get_or-map, get_or_default, length-drop, length-map}
use Rattle.std.proofs.lemmas.List.Folds.{list_any_at, list_any_none}
use Rattle.base.specs.declared.file.FileName.{FileName}
use Rattle.base_collections.specs.Indexes.{IsLastWith}
use Rattle.base_collections.specs.NameLaws.{names_decide}
use Rattle.outside.specs.Records.{Record as RequestRecord, is_of as asks_for, is_replaced as is_overtaken}
use Rattle.store_table.specs.declared.table.LocatedTable.{LocatedTable}
use Rattle.store_table.specs.declared.table.RecordRow.{RecordRow}
use Rattle.store_table.specs.Located.{IsTableLocated, no_name, located_table}
use Rattle.store_table.proofs.Finding.{once_at}
use Rattle.store_table.proofs.Puts.{no_record}
use Rattle.store.specs.Plans.{blank_request, table_record_at}
use Rattle.store.proofs.LocatedRows.{record_name, records_count, row_is}

module _ (payloads : List (List ℕ)) (table : LocatedTable) (located : IsTableLocated payloads table) (n : ℕ) (low : n < length table.rows.items) where
  abbrev all : List RequestRecord
  all = (located_table payloads table).records

  abbrev fingerprints : List ℕ
  fingerprints = table.latest.fingerprints

  abbrev name : FileName
  name = (table_record_at all n).asked.name

  size : length fingerprints ≡ length table.rows.items
  size = ap length located.latest ∙ length-map table.rows.items (λ (r : RecordRow). r.name)

  pub fingerprint_at : (k : ℕ) → k < length table.rows.items → get_or table.latest.fingerprints k 0 ≡ (get_or table.rows.items k no_record).name
  fingerprint_at k l = ap (λ (ms : List ℕ). get_or ms k 0) located.latest ∙ get_or-map (λ (r : RecordRow). r.name) table.rows.items k no_record 0 l

  name_at : (k : ℕ) → k < length table.rows.items → (table_record_at all k).asked.name ≡ get_or table.names.keys (get_or fingerprints k 0) no_name
  name_at k l = record_name payloads table located k l ∙ ap (λ (m : ℕ). get_or table.names.keys m no_name) (sym (fingerprint_at k l))

  fingerprint_low : (k : ℕ) → k < length table.rows.items → get_or fingerprints k 0 < length table.names.keys
  fingerprint_low k l = omega (arith, fingerprint_at k l, (row_is payloads table located k l).name)

  own : (k : ℕ) → k < length table.rows.items → get_or fingerprints k 0 ≡ get_or fingerprints n 0 → asks_for name (table_record_at all k) ≡ true
  own k l same = (names_decide (table_record_at all k).asked.name name).1 (name_at k l ∙ ap (λ (m : ℕ). get_or table.names.keys m no_name) same ∙ sym (name_at n low))

  another : (k : ℕ) → k < length table.rows.items → get_or fingerprints k 0 ≢ get_or fingerprints n 0 → asks_for name (table_record_at all k) ≡ false
  another k l differs = by (asks_for name (table_record_at all k)) refl
    where
      by : (b : Bool) → asks_for name (table_record_at all k) ≡ b → b ≡ false
      by true e = absurd (differs (once_at table.names.keys no_name located.names_once (get_or fingerprints k 0) (get_or fingerprints n 0) (fingerprint_low k l) (fingerprint_low n low) (sym (name_at k l) ∙ (names_decide (table_record_at all k).asked.name name).0 e ∙ name_at n low)))
      by false e = refl

  abbrev later : List RequestRecord
  later = drop (n + 1) all

  later_at : (k : ℕ) (d : RequestRecord) → n + 1 + k < length table.rows.items → get_or later k d ≡ table_record_at all (n + 1 + k)
  later_at k d l = get_or-drop (n + 1) all k d ∙ get_or_default all (n + 1 + k) d blank_request (omega (arith, l, records_count payloads table located))

  -- the last number of its name is its own
  latest_last : ((k : ℕ) → n < k → k < length fingerprints → get_or fingerprints k 0 ≢ get_or fingerprints n 0) → is_overtaken later (table_record_at all n) ≡ false
  latest_last others = list_any_none (asks_for name) later (λ k d l.
      let within : n + 1 + k < length table.rows.items = omega (arith, l, length-drop (n + 1) all, records_count payloads table located) in
      ap (asks_for name) (later_at k d within) ∙ another (n + 1 + k) within (others (n + 1 + k) (omega arith) (omega (arith, within, size))))

  -- or it is a later one
  latest_later : (m : ℕ) → n < m → m < length fingerprints → get_or fingerprints m 0 ≡ get_or fingerprints n 0 → is_overtaken later (table_record_at all n) ≡ true
  latest_later m after within same =
      let k : ℕ = m - (n + 1) in
      let is : n + 1 + k ≡ m = omega arith in
      let in_all : m < length table.rows.items = omega (arith, within, size) in
      let in_later : k < length later = omega (arith, is, in_all, length-drop (n + 1) all, records_count payloads table located) in
      list_any_at (asks_for name) later k blank_request in_later
      (ap (asks_for name) (later_at k blank_request (omega (arith, is, in_all)) ∙ ap (table_record_at all) is) ∙ own m in_all same)

  -- so it is the latest exactly where the last number of its name is its own
  pub is_latest_some : (last : ℕ) (test : Bool) → IsLastWith table.latest.fingerprints (get_or table.latest.fingerprints n 0) (length table.latest.fingerprints) (Some last) → test ≡ eqb last n → test ≡ not (is_overtaken (drop (n + 1) (located_table payloads table).records) (table_record_at (located_table payloads table).records n))
  is_latest_some last test is test_is = elim (cases_lt n last) [
    | inl after ↦
        let differs : eqb last n ≡ false = ne_eqb last n (λ e. omega arith) in
        rw (latest_later last after is.0 is.1) (test_is ∙ differs)
    | inr before ↦
        let not_after : n ≤ last = elim (cases_lt last n) [
          | inl less ↦ absurd (is.2 n less (omega (arith, low, size)) refl)
          | inr le ↦ omega arith
        ] in
        let same : last ≡ n = omega arith in
        rw (latest_last (λ k l m. is.2 k (omega (arith, same)) m)) (test_is ∙ eq-eqb last n same)
  ]

  pub is_latest_none : IsLastWith table.latest.fingerprints (get_or table.latest.fingerprints n 0) (length table.latest.fingerprints) None → false ≡ not (is_overtaken (drop (n + 1) (located_table payloads table).records) (table_record_at (located_table payloads table).records n))
  is_latest_none is = absurd (is n (omega (arith, low, size)) refl)
