-- The examples of "Texts and products stored once".
use Rattle.std.specs.Prelude.{◌≡◌, ℕ, ◌-◌, ◌++◌, ◌∷◌, true, false, List, [], codes}
use Rattle.base.specs.declared.file.FileName.{FileName}
use Rattle.base.specs.declared.graph.BuiltFile.{BuiltFile}
use Rattle.base.specs.declared.graph.Entry.{Entry}
use Rattle.outside.specs.Records.{Record, latest_alone}
use Rattle.store_codec.specs.Compaction.{compacted_from, compacted_requests, none_compacted}
use Rattle.base_bytes.specs.TextRefs.{ByNumber, InFull, TextRef}
use Rattle.store_codec.specs.Forms.{RequestDraft}
use Rattle.store_codec.specs.RecordTables.{bare_table, is_request, record_table_of, requests_among}
use Rattle.store.specs.Plans.{blocks_length}
use Rattle.tests_examples.specs.Example.{a_file, a_name, b_name, built, command, file, recorded}

-- library, path and the one command word of a file
abbrev pub head : ℕ → List ℕ
head letter = 3 ∷ 0 ∷ 0 ∷ 0 ∷ 108 ∷ 105 ∷ 98 ∷ 5 ∷ 0 ∷ 0 ∷ 0 ∷ letter ∷ 46 ∷ 118 ∷ 104 ∷ 100 ∷ 1 ∷ 0 ∷ 0 ∷ 0 ∷ 2 ∷ 0 ∷ 0 ∷ 0 ∷ 99 ∷ 99 ∷ []

-- a payload of form 3 in FORMATS.md: a.vhd with the text x, which depends on no file, and the artefact y
abbrev pub first : List ℕ
first = 1 ∷ head 97 ++ (1 ∷ 1 ∷ 0 ∷ 0 ∷ 0 ∷ 120 ∷ 0 ∷ 0 ∷ 0 ∷ 0 ∷ 1 ∷ 1 ∷ 0 ∷ 0 ∷ 0 ∷ 121 ∷ [])

-- a payload of form 3 in FORMATS.md: b.vhd with text 0, over product 0, and the new artefact z
abbrev pub second : List ℕ
second = 1 ∷ head 98 ++ (0 ∷ 0 ∷ 0 ∷ 0 ∷ 0 ∷ 0 ∷ 0 ∷ 0 ∷ 0 ∷ 1 ∷ 0 ∷ 0 ∷ 0 ∷ 0 ∷ 0 ∷ 0 ∷ 0 ∷ 0 ∷ 0 ∷ 0 ∷ 0 ∷ 1 ∷ 1 ∷ 0 ∷ 0 ∷ 0 ∷ 122 ∷ [])

-- the product of a.vhd and y alone
abbrev product : List ℕ
product = 0 ∷ 3 ∷ 0 ∷ 0 ∷ 0 ∷ 108 ∷ 105 ∷ 98 ∷ 5 ∷ 0 ∷ 0 ∷ 0 ∷ 97 ∷ 46 ∷ 118 ∷ 104 ∷ 100 ∷ 1 ∷ 1 ∷ 0 ∷ 0 ∷ 0 ∷ 121 ∷ []

-- b.vhd over product 0, with the new texts x and z
abbrev over_product : List ℕ
over_product = 1 ∷ head 98 ++ (1 ∷ 1 ∷ 0 ∷ 0 ∷ 0 ∷ 120 ∷ 1 ∷ 0 ∷ 0 ∷ 0 ∷ 0 ∷ 0 ∷ 0 ∷ 0 ∷ 0 ∷ 0 ∷ 0 ∷ 0 ∷ 1 ∷ 1 ∷ 0 ∷ 0 ∷ 0 ∷ 122 ∷ [])

-- a.vhd with the new texts w and v
abbrev newer : List ℕ
newer = 1 ∷ head 97 ++ (1 ∷ 1 ∷ 0 ∷ 0 ∷ 0 ∷ 119 ∷ 0 ∷ 0 ∷ 0 ∷ 0 ∷ 1 ∷ 1 ∷ 0 ∷ 0 ∷ 0 ∷ 118 ∷ [])

-- a.vhd with the artefact y
abbrev y_built : BuiltFile
y_built = built a_name (codes "y")

-- b with the text x too
abbrev pub same_text : Entry
same_text = file b_name (codes "x") (0 ∷ [])

-- the record of a.vhd with the text x and the artefact y, and that of b.vhd over it with the artefact z
abbrev pub two_records : List Record
two_records = recorded a_file [] (codes "y") ∷ recorded same_text (y_built ∷ []) (codes "z") ∷ []

-- the record of a.vhd with the text w and the artefact v
abbrev newer_record : Record
newer_record = recorded (file a_name (codes "w") []) [] (codes "v")

-- a record to spell: a file that `cc` compiles, its text, the numbers of the products below it, and its artefact
abbrev draft : FileName → TextRef → List ℕ → TextRef → RequestDraft
draft it source deps artefact = record { name = it; command = command; source = source; deps = deps; artefact = artefact }

-- a record of a.vhd to spell, with the text x and the artefact y, both new
abbrev first_draft : RequestDraft
first_draft = draft a_name (InFull (codes "x")) [] (InFull (codes "y"))

-- the texts, products and records of payloads
pub record ShelvedRequests : Type 0 where
  pub texts : (record_table_of (first ∷ second ∷ [])).texts ≡ codes "x" ∷ codes "y" ∷ codes "z" ∷ []
  pub products : (record_table_of (first ∷ second ∷ [])).products ≡ y_built ∷ built b_name (codes "z") ∷ []
  pub both : requests_among (first ∷ second ∷ []) ≡ two_records
  -- a payload whose texts are there already, and one over a product that isn't there, stand for nothing
  pub repeated : requests_among (first ∷ first ∷ []) ≡ recorded a_file [] (codes "y") ∷ []
  pub first_missing : requests_among (second ∷ []) ≡ []
  -- a product alone gives no record, but a record may be over it
  pub product_alone : requests_among (product ∷ []) ≡ []
  pub over_alone : requests_among (product ∷ over_product ∷ []) ≡ recorded same_text (y_built ∷ []) (codes "z") ∷ []
  pub adds_itself : is_request bare_table first_draft ≡ true
  pub there_already : is_request (record_table_of (first ∷ [])) first_draft ≡ false
  -- nor is a file below itself
  pub below_itself : is_request (record_table_of (first ∷ [])) (draft a_name (ByNumber 0) (0 ∷ []) (ByNumber 1)) ≡ false

-- what compaction keeps: the product that b.vhd is over alone, b.vhd, and the newer a.vhd
pub record CompactedRequests : Type 0 where
  pub all : compacted_requests two_records ≡ first ∷ second ∷ []
  pub payloads : compacted_requests (two_records ++ newer_record ∷ []) ≡ product ∷ over_product ∷ newer ∷ []
  pub kept : requests_among (product ∷ over_product ∷ newer ∷ []) ≡ latest_alone (two_records ++ newer_record ∷ [])
  -- how many bytes they take, each after its commit byte
  pub count : blocks_length (compacted_from none_compacted (latest_alone (two_records ++ newer_record ∷ []))).payloads ≡ 132
