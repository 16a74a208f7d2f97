-- What each record and each product has that payloads stand for, whatever the payloads.
use Rattle.std.specs.Prelude.{◌≢◌, ◌<◌, ◌≤◌, length, All, AllPairs}
use Rattle.base.specs.Names.{FitsCommand, FitsName}
use Rattle.base.specs.declared.graph.BuiltFile.{BuiltFile}
use Rattle.base.specs.declared.limits.TheConstants.{ARTEFACT_LIMIT, FILE_LIMIT, TEXT_LIMIT}
use Rattle.outside.specs.Records.{Record as RequestRecord}
use Rattle.store_codec.specs.RecordTables.{RecordTable}

-- A product: its name fits, and its artefact is small.
pub record IsKeptProduct (product : BuiltFile) : Type 0 where
  pub name : FitsName product.name
  pub small : length product.artefact ≤ ARTEFACT_LIMIT

-- A record: its name, command, text and artefact fit, and it stands over few products, of other files with different names.
pub record IsKeptRequest (kept : RequestRecord) : Type 0 where
  pub name : FitsName kept.asked.name
  pub command : FitsCommand kept.asked.command
  pub text : length kept.asked.text ≤ TEXT_LIMIT
  pub small : length kept.artefact ≤ ARTEFACT_LIMIT
  pub few : length kept.asked.below < FILE_LIMIT
  pub below : All IsKeptProduct kept.asked.below
  pub apart : AllPairs (λ a b. a.name ≢ b.name) kept.asked.below
  pub others : All (λ other. other.name ≢ kept.asked.name) kept.asked.below

-- Each product and each record of a table is within the limits that payloads have.
pub record IsKeptTable (table : RecordTable) : Type 0 where
  pub products : All IsKeptProduct table.products
  pub records : All IsKeptRequest table.records
