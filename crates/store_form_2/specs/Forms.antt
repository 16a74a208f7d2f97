-- Payloads of nodes as bytes: what bytes spell, and how a payload is spelled.
use Rattle.std.specs.Prelude.{ℕ, List, [], ◌∷◌, ◌==◌, length, Option, Some, None, if◌then◌else◌}
use Rattle.std.specs.Int.{w64}
use Rattle.base.specs.declared.file.FileName.{FileName}
use Rattle.base_bytes.specs.Reading.{◌>>=◌, number_at, text_at, counted_at}
use Rattle.base_bytes.specs.Names.{name_at}
use Rattle.base_bytes.specs.Ranges.{byte_at, read_whole}
use Rattle.base_bytes.specs.TextRefs.{TextRef, text_ref_at}

-- a new node in a payload: its name, its command, its text, by number or in full, and the numbers of its dependencies
pub record Draft : Type 0 where
  pub name : FileName
  pub command : List (List ℕ)
  pub source : TextRef
  pub deps : List ℕ

-- a payload: one more record of a node, a new node with its record, or a new node alone
pub data NodePayload : Type 0 where
  OfNode : (number : ℕ) (artefact : List ℕ) → NodePayload
  OfDraft : (draft : Draft) (artefact : List ℕ) → NodePayload
  DraftAlone : (draft : Draft) → NodePayload

-- a new node: its name, the words of its command, its text and the numbers of the nodes that it depends on; and the bytes after it
unfoldable pub draft_at : List ℕ → Option (Draft × List ℕ)
draft_at bytes = do
  name ← name_at bytes
  command ← counted_at text_at name.1
  source ← text_ref_at command.1
  deps ← counted_at (number_at w64) source.1
  Some (record { name = name.0; command = command.0; source = source.0; deps = deps.0 }, deps.1)

-- what bytes after the tag 0 spell: the number of a node and an artefact, and no byte after them
unfoldable pub of_node_in : List ℕ → Option NodePayload
of_node_in bytes = do
  number ← number_at w64 bytes
  artefact ← text_at number.1
  read_whole (OfNode number.0 artefact.0, artefact.1)

-- what bytes after the tag 1 spell: a new node and an artefact, and no byte after them
unfoldable pub of_draft_in : List ℕ → Option NodePayload
of_draft_in bytes = do
  draft ← draft_at bytes
  artefact ← text_at draft.1
  read_whole (OfDraft draft.0 artefact.0, artefact.1)

-- what bytes after the tag 2 spell: a new node, and no byte after it
unfoldable pub draft_alone_in : List ℕ → Option NodePayload
draft_alone_in bytes = do
  draft ← draft_at bytes
  read_whole (DraftAlone draft.0, draft.1)

-- the payload that bytes after a tag spell: one more record of a node after 0, a new node with its record after 1, and a new
-- node alone after 2
unfoldable pub node_payload_by : ℕ → List ℕ → Option NodePayload
node_payload_by tag bytes = if tag == 0 then of_node_in bytes else (if tag == 1 then of_draft_in bytes else (if tag == 2 then draft_alone_in bytes else None))

-- the payload that all of these bytes spell, if they spell one
unfoldable pub node_payload_in : List ℕ → Option NodePayload
node_payload_in bytes = do
  tag ← byte_at bytes
  node_payload_by tag.0 tag.1
