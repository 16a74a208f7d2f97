-- Drafts as rows of the table.
use Rattle.std.specs.Prelude.{◌≡◌, ℕ, ◌<◌, ◌++◌, true, false, List, length, All, Option, None, Some}
use Rattle.std.specs.List.{list_any}
use Rattle.base.specs.declared.file.FileName.{FileName}
use Rattle.store_form_2.specs.declared.kept_view.Record.{Record}
use Rattle.store_form_2.specs.Forms.{Draft}
use Rattle.store_form_2.specs.Nodes.{Node}
use Rattle.store_form_2.specs.NodeContents.{draft_node, is_draft, is_same_node}
use Rattle.base_bytes.specs.TextRefs.{is_text_ref}
use Rattle.store_form_2.specs.declared.rows.Row.{Row}
use Rattle.store_form_2.specs.Rows.{IsRowIn, NodesByNumber, node_in}

-- names were added, and none was changed
pub record HasMoreNames (old new : List FileName) : Type 0 where
  pub more : List FileName
  pub grown : new ≡ old ++ more

-- the node of a draft whose text has a number
abbrev pub node_with : Draft → ℕ → Node
node_with draft text = record { name = draft.name; command = draft.command; text = text; deps = draft.deps }

-- A row is a node, by names and commands that are there.
pub record IsDraftRow (table : NodesByNumber) (node : Node) (row : Row) : Type 0 where
  pub in_table : IsRowIn table.names table.commands row
  pub node_is : node_in table row ≡ node

-- A row is the node of a draft: its text is there or new, the node is new, and its dependencies are there.
pub record IsRowOfDraft (texts : List (List ℕ)) (table : NodesByNumber) (draft : Draft) (row : Row) : Type 0 where
  pub row_is : IsDraftRow table (draft_node texts draft) row
  pub source : is_text_ref texts draft.source ≡ true
  pub new : list_any (is_same_node (draft_node texts draft)) table.nodes ≡ false
  pub there : All (λ dep. dep < length table.nodes) draft.deps

-- the row of a draft, or none where the draft isn't a new node
abbrev pub IsNewRow : List (List ℕ) → NodesByNumber → Draft → Option Row → Type 0
IsNewRow texts table draft None = (records : List Record) → is_draft (record { texts = texts; nodes = table.nodes; records = records }) draft ≡ false
IsNewRow texts table draft (Some row) = IsRowOfDraft texts table draft row
