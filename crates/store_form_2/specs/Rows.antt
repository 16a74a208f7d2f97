-- Rows of numbers, and the nodes that they are.
use Rattle.std.specs.Prelude.{◌≡◌, ◌≢◌, ℕ, ◌-◌, ◌<◌, AllPairs, Bool, true, ◌&&◌, ◌==◌, List, [], ◌++◌, length, map, All, nat_eq, slice_index, slice_index_or}
use Rattle.std.proofs.Common.{ap, ◌∙◌}
use Rattle.std.specs.Bool.{Decides}
use Rattle.std.specs.Cmp.Lexicographic.{pointwise}
use Rattle.std.specs.Hash as fed
use Rattle.std.proofs.lemmas.Bool.Decides.{Decides-and, Decides-eqb}
use Rattle.std.proofs.lemmas.Slice.Eq.{bytes_eq-Decides}
use Rattle.base.specs.declared.file.FileName.{FileName}
use Rattle.store_form_2.specs.Nodes.{Node}
use Rattle.store_form_2.specs.declared.commands.Command.{Command}
use Rattle.store_form_2.specs.declared.rows.Row.{Row}

-- the same numbers of the name, the command, the text and the dependencies
abbrev pub is_same_row : Row → Row → Bool
is_same_row a b = a.name == b.name && (a.command == b.command && (a.text == b.text && pointwise nat_eq a.deps b.deps))

-- the last number of a list, or 0 if the list is empty
abbrev pub last_of : List ℕ → ℕ
last_of numbers = slice_index numbers (length numbers - 1)

-- what is hashed of a row
abbrev pub row_sample : Row → List (List ℕ)
row_sample row = fed.usize row.name ++ (fed.usize row.text ++ fed.usize (last_of row.deps))

-- a row of these numbers: of the name, the command, the text, and the nodes that it depends on
abbrev pub row_by : ℕ → ℕ → ℕ → List ℕ → Row
row_by name command text deps = record { name = name; command = command; text = text; deps = deps }

-- the test of two rows is true exactly where they are equal
pub rows_decide : (a b : Row) → Decides (is_same_row a b) (a ≡ b)
rows_decide a b =
    let deps = bytes_eq-Decides a.deps b.deps in
    let text = Decides-and _ _ (Decides-eqb a.text b.text) deps in
    let command = Decides-and _ _ (Decides-eqb a.command b.command) text in
    let all = Decides-and _ _ (Decides-eqb a.name b.name) command in (
      λ e.
          let same = all.0 e in
          ap (λ (n : ℕ). row_by n a.command a.text a.deps) same.0
          ∙ ap (λ (n : ℕ). row_by b.name n a.text a.deps) same.1.0
          ∙ ap (λ (n : ℕ). row_by b.name b.command n a.deps) same.1.1.0
          ∙ ap (λ (ns : List ℕ). row_by b.name b.command b.text ns) same.1.1.1,
      λ e. all.1 (ap (λ (r : Row). r.name) e, (ap (λ (r : Row). r.command) e, (ap (λ (r : Row). r.text) e, ap (λ (r : Row). r.deps) e))),
    )

-- rows that the test finds the same give the hash the same input
pub row_alike : (a b : Row) → is_same_row a b ≡ true → row_sample a ≡ row_sample b
row_alike a b e = ap row_sample ((rows_decide a b).0 e)

-- The name and the command of a row are there.
pub record IsRowIn (names : List FileName) (commands : List (List (List ℕ))) (row : Row) : Type 0 where
  pub name : row.name < length names
  pub command : row.command < length commands

-- an empty name, for a number that no name has
abbrev pub no_name : FileName
no_name = record { library = []; path = [] }

-- the node that a row is
abbrev pub node_of : List FileName → List (List (List ℕ)) → Row → Node
node_of names commands row = record { name = slice_index_or names row.name no_name; command = slice_index_or commands row.command []; text = row.text; deps = row.deps }

-- Nodes with the names and commands that they may have, and for how many more there is room.
pub record NodesByNumber : Type 0 where
  pub names : List FileName
  pub commands : List (List (List ℕ))
  pub rows : List Row
  pub nodes : List Node
  pub room : ℕ

-- the node that a row is in a table
abbrev pub node_in : NodesByNumber → Row → Node
node_in table row = node_of table.names table.commands row

-- the words of each command
abbrev pub words_of : List Command → List (List (List ℕ))
words_of commands = map (λ command. command.words) commands

-- Names and commands are there once, and each row has one of each.
pub record AreRows (names : List FileName) (commands : List (List (List ℕ))) (rows : List Row) : Type 0 where
  pub names_once : AllPairs (λ a b. a ≢ b) names
  pub commands_once : AllPairs (λ a b. a ≢ b) commands
  pub rows_in : All (IsRowIn names commands) rows

-- The nodes of a table are its rows, by names and commands that are there once.
pub record IsTable (table : NodesByNumber) : Type 0 where
  pub nodes : table.nodes ≡ map (node_in table) table.rows
  pub rows : AreRows table.names table.commands table.rows
