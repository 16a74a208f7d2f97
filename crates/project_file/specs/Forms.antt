-- The forms that texts of a project file have, and lists of tables.
use Rattle.std.specs.Prelude.{ℕ, List, map, Option, Some, Vec}
use Rattle.std.specs.Borrow.{Bor}
use Rattle.std.specs.BTreeMap.{BTreeMap}
use Rattle.std.specs.Prelude.{String}
use Rattle.std.specs.declared.alloc.Global.{Global}
use Rattle.toml.specs.Data.{Members}
use Rattle.toml.specs.View.{table_view}
use Rattle.toml.specs.declared.value.Value.{Value}
use Rattle.project_file.specs.declared.values.Form.{Form}
use Rattle.project_file.specs.declared.values.Form.TheVariants.{Word, Library, Path, Pattern}
use Rattle.project_file.specs.Toml.{word_in, library_in, path_in}

-- what is read of a text that has to be of a form
abbrev pub form_of : Form → List ℕ → Option (List ℕ)
form_of Word text = word_in text
form_of Library text = library_in text
form_of Path text = path_in text
form_of Pattern text = Some text

-- the members of tables
abbrev pub tables_view : Vec (Bor (BTreeMap (String Global) Value)) Global → List Members
tables_view tables = map (λ table. table_view table.now) tables.items
