-- Records of nodes by what their requests are ranked by.
use Rattle.std.specs.Prelude.{◌≡◌, ℕ, ◌<◌, List, length, slice_index}
use Rattle.std.specs.Cmp.Lexicographic.{slice_cmp}
use Rattle.std.specs.Ordering.{nat_cmp, on, then_cmp}
use Rattle.std.specs.declared.cmp.Ordering.{Ordering}
use Rattle.base.specs.declared.file.FileName.{FileName}
use Rattle.store_form_2.specs.Nodes.{Node}
use Rattle.store_form_2.specs.ByNumber.{named_by, numbered_node}
use Rattle.store_form_2.specs.declared.ranks.RankedRow.{RankedRow}

-- names are ordered by library and path, as bytes
abbrev pub name_cmp : FileName → FileName → Ordering
name_cmp = then_cmp (on (λ name. name.library) (slice_cmp nat_cmp)) (on (λ name. name.path) (slice_cmp nat_cmp))

-- rows over fewer files come first; of as many, those are ordered by name
abbrev pub row_cmp : RankedRow → RankedRow → Ordering
row_cmp = then_cmp (on (λ row. row.count) nat_cmp) (on (λ row. row.name.now) name_cmp)

-- A row has the number of a record, how many files its node depends on, and the name of its node.
pub record IsRankOf (nodes : List Node) (numbers : List ℕ) (row : RankedRow) : Type 0 where
  pub within : row.row < length numbers
  pub count : row.count ≡ length (numbered_node nodes (slice_index numbers row.row)).deps
  pub name : row.name.now ≡ named_by nodes (slice_index numbers row.row)
