-- The unit has a row, or none.
use Rattle.std.proofs.Common.{◌≡◌, ◌∙◌, length, ap, arith, sym}
use Rattle.std.specs.List.{list_any}
use Rattle.std.specs.Str.{bytes_eq}
use Rattle.vhdl_scope.specs.Names.{keys_of}
use Rattle.vhdl_scope.specs.Tables.{Table, table_of}
use Rattle.vhdl_scope.proofs.TableLemmas.{moved, table_past, table_there}
use Rattle.vhdl_scope.proofs.table.VisibleLibraries.sees_library.Goals as goal

pub row_at-requires : goal.row_at-requires
unfolding table_of
row_at-requires c =
    let same : length c.self.inside.starts.items ≡ length c.args.self.now.starts = ap (λ (t : Table). length t.starts) c.self.view_is in
    omega (arith, ap length c.as_slice.ensures.value, c.requires)

pub returns-in-Some : goal.returns-in-Some
returns-in-Some c =
    let row = moved _ _ _ _ c.args.unit.file c.args.unit.unit _ c.as_slice.ensures.value c.as_slice-2.ensures.value c.in-Some.ensures in
    c.sees_name.ensures ∙ ap (list_any (bytes_eq c.args.name.now)) (sym (table_there c.self.inside.starts.items (keys_of c.self.inside.names) c.self.inside.rows.items c.args.self.now c.args.unit c.in-Some.row.now c.self.view_is row))

pub returns-in-None : goal.returns-in-None
returns-in-None c =
    let row = moved _ _ _ _ c.args.unit.file c.args.unit.unit _ c.as_slice.ensures.value c.as_slice-2.ensures.value c.in-None.ensures in
    ap (list_any (bytes_eq c.args.name.now)) (sym (table_past c.self.inside.starts.items (keys_of c.self.inside.names) c.self.inside.rows.items c.args.self.now c.args.unit c.self.view_is row))
