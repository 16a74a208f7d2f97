-- More names are put into a row of the first ones.
use Rattle.std.proofs.Common.{◌∙◌, ◌++◌, ℕ, List, length, ap, subst, sym}
use Rattle.vhdl_scope.specs.Names.{implicit, keys_of}
use Rattle.vhdl_scope.specs.Graph.{HasPut, IsRowOf}
use Rattle.vhdl_scope.proofs.OwnLemmas.{row_more}
use Rattle.vhdl_scope.proofs.own.row_of.Goals as goal

pub load-requires : goal.load-requires
load-requires c = c.requires.first.even

pub returns-clause-row : goal.returns-clause-row
returns-clause-row c =
    subst (λ (row : List ℕ). IsRowOf (keys_of c.args.names.now) (length c.args.room.now) row (implicit ++ c.args.more.now)) (sym c.in_ok-to_row.ensures)
    (row_more (keys_of c.args.names.now) implicit c.args.more.now (length c.args.room.now) c.args.first.now c.put_all.new.row c.requires.first (subst (λ (row : List ℕ). HasPut (keys_of c.args.names.now) c.args.more.now row c.put_all.new.row) c.load.ensures c.put_all.ensures))
