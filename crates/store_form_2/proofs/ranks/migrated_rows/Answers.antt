use Rattle.std.proofs.Common.{ap, ◌∙◌}
use Rattle.std.specs.Prelude.{List, map}
use Rattle.store_form_2.specs.declared.ranks.RankedRow.{RankedRow}
use Rattle.store_form_2.proofs.MigratedRows.{AreRanked, are_migrated, each_there, each_within}
use Rattle.store_form_2.proofs.ranks.migrated_rows.Goals as goal

known : (c : goal.After-drop-rows-inside-2) → AreRanked c.args.table.now.nodes c.args.nodes.now c.in_ok-rows.rows c.in_ok-ordered.ordered
known c = record {
  found = c.in_ok-ranked.ranked.items;
  sorted = c.sort_rows.new.rows.items;
  ranks = c.in_ok-ranked.ensures.ranks;
  rows_of = c.in_ok-ranked.ensures.rows ∙ c.as_slice.ensures;
  moved = c.sort_rows.ensures.permutation;
  rises = c.sort_rows.ensures.sorted;
  ordered_of = c.in_ok-ordered.ensures ∙ ap (λ (rows : List RankedRow). map (λ row. row.row) rows) c.as_slice-2.ensures.value;
}

pub returns-clause-is : goal.returns-clause-is
returns-clause-is c texts records of are =
    are_migrated texts c.args.table.now.nodes c.args.nodes.now records of c.in_ok-rows.rows c.in_ok-ordered.ordered (known c) (c.in_ok-rows.ensures.there texts records of) (c.in_ok-rows.ensures.is texts records of are)

pub returns-clause-each : goal.returns-clause-each
returns-clause-each c = each_within c.args.table.now.nodes c.args.nodes.now c.in_ok-rows.rows c.in_ok-ordered.ordered (known c) c.in_ok-rows.ensures.each

pub returns-clause-there : goal.returns-clause-there
returns-clause-there c texts records of =
    each_there texts c.args.table.now.nodes c.args.nodes.now records of c.in_ok-rows.rows c.in_ok-ordered.ordered (known c) (c.in_ok-rows.ensures.there texts records of)
