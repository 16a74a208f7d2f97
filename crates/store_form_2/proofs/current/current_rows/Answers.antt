use Rattle.std.proofs.Common.{◌+◌, sym, subst, ◌∙◌}
use Rattle.store_form_2.proofs.CurrentRows.{AreCurrentTo, all_current, row_more, row_passed}
use Rattle.store_form_2.proofs.current.current_rows.Goals as goal
use Rattle.store_form_2.proofs.current.current_rows.Goals.{then-is_current+in_ok-push, else-is_current}

pub loop-row-preserved : goal.loop-row-preserved
loop-row-preserved c =
    elim c.if-is_current.branch [
      | then-is_current+in_ok-push w ↦
          subst (AreCurrentTo c.args.table.now.nodes c.args.nodes.now (c.loop-row.row + 1)) (sym (w.rows-is ∙ w.in_ok-push.ensures.ok))
          (row_more c.args.table.now c.args.names.now.fingerprints c.args.nodes.now c.requires c.loop-row.rows c.loop-row.row c.loop-row-test.true
          (λ records of. sym w.if-is_current.true ∙ c.is_current.ensures records of) c.loop-row.invariant)
      | else-is_current w ↦
          subst (AreCurrentTo c.args.table.now.nodes c.args.nodes.now (c.loop-row.row + 1)) (sym w.rows-is)
          (row_passed c.args.table.now c.args.names.now.fingerprints c.args.nodes.now c.requires c.loop-row.rows c.loop-row.row c.loop-row-test.true
          (λ records of. sym w.if-is_current.false ∙ c.is_current.ensures records of) c.loop-row.invariant)
    ]

pub returns-clause-is : goal.returns-clause-is
returns-clause-is c =
    all_current c.args.table.now c.args.names.now.fingerprints c.args.nodes.now c.requires c.loop-row.rows c.loop-row.row c.loop-row-test.false c.loop-row.invariant
