-- In a library that isn't seen or isn't looked into nothing is missing, and nothing is named.
use Rattle.std.proofs.Common.{◌∙◌, sym}
use Rattle.vhdl_graph.proofs.InsideLemmas.{linked_outside}
use Rattle.vhdl_graph.proofs.seen.link_own.Goals as goal

pub returns-then-not-branch-clause-links : goal.returns-then-not-branch-clause-links
returns-then-not-branch-clause-links c units unit known stands =
    linked_outside c.args.project.now units unit c.args.reference.now c.args.tables.now c.args.id c.args.file.now known stands c.args.row.now (sym c.in_ok-look_named.ensures.inside ∙ c.if-not-branch.true)
