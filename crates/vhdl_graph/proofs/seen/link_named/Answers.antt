-- A reference counts where its library is seen and looked into.
use Rattle.std.proofs.Common.{◌∙◌, sym, subst}
use Rattle.base.specs.declared.refs.Ref.{Ref}
use Rattle.vhdl_spec.specs.Dependencies.{missing_of, names_unit}
use Rattle.vhdl_outline.specs.UnresolvedRefs.{named_ref}
use Rattle.vhdl_graph.specs.Indexes.{GivesOrFaults}
use Rattle.vhdl_graph.specs.Rows.{HasAdded, stands_at}
use Rattle.vhdl_graph.proofs.InsideLemmas.{linked_outside}
use Rattle.vhdl_graph.proofs.seen.link_named.Goals as goal

pub returns-then-not-branch-clause-links : goal.returns-then-not-branch-clause-links
returns-then-not-branch-clause-links c units unit known stands =
    linked_outside c.args.project.now units unit (named_ref c.args.text.now c.args.named.now) c.args.tables.now c.args.id c.args.file.now known stands c.args.row.now (sym c.in_ok-look_at.ensures.inside ∙ c.if-not-branch.true)

pub returns-clause-links : goal.returns-clause-links
returns-clause-links c units unit known stands =
    subst (λ (ref : Ref). GivesOrFaults (missing_of c.args.project.now units unit ref) (λ value. HasAdded (stands_at (names_unit c.args.project.now units unit ref) units) c.args.row.now c.link_ref-linked.new.row) c.link_ref-linked.result) c.in_ok-reference.ensures (c.link_ref-linked.ensures units unit known stands)
