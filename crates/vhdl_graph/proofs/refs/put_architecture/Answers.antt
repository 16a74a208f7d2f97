-- By its key, where one is named.
use Rattle.std.proofs.Common.{◌∙◌, sym, ap, subst}
use Rattle.base.specs.declared.child.MaybeText.{MaybeText}
use Rattle.base.specs.declared.child.MaybeText.TheVariants.{Nothing, Given}
use Rattle.vhdl_spec.specs.Dependencies.{is_given_architecture}
use Rattle.vhdl_graph.specs.Keys.{DesignUnitKey}
use Rattle.vhdl_graph.specs.Rows.{HasAdded, is_named_at, stands_at}
use Rattle.vhdl_graph.proofs.RowLemmas.{added_none, added_same, stands_never}
use Rattle.vhdl_graph.proofs.MeaningLemmas.{architecture_at}
use Rattle.vhdl_graph.proofs.refs.put_architecture.Goals as goal

pub returns-in-Nothing : goal.returns-in-Nothing
returns-in-Nothing c files units is =
    subst (λ (m : MaybeText). HasAdded (stands_at (is_given_architecture c.args.library.now c.args.entity.now m) units) c.args.row.now c.args.row.now) (sym c.in-Nothing.is)
    (added_none (stands_at (is_given_architecture c.args.library.now c.args.entity.now Nothing) units) c.args.row.now (λ at. stands_never units at))

pub returns-in_ok-put_architecture_key-in-Given : goal.returns-in_ok-put_architecture_key-in-Given
returns-in_ok-put_architecture_key-in-Given c files units is =
    subst (λ (m : MaybeText). HasAdded (stands_at (is_given_architecture c.args.library.now c.args.entity.now m) units) c.args.row.now c.put_named.new.row) (sym c.in-Given.is)
    (added_same (is_named_at units c.put_architecture_key.new.key) (stands_at (is_given_architecture c.args.library.now c.args.entity.now (Given c.in-Given.name)) units) c.args.row.now c.put_named.new.row (c.put_named.ensures files units is)
    (λ at. ap (λ (k : DesignUnitKey). is_named_at units k at) c.in_ok-put_architecture_key-in-Given.ensures ∙ architecture_at c.args.library.now c.args.entity.now c.in-Given.name units at))
