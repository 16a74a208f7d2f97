-- The files of the list of the component's name.
use Rattle.std.proofs.Common.{◌∙◌, ◌&&◌, Bool, List, ℕ, [], ap, sym}
use Rattle.vhdl_units.specs.Names.{token_name}
use Rattle.project_minimal.specs.Needing.{looks}
use Rattle.project_minimal.specs.Suppliers.{files_of, has_file}
use Rattle.vhdl_units.specs.UnitKeys.{unit_key}
use Rattle.project_minimal.proofs.Supplied.{supplies_is}
use Rattle.project_minimal.proofs.TakingLemmas.{takes_same}
use Rattle.project_minimal.proofs.units.take_bound.Goals as goal

pub returns-clause-takes : goal.returns-clause-takes
returns-clause-takes c =
    let entities = c.args.tables.index.now.entities in
    takes_same _ _ c.args.taken.now c.take_all_seen.new.taken c.in_ok-take_all_seen.ensures.takes
    (λ at. ap (λ (b : Bool). looks c.args.tables c.args.id at && b)
    (supplies_is entities (unit_key [] (token_name c.args.text.now c.args.component)) at
    ∙ ap (λ (files : List ℕ). has_file files at) (sym (c.files_of.ensures.is ∙ ap (files_of entities) (ap (λ (library : List ℕ). unit_key library c.in_ok-name_of_token.field-0) c.new.ensures ∙ ap (unit_key []) c.in_ok-name_of_token.ensures)))))
