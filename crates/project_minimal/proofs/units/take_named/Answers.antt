-- The files of the name's list.
use Rattle.std.proofs.Common.{◌∙◌, List, ℕ, ap, sym}
use Rattle.project_minimal.specs.Suppliers.{files_of, has_file}
use Rattle.vhdl_units.specs.UnitKeys.{same_parts, unit_key}
use Rattle.project_minimal.proofs.Supplied.{supplies_is}
use Rattle.project_minimal.proofs.TakingLemmas.{takes_same}
use Rattle.project_minimal.proofs.units.take_named.Goals as goal

pub returns-clause-takes : goal.returns-clause-takes
returns-clause-takes c =
    takes_same _ _ c.args.taken.now c.take_all.new.taken c.in_ok-take_all.ensures.takes
    (λ at. supplies_is c.args.suppliers.now (unit_key c.args.library.now c.args.name.now) at
    ∙ ap (λ (files : List ℕ). has_file files at) (sym (c.files_of.ensures.is ∙ ap (files_of c.args.suppliers.now) (c.in_ok-key.ensures ∙ same_parts _ _ _ _ c.bytes.ensures c.bytes-2.ensures))))
