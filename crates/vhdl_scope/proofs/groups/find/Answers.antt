-- A group that is there is found.
use Rattle.vhdl_scope.specs.Groups.{is_same_group}
use Rattle.vhdl_scope.proofs.KeyLemmas.{found_key, missed_key}
use Rattle.vhdl_scope.proofs.NameLemmas.{same_group, told_group}
use Rattle.vhdl_scope.proofs.groups.find.Goals as goal

pub returns-clause-found : goal.returns-clause-found
returns-clause-found c = found_key is_same_group same_group told_group c.args.groups.now c.args.group.now c.number.result c.number.ensures.position

pub returns-clause-none : goal.returns-clause-none
returns-clause-none c = missed_key is_same_group same_group told_group c.args.groups.now c.args.group.now c.number.result c.number.ensures.position
