-- What linking answers.
use Rattle.std.specs.Prelude.{◌≡◌, Result, Ok, Err}
use Rattle.base.specs.declared.linking.Linked.{Linked}
use Rattle.base.specs.declared.linking.LinkFault.{LinkFault}
use Rattle.base.specs.declared.linking.LinkFault.TheVariants.{NoMemory}

-- a call answered what the definition says, or out of memory
abbrev pub GivesLinks : Result Linked LinkFault → Result Linked LinkFault → Type 0
GivesLinks said (Ok linked) = said ≡ Ok linked
GivesLinks said (Err NoMemory) = Unit {0}
GivesLinks said (Err fault) = said ≡ Err fault
