-- What begins at a token of a file.
use Rattle.std.specs.Prelude.{◌≡◌, ◌++◌, ℕ, List, Result, Ok, Err}
use Rattle.base.specs.declared.lexical.Token.{Token}
use Rattle.base.specs.declared.design.Unit.{Unit as DesignUnit}
use Rattle.base.specs.declared.design.UnitFault.{UnitFault}
use Rattle.base.specs.declared.design.UnitFault.TheVariants.{NotUnit, NotEnded}
use Rattle.base.specs.declared.memory.OrMemory.{OrMemory}
use Rattle.base.specs.declared.memory.OrMemory.TheVariants.{NoMemory, Fault}
use Rattle.base.specs.declared.design.Role.{Role}
use Rattle.vhdl_spec.specs.Units.{Begins, Element, item, plain, owned, IsElement, roles_of, token_at, last_of, lead_after, unit_of}
use Rattle.vhdl_units.specs.declared.file.Next.{Next}
use Rattle.vhdl_units.specs.declared.stands.Standing.{Standing}
use Rattle.vhdl_units.specs.declared.stands.Standing.TheVariants.{Item, Plain, Owned, NoUnit, Unended}

-- an element, or why none begins there
abbrev pub IsStanding : List Role → ℕ → Standing → Type 0
IsStanding roles at (Item last) = IsElement roles at (item last)
IsStanding roles at (Plain kind last) = IsElement roles at (plain kind last)
IsStanding roles at (Owned kind before last) = IsElement roles at (owned kind before last)
IsStanding roles at NoUnit = Begins roles at → ⊥
IsStanding roles at Unended = Begins roles at × ((element : Element) → IsElement roles at element → ⊥)

-- an element begins at the token, its unit was added, and this is what comes next
pub record Adds (text : List ℕ) (tokens : List Token) (lead at : ℕ) (old new : List DesignUnit) (next : Next) : Type 0 where
  pub element : Element
  pub stands : IsElement (roles_of text tokens) at element
  pub last : next.last ≡ last_of element
  pub lead_next : next.lead ≡ lead_after lead element
  pub units : new ≡ old ++ unit_of text tokens lead at element

-- what adding gives: the next token, or the fault of this one, or out of memory
abbrev pub IsAdded : List ℕ → List Token → ℕ → ℕ → List DesignUnit → List DesignUnit → Result Next (OrMemory UnitFault) → Type 0
IsAdded text tokens lead at old new (Ok next) = Adds text tokens lead at old new next
IsAdded text tokens lead at old new (Err NoMemory) = Unit {0}
IsAdded text tokens lead at old new (Err (Fault (NotUnit offset))) = (Begins (roles_of text tokens) at → ⊥) × (offset ≡ (token_at tokens at).start)
IsAdded text tokens lead at old new (Err (Fault (NotEnded offset))) = Begins (roles_of text tokens) at × ((element : Element) → IsElement (roles_of text tokens) at element → ⊥) × (offset ≡ (token_at tokens at).start)

-- these units, or out of memory
abbrev pub GivesUnits : List DesignUnit → Result (List DesignUnit) (OrMemory UnitFault) → Type 0
GivesUnits units (Ok given) = given ≡ units
GivesUnits units (Err answer) = answer ≡ NoMemory

-- this fault of the unit grammar, or out of memory
abbrev pub GivesUnitFault : UnitFault → Result (List DesignUnit) (OrMemory UnitFault) → Type 0
GivesUnitFault fault (Ok units) = ⊥
GivesUnitFault fault (Err NoMemory) = Unit {0}
GivesUnitFault fault (Err (Fault given)) = given ≡ fault
