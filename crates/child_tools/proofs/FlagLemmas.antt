-- Units are marked as found, line after line.
use Rattle.std.proofs.Common.{ℕ, Bool, ◌&&◌, ◌||◌, Option, List}
use Rattle.std.specs.List.{list_any}
use Rattle.std.specs.Option.{option_map}
use Rattle.std.specs.Str.{bytes_eq}
use Rattle.base_collections.specs.Maps.{Entries, get}
use Rattle.child_tools.specs.Exports.{is_export}
use Rattle.vhdl_units.specs.UnitKeys.{is_same_unit}
use Rattle.vhdl_units.specs.declared.units.UnitKey.{UnitKey}

abbrev pub Marking : Type 0
Marking = Entries UnitKey Bool

-- what is found once the lines that are left are gone over
abbrev pub in_time : List ℕ → List (List ℕ) → Marking → UnitKey → Option Bool
in_time library left flags unit = option_map (λ found. found || (bytes_eq library unit.library && list_any (is_export unit.name) left)) (get is_same_unit flags unit)
