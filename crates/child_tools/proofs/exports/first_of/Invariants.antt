-- Of the units that are left the same one is the first that is missing.
use Rattle.std.proofs.Common.{◌≡◌, List, drop}
use Rattle.base.specs.declared.graph.BuiltFile.{BuiltFile}
use Rattle.child_tools.specs.Exports.{first_missing}
use Rattle.child_tools.specs.Flags.{KnowsLibraries, KnowsUnits}
use Rattle.child_tools.proofs.exports.first_of.Given as goal

abbrev pub invariant-loop-unit : goal.invariant-loop-unit
invariant-loop-unit l = (files : List BuiltFile) → KnowsLibraries files l.libraries → KnowsUnits files l.units l.flags → first_missing files (drop l.unit-index l.units) ≡ first_missing files l.units
