-- So far the uses up to the index are noted.
use Rattle.std.proofs.Common.{◌≡◌, ◌++◌, take}
use Rattle.std.specs.List.{flat_map}
use Rattle.vhdl_units.specs.Names.{token_name}
use Rattle.vhdl_graph.specs.Linking.{noted}
use Rattle.vhdl_graph.proofs.warnings.note_uses.Given as goal

abbrev pub invariant-loop-token : goal.invariant-loop-token
invariant-loop-token l = l.warnings ≡ l.initial.warnings ++ flat_map (λ token. noted l.tables l.id l.file.library (token_name l.text token)) (take l.token-index l.uses)
