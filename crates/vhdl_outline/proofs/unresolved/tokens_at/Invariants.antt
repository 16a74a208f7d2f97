-- The tokens at the indices up to the index.
use Rattle.std.proofs.Common.{◌≡◌, map, take}
use Rattle.std.specs.List.{All}
use Rattle.vhdl_spec.specs.Units.{name_of}
use Rattle.vhdl_lex.specs.LexicalElements.{LiesIn}
use Rattle.vhdl_units.specs.Names.{token_name}
use Rattle.vhdl_outline.proofs.unresolved.tokens_at.Given as goal

abbrev pub invariant-loop-at : goal.invariant-loop-at
invariant-loop-at l = record {
  are : map (token_name l.text) l.found.items ≡ map (name_of l.text l.tokens.list) (take l.at-index l.indices);
  lie : All (LiesIn l.text) l.found.items;
}
