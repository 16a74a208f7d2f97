-- None so far.
use Rattle.std.proofs.Common.{◌≡◌, None, codes}
use Rattle.vhdl_outline.specs.Calls.{first_index, is_word_at}
use Rattle.vhdl_outline.proofs.runner.names_runner.Given as goal

abbrev pub invariant-loop-at : goal.invariant-loop-at
invariant-loop-at l = first_index (is_word_at (codes "runner_cfg") l.text l.tokens.list) l.start l.at ≡ None
