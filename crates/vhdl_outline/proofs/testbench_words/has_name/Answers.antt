-- Two tests of one name.
use Rattle.vhdl_spec.specs.Units.{name_of}
use Rattle.vhdl_outline.proofs.Calling.{same_test}
use Rattle.vhdl_outline.proofs.testbench_words.has_name.Goals as goal

pub returns : goal.returns
returns c = same_test c.is_named.result (name_of c.args.text.now c.args.tokens.now.list c.args.at) c.args.name.now c.is_named.ensures
