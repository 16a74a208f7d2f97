-- The names that are kept.
use Rattle.testbench_select.proofs.Selected.{selected_names}
use Rattle.testbench_select.proofs.laws.laws_of_selections.Goals as goal

pub returns : goal.returns
returns c patterns benches = selected_names patterns benches
