-- What remains to be proved of `runner_cfg`.
use Rattle.std.proofs.Common.{ap, ◌∙◌}
use Rattle.testbench_runs.specs.Configuration.{enabled_cases, folder_of}
use Rattle.child_test_request.proofs.Pairs.{all_pairs}
use Rattle.child_test_request.proofs.configuring.runner_cfg.Goals as goal

pub returns : goal.returns
returns c =
    all_pairs c.args.run.now c.new-out.ensures.items c.in_ok-put_pair.ensures c.in_ok-put_next_pair.ensures c.in_ok-put_next_pair-2.ensures c.in_ok-put_next_pair-3.ensures c.in_ok-put_next_pair-4.ensures c.from_vec.ensures
    (c.as_slice-2.ensures.value ∙ c.in_ok-cases.ensures ∙ ap enabled_cases c.as_slice.ensures) (c.as_slice-3.ensures.value ∙ c.in_ok-folder.ensures) (c.folder_of.ensures ∙ ap folder_of c.bytes.ensures)
