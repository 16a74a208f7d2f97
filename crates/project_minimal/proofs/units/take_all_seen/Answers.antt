-- One file more.
use Rattle.std.proofs.Common.{◌==◌, ◌&&◌, ◌+◌, ◌∙◌, Bool, take, ap}
use Rattle.std.proofs.lemmas.List.Folds.{list_any_more}
use Rattle.vhdl_spec.proofs.SomeTests.{and_false}
use Rattle.project_minimal.specs.Needing.{count_of, looks}
use Rattle.project_minimal.specs.Suppliers.{has_file}
use Rattle.project_minimal.proofs.TakingLemmas.{grows_none, grows_on, takes_none, takes_on}
use Rattle.project_minimal.proofs.Tests.{and_or}
use Rattle.project_minimal.proofs.units.take_all_seen.Goals as goal

pub loop-file-init : goal.loop-file-init
loop-file-init c = record {
  grows = grows_none (count_of c.args.tables) c.args.taken.now c.requires.before;
  takes = takes_none _ c.args.taken.now (λ at. and_false (looks c.args.tables c.args.id at));
}

pub take_seen-requires-clause-before : goal.take_seen-requires-clause-before
take_seen-requires-clause-before c = c.loop-file.invariant.grows.are

pub loop-file-preserved : goal.loop-file-preserved
loop-file-preserved c = record {
  grows = grows_on (count_of c.args.tables) c.args.taken.now c.loop-file.taken c.take_seen.new.taken c.loop-file.invariant.grows c.in_ok-take_seen.ensures.grows;
  takes = takes_on _ _ (λ at. looks c.args.tables c.args.id at && has_file (take (c.loop-file.file-index + 1) c.args.files.now) at) c.args.taken.now c.loop-file.taken c.take_seen.new.taken c.loop-file.invariant.takes c.in_ok-take_seen.ensures.takes
      (λ at. ap (λ (b : Bool). looks c.args.tables c.args.id at && b) (list_any_more (λ file. file == at) c.args.files.now c.loop-file.file-index 0 c.loop-file-test.true) ∙ and_or (looks c.args.tables c.args.id at) (has_file (take c.loop-file.file-index c.args.files.now) at) _);
}
