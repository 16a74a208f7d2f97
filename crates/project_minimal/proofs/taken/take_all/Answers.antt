-- One file more.
use Rattle.std.proofs.Common.{◌+◌, ◌==◌, [], refl, take}
use Rattle.std.proofs.lemmas.List.Folds.{list_any_more}
use Rattle.project_minimal.specs.Suppliers.{has_file}
use Rattle.project_minimal.proofs.TakingLemmas.{grows_none, grows_on, takes_none, takes_on}
use Rattle.project_minimal.proofs.taken.take_all.Goals as goal

pub loop-file-init : goal.loop-file-init
loop-file-init c = record { grows = grows_none c.args.count c.args.taken.now c.requires.before; takes = takes_none (has_file []) c.args.taken.now (λ at. refl) }

pub take-requires-clause-before : goal.take-requires-clause-before
take-requires-clause-before c = c.loop-file.invariant.grows.are

pub loop-file-preserved : goal.loop-file-preserved
loop-file-preserved c = record {
  grows = grows_on c.args.count c.args.taken.now c.loop-file.taken c.take.new.taken c.loop-file.invariant.grows c.in_ok-take.ensures.grows;
  takes = takes_on (has_file (take c.loop-file.file-index c.args.files.now)) _ (has_file (take (c.loop-file.file-index + 1) c.args.files.now)) c.args.taken.now c.loop-file.taken c.take.new.taken c.loop-file.invariant.takes c.in_ok-take.ensures.takes
      (λ at. list_any_more (λ file. file == at) c.args.files.now c.loop-file.file-index 0 c.loop-file-test.true);
}
