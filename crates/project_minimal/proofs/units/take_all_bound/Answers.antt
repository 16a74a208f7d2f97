-- One component more.
use Rattle.std.proofs.Common.{◌+◌, refl, take}
use Rattle.std.proofs.lemmas.List.Folds.{list_any_more}
use Rattle.vhdl_units.specs.Names.{token_name}
use Rattle.project_minimal.specs.Needing.{binds, binds_one, count_of}
use Rattle.project_minimal.proofs.TakingLemmas.{grows_none, grows_on, takes_none, takes_on}
use Rattle.project_minimal.proofs.units.take_all_bound.Goals as goal

pub loop-component-init : goal.loop-component-init
loop-component-init c = record {
  grows = grows_none (count_of c.args.tables) c.args.taken.now c.requires.before;
  takes = takes_none _ c.args.taken.now (λ at. refl);
}

pub take_bound-requires-clause-before : goal.take_bound-requires-clause-before
take_bound-requires-clause-before c = c.loop-component.invariant.grows.are

pub loop-component-preserved : goal.loop-component-preserved
loop-component-preserved c = record {
  grows = grows_on (count_of c.args.tables) c.args.taken.now c.loop-component.taken c.take_bound.new.taken c.loop-component.invariant.grows c.in_ok-room.ensures.grows;
  takes = takes_on _ _ (binds_one c.args.tables c.args.id c.args.text.now (take (c.loop-component.component-index + 1) c.args.components.now)) c.args.taken.now c.loop-component.taken c.take_bound.new.taken c.loop-component.invariant.takes c.in_ok-room.ensures.takes
      (λ at. list_any_more (λ token. binds c.args.tables c.args.id (token_name c.args.text.now token) at) c.args.components.now c.loop-component.component-index _ c.loop-component-test.true);
}
