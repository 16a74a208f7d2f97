-- Those of all kinds are there.
use Rattle.std.proofs.Common.{List}
use Rattle.vhdl_scope.specs.declared.want.Group.{Group}
use Rattle.vhdl_scope.specs.Owned.{HasGrown}
use Rattle.vhdl_scope.proofs.KeyLemmas.{all_both}
use Rattle.vhdl_scope.proofs.OwnedLemmas.{grown_both, stays_numbered}
use Rattle.vhdl_scope.proofs.groups.add_own.Goals as goal

pub returns : goal.returns
returns c =
    let first : List Group = c.add_primary.new.groups in
    let second : List Group = c.add_context.new.groups in
    let third : List Group = c.add_kept.new.groups in
    let later : HasGrown first third = grown_both first second third c.in_ok-context.ensures.grown c.in_ok-architecture.ensures.grown in
    record {
      owned = record {
        primary = stays_numbered first third _ c.in_ok-primary.primary later c.in_ok-primary.ensures.number;
        context = stays_numbered second third _ c.in_ok-context.context c.in_ok-architecture.ensures.grown c.in_ok-context.ensures.number;
        architecture = c.in_ok-architecture.ensures.number;
      };
      all = all_both _ _ _ _ _ c.in_ok-primary.ensures.all (all_both _ _ _ _ _ c.in_ok-context.ensures.all c.in_ok-architecture.ensures.all);
      grown = grown_both _ _ _ c.in_ok-primary.ensures.grown later;
    }
