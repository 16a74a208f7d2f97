-- One file of the list more.
use Rattle.std.proofs.Common.{List, length, ◌∙◌, ap, arith}
use Rattle.std.proofs.lemmas.List.{get_or_default}
use Rattle.base.specs.declared.project.ProjectFile.{ProjectFile}
use Rattle.project_minimal.specs.Needing.{count_of}
use Rattle.project_minimal.proofs.TakingLemmas.{grows_none, grows_on}
use Rattle.project_minimal.proofs.Walk.{begins, ends, goes_on, list_few}
use Rattle.project_minimal.proofs.needed.take_on.Goals as goal

pub loop-next-init : goal.loop-next-init
loop-next-init c = record {
  grows = grows_none (count_of c.args.tables) c.args.taken.now c.requires.before;
  walk = λ said known edges. begins (count_of c.args.tables) said c.args.taken.now;
}

pub loop-next-preserved : goal.loop-next-preserved
loop-next-preserved c = record {
  grows = grows_on (count_of c.args.tables) c.args.taken.now c.loop-next.taken c.take_needs.new.taken c.loop-next.invariant.grows c.in_ok-take_needs.ensures.grows;
  walk = λ said known edges.
      goes_on (count_of c.args.tables) said c.args.taken.now c.loop-next.taken c.take_needs.new.taken c.loop-next.next _ (ap (λ (files : List ProjectFile). length files) known.needs.files) c.loop-next.invariant.grows.are c.in_ok-take_needs.ensures.grows (omega (arith, c.len.ensures, c.loop-next-test.true)) (c.index-file.ensures ∙ get_or_default c.loop-next.taken.list.items c.loop-next.next c.index-file.result.now 0 (omega (arith, c.len.ensures, c.loop-next-test.true)))
      (c.in_ok-take_needs.ensures.takes said known edges) (c.loop-next.invariant.walk said known edges);
}

pub returns-clause-grown : goal.returns-clause-grown
returns-clause-grown c = λ said known edges. ends (count_of c.args.tables) said c.args.taken.now c.loop-next.taken c.loop-next.next c.requires.before c.loop-next.invariant.grows (omega (arith, c.len.ensures, c.loop-next-test.false)) (c.loop-next.invariant.walk said known edges)

pub loop-next-smaller : goal.loop-next-smaller
loop-next-smaller c = let few = list_few (count_of c.args.tables) c.loop-next.taken c.loop-next.invariant.grows.are in omega (arith, few, c.len.ensures, c.loop-next-test.true)
