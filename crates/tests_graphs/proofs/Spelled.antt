-- The files of a graph have a spelling.
use Rattle.std.proofs.Common.{ℕ, ◌<◌, List, length, get_or, arith}
use Rattle.base.specs.declared.graph.Entry.{Entry}
use Rattle.base.specs.Graphs.{IsEntryAt, IsGraph}
use Rattle.project_views.proofs.Rising.{few}
use Rattle.tests_graphs.specs.Spelling.{HasSpelling}

pub has_spelling : (graph : List Entry) (i : ℕ) (other : Entry) → IsGraph graph → i < length graph → HasSpelling (get_or graph i other)
has_spelling graph i other valid lt =
    let at : IsEntryAt graph i (get_or graph i other) = valid.each i other lt in
    record {
      library = omega (arith, at.name.library.at_most);
      path = omega (arith, at.name.path.at_most);
      count = omega (arith, at.command.count.at_most);
      words = λ k d l. omega (arith, at.command.words k d l);
      text = omega (arith, at.text);
      few = omega (arith, few (get_or graph i other).deps at.rising i at.before, valid.few);
      deps = λ k d l. omega (arith, at.before k d l, valid.few);
    }
