-- None at first, and one file more.
use Rattle.project_minimal.proofs.IndexLemmas.{files_void, fit_void}
use Rattle.project_minimal.proofs.index.index_of.Goals as goal

pub loop-file-init : goal.loop-file-init
loop-file-init c = record { fit = fit_void _ _ c.in_ok-index.ensures; holds = λ said are. files_void said _ c.in_ok-index.ensures }

pub add_file-requires-clause-fit : goal.add_file-requires-clause-fit
add_file-requires-clause-fit c = c.loop-file.invariant.fit

pub loop-file-preserved : goal.loop-file-preserved
loop-file-preserved c = record {
  fit = c.in_ok-add_file.ensures.fit;
  holds = λ said are. c.in_ok-add_file.ensures.holds said are (c.loop-file.invariant.holds said are);
}
