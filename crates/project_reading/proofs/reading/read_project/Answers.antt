use Rattle.std.proofs.Common.{ℕ, List, Option, Result, sym, subst}
use Rattle.std.proofs.lemmas.Result.{err_from_is_err_and}
use Rattle.base.specs.declared.project.Project.{Project}
use Rattle.project_reading.specs.Reading.{SourceReading, project_in, sources_reading, project_reading}
use Rattle.project_reading.specs.Sources.{LeadsTo}
use Rattle.project_reading.specs.Asked.{project_file_paths, maybe_paths, project_paths, AsksFirst, AsksInOrder}
use Rattle.project_reading.proofs.Asks.{first_of_more, then_in_order}
use Rattle.project_reading.proofs.Steps.{no_project, goes_on}
use Rattle.project_reading.proofs.reading.read_project.Goals as goal

pub returns-in_err-project-clause-reading : goal.returns-in_err-project-clause-reading
unfolding project_reading
returns-in_err-project-clause-reading g c =
    let p = err_from_is_err_and c.from_residual.result c.from_residual.ensures.1 in
    rw (p.1, p.2) (λ scan is tells. no_project c.args.query.now scan (g.T.Tree.file c.args.tree.now) (project_in (g.T.Tree.file c.args.tree.now) (g.T.Tree.listed c.args.tree.now)) c.in_err-project.field-0.0 (c.in_err-project.ensures.project tells))

-- if the first paths of the project files were asked for, the first paths of the whole tree were
first_paths : (file : List ℕ → Option (List ℕ)) (listed old new : List (List ℕ)) → AsksFirst (project_file_paths file) old new → AsksFirst (project_paths file listed) old new
unfolding project_paths
first_paths file listed old new asks = first_of_more (project_file_paths file) (maybe_paths (project_in file listed)) old new asks

pub returns-in_err-project-clause-asked : goal.returns-in_err-project-clause-asked
returns-in_err-project-clause-asked g c =
    let p = err_from_is_err_and c.from_residual.result c.from_residual.ensures.1 in
    rw p.1 (λ tells. first_paths (g.T.Tree.file c.args.tree.now) (g.T.Tree.listed c.args.tree.now) (g.T.Tree.asked c.args.tree.now) _ (c.in_err-project.ensures.asked tells))

pub returns-clause-reading : goal.returns-clause-reading
unfolding project_reading
returns-clause-reading g c = λ scan is tells.
    goes_on (sources_reading c.args.query.now scan (g.T.Tree.file c.args.tree.now)) (project_in (g.T.Tree.file c.args.tree.now) (g.T.Tree.listed c.args.tree.now)) c.in_ok-project.project c.read_sources.result (c.in_ok-project.ensures.project tells)
    (subst (λ (file : List ℕ → Option (List ℕ)). LeadsTo (sources_reading c.args.query.now scan file c.in_ok-project.project) c.read_sources.result) c.in_ok-project.ensures.same (c.read_sources.ensures.reading scan is tells))

pub returns-clause-asked : goal.returns-clause-asked
unfolding project_paths
returns-clause-asked g c = λ tells.
    let said = project_in (g.T.Tree.file c.args.tree.now) (g.T.Tree.listed c.args.tree.now) in
    then_in_order c.read_sources.result (project_file_paths (g.T.Tree.file c.args.tree.now)) (maybe_paths said) _ _ _ (c.in_ok-project.ensures.asked tells)
    (subst (λ (project : Result Project SourceReading). AsksInOrder c.read_sources.result (maybe_paths project) (g.T.Tree.asked c.find_project.new.tree) (g.T.Tree.asked c.read_sources.new.tree)) (sym (c.in_ok-project.ensures.project tells)) c.read_sources.ensures.asked)
