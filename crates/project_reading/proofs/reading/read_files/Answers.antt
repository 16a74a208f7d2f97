use Rattle.std.proofs.Common.{◌≡◌, ℕ, List, Result, Ok, Err, subst}
use Rattle.std.proofs.lemmas.Result.{err_from_is_err_and}
use Rattle.base.specs.declared.project.ProjectFile.{ProjectFile}
use Rattle.project_reading.specs.Reading.{SourceReading, texts_of, texts_reading}
use Rattle.project_reading.specs.Sources.{Gives}
use Rattle.project_reading.proofs.Steps.{stops_there, goes_on}
use Rattle.project_reading.proofs.reading.read_files.Goals as goal

pub returns-in_err-texts-clause-reading : goal.returns-in_err-texts-clause-reading
returns-in_err-texts-clause-reading g c =
    let p = err_from_is_err_and c.from_residual.result c.from_residual.ensures.1 in
    rw (p.1, p.2) (λ scan is tells. stops_there (texts_reading c.args.query.now scan c.args.project) (texts_of (g.T.Tree.file c.args.tree.now) 0 c.args.project.files) c.in_err-texts.field-0.0
    (subst (λ (files : List ProjectFile). Gives {T = List (List ℕ)} (texts_of (g.T.Tree.file c.args.tree.now) 0 files) (Err c.in_err-texts.field-0.0)) c.as_slice.ensures (c.in_err-texts.ensures.texts tells)))

pub returns-clause-reading : goal.returns-clause-reading
returns-clause-reading g c = λ scan is tells.
    goes_on (texts_reading c.args.query.now scan c.args.project) (texts_of (g.T.Tree.file c.args.tree.now) 0 c.args.project.files) c.in_ok-texts.texts c.read_from_texts.result
    (subst (λ (files : List ProjectFile). ◌≡◌ {A = Result (List (List ℕ)) SourceReading} (texts_of (g.T.Tree.file c.args.tree.now) 0 files) (Ok c.in_ok-texts.texts)) c.as_slice.ensures (c.in_ok-texts.ensures.texts tells)) (c.read_from_texts.ensures.reading scan is)
