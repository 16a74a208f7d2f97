-- What is read of the tree is what the generated files say.
use Rattle.std.proofs.Common.{List, Err, subst}
use Rattle.base.specs.declared.file.NamedText.{NamedText}
use Rattle.project_reading.specs.Sources.{LeadsTo}
use Rattle.generated_project.specs.Files.{generated_files}
use Rattle.generated_runs.specs.Sources.{files_reading}
use Rattle.generated_runs.proofs.sources.read_queried.Goals as goal

pub returns-clause-reading : goal.returns-clause-reading
returns-clause-reading c = λ scan is.
    c.own_stop.ensures.leads (files_reading scan (generated_files c.args.packages c.args.edited) c.args.query.now)
    (subst (λ (files : List NamedText). LeadsTo (files_reading scan files c.args.query.now) (Err c.in-Err.stop)) c.in-Ok.ensures.files (c.in-Err.ensures.reading scan is tt))
