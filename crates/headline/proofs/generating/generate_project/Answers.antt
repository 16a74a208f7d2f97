-- What is put and answered where a project is generated.
use Rattle.std.proofs.Common.{Result, ap, sym, subst}
use Rattle.project_reading.specs.Reading.{project_reading}
use Rattle.vunit_top.specs.declared.words.Task.{Task}
use Rattle.vunit_top.specs.Did.{AreSourcesTold}
use Rattle.vunit_top.specs.Reading.{Reading, full_reading}
use Rattle.headline.proofs.GeneratedSizes.{size_within}
use Rattle.headline.proofs.generating.generate_project.Goals as goal

pub returns-clause-ran : goal.returns-clause-ran
returns-clause-ran g c = λ told loop options said.
    let size = size_within c.args.words.now options said in
    let scanner = c.some_scanner.ensures in
    let did = c.run_vunit.ensures.did scanner.0 scanner.1 (subst (AreSourcesTold g.T.Tree.tells) (sym said) tt) in
    c.laws_of_generated_projects.ensures.answered scanner.0 (g.P.Procs.answer c.args.procs.now) options c.run_vunit.result _ (g.O.Sink.contents c.args.out.now) (g.O.Sink.contents c.run_vunit.new.out) scanner.1 loop size.0 size.1
    (did.generated told options (ap (λ (task : Result Task Reading). full_reading task (project_reading scanner.0 (g.T.Tree.file c.args.tree.now) (g.T.Tree.listed c.args.tree.now))) said))
