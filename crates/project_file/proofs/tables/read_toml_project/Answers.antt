-- What remains to be proved of `read_toml_project`.
use Rattle.std.proofs.Common.{List, ℕ, subst}
use Rattle.project_file.specs.Steps.{ReadsStep}
use Rattle.project_file.specs.Toml.{toml_project}
use Rattle.project_file.specs.Few.{few_said}
use Rattle.project_file.proofs.TomlValid.{read_valid}
use Rattle.project_file.proofs.tables.read_toml_project.Goals as goal

pub returns-clause-valid : goal.returns-clause-valid
returns-clause-valid c =
    read_valid c.args.names.now c.requires.distinct c.requires.fit c.args.bytes.now c.bytes_project.result
    (subst (λ (names : List (List ℕ)). ReadsStep (few_said (toml_project c.args.bytes.now names)) c.bytes_project.result) c.as_slice.ensures c.bytes_project.ensures)
