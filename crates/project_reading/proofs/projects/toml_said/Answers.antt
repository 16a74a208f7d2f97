use Rattle.project_file.specs.Toml.{toml_project}
use Rattle.project_reading.proofs.Listings.{distinct_names}
use Rattle.project_reading.proofs.projects.toml_said.Goals as goal

pub read_toml_project-requires-clause-distinct : goal.read_toml_project-requires-clause-distinct
read_toml_project-requires-clause-distinct c = distinct_names c.args.names.now c.requires.1

pub returns-in-Err-clause-project : goal.returns-in-Err-clause-project
returns-in-Err-clause-project c = c.project_stop.ensures.few (toml_project c.args.bytes.now c.args.names.now) c.in-Err.ensures.project
