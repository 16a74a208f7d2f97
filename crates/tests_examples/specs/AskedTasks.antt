-- The examples of "Reading: what words and sources say" for the task.
use Rattle.std.specs.Prelude.{◌≡◌, ◌∷◌, true, false, [], Ok, Err, codes}
use Rattle.base.specs.declared.child.MaybeText.TheVariants.{Given}
use Rattle.project_reading.specs.declared.query.QueryKind.{QueryKind}
use Rattle.project_reading.specs.declared.query.Query.{Query}
use Rattle.vunit_top.specs.Reading.{Builds, Generates, Over, begins_as_child, is_build, is_run, task_of, may_write, reading, setting_task, query_of}
use Rattle.tests_examples.specs.WordsAndSources.{child_files, finds_nothing, folder, plain}
use Rattle.base_outcomes.specs.declared.outcome.Limit.TheVariants as limit
use Rattle.project_reading.specs.declared.query.QueryKind.TheVariants as query_kind
use Rattle.vunit_top.specs.declared.words.Task.TheVariants as task

-- a query of this kind for all tests
abbrev of_all : QueryKind → Query
of_all much = record { query_kind = much; patterns = codes "*" ∷ [] }

-- what settings ask for
pub record TasksOfSettings : Type 0 where
  pub list_files : setting_task (record plain { files = true; compile = true }) ≡ Ok (task.ListFiles (of_all query_kind.Graph))
  pub needed_files : setting_task (record plain { files = true; minimal = true }) ≡ Ok (task.ListFiles (of_all query_kind.Needed))
  pub list_tests : setting_task (record plain { list = true; minimal = true }) ≡ Ok (task.ListTests (of_all query_kind.Tests))
  pub too_many : setting_task (record plain { list = true; num_threads = 65 }) ≡ Err (Over limit.Slots 64)
  pub run : is_run (task_of plain) ≡ true
  pub report : may_write (task_of (record plain { xunit_xml = Given (codes "out.xml") })) ≡ true
  pub needed_run : query_of (task_of (record plain { minimal = true })) ≡ of_all query_kind.Needed
  pub generated : setting_task (record plain { generate = 10; num_threads = 4; list = true }) ≡ Err (Generates (record { packages = 10; slots = 4; exit_0 = false }))
  pub too_large : setting_task (record plain { generate = 4096 }) ≡ Err (Over limit.Files 4096)
  pub both_over : setting_task (record plain { generate = 4096; num_threads = 65 }) ≡ Err (Over limit.Slots 64)
  pub builds_nothing : is_build (task.ListTests (of_all query_kind.Tests)) ≡ false
  pub writes_nothing : may_write (task.ListTests (of_all query_kind.Tests)) ≡ false
  pub child : begins_as_child (codes "child-analyse" ∷ []) ≡ true

-- a build of a and b with one slot, going on after a refusal
pub record WholeReadings : Type 0 where
  pub builds : reading finds_nothing (codes "--compile" ∷ codes "-k" ∷ []) (record { file = folder true; listed = [] }) ≡
      Builds (record { graph = child_files; slots = 1; keep_going = true; clean = false }) []
