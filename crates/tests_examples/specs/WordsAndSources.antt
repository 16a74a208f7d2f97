-- The examples of "Reading: what words and sources say".
use Rattle.std.specs.Prelude.{◌≡◌, ℕ, ◌&&◌, ◌∷◌, Bool, true, false, List, [], Option, Some, None, Err, map, codes, if◌then◌else◌, bytes_eq}
use Rattle.base.specs.declared.child.MaybeText.TheVariants.{Nothing}
use Rattle.base.specs.declared.design.UnitFault.TheVariants.{NotUnit}
use Rattle.base.specs.declared.file.FileName.{FileName}
use Rattle.base.specs.declared.graph.Entry.{Entry}
use Rattle.base.specs.declared.project.ProjectFile.{ProjectFile}
use Rattle.vhdl_spec.specs.Scans.{Clean, Finding, Grammatical}
use Rattle.vunit_arguments.specs.Arguments.{setting_of}
use Rattle.vunit_arguments.specs.declared.setting.Setting.{Setting}
use Rattle.project_file.specs.Csv.{listed_command, listed_project}
use Rattle.project_reading.specs.Asked.{project_paths}
use Rattle.project_reading.specs.Reading.{project_reading, scans_of}
use Rattle.project_reading.specs.declared.query.Query.{Query}
use Rattle.tests_examples.specs.Example.{a_name, b_name, name}
use Rattle.base_outcomes.specs.declared.outcome.Refusal.TheVariants as refusal
use Rattle.project_reading.specs.Reading as sources
use Rattle.project_reading.specs.declared.query.QueryKind.TheVariants as query_kind

-- ## Words

-- with nothing given
abbrev pub plain : Setting
plain = record {
  list = false;
  files = false;
  compile = false;
  minimal = false;
  keep_compiling = false;
  fail_fast = false;
  clean = false;
  xunit_xml = Nothing;
  exit_0 = false;
  verbose = false;
  quiet = false;
  num_threads = 1;
  export_json = Nothing;
  generate = 0;
  patterns = codes "*" ∷ [];
}

-- what a command line sets, and three that are refused
pub record SettingsOfWords : Type 0 where
  pub compiling : setting_of (codes "-p" ∷ codes "8" ∷ codes "-k" ∷ codes "--compile" ∷ []) ≡
      Some (record plain { compile = true; keep_compiling = true; num_threads = 8 })
  pub zero : setting_of (codes "-p" ∷ codes "0" ∷ []) ≡ None
  pub twice : setting_of (codes "--compile" ∷ codes "--compile" ∷ []) ≡ None
  pub unknown : setting_of (codes "--frob" ∷ []) ≡ None

-- ## Sources

-- the folder of the example, with a.vhd or without
abbrev pub folder : Bool → List ℕ → Option (List ℕ)
folder has_a path =
    if bytes_eq path (codes "vunit.csv") then Some (codes "lib,a.vhd\nlib,b.vhd")
    else (if bytes_eq path (codes "a.vhd") && has_a then Some (codes "x") else (if bytes_eq path (codes "b.vhd") then Some (codes "y") else None))

-- a scanner that finds neither a token nor a unit in any text
abbrev pub finds_nothing : List ℕ → Finding
finds_nothing text = Clean (record { tokens = record { list = []; comments = [] }; units = [] })

-- a scanner that finds no design unit at byte 0 of the text foo, and accepts any other text
abbrev refuses_foo : List ℕ → Finding
refuses_foo text = if bytes_eq text (codes "foo") then Grammatical (NotUnit 0) else finds_nothing text

-- a file of a project by its name, compiled by the program itself
abbrev listed_file_of : FileName → ProjectFile
listed_file_of it = record { name = it; command = listed_command }

-- all of the graph is wanted
abbrev whole_graph : Query
whole_graph = record { query_kind = query_kind.Graph; patterns = [] }

-- a file of a graph with its text and the positions of its dependencies, compiled by the program itself
abbrev child_file : FileName → List ℕ → List ℕ → Entry
child_file it text deps = record { name = it; command = listed_command; text = text; deps = deps }

-- the graph of a.vhd and of b.vhd, which depends on it, compiled by the program itself
abbrev pub child_files : List Entry
child_files = child_file a_name (codes "x") [] ∷ child_file b_name (codes "y") (0 ∷ []) ∷ []

-- what is read of a folder, whole or without a file, and which of two refused files is named
pub record ReadSources : Type 0 where
  pub asked : project_paths (folder true) [] ≡ codes "vunit.toml" ∷ codes "vunit.csv" ∷ codes "a.vhd" ∷ codes "b.vhd" ∷ []
  pub found : project_reading finds_nothing (folder true) [] whole_graph ≡ sources.Found (record {
    project = listed_project (a_name ∷ b_name ∷
        []);
    graph = child_files;
    warnings = [];
    tests = [];
  })
  pub absent : project_reading finds_nothing (folder false) [] whole_graph ≡ sources.Stops (refusal.AbsentFile a_name)
  pub second_refused : scans_of refuses_foo (map listed_file_of (a_name ∷ b_name ∷ name 99 ∷ [])) (codes "x" ∷ codes "foo" ∷ codes "foo" ∷ []) ≡
      Err (sources.Stops (refusal.Units b_name (NotUnit 0)))
