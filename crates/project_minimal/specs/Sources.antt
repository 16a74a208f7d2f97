-- The files of a project with their texts and outlines, as the program holds them, and the definition's sources that they
-- stand for.
use Rattle.std.specs.Prelude.{◌≡◌, ◌≤◌, length}
use Rattle.base.specs.declared.limits.TheConstants.{FILE_LIMIT}
use Rattle.std.specs.List.{All}
use Rattle.vhdl_outline.specs.Outlines.{FilesAreOf, FilesLieIn}
use Rattle.vhdl_outline.specs.Roles.{IsTextSmall}
use Rattle.project_minimal.specs.MinimalSet.{NeedSources}
use Rattle.project_minimal.specs.declared.sources.Sources.{Sources}

-- one text and one outline for each file; an outline can be read of its text
pub record AreSources (sources : Sources) : Type 0 where
  pub few : length sources.project.now.files ≤ FILE_LIMIT
  pub each : length sources.texts.now ≡ length sources.project.now.files
  pub small : All IsTextSmall sources.texts.now
  pub lie : FilesLieIn sources.texts.now sources.outlines.now

-- the sources that were read are those of a definition's files, texts and scans
pub record AreNeeds (sources : Sources) (said : NeedSources) : Type 0 where
  pub files : said.files ≡ sources.project.now.files
  pub texts : said.texts ≡ sources.texts.now
  pub outlined : FilesAreOf said.texts said.scans sources.outlines.now
