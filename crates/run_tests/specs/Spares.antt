-- How long a record counts in a history.
use Rattle.std.specs.Prelude.{List, [], ◌∷◌}
use Rattle.base.specs.declared.file.FileName.{FileName}
use Rattle.outside.specs.Disks.{DiskState}
use Rattle.outside.specs.Records.{Record}
use Rattle.outside.specs.Commits.{last_state}
use Rattle.run_spec.specs.Histories.{Sources, World}
use Rattle.run_laws.specs.Spares.{IsAcknowledged, SparesFile, LeavesRecord}
use Rattle.run_tests.specs.Histories.{HistoryStep, Edited, Ran, Stopped}

-- From a disk on, no run starts the file where what the record has is asked of it, and the record stays acknowledged, until a
-- run that doesn't leave it.
unfoldable pub AllSpare : World → FileName → Record → Sources → DiskState → List HistoryStep → Type 0
AllSpare world name kept sources disk [] = IsAcknowledged world name kept disk
AllSpare world name kept sources disk (Edited new ∷ steps) = AllSpare world name kept new disk steps
AllSpare world name kept sources disk (Ran run ∷ steps) =
    SparesFile world (world.reading run.words sources) name kept.asked run disk
    × (LeavesRecord world (world.reading run.words sources) name kept run disk → AllSpare world name kept sources (last_state disk run.later) steps)
AllSpare world name kept sources disk (Stopped run stop ∷ steps) =
    SparesFile world (world.reading run.words sources) name kept.asked run disk
    × (LeavesRecord world (world.reading run.words sources) name kept run disk → AllSpare world name kept sources stop.disk steps)
