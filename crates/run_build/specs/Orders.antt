-- The order for a build, and what the build leaves on a disk.
use Rattle.std.specs.Prelude.{ℕ, List}
use Rattle.base.specs.declared.graph.Entry.{Entry}
use Rattle.outside.specs.Disks.{DiskState, Image, EachImage}
use Rattle.outside.specs.Records.{Record, latest, IsRecorded}
use Rattle.run_spec.specs.Histories.{Order}
use Rattle.run_build.specs.declared.building.BuildOptions.{BuildOptions}

-- in whatever a stop can leave, the latest record of the file at a position has what would be asked for it now
abbrev pub IsDurablyRecorded : (Image → List Record) → DiskState → List Entry → ℕ → Type 0
IsDurablyRecorded records_of disk graph position = EachImage (λ image. IsRecorded (λ name. latest name (records_of image)) graph position) disk

-- the order to build a graph with these options
abbrev pub order_by : BuildOptions → List Entry → Order
order_by options graph = record { graph = graph; slots = options.slots; keep_going = options.keep_going; clean = options.clean }
