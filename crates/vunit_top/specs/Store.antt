-- The store of the program: which records an image of its disk holds, and which disks opening leaves unchanged.
use Rattle.std.specs.Prelude.{List}
use Rattle.outside.specs.Records.{Record}
use Rattle.outside.specs.Disks.{DiskState, Image, reads_of}
use Rattle.store.specs.Stored.{IsResting, requests_in}

-- the records that an image holds
abbrev pub records_in_image : Image → List Record
records_in_image = requests_in

-- Opening leaves a disk unchanged: reads give a side of the present form that counts, its last commit byte is closed, and its
-- content asks for no compaction.
abbrev pub IsRestingDisk : DiskState → Type 0
IsRestingDisk disk = IsResting (reads_of disk)
