-- The examples of "Histories".
use Rattle.std.specs.Prelude.{◌≡◌, ◌∷◌, Bool, true, false, List, [], Some, None, codes}
use Rattle.outside.specs.Commits.{last_state}
use Rattle.outside.specs.Disks.{DiskState, Image, settled_disk}
use Rattle.outside.specs.Records.{Record}
use Rattle.run_spec.specs.Histories.{Order, empty_image, latest_over, work_over}
use Rattle.tests_examples.specs.Example.{Ra, a_built, a_name, files}

-- to build a.vhd and b.vhd with one slot until a refusal, over what is recorded or, if clean, over nothing
abbrev order : Bool → Order
order clean = record { graph = files; slots = 1; keep_going = false; clean = clean }

-- all images have Ra
abbrev has_a : Image → List Record
has_a image = Ra ∷ []

-- a disk without pending writes, whose two sides have no byte
abbrev empty_disk : DiskState
empty_disk = settled_disk empty_image

-- what a build finds recorded
pub record FoundRecords : Type 0 where
  pub first : (work_over has_a (order false) empty_disk).current 0 [] ≡ Some (codes "1")
  pub second : (work_over has_a (order false) empty_disk).current 1 (a_built ∷ []) ≡ None
  pub emptied : (work_over has_a (order true) empty_disk).current 0 [] ≡ None
  pub kept : latest_over has_a false empty_disk a_name ≡ Some Ra
  pub last : last_state empty_disk (empty_disk ∷ []) ≡ empty_disk
