-- The examples of "The outside", by computation.
use Rattle.std.proofs.Common.{refl}
use Rattle.base.specs.Bytes.{text_bytes}
use Rattle.base.specs.Jobs.{all_built_bytes, built_bytes, compile_input, name_bytes}
use Rattle.outside.specs.Records.{latest}
use Rattle.tests_examples.specs.OutsideObjects.{EndedChildren, LatestAfter, SidesOfDisks}

pub ended_children : EndedChildren
unfolding text_bytes all_built_bytes built_bytes compile_input name_bytes
ended_children = record { remaining = refl; lost = refl; ended = refl; request = refl; fresh = refl }

pub sides_of_disks : SidesOfDisks
sides_of_disks = record { low = refl; high = refl; first_kept = refl; third_touched = refl; reads = refl; same_images = refl; synced_side = refl; through = refl; inside_cut_low = refl; inside_cut_high = refl; cut = refl; two_bytes = refl }

pub latest_after : LatestAfter
unfolding latest
latest_after = record { of_a = refl; of_b = refl }
