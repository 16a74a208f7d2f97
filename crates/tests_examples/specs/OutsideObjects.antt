-- The examples of "The outside".
use Rattle.std.specs.Prelude.{◌≡◌, ◌∷◌, true, false, [], Some, Err, codes}
use Rattle.base.specs.declared.child.Event.TheVariants.{Gone}
use Rattle.outside.specs.Children.{IsFresh, end_event, ended_ticket, started_with, without}
use Rattle.outside.specs.Disks.{SideState, bytes_at, cut_through, cutting, is_touched, settled, synced, writing, written, written_through}
use Rattle.outside.specs.Records.{latest, with_record}
use Rattle.tests_examples.specs.Example.{Ra, Rb, Rw, a_name, b_name, b_request, events}
use Rattle.outside.specs.declared.procs.WaitFault.TheVariants as wait

-- a side of a disk with the four bytes abcd, all of them synced
abbrev abcd : SideState
abcd = settled (codes "abcd")

-- the side abcd during a write of three bytes at offset 2
abbrev inside_write : SideState
inside_write = writing 2 3 abcd

-- the side abcd after a write of XYZ at offset 2, which isn't synced yet
abbrev after_write : SideState
after_write = written 2 (codes "XYZ") abcd

-- what children did
pub record EndedChildren : Type 0 where
  pub remaining : without 4 (4 ∷ 7 ∷ []) ≡ 7 ∷ []
  pub lost : end_event (Err (wait.Lost 4)) ≡ Gone 4
  pub ended : ended_ticket (Err (wait.Lost 4)) ≡ 4
  pub request : started_with 8 events ≡ Some b_request
  pub fresh : IsFresh events 9

-- the sides of a disk
pub record SidesOfDisks : Type 0 where
  pub low : inside_write.low ≡ 4
  pub high : inside_write.high ≡ 5
  pub first_kept : is_touched inside_write.touched 1 ≡ false
  pub third_touched : is_touched inside_write.touched 2 ≡ true
  pub reads : after_write.reads ≡ codes "abXYZ"
  pub same_images : record after_write { reads = codes "abcd" } ≡ inside_write
  pub synced_side : synced after_write ≡ settled (codes "abXYZ")
  pub through : written_through 2 (codes "XYZ") abcd ≡ settled (codes "abXYZ")
  pub inside_cut_low : (cutting abcd).low ≡ 0
  pub inside_cut_high : (cutting abcd).high ≡ 4
  pub cut : cut_through abcd ≡ settled []
  pub two_bytes : bytes_at 1 2 (codes "abcd") ≡ codes "bc"

-- the latest records after a commit
pub record LatestAfter : Type 0 where
  pub of_a : with_record Rw (λ it. latest it (Ra ∷ Rb ∷ [])) a_name ≡ Some Rw
  pub of_b : with_record Rw (λ it. latest it (Ra ∷ Rb ∷ [])) b_name ≡ Some Rb
