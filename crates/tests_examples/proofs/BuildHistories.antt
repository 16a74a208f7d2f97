-- The examples of "Histories", by computation.
use Rattle.std.proofs.Common.{refl}
use Rattle.outside.specs.Records.{latest}
use Rattle.run_spec.specs.Recorded.{current_by_request, is_same_asked}
use Rattle.tests_examples.specs.BuildHistories.{FoundRecords}

pub found_records : FoundRecords
unfolding latest current_by_request is_same_asked
found_records = record { first = refl; second = refl; emptied = refl; kept = refl; last = refl }
