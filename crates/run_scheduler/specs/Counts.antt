-- What is counted of files that are checked later.
use Rattle.std.specs.Prelude.{ℕ, nat_lt, Bool, false, not, if◌then◌else◌, List, [], length, slice_index_or}
use Rattle.base.specs.declared.graph.Entry.{Entry}
use Rattle.outside.specs.Records.{deps_at}
use Rattle.order.specs.Waits.{AreWaitingFiles}
use Rattle.order.specs.declared.files.ReadyFiles.{ReadyFiles}

-- the files that need no check don't wait, and what the others below a position depend on is noted
abbrev pub AreCountedTo : List Entry → (checked made : List Bool) → ReadyFiles → ℕ → Type 0
AreCountedTo graph checked made later end =
    AreWaitingFiles later (length graph) (λ at. if nat_lt at end then deps_at graph at else []) (λ at. not (slice_index_or checked at false)) (λ at. slice_index_or made at false)
