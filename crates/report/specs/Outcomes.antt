-- What a build answers.
use Rattle.std.specs.Prelude.{if◌then◌else◌, List}
use Rattle.std.specs.List.{list_any}
use Rattle.base.specs.declared.graph.Entry.{Entry}
use Rattle.run_spec.specs.declared.statuses.FileStatus.{FileStatus}
use Rattle.base_outcomes.specs.declared.outcome.Refusal.TheVariants as refusal
use Rattle.base_outcomes.specs.declared.outcome.Outcome.{Outcome}
use Rattle.base_outcomes.specs.declared.outcome.Outcome.TheVariants as outcome
use Rattle.run_spec.specs.Statuses.{is_refused, refused_files}

-- a build is done, or the compiler refused these files
abbrev pub build_outcome : List Entry → List FileStatus → Outcome
build_outcome graph statuses = if list_any is_refused statuses then outcome.Refused (refusal.Compiler (refused_files graph statuses)) else outcome.Done
