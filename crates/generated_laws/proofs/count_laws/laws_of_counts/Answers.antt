-- Answers to the goals of `laws_of_counts`.
use Rattle.std.proofs.Common.{true, length, sym, subst, subst₂}
use Rattle.run_spec.specs.JournalParts.{compile_part}
use Rattle.run_spec.specs.Statuses.{statuses_of}
use Rattle.project_reading.specs.Reading.{SourceReading}
use Rattle.generated_runs.specs.Ran.{RanGenerated}
use Rattle.generated_runs.specs.Said.{tests_of}
use Rattle.generated_runs.specs.Sources.{first_work, first_records, second_work, runs_in}
use Rattle.generated_laws.specs.Compiled.{CompilesOnly}
use Rattle.generated_laws.specs.Edits.{is_touched, touched_files}
use Rattle.generated_laws.specs.Counted.{HavePassed}
use Rattle.generated_laws.proofs.GeneratedCounts.{gives, first_compiled, second_compiled, have_passed, said_is}
use Rattle.generated_laws.proofs.count_laws.laws_of_counts.Goals as goal

pub returns-clause-first : goal.returns-clause-first
returns-clause-first c answer options read makes reading changed said events is_read =
    subst (λ (r : SourceReading). (ran : RanGenerated answer options r changed (gives said) events) → CompilesOnly read.graph (λ position. true) (length read.graph) (statuses_of (first_work options read.graph) ran.first)) (sym is_read)
    (first_compiled answer options read makes changed said events)

pub returns-clause-second : goal.returns-clause-second
returns-clause-second c answer options read again edited makes makes_again changes reading changed said events is_read is_changed =
    subst₂ (λ (r s : SourceReading). (ran : RanGenerated answer options r s (gives said) events) →
    CompilesOnly read.graph (is_touched read.graph edited) (touched_files read.graph edited) (statuses_of (second_work options (first_records options read.graph ran.first) again.graph) (compile_part ran.second))) (sym is_read) (sym is_changed)
    (λ ran. second_compiled answer options read again makes makes_again said events ran edited changes)

pub returns-clause-passed : goal.returns-clause-passed
returns-clause-passed c answer options read again makes makes_again passes reading changed said events is_read is_changed =
    subst₂ (λ (r s : SourceReading). (ran : RanGenerated answer options r s (gives said) events) →
    HavePassed (runs_in again) (tests_of options again (second_work options (first_records options read.graph ran.first) again.graph) ran.second)) (sym is_read) (sym is_changed)
    (λ ran. have_passed answer options read again makes makes_again said events ran passes)

pub returns-clause-said : goal.returns-clause-said
returns-clause-said c answer options read again edited makes makes_again changes passes reading changed said events is_read is_changed ran =
    said_is answer options read again makes makes_again said events (subst₂ (λ (r s : SourceReading). RanGenerated answer options r s (gives said) events) is_read is_changed ran) passes edited changes
