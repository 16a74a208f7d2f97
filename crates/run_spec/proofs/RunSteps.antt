-- From plain moments and events to the step of a run.
use Rattle.std.proofs.Common.{◌≡◌, List, [], ◌∷◌, length, refl, sym, ap, subst, ◌∙◌}
use Rattle.std.specs.List.{AllByRecursion}
use Rattle.base.specs.Graphs.{IsGraph}
use Rattle.outside.specs.Records.{Record}
use Rattle.outside.specs.Disks.{DiskState, Moments, IsSound, AreSound, Follows, added_since}
use Rattle.outside.specs.Phases.{HasPhases}
use Rattle.outside.proofs.CommitLaws.{of_run}
use Rattle.outside.proofs.PhaseLaws.{nothing_added}
use Rattle.run_spec.specs.ChildJournal.{Work, EachAfter, Lawful, Answered, after_all}
use Rattle.run_spec.specs.Commits.{commits, Waits}
use Rattle.run_spec.specs.Histories.{Order, World, ProgramRun, IsReadable, IsBuildRun, IsIdleRun, work_over}
use Rattle.run_spec.proofs.Prefixes.{lawful_none}
use Rattle.run_spec.proofs.Waiting.{waits_none}

sound_readable : (disk : DiskState) → IsSound disk → IsReadable disk
sound_readable disk sound = record { a = sound.a.image; b = sound.b.image }

all_readable : (states : List DiskState) → AllByRecursion IsSound states → AllByRecursion IsReadable states
all_readable [] sound = tt
all_readable (state ∷ states) sound = (sound_readable state sound.0, all_readable states sound.1)

-- reads of each moment of a run give an image
pub readable_since : (old new : Moments) → Follows old new → AreSound new → AllByRecursion IsReadable (old.now ∷ added_since old new)
readable_since old new follows sound = all_readable (old.now ∷ added_since old new) (of_run IsSound old new follows sound)

-- a run without an event commits nothing
pub no_commits : (setting : Work) → commits setting [] ≡ []
unfolding after_all
no_commits setting = refl

no_answers : (world : World) → Answered world.compiler []
unfolding EachAfter
no_answers world = tt

-- a run that opened the disk, or tried to, and started no compiler
pub unstarted_run : (world : World) (order : Order) (run : ProgramRun) (first : DiskState) → IsGraph order.graph → run.events ≡ [] → AllByRecursion IsReadable run.later → HasPhases world.records_of order.clean 0 [] first run.later →
    IsBuildRun world order run first
unstarted_run world order run first graph none readable phases =
    let setting : Work = work_over world.records_of order first in
    let nothing : commits setting run.events ≡ [] = ap (commits setting) none ∙ no_commits setting in
    record {
      graph = graph;
      lawful = subst (Lawful setting) (sym none) (lawful_none setting);
      answered = subst (Answered world.compiler) (sym none) (no_answers world);
      readable = readable;
      acknowledged = 0;
      phases = subst (λ (more : List Record). HasPhases world.records_of order.clean 0 more first run.later) (sym nothing) phases;
      waits = subst (Waits setting 0) (sym none) (waits_none setting 0);
      all = λ disk memory. ap length (sym nothing);
    }

-- a run that did nothing over a disk whose moments are the same
pub idle_run : (run : ProgramRun) (old new : Moments) → run.events ≡ [] → run.later ≡ added_since old new → new ≡ old → IsIdleRun run
idle_run run old new none later same = record { events = none; later = later ∙ ap (added_since old) same ∙ nothing_added old }
