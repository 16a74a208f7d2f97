-- What the first build did, from what it did over its disk.
use Rattle.std.proofs.Common.{Bool, true, false, List, Result, Ok, Err, refl}
use Rattle.base.specs.declared.graph.Entry.{Entry}
use Rattle.base.specs.declared.child.Request.{Request}
use Rattle.base.specs.declared.child.Exit.{Exit}
use Rattle.base.specs.declared.child.Event.{Event}
use Rattle.run_spec.specs.declared.statuses.FileStatus.{FileStatus}
use Rattle.outside.specs.Disks.{DiskState, Moments, IsImage, IsSound, reads_of}
use Rattle.run_spec.specs.ChildJournal.{Work}
use Rattle.run_spec.proofs.Parts.{build_parts}
use Rattle.run_spec.specs.Histories.{Order}
use Rattle.run_spec.specs.declared.fault.RunFault.{RunFault}
use Rattle.run_build.specs.Building.{BuildsOver}
use Rattle.run_build.specs.Orders.{order_by}
use Rattle.store.specs.Stored.{requests_in}
use Rattle.generated_runs.specs.declared.options.GenerateOptions.{GenerateOptions}
use Rattle.generated_runs.specs.Sources.{first_work}
use Rattle.generated_runs.specs.Ran.{RanFirst}

-- what reads give is an image
readable : (disk : DiskState) → IsSound disk → IsImage disk (reads_of disk)
readable disk sound = record { a = sound.a.image; b = sound.b.image }

-- the order of the first build
abbrev first_order : GenerateOptions → List Entry → Order
first_order options graph = order_by (record { slots = options.slots; keep_going = false; clean = true }) graph

module _ (answer : Request → Exit) (options : GenerateOptions) (graph : List Entry) (failed : Bool) (old new : Moments) (events : List Event) where
  abbrev work : Work
  work = first_work options graph

  abbrev Over : Result (List FileStatus) RunFault → Type 0
  Over result = BuildsOver requests_in answer (first_order options graph) result failed old new events

  pub first_ended : IsSound new.now → (statuses : List FileStatus) → Over (Ok statuses) → RanFirst answer work (Ok statuses) new.now events
  first_ended sound statuses over = record {
    built = record { graph = λ some. over.graph_form; whole_graph = over.graph_form; lawful = over.lawful; answered = over.answered; ended = over.whole };
    compilers = build_parts work events over.lawful;
    statuses = over.statuses;
    records = over.emptied refl (reads_of new.now) (readable new.now sound);
  }

  pub first_faulted : (why other : RunFault) → Over (Err why) → RanFirst answer work (Err other) new.now events
  first_faulted why other over = record {
    built = record { graph = λ some. over.graph_form; whole_graph = tt; lawful = over.lawful; answered = over.answered; ended = tt };
    compilers = build_parts work events over.lawful;
    statuses = tt;
    records = tt;
  }
