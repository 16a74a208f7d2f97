-- What remains to be proved of `started`.
use Rattle.std.proofs.Common.{arith, refl, sym, ap, subst, ◌∙◌, ◌<◌, List, [], ◌∷◌, length, map}
use Rattle.std.specs.Prelude.{All}
use Rattle.std.proofs.lemmas.List.{map-append, length-append}
use Rattle.std.proofs.lemmas.List.Elements.{All-push}
use Rattle.run_spec.specs.declared.child.Child.{Child}
use Rattle.run_scheduler.specs.Machines.{files_of, tickets_of}
use Rattle.run_scheduler.proofs.NextSteps.{IsStart, start_is}
use Rattle.run_scheduler.proofs.Sets.{less_by, one_less_in}
use Rattle.run_scheduler.proofs.MachineSteps.{in_step_started, lawful_start, start_checked, nearer_start}
use Rattle.run_scheduler.proofs.build_scheduler.BuildScheduler.record_start.Goals as goal

pub remove-requires : goal.remove-requires
unfolding files_of
remove-requires c = omega (arith, (start_is c.args.self.now c.args.at c.requires).within, c.args.self.now.few)

pub push_reserved-requires : goal.push_reserved-requires
push_reserved-requires c = omega (arith, c.args.self.now.room, (start_is c.args.self.now c.args.at c.requires).room)

pub returns-clause-lawful : goal.returns-clause-lawful
returns-clause-lawful c workload schedule step = lawful_start c.args.self.now workload schedule step c.args.at c.requires

pub returns-clause-in_step : goal.returns-clause-in_step
returns-clause-in_step c workload schedule step =
    in_step_started c.args.self.now _ workload schedule c.args.at c.args.ticket (start_checked c.args.self.now workload schedule step c.args.at (start_is c.args.self.now c.args.at c.requires)) refl refl refl
    (less_by c.args.self.now.ready c.remove.new.self c.args.at c.remove.ensures.is c.remove.ensures.others) refl refl c.push_reserved.ensures.items refl step

pub returns-clause-tickets : goal.returns-clause-tickets
unfolding tickets_of
returns-clause-tickets c =
    ap (λ (xs : List Child). map (λ (child : Child). child.ticket) xs) c.push_reserved.ensures.items
    ∙ map-append (λ (child : Child). child.ticket) c.args.self.now.children.items ((record { ticket = c.args.ticket; position = c.args.at }) ∷ [])

pub invariant_of-self : goal.invariant_of-self
unfolding files_of
invariant_of-self c =
    let start : IsStart c.args.self.now c.args.at = start_is c.args.self.now c.args.at c.requires in
    record {
      few = c.args.self.now.few;
      as_many_checked = c.args.self.now.as_many_checked;
      as_many_later = c.args.self.now.as_many_later;
      inside = subst (All (λ (child : Child). child.position < length c.args.self.now.made.items)) (sym c.push_reserved.ensures.items)
          (All-push (λ (child : Child). child.position < length c.args.self.now.made.items) c.args.self.now.children.items (record { ticket = c.args.ticket; position = c.args.at }) c.args.self.now.inside start.within);
      past = λ k le. c.remove.ensures.others k (λ e. omega (arith, e, le, start.within)) ∙ c.args.self.now.past k le;
      some = c.args.self.now.some;
      room = omega (arith, c.push_reserved.ensures.capacity, c.args.self.now.room);
    }

pub returns-clause-nearer : goal.returns-clause-nearer
unfolding files_of
returns-clause-nearer c =
    let start : IsStart c.args.self.now c.args.at = start_is c.args.self.now c.args.at c.requires in
    nearer_start c.args.self.now _ (omega arith)
    (one_less_in c.args.self.now.ready c.remove.new.self c.args.at (files_of c.args.self.now) start.within (less_by c.args.self.now.ready c.remove.new.self c.args.at c.remove.ensures.is c.remove.ensures.others) start.ready)
    (ap (λ (xs : List Child). length xs) c.push_reserved.ensures.items ∙ length-append c.args.self.now.children.items ((record { ticket = c.args.ticket; position = c.args.at }) ∷ [])) (omega arith)
