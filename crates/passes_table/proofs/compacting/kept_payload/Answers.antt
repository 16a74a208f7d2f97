use Rattle.std.proofs.Common.{Some, None, ap, subst, ◌∙◌}
use Rattle.base_collections.specs.Numbers.{IsIndexOf}
use Rattle.passes_codec.specs.Forms.{ListRef, pass_bytes}
use Rattle.passes_table.proofs.KeptPayloads.{known_after, list_after, numbers_after, ref_there}
use Rattle.passes_table.proofs.compacting.kept_payload.Goals as goal

pub returns-in-Some-clause-is : goal.returns-in-Some-clause-is
returns-in-Some-clause-is c = c.in_ok-payload.ensures ∙ ap (λ (l : ListRef). pass_bytes (record { run = c.args.parts.run.now; simulator = c.args.parts.simulator.now; list = l; output = c.args.parts.output.now })) (ref_there c.args.held.now.segments c.args.table.now c.requires.table.is c.args.numbers.now (record { room = c.requires.numbers.lists.room; below = c.requires.numbers.lists.below; once = c.requires.numbers.lists.once }) c.args.list c.requires.list (Some c.in-Some.number) (subst (IsIndexOf c.args.numbers.now.lists.numbers c.args.list) c.in-Some.is c.index_of.ensures))

pub returns-in-Some-clause-after : goal.returns-in-Some-clause-after
returns-in-Some-clause-after c = known_after c.args.held.now.segments c.args.table.now c.requires.table.is c.args.numbers.now (record { room = c.requires.numbers.lists.room; below = c.requires.numbers.lists.below; once = c.requires.numbers.lists.once }) c.args.list c.requires.list c.in-Some.number (subst (IsIndexOf c.args.numbers.now.lists.numbers c.args.list) c.in-Some.is c.index_of.ensures)

pub returns-clause-is : goal.returns-clause-is
returns-clause-is c = c.in_ok-payload-2.ensures.is ∙ ap (λ (l : ListRef). pass_bytes (record { run = c.args.parts.run.now; simulator = c.args.parts.simulator.now; list = l; output = c.args.parts.output.now })) (ref_there c.args.held.now.segments c.args.table.now c.requires.table.is c.args.numbers.now (record { room = c.requires.numbers.lists.room; below = c.requires.numbers.lists.below; once = c.requires.numbers.lists.once }) c.args.list c.requires.list None (subst (IsIndexOf c.args.numbers.now.lists.numbers c.args.list) c.in_default.is c.index_of.ensures))

pub returns-clause-after : goal.returns-clause-after
returns-clause-after c = list_after c.args.held.now.segments c.args.table.now c.requires.table.is c.args.numbers.now (record { room = c.requires.numbers.lists.room; below = c.requires.numbers.lists.below; once = c.requires.numbers.lists.once }) c.args.list c.requires.list c.in_ok-add.field-0 (record { lists = c.add.new.self; texts = c.new_list_payload.new.texts }) (subst (IsIndexOf c.args.numbers.now.lists.numbers c.args.list) c.in_default.is c.index_of.ensures) c.in_ok-add.ensures.ok c.in_ok-payload-2.ensures.kept

pub returns-clause-numbers : goal.returns-clause-numbers
returns-clause-numbers c = record { lists = numbers_after c.args.held.now.segments c.args.table.now c.requires.table.is c.args.numbers.now (record { room = c.requires.numbers.lists.room; below = c.requires.numbers.lists.below; once = c.requires.numbers.lists.once }) c.args.list c.requires.list c.in_ok-add.field-0 c.add.new.self c.in_ok-add.ensures.ok; texts = c.in_ok-payload-2.ensures.texts }
