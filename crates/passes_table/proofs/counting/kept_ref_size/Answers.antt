use Rattle.std.proofs.Common.{Some, None, length, sym, ap, subst, ◌∙◌}
use Rattle.base_collections.specs.Numbers.{IsIndexOf}
use Rattle.passes_codec.specs.Forms.{ListRef, list_ref_bytes}
use Rattle.passes_table.proofs.KeptPayloads.{known_after, list_after, numbers_after, ref_there}
use Rattle.passes_table.proofs.PassBytes.{known_list_size}
use Rattle.passes_table.proofs.counting.kept_ref_size.Goals as goal

pub returns-in-Some-clause-size : goal.returns-in-Some-clause-size
returns-in-Some-clause-size c = sym (known_list_size c.in-Some._number) ∙ ap (λ (l : ListRef). length (list_ref_bytes l)) (ref_there c.args.held.now.segments c.args.table.now c.requires.table.is c.args.numbers.now (record { room = c.requires.numbers.lists.room; below = c.requires.numbers.lists.below; once = c.requires.numbers.lists.once }) c.args.list c.requires.list (Some c.in-Some._number) (subst (IsIndexOf c.args.numbers.now.lists.numbers c.args.list) c.in-Some.is c.index_of.ensures))

pub returns-in-Some-clause-after : goal.returns-in-Some-clause-after
returns-in-Some-clause-after c = known_after c.args.held.now.segments c.args.table.now c.requires.table.is c.args.numbers.now (record { room = c.requires.numbers.lists.room; below = c.requires.numbers.lists.below; once = c.requires.numbers.lists.once }) c.args.list c.requires.list c.in-Some._number (subst (IsIndexOf c.args.numbers.now.lists.numbers c.args.list) c.in-Some.is c.index_of.ensures)

pub returns-clause-numbers : goal.returns-clause-numbers
returns-clause-numbers c = record { lists = numbers_after c.args.held.now.segments c.args.table.now c.requires.table.is c.args.numbers.now (record { room = c.requires.numbers.lists.room; below = c.requires.numbers.lists.below; once = c.requires.numbers.lists.once }) c.args.list c.requires.list c.in_ok-add.field-0 c.add.new.self c.in_ok-add.ensures.ok; texts = c.in_ok-size.ensures.texts }

pub returns-clause-size : goal.returns-clause-size
returns-clause-size c = c.in_ok-size.ensures.size ∙ ap (λ (l : ListRef). length (list_ref_bytes l)) (ref_there c.args.held.now.segments c.args.table.now c.requires.table.is c.args.numbers.now (record { room = c.requires.numbers.lists.room; below = c.requires.numbers.lists.below; once = c.requires.numbers.lists.once }) c.args.list c.requires.list None (subst (IsIndexOf c.args.numbers.now.lists.numbers c.args.list) c.in_default.is c.index_of.ensures))

pub returns-clause-after : goal.returns-clause-after
returns-clause-after c = list_after c.args.held.now.segments c.args.table.now c.requires.table.is c.args.numbers.now (record { room = c.requires.numbers.lists.room; below = c.requires.numbers.lists.below; once = c.requires.numbers.lists.once }) c.args.list c.requires.list c.in_ok-add.field-0 (record { lists = c.add.new.self; texts = c.kept_list_size.new.texts }) (subst (IsIndexOf c.args.numbers.now.lists.numbers c.args.list) c.in_default.is c.index_of.ensures) c.in_ok-add.ensures.ok c.in_ok-size.ensures.kept
