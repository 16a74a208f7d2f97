-- What is at the token is added.
use Rattle.std.proofs.Common.{refl, subst}
use Rattle.vhdl_spec.specs.Units.{roles_of}
use Rattle.vhdl_units.specs.Standing.{IsStanding}
use Rattle.vhdl_units.proofs.Adding.{plain_offsets, owned_offsets, item_added, plain_added, owned_added}
use Rattle.vhdl_units.proofs.file.add_unit.Goals as goal

pub plain_unit-requires-clause-named : goal.plain_unit-requires-clause-named
plain_unit-requires-clause-named c =
    (plain_offsets c.args.text.now c.args.tokens.now c.args.at c.in-Plain.kind c.in-Plain.last (subst (IsStanding (roles_of c.args.text.now c.args.tokens.now) c.args.at) c.in-Plain.is c.requires.standing)).0

pub plain_unit-requires-clause-within : goal.plain_unit-requires-clause-within
plain_unit-requires-clause-within c =
    (plain_offsets c.args.text.now c.args.tokens.now c.args.at c.in-Plain.kind c.in-Plain.last (subst (IsStanding (roles_of c.args.text.now c.args.tokens.now) c.args.at) c.in-Plain.is c.requires.standing)).1

pub owned_unit-requires-clause-named : goal.owned_unit-requires-clause-named
owned_unit-requires-clause-named c =
    (owned_offsets c.args.text.now c.args.tokens.now c.args.at c.in-Owned.kind c.in-Owned.before c.in-Owned.last (subst (IsStanding (roles_of c.args.text.now c.args.tokens.now) c.args.at) c.in-Owned.is c.requires.standing)).0

pub owned_unit-requires-clause-within : goal.owned_unit-requires-clause-within
owned_unit-requires-clause-within c =
    (owned_offsets c.args.text.now c.args.tokens.now c.args.at c.in-Owned.kind c.in-Owned.before c.in-Owned.last (subst (IsStanding (roles_of c.args.text.now c.args.tokens.now) c.args.at) c.in-Owned.is c.requires.standing)).1

pub returns-in-Item : goal.returns-in-Item
returns-in-Item c =
    item_added c.args.text.now c.args.tokens.now c.args.lead c.args.at c.args.units.now.items c.args.units.now.items c.in-Item.last (subst (IsStanding (roles_of c.args.text.now c.args.tokens.now) c.args.at) c.in-Item.is c.requires.standing) refl

pub returns-in_ok-push-in-Plain : goal.returns-in_ok-push-in-Plain
returns-in_ok-push-in-Plain c =
    plain_added c.args.text.now c.args.tokens.now c.args.lead c.args.at c.args.units.now.items c.push.new.self.items c.in-Plain.kind c.in-Plain.last c.in_ok-unit-in-Plain.unit (subst (IsStanding (roles_of c.args.text.now c.args.tokens.now) c.args.at) c.in-Plain.is c.requires.standing) c.in_ok-unit-in-Plain.ensures c.in_ok-push-in-Plain.ensures.items

pub returns-in_ok-push-in-Owned : goal.returns-in_ok-push-in-Owned
returns-in_ok-push-in-Owned c =
    owned_added c.args.text.now c.args.tokens.now c.args.lead c.args.at c.args.units.now.items c.push-in-Owned.new.self.items c.in-Owned.kind c.in-Owned.before c.in-Owned.last c.in_ok-unit-in-Owned.unit (subst (IsStanding (roles_of c.args.text.now c.args.tokens.now) c.args.at) c.in-Owned.is c.requires.standing) c.in_ok-unit-in-Owned.ensures c.in_ok-push-in-Owned.ensures.items
