-- The name goes last, or is there.
use Rattle.std.proofs.Common.{List, ℕ, ◌∷◌, [], sym, subst}
use Rattle.vhdl_scope.specs.Names.{HasAll, keys_of}
use Rattle.vhdl_scope.proofs.KeyLemmas.{missed_key}
use Rattle.vhdl_scope.proofs.NameLemmas.{known_already, put_last}
use Rattle.vhdl_scope.proofs.names.add.Goals as goal

pub returns-in_ok-put-in-None : goal.returns-in_ok-put-in-None
returns-in_ok-put-in-None c =
    subst (HasAll (c.args.name.now ∷ []) (keys_of c.args.names.now)) (sym c.in_ok-put-in-None.ensures)
    (put_last (keys_of c.args.names.now) c.args.name.now)

pub returns-in-Some : goal.returns-in-Some
returns-in-Some c = known_already (keys_of c.args.names.now) c.args.name.now c.in-Some._number (c.in-Some.ensures.found.0) (c.in-Some.ensures.found.1)
