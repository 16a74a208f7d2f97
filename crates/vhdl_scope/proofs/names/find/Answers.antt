-- What is found by a key is found among the names.
use Rattle.std.proofs.Common.{◌<◌, ◌≡◌, List, ℕ, Contains, length, sym, subst}
use Rattle.std.specs.Str.{bytes_eq}
use Rattle.vhdl_scope.specs.Names.{keys_of, number_of}
use Rattle.std.specs.Option.{IfNone, IfSome}
use Rattle.vhdl_scope.proofs.KeyLemmas.{found_key, missed_key}
use Rattle.vhdl_scope.proofs.NameLemmas.{same_bytes, told_same}
use Rattle.vhdl_scope.proofs.names.find.Goals as goal

pub returns-then-len-le-FEW-clause-found : goal.returns-then-len-le-FEW-clause-found
returns-then-len-le-FEW-clause-found c = subst (λ (names : List (List ℕ)). IfSome c.find_among.result (λ number. (number ≡ number_of names c.args.name.now) × (number < length names))) c.keys.ensures c.find_among.ensures.found

pub returns-then-len-le-FEW-clause-none : goal.returns-then-len-le-FEW-clause-none
returns-then-len-le-FEW-clause-none c = subst (λ (names : List (List ℕ)). IfNone c.find_among.result (Contains names c.args.name.now → ⊥)) c.keys.ensures c.find_among.ensures.none

pub returns-else-len-le-FEW-clause-found : goal.returns-else-len-le-FEW-clause-found
returns-else-len-le-FEW-clause-found c = found_key bytes_eq same_bytes told_same (keys_of c.args.names.now) c.args.name.now c.number.result c.number.ensures

pub returns-else-len-le-FEW-clause-none : goal.returns-else-len-le-FEW-clause-none
returns-else-len-le-FEW-clause-none c = missed_key bytes_eq same_bytes told_same (keys_of c.args.names.now) c.args.name.now c.number.result c.number.ensures
