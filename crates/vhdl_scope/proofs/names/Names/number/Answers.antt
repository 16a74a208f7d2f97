-- By what the invariant says of the map.
use Rattle.std.proofs.Common.{◌∙◌, ap}
use Rattle.std.specs.List.{position}
use Rattle.std.specs.Str.{bytes_eq}
use Rattle.vhdl_scope.specs.Names.{NameSet, keys_of}
use Rattle.vhdl_scope.proofs.names.Names.number.Goals as goal

pub returns-in-Some : goal.returns-in-Some
returns-in-Some c = c.in-Some.ensures.value ∙ (c.self.invariant c.args.name.now ∙ ap (λ (set : NameSet). position (bytes_eq c.args.name.now) (keys_of set)) c.self.view_is)

pub returns-in-None : goal.returns-in-None
returns-in-None c = c.in-None.ensures.value ∙ (c.self.invariant c.args.name.now ∙ ap (λ (set : NameSet). position (bytes_eq c.args.name.now) (keys_of set)) c.self.view_is)
