-- What remains to be proved of `add`.
use Rattle.std.proofs.Common.{◌∙◌, ◌++◌, ◌∷◌, [], List, not, map, ap}
use Rattle.base.specs.declared.file.FileName.{FileName}
use Rattle.base_collections.specs.NameKeys.{name_of_key}
use Rattle.base_collections.proofs.Inserting.{finds, puts}
use Rattle.base_collections.proofs.names.NameSet.add.Goals as goal
use Rattle.base.specs.Names.{has_name}

pub returns-clause-is_new : goal.returns-clause-is_new
returns-clause-is_new c =
    let key = c.in_ok-key.key in
    c.in_ok-insert.ensures.added
    ∙ ap not (finds key c.self.inside.set.keys
    ∙ ap (λ (names : List FileName). has_name names (name_of_key key)) c.self.view_is
    ∙ ap (has_name c.args.self.now) c.in_ok-key.ensures)

pub returns-clause-ok : goal.returns-clause-ok
returns-clause-ok c = λ name.
    let key = c.in_ok-key.key in
    ap (λ keys. has_name (map name_of_key keys) name) c.in_ok-insert.ensures.keys
    ∙ puts key name c.self.inside.set.keys
    ∙ ap (λ (names : List FileName). has_name (names ++ name_of_key key ∷ []) name) c.self.view_is
    ∙ ap (λ (n : FileName). has_name (c.args.self.now ++ n ∷ []) name) c.in_ok-key.ensures
