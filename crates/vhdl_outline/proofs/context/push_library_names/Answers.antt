-- One token more.
use Rattle.std.proofs.Common.{◌≡◌, ◌++◌, ◌∷◌, [], List, cond, ◌∙◌, ap}
use Rattle.base.specs.declared.design.Role.{Role}
use Rattle.vhdl_spec.specs.Units.{name_of, roles_of}
use Rattle.vhdl_spec.specs.References.{is_library_name}
use Rattle.vhdl_spec.proofs.Walks.{walk_more}
use Rattle.vhdl_outline.proofs.context.push_library_names.Goals as goal

pub loop-at-preserved : goal.loop-at-preserved
loop-at-preserved c =
    let text = c.args.text.now in
    let tokens = c.args.tokens.now.list in
    let adds : c.push_library_name.new.names.items ≡ c.loop-at.names.items ++ cond (is_library_name (roles_of text tokens) c.args.first c.loop-at.at) (name_of text tokens c.loop-at.at ∷ []) [] =
    c.in_ok-push_library_name.ensures ∙ ap (λ (roles : List Role). c.loop-at.names.items ++ cond (is_library_name roles c.args.first c.loop-at.at) (name_of text tokens c.loop-at.at ∷ []) []) c.requires.roles in
    record {
      clause = c.clause_after-clause.ensures;
      found = walk_more (name_of text tokens) (is_library_name (roles_of text tokens) c.args.first) c.args.clause.start c.loop-at.at c.args.names.now.items c.loop-at.names.items c.push_library_name.new.names.items c.loop-at.auto.at c.loop-at.invariant.found adds;
    }
