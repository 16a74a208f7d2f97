-- The index is that of a reference.
use Rattle.std.proofs.Common.{List, refl, sym, subst}
use Rattle.std.specs.List.{All}
use Rattle.std.proofs.lemmas.List.Elements.{All-push}
use Rattle.vhdl_outline.specs.declared.indices.RefIndex.{RefIndex}
use Rattle.vhdl_outline.specs.Indices.{IsRefIndex}
use Rattle.vhdl_outline.proofs.context.push_context_index.Goals as goal

pub returns-in_ok-push-clause-after : goal.returns-in_ok-push-clause-after
returns-in_ok-push-clause-after c =
    let token_index : RefIndex = record { at = c.args.at; strict = c.is_strict-strict.result } in
    subst (λ (found : List RefIndex). All (IsRefIndex c.args.roles.now) found) (sym c.in_ok-push.ensures.items)
    (All-push (IsRefIndex c.args.roles.now) c.args.found.now.items token_index c.requires.before (record { within = c.if-is_context_ref.ensures.within refl; strict = c.is_strict-strict.ensures }))
