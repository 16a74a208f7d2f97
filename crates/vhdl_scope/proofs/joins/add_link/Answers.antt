-- The link is added.
use Rattle.std.proofs.Common.{◌∙◌, ap}
use Rattle.vhdl_scope.specs.Names.{keys_of, number_of}
use Rattle.vhdl_scope.proofs.JoinLemmas.{linked_one}
use Rattle.vhdl_scope.proofs.joins.add_link.Goals as goal

pub returns : goal.returns
returns c =
    rw c.in_ok-push.ensures
    (linked_one (keys_of c.args.names.now) c.args.groups.now c.args.row_indices c.args.want.now c.args.links.now c.in-Some.library_number c.in-Some-find.group
    (c.in-Some.ensures.found.0 ∙ ap (number_of (keys_of c.args.names.now)) c.needed_library.ensures) (c.in-Some.ensures.found.1) (c.in-Some-find.ensures.found.0) (c.in-Some-find.ensures.found.1))
