-- Whether there is a body hangs on the next delimiter and the token after it.
use Rattle.vhdl_units.proofs.Walks.{body_here, body_without_new, no_test, test_fails}
use Rattle.vhdl_units.proofs.class.has_body.Goals as goal

pub returns-then-is_role : goal.returns-then-is_role
returns-then-is_role c =
    let roles = c.args.roles.now in
    let means = c.is_role-then-is_role.ensures in (
      λ fails. body_here roles c.args.start c.args.at c.args.delimiter c.requires.delimiter (c.is_role.ensures.0 c.if-is_role.true) (no_test c.is_role-then-is_role.result _ means fails),
      λ body. test_fails c.is_role-then-is_role.result _ means (body_without_new roles c.args.start c.args.at c.args.delimiter c.requires.delimiter body),
    )
