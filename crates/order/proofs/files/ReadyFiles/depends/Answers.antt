-- What remains to be proved of `depends`.
use Rattle.std.proofs.Common.{arith, refl, ap, Bool, List, length}
use Rattle.order.specs.Waits.{file_count}
use Rattle.order.proofs.WaitSteps.{waits_depends}
use Rattle.order.proofs.files.ReadyFiles.depends.Goals as goal

pub add_users-requires : goal.add_users-requires
unfolding file_count
add_users-requires c = λ k d lt. omega (arith, c.requires.deps k d lt, c.args.self.now.as_many_users)

pub returns-in_err-add_users-clause-files : goal.returns-in_err-add_users-clause-files
unfolding file_count
returns-in_err-add_users-clause-files c = refl

pub set_missing-requires-clause-at : goal.set_missing-requires-clause-at
unfolding file_count
set_missing-requires-clause-at c = omega (arith, c.requires.file, ap (λ (xs : List Bool). length xs) c.as_slice.ensures.value)

pub returns-clause-files : goal.returns-clause-files
unfolding file_count
returns-clause-files c = refl

pub returns-clause-waits : goal.returns-clause-waits
unfolding file_count
returns-clause-waits c = waits_depends c.args.self.now _ c.args.file c.args.missing c.args.deps.now c.requires.file c.args.self.now.as_many_missing refl c.set_missing.ensures.missing c.in_ok-add_users.ensures.added
