-- What remains to be proved of `done`.
use Rattle.std.proofs.Common.{arith, refl, ap, ◌∙◌, ◌≡◌, ◌-◌, ℕ, List, [], get_or}
use Rattle.std.proofs.lemmas.List.{get_or_default}
use Rattle.order.specs.Counts.{times}
use Rattle.order.specs.Waits.{file_count, wait_count}
use Rattle.order.proofs.WaitSteps.{waits_done}
use Rattle.order.proofs.files.ReadyFiles.finish.Goals as goal

pub index-requires : goal.index-requires
unfolding file_count
index-requires c = omega (arith, c.requires, c.args.self.now.as_many_users)

pub returns-clause-files : goal.returns-clause-files
unfolding file_count
returns-clause-files c = refl

pub returns-clause-waits : goal.returns-clause-waits
unfolding file_count
returns-clause-waits c count deps waits old new is fresh grown =
    let users : c.as_slice.result.now ≡ get_or c.args.self.now.users.items c.args.file [] =
    c.as_slice.ensures ∙ c.index.ensures ∙ get_or_default c.args.self.now.users.items c.args.file _ [] (omega (arith, c.requires, c.args.self.now.as_many_users)) in
    waits_done c.args.self.now _ c.args.file c.requires refl
    (λ k. c.lower.ensures.lowered k ∙ ap (λ (xs : List ℕ). get_or c.args.self.now.missing.items k 0 - times k xs) users) refl count deps waits old new is fresh grown

pub returns-clause-as_many : goal.returns-clause-as_many
unfolding wait_count
returns-clause-as_many c = refl
