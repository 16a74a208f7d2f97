-- What remains to be proved of `new`.
use Rattle.std.proofs.Common.{arith, refl, ap, ◌∙◌, ◌≡◌, ℕ, List, get_or, replicate}
use Rattle.std.proofs.lemmas.List.{get_or-replicate}
use Rattle.order.specs.Waits.{file_count}
use Rattle.order.proofs.WaitSteps.{waits_new}
use Rattle.order.proofs.files.ReadyFiles.new.Goals as goal

pub returns-clause-files : goal.returns-clause-files
unfolding file_count
returns-clause-files c = refl

pub returns-clause-waits : goal.returns-clause-waits
returns-clause-waits c done =
    let zeros : c.in_ok-missing.missing.items ≡ replicate c.len-2.result 0 = c.in_ok-missing.ensures.items_if_clones_equal (λ y same. same) in
    waits_new _ c.args.waiting.items refl
    (λ k lt. ap (λ (xs : List ℕ). get_or xs k 0) zeros ∙ get_or-replicate c.len-2.result k 0 0 (omega (arith, lt, c.len-2.ensures))) c.in_ok-users.ensures.none done
