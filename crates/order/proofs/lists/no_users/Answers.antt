-- What remains to be proved of `no_users`.
use Rattle.std.proofs.Common.{arith, ap, ◌≡◌, ◌∙◌, ◌++◌, [], ◌∷◌, List, ℕ, length, get_or}
use Rattle.std.proofs.lemmas.List.{length-append}
use Rattle.order.specs.Counts.{times}
use Rattle.order.proofs.Times.{none_pushed, times_none}
use Rattle.order.proofs.lists.no_users.Goals as goal

pub loop-file-init : goal.loop-file-init
loop-file-init c = record {
  count = ap (λ (users : List (List ℕ)). length users) c.new-users.ensures.items;
  none = λ dep at. ap (λ (users : List (List ℕ)). times at (get_or users dep [])) c.new-users.ensures.items ∙ times_none at;
}

pub loop-file-preserved : goal.loop-file-preserved
loop-file-preserved c =
    let items : c.push.new.self.items ≡ c.loop-file.users.items ++ [] ∷ [] = c.in_ok-push.ensures.items ∙ ap (λ (list : List ℕ). c.loop-file.users.items ++ list ∷ []) c.new.ensures in
    record {
      count = omega (arith, ap (λ (users : List (List ℕ)). length users) items, length-append c.loop-file.users.items ([] ∷ []), c.loop-file.invariant.count);
      none = λ dep at.
          ap (λ (users : List (List ℕ)). times at (get_or users dep [])) items ∙ none_pushed at c.loop-file.users.items (λ d. c.loop-file.invariant.none d at) dep;
    }
