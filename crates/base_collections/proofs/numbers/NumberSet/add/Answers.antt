use Rattle.std.proofs.Common.{◌≡◌, ◌<◌, ℕ, false, List, ◌∷◌, [], ◌++◌, length, set, is_some, sym, subst, ◌∙◌, arith}
use Rattle.base_collections.specs.Numbers.{AreFound, IsIndexOf, NumbersBelow}
use Rattle.base_collections.proofs.NumberedAdding.{absent, added}
use Rattle.base_collections.proofs.numbers.NumberSet.add.Goals as goal

pub invariant_of-self-2 : goal.invariant_of-self-2
invariant_of-self-2 c =
    let indices : List ℕ = c.self.inside.indices.items in
    let numbers : List ℕ = c.self.inside.numbers.items in
    let number : ℕ = c.args.number in
    let is : IsIndexOf numbers number c.index_of.result = subst (λ (s : NumbersBelow). IsIndexOf s.numbers number c.index_of.result) (sym c.self.view_is) c.index_of.ensures in
    let none : is_some c.index_of.result ≡ false = sym c.is_some.ensures ∙ c.if-is_some.false in
    let low : number < length indices = subst (λ (s : NumbersBelow). number < s.size) (sym c.self.view_is) c.requires in
    let end : length numbers ≡ c.len-item_index.result = omega (arith, c.len-item_index.ensures) in
    let with_index : AreFound (set indices number c.len-item_index.result) (numbers ++ number ∷ []) =
    subst (λ (n : ℕ). AreFound (set indices number n) (numbers ++ number ∷ [])) end (added indices numbers number c.self.invariant low (absent numbers number c.index_of.result is none)) in
    subst (AreFound (set indices number c.len-item_index.result)) (sym c.in_ok-push.ensures.items) with_index
