-- The value of one key is another, and those of the others are the same.
use Rattle.std.proofs.Common.{◌≡◌, ◌≢◌, ℕ, ◌<◌, ◌≤◌, List, [], ◌∷◌, ◌++◌, cond, length, set, Contains, Some, sym, ap, subst, ◌∙◌, arith}
use Rattle.std.specs.Prelude.{AllPairs, slice_get}
use Rattle.base_collections.specs.Maps.{Entries, get}
use Rattle.base_collections.proofs.Buckets.{new_last, once_before}
use Rattle.base_collections.proofs.Values.{added, updated}
use Rattle.base_collections.proofs.map.KeyMap.insert.Goals as goal

pub returns-then-number-len-clause-updates : goal.returns-then-number-len-clause-updates
returns-then-number-len-clause-updates g c = λ other.
    let keys : List g.row.K.Denot = c.self.inside.numbers in
    let values : List g.row.V.Denot = c.self.inside.values.items in
    let number : ℕ = c.in_ok-number.number in
    let long : length values ≡ length keys = c.self.invariant in
    let room : c.reserve.new.self.items ≡ values = c.in_ok-reserve.ensures.items in
    let low : number < length keys = omega (arith, c.if-number-len.true, c.len.ensures, ap length room, long) in
    let kept : c.add.new.self ≡ keys = c.in_ok-number.ensures.ok.kept low in
    let at : slice_get keys number ≡ Some c.args.key = ap (λ (ks : List g.row.K.Denot). slice_get ks number) (sym kept) ∙ c.in_ok-number.ensures.ok.numbered in
    let once : AllPairs (λ a b. a ≢ b) keys = subst (λ (ks : List g.row.K.Denot). AllPairs (λ a b. a ≢ b) ks) kept c.add.ensures.once in
    ap (λ (ks : List g.row.K.Denot). get g.K.PartialEq.eq (record { keys = ks; values = set c.reserve.new.self.items number c.args.value }) other) kept
    ∙ (ap (λ (vs : List g.row.V.Denot). get g.K.PartialEq.eq (record { keys = keys; values = set vs number c.args.value }) other) room
    ∙ (updated g.met.K.Key.decides keys values c.args.key c.args.value once long number at other
    ∙ ap (λ (e : Entries g.row.K.Denot g.row.V.Denot). cond (g.K.PartialEq.eq c.args.key other) (Some c.args.value) (get g.K.PartialEq.eq e other)) c.self.view_is))

pub returns-clause-updates : goal.returns-clause-updates
returns-clause-updates g c = λ other.
    let keys : List g.row.K.Denot = c.self.inside.numbers in
    let values : List g.row.V.Denot = c.self.inside.values.items in
    let key : g.row.K.Denot = c.args.key in
    let long : length values ≡ length keys = c.self.invariant in
    let room : c.reserve.new.self.items ≡ values = c.in_ok-reserve.ensures.items in
    let high : length keys ≤ c.in_ok-number.number = omega (arith, c.if-number-len.false, c.len.ensures, ap length room, long) in
    let grown : c.add.new.self ≡ keys ++ key ∷ [] = c.in_ok-number.ensures.ok.grown high in
    let new : ¬ Contains keys key = new_last keys key (subst (λ (ks : List g.row.K.Denot). AllPairs (λ a b. a ≢ b) ks) grown c.add.ensures.once) in
    let once : AllPairs (λ a b. a ≢ b) keys = once_before keys key (subst (λ (ks : List g.row.K.Denot). AllPairs (λ a b. a ≢ b) ks) grown c.add.ensures.once) in
    ap (λ (ks : List g.row.K.Denot). get g.K.PartialEq.eq (record { keys = ks; values = c.push_reserved.new.self.items }) other) grown
    ∙ (ap (λ (vs : List g.row.V.Denot). get g.K.PartialEq.eq (record { keys = keys ++ key ∷ []; values = vs }) other) (c.push_reserved.ensures.items ∙ ap (λ (vs : List g.row.V.Denot). vs ++ c.args.value ∷ []) room)
    ∙ (added g.met.K.Key.decides keys values key c.args.value once long new other
    ∙ ap (λ (e : Entries g.row.K.Denot g.row.V.Denot). cond (g.K.PartialEq.eq key other) (Some c.args.value) (get g.K.PartialEq.eq e other)) c.self.view_is))
