-- A key is found at its buckets or among the others, and else comes last.
use Rattle.std.proofs.Common.{◌≡◌, ℕ, ◌+◌, Bool, nat_eq, cond, List, [], ◌∷◌, ◌++◌, length, set, Some, sym, ap, subst, ◌∙◌, arith}
use Rattle.std.specs.Prelude.{◌≢◌, AllPairs, slice_get}
use Rattle.std.specs.Bool.{Decides}
use Rattle.std.specs.BTreeMap.{get as other_of}
use Rattle.std.specs.Ordering.{is_eq}
use Rattle.base_collections.specs.declared.table.Found.TheVariants.{At, Free, Nowhere}
use Rattle.base_collections.specs.OrderedKeys.{AreFlagged, AreTaken, IsFree, TakesNumber, first_of, hash_of, second_of, slot_at}
use Rattle.base_collections.proofs.OrderedAdding.{last_is, there}
use Rattle.base_collections.proofs.OrderedFinding.{looked_is, not_free, one_put}
use Rattle.base_collections.proofs.Buckets.{once_more}
use Rattle.base_collections.proofs.Slots.{flagged_in, put_at}
use Rattle.base_collections.proofs.Taking.{absent, kept_all, stands, taken}
use Rattle.base_collections.proofs.ordered_keys.KeyNumbers.take.Goals as goal

pub invariant_of-self-in-Free : goal.invariant_of-self-in-Free
invariant_of-self-in-Free g c =
    let key : g.row.K.Denot = c.args.key in
    let keys : List g.row.K.Denot = c.self.inside.keys.items in
    let slots : List ℕ = c.self.inside.slots.items in
    let number : c.len-number.result ≡ length keys = omega (arith, c.len-number.ensures) in
    let pushed : c.push_reserved.new.self.items ≡ keys ++ key ∷ [] = c.push_reserved.ensures.items ∙ ap (λ (ks : List g.row.K.Denot). ks ++ key ∷ []) c.in_ok-reserve-in-Free.ensures.items in
    let free : IsFree (slot_at slots) keys key (first_of (length slots) (hash_of (g.K.Hash.hash_input key))) (second_of (length slots) (hash_of (g.K.Hash.hash_input key))) (length slots) c.in-Free.bucket =
    looked_is c.as_slice.result.now slots c.as_slice-2.result.now keys key c.args.hash (hash_of (g.K.Hash.hash_input key)) (Free c.in-Free.bucket) c.as_slice.ensures.value c.as_slice-2.ensures.value c.requires c.in-Free.ensures in
    let bucket : ℕ = c.in-Free.bucket in
    let now : List ℕ = c.put.new.slots.items in
    subst (AreFlagged (λ k. first_of (length now) (hash_of (g.K.Hash.hash_input k))) (λ k. second_of (length now) (hash_of (g.K.Hash.hash_input k))) (length now) (slot_at now) (other_of g.K.Ord.cmp c.self.inside.others)) (sym pushed)
    (flagged_in (λ k. hash_of (g.K.Hash.hash_input k)) slots now bucket (c.len-number.result + 1) (other_of g.K.Ord.cmp c.self.inside.others) (keys ++ key ∷ []) c.put.ensures
    (one_put keys key c.self.invariant (not_free keys key c.self.invariant bucket free) bucket (slot_at (set slots bucket (c.len-number.result + 1))) free
    (λ at. put_at slots bucket c.len-number.result at free.within ∙ ap (λ (n : ℕ). cond (nat_eq bucket at) (Some n) (slot_at slots at)) number)))

pub returns-in_ok-reserve-in-Free-clause-ok : goal.returns-in_ok-reserve-in-Free-clause-ok
returns-in_ok-reserve-in-Free-clause-ok g c =
    let key : g.row.K.Denot = c.args.key in
    let keys : List g.row.K.Denot = c.self.inside.keys.items in
    let number : c.len-number.result ≡ length keys = omega (arith, c.len-number.ensures) in
    let pushed : c.push_reserved.new.self.items ≡ keys ++ key ∷ [] = c.push_reserved.ensures.items ∙ ap (λ (ks : List g.row.K.Denot). ks ++ key ∷ []) c.in_ok-reserve-in-Free.ensures.items in
    subst (λ (ks : List g.row.K.Denot). TakesNumber key c.len-number.result ks c.push_reserved.new.self.items) c.self.view_is
    (last_is keys c.push_reserved.new.self.items key c.len-number.result number pushed)

pub returns-in_ok-reserve-in-Free-clause-once : goal.returns-in_ok-reserve-in-Free-clause-once
returns-in_ok-reserve-in-Free-clause-once g c =
    let key : g.row.K.Denot = c.args.key in
    let keys : List g.row.K.Denot = c.self.inside.keys.items in
    let slots : List ℕ = c.self.inside.slots.items in
    let pushed : c.push_reserved.new.self.items ≡ keys ++ key ∷ [] = c.push_reserved.ensures.items ∙ ap (λ (ks : List g.row.K.Denot). ks ++ key ∷ []) c.in_ok-reserve-in-Free.ensures.items in
    let free : IsFree (slot_at slots) keys key (first_of (length slots) (hash_of (g.K.Hash.hash_input key))) (second_of (length slots) (hash_of (g.K.Hash.hash_input key))) (length slots) c.in-Free.bucket =
    looked_is c.as_slice.result.now slots c.as_slice-2.result.now keys key c.args.hash (hash_of (g.K.Hash.hash_input key)) (Free c.in-Free.bucket) c.as_slice.ensures.value c.as_slice-2.ensures.value c.requires c.in-Free.ensures in
    subst (λ (ks : List g.row.K.Denot). AllPairs (λ a b. a ≢ b) ks) (sym pushed)
    (once_more keys key c.self.invariant.once (not_free keys key c.self.invariant c.in-Free.bucket free))

pub returns-in-At-clause-ok : goal.returns-in-At-clause-ok
returns-in-At-clause-ok g c =
    let key : g.row.K.Denot = c.args.key in
    let keys : List g.row.K.Denot = c.self.inside.keys.items in
    let at : slice_get keys c.in-At.found ≡ Some key = looked_is c.as_slice.result.now c.self.inside.slots.items c.as_slice-2.result.now keys key c.args.hash (hash_of (g.K.Hash.hash_input key)) (At c.in-At.found) c.as_slice.ensures.value c.as_slice-2.ensures.value c.requires c.in-At.ensures in
    subst (λ (ks : List g.row.K.Denot). TakesNumber key c.in-At.found ks ks) c.self.view_is (there keys key c.in-At.found at)

pub invariant_of-self-then-found-number : goal.invariant_of-self-then-found-number
invariant_of-self-then-found-number g c =
    let key : g.row.K.Denot = c.args.key in
    let keys : List g.row.K.Denot = c.self.inside.keys.items in
    let slots : List ℕ = c.self.inside.slots.items in
    let number : c.len-number.result ≡ length keys = omega (arith, c.len-number.ensures) in
    let pushed : c.push_reserved-then-found-number.new.self.items ≡ keys ++ key ∷ [] = c.push_reserved-then-found-number.ensures.items ∙ ap (λ (ks : List g.row.K.Denot). ks ++ key ∷ []) c.in_ok-reserve-in-Nowhere.ensures.items in
    let decides : (a b : g.row.K.Denot) → Decides (is_eq (g.K.Ord.cmp a b)) (a ≡ b) = λ a b. subst (λ (t : Bool). Decides t (a ≡ b)) (g.met.K.Ord.matches_eq a b) (g.met.K.Key.decides a b) in
    let taken_buckets : AreTaken (slot_at slots) keys key (first_of (length slots) (hash_of (g.K.Hash.hash_input key))) (second_of (length slots) (hash_of (g.K.Hash.hash_input key))) (length slots) =
    looked_is c.as_slice.result.now slots c.as_slice-2.result.now keys key c.args.hash (hash_of (g.K.Hash.hash_input key)) Nowhere c.as_slice.ensures.value c.as_slice-2.ensures.value c.requires c.in-Nowhere.ensures in
    subst (AreFlagged (λ k. first_of (length slots) (hash_of (g.K.Hash.hash_input k))) (λ k. second_of (length slots) (hash_of (g.K.Hash.hash_input k))) (length slots) (slot_at slots) (other_of g.K.Ord.cmp c.take_other.new.others)) (sym pushed)
    (taken keys key c.in_ok-copy-in-Nowhere.copy c.len-number.result c.in_ok-found-in-Nowhere.found (λ a b. is_eq (g.K.Ord.cmp a b)) decides c.self.invariant c.in_ok-copy-in-Nowhere.ensures number c.in_ok-found-in-Nowhere.ensures.found c.in_ok-found-in-Nowhere.ensures.others taken_buckets c.if-found-number.true)

pub returns-then-found-number-clause-ok : goal.returns-then-found-number-clause-ok
returns-then-found-number-clause-ok g c =
    let key : g.row.K.Denot = c.args.key in
    let keys : List g.row.K.Denot = c.self.inside.keys.items in
    let number : c.len-number.result ≡ length keys = omega (arith, c.len-number.ensures) in
    let pushed : c.push_reserved-then-found-number.new.self.items ≡ keys ++ key ∷ [] = c.push_reserved-then-found-number.ensures.items ∙ ap (λ (ks : List g.row.K.Denot). ks ++ key ∷ []) c.in_ok-reserve-in-Nowhere.ensures.items in
    subst (λ (ks : List g.row.K.Denot). TakesNumber key c.len-number.result ks c.push_reserved-then-found-number.new.self.items) c.self.view_is
    (last_is keys c.push_reserved-then-found-number.new.self.items key c.len-number.result number pushed)

pub returns-then-found-number-clause-once : goal.returns-then-found-number-clause-once
returns-then-found-number-clause-once g c =
    let key : g.row.K.Denot = c.args.key in
    let keys : List g.row.K.Denot = c.self.inside.keys.items in
    let slots : List ℕ = c.self.inside.slots.items in
    let number : c.len-number.result ≡ length keys = omega (arith, c.len-number.ensures) in
    let pushed : c.push_reserved-then-found-number.new.self.items ≡ keys ++ key ∷ [] = c.push_reserved-then-found-number.ensures.items ∙ ap (λ (ks : List g.row.K.Denot). ks ++ key ∷ []) c.in_ok-reserve-in-Nowhere.ensures.items in
    let decides : (a b : g.row.K.Denot) → Decides (is_eq (g.K.Ord.cmp a b)) (a ≡ b) = λ a b. subst (λ (t : Bool). Decides t (a ≡ b)) (g.met.K.Ord.matches_eq a b) (g.met.K.Key.decides a b) in
    let taken_buckets : AreTaken (slot_at slots) keys key (first_of (length slots) (hash_of (g.K.Hash.hash_input key))) (second_of (length slots) (hash_of (g.K.Hash.hash_input key))) (length slots) =
    looked_is c.as_slice.result.now slots c.as_slice-2.result.now keys key c.args.hash (hash_of (g.K.Hash.hash_input key)) Nowhere c.as_slice.ensures.value c.as_slice-2.ensures.value c.requires c.in-Nowhere.ensures in
    subst (λ (ks : List g.row.K.Denot). AllPairs (λ a b. a ≢ b) ks) (sym pushed)
    (once_more keys key c.self.invariant.once
    (absent keys key c.in_ok-copy-in-Nowhere.copy c.len-number.result c.in_ok-found-in-Nowhere.found (λ a b. is_eq (g.K.Ord.cmp a b)) decides c.self.invariant c.in_ok-copy-in-Nowhere.ensures number c.in_ok-found-in-Nowhere.ensures.found c.in_ok-found-in-Nowhere.ensures.others taken_buckets c.if-found-number.true))

pub invariant_of-self-else-found-number : goal.invariant_of-self-else-found-number
invariant_of-self-else-found-number g c =
    let key : g.row.K.Denot = c.args.key in
    let keys : List g.row.K.Denot = c.self.inside.keys.items in
    let slots : List ℕ = c.self.inside.slots.items in
    let number : c.len-number.result ≡ length keys = omega (arith, c.len-number.ensures) in
    let decides : (a b : g.row.K.Denot) → Decides (is_eq (g.K.Ord.cmp a b)) (a ≡ b) = λ a b. subst (λ (t : Bool). Decides t (a ≡ b)) (g.met.K.Ord.matches_eq a b) (g.met.K.Key.decides a b) in
    subst (AreFlagged (λ k. first_of (length slots) (hash_of (g.K.Hash.hash_input k))) (λ k. second_of (length slots) (hash_of (g.K.Hash.hash_input k))) (length slots) (slot_at slots) (other_of g.K.Ord.cmp c.take_other.new.others)) (sym c.in_ok-reserve-in-Nowhere.ensures.items)
    (kept_all keys key c.in_ok-copy-in-Nowhere.copy c.len-number.result c.in_ok-found-in-Nowhere.found (λ a b. is_eq (g.K.Ord.cmp a b)) decides c.self.invariant c.in_ok-copy-in-Nowhere.ensures number c.in_ok-found-in-Nowhere.ensures.found c.in_ok-found-in-Nowhere.ensures.others c.if-found-number.false)

pub returns-else-found-number-clause-ok : goal.returns-else-found-number-clause-ok
returns-else-found-number-clause-ok g c =
    let key : g.row.K.Denot = c.args.key in
    let keys : List g.row.K.Denot = c.self.inside.keys.items in
    let number : c.len-number.result ≡ length keys = omega (arith, c.len-number.ensures) in
    let decides : (a b : g.row.K.Denot) → Decides (is_eq (g.K.Ord.cmp a b)) (a ≡ b) = λ a b. subst (λ (t : Bool). Decides t (a ≡ b)) (g.met.K.Ord.matches_eq a b) (g.met.K.Key.decides a b) in
    let at : slice_get keys c.in_ok-found-in-Nowhere.found ≡ Some key = stands {now = other_of g.K.Ord.cmp c.take_other.new.others} keys key c.in_ok-copy-in-Nowhere.copy c.len-number.result c.in_ok-found-in-Nowhere.found (λ a b. is_eq (g.K.Ord.cmp a b)) decides c.self.invariant c.in_ok-copy-in-Nowhere.ensures number c.in_ok-found-in-Nowhere.ensures.found c.in_ok-found-in-Nowhere.ensures.others c.if-found-number.false in
    subst (λ (ks : List g.row.K.Denot). TakesNumber key c.in_ok-found-in-Nowhere.found ks c.reserve-in-Nowhere.new.self.items) c.self.view_is
    (subst (TakesNumber key c.in_ok-found-in-Nowhere.found keys) (sym c.in_ok-reserve-in-Nowhere.ensures.items) (there keys key c.in_ok-found-in-Nowhere.found at))
