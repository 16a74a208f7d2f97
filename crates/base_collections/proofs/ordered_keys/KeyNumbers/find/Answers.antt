-- By what the invariant says of buckets and of the others.
use Rattle.std.proofs.Common.{List, Contains, subst}
use Rattle.base_collections.specs.declared.table.Found.TheVariants.{Free, Nowhere}
use Rattle.base_collections.specs.OrderedKeys.{IsKeyAt, hash_of}
use Rattle.base_collections.proofs.OrderedFinding.{looked_is, not_free, other_bucket}
use Rattle.base_collections.proofs.ordered_keys.KeyNumbers.find.Goals as goal

pub returns-in-Free-clause-bucket : goal.returns-in-Free-clause-bucket
returns-in-Free-clause-bucket g c =
    let key : g.row.K.Denot = c.args.key.now in
    let keys : List g.row.K.Denot = c.self.inside.keys.items in
    subst (λ (ks : List g.row.K.Denot). ¬ Contains ks key) c.self.view_is
    (not_free keys key c.self.invariant c.in-Free._bucket
    (looked_is c.as_slice.result.now c.self.inside.slots.items c.as_slice-2.result.now keys key c.args.hash (hash_of (g.K.Hash.hash_input key)) (Free c.in-Free._bucket) c.as_slice.ensures.value c.as_slice-2.ensures.value c.requires c.in-Free.ensures))

pub returns-in-Nowhere-clause-bucket : goal.returns-in-Nowhere-clause-bucket
returns-in-Nowhere-clause-bucket g c =
    let key : g.row.K.Denot = c.args.key.now in
    let keys : List g.row.K.Denot = c.self.inside.keys.items in
    subst (λ (ks : List g.row.K.Denot). IsKeyAt ks key c.other_number.result) c.self.view_is
    (other_bucket keys key c.self.invariant
    (looked_is c.as_slice.result.now c.self.inside.slots.items c.as_slice-2.result.now keys key c.args.hash (hash_of (g.K.Hash.hash_input key)) Nowhere c.as_slice.ensures.value c.as_slice-2.ensures.value c.requires c.in-Nowhere.ensures)
    c.other_number.result c.other_number.ensures)
