use Rattle.std.proofs.Common.{◌≡◌, ℕ, List, length, nat_eq, sym, subst, arith}
use Rattle.indexmap.specs.IndexMap.{get}
use Rattle.base_collections.specs.declared.fingerprint_index.Fingerprinted.{Fingerprinted}
use Rattle.base_collections.specs.Indexes.{AreIndexed, IsLastWith, FingerprintList, fingerprints_in}
use Rattle.base_collections.proofs.Marking.{indexed}
use Rattle.base_collections.proofs.fingerprint_index.FingerprintIndex.put.Goals as goal

pub invariant_of-self : goal.invariant_of-self
invariant_of-self c =
    let entries : List Fingerprinted = c.self.inside.entries.items in
    let fingerprint : ℕ = c.args.fingerprint in
    let found : IsLastWith (fingerprints_in entries) fingerprint (length (fingerprints_in entries)) c.last-earlier.result =
    subst (λ (s : FingerprintList). IsLastWith s.fingerprints fingerprint (length s.fingerprints) c.last-earlier.result) (sym c.self.view_is) c.last-earlier.ensures in
    let number : length entries ≡ c.len-number.result = omega (arith, c.len-number.ensures) in
    subst (AreIndexed (get nat_eq c.insert.new.self)) (sym c.push_reserved.ensures.items)
    (indexed (get nat_eq c.self.inside.last) (get nat_eq c.insert.new.self) entries fingerprint c.last-earlier.result c.self.invariant found
    (λ m. rw number (c.in-Ok.ensures.updates.0 m)))
