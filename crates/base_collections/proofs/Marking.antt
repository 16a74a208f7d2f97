-- One more fingerprint: which numbers have a fingerprint then.
use Rattle.std.proofs.Common.{◌≡◌, ◌≢◌, ℕ, ◌+◌, ◌≤◌, true, false, cond, nat_eq, List, [], ◌∷◌, ◌++◌, length, get_or, None, Some, Option, refl, sym, ap, subst, ◌∙◌, arith, inl, inr, length-append}
use Rattle.std.proofs.lemmas.Bool.{cases_lt}
use Rattle.std.proofs.lemmas.List.{get_or_append_left, get_or_at, length-map, map-append}
use Rattle.base_collections.specs.declared.fingerprint_index.Fingerprinted.{Fingerprinted}
use Rattle.base_collections.specs.Indexes.{AreIndexed, IsLastWith, fingerprints_in}

-- more fingerprints change no answer below a bound that is there
grown : (fingerprints more : List ℕ) (fingerprint bound : ℕ) (last : Option ℕ) → bound ≤ length fingerprints → IsLastWith fingerprints fingerprint bound last → IsLastWith (fingerprints ++ more) fingerprint bound last
grown fingerprints more fingerprint bound None within is = λ k l. rw (get_or_append_left fingerprints more 0 k (omega arith)) (is k l)
grown fingerprints more fingerprint bound (Some n) within is = (is.0, rw (get_or_append_left fingerprints more 0 n (omega (arith, is.0))) is.1, λ k l m. rw (get_or_append_left fingerprints more 0 k (omega arith)) (is.2 k l m))

-- nor does a number of another fingerprint
further : (fingerprints : List ℕ) (fingerprint bound : ℕ) (last : Option ℕ) → get_or fingerprints bound 0 ≢ fingerprint → IsLastWith fingerprints fingerprint bound last → IsLastWith fingerprints fingerprint (bound + 1) last
further fingerprints fingerprint bound None other is = λ k l. elim (cases_lt k bound) [ inl a ↦ is k a | inr a ↦ let e : bound ≡ k = omega arith in subst (λ (j : ℕ). get_or fingerprints j 0 ≢ fingerprint) e other ]
further fingerprints fingerprint bound (Some n) other is = (omega (arith, is.0), is.1, λ k l m. elim (cases_lt k bound) [ inl a ↦ is.2 k l a | inr a ↦ let e : bound ≡ k = omega arith in subst (λ (j : ℕ). get_or fingerprints j 0 ≢ fingerprint) e other ])

fingerprints_push : (entries : List Fingerprinted) (entry : Fingerprinted) → fingerprints_in (entries ++ entry ∷ []) ≡ fingerprints_in entries ++ entry.fingerprint ∷ []
fingerprints_push entries entry = map-append (λ (e : Fingerprinted). e.fingerprint) entries (entry ∷ [])

pub indexed : (last_of now : ℕ → Option ℕ) (entries : List Fingerprinted) (fingerprint : ℕ) (earlier : Option ℕ) → AreIndexed last_of entries → IsLastWith (fingerprints_in entries) fingerprint (length (fingerprints_in entries)) earlier → ((m : ℕ) → now m ≡ cond (nat_eq fingerprint m) (Some (length entries)) (last_of m)) → AreIndexed now (entries ++ record { fingerprint = fingerprint; earlier = earlier } ∷ [])
indexed last_of now entries fingerprint earlier are found after =
    let fingerprints : List ℕ = fingerprints_in entries in
    let entry : Fingerprinted = record { fingerprint = fingerprint; earlier = earlier } in
    let count : length fingerprints ≡ length entries = length-map entries (λ (e : Fingerprinted). e.fingerprint) in
    let all : fingerprints_in (entries ++ entry ∷ []) ≡ fingerprints ++ fingerprint ∷ [] = fingerprints_push entries entry in
    let size : length (fingerprints ++ fingerprint ∷ []) ≡ length fingerprints + 1 = length-append fingerprints (fingerprint ∷ []) in
    let end : get_or (fingerprints ++ fingerprint ∷ []) (length fingerprints) 0 ≡ fingerprint = get_or_at fingerprints fingerprint [] 0 (length fingerprints) refl in
    record {
      last = λ m.
          rw (all, size, after m)
          (elim (nat_eq fingerprint m) as (λ b. nat_eq fingerprint m ≡ b → IsLastWith (fingerprints ++ fingerprint ∷ []) m (length fingerprints + 1) (cond b (Some (length entries)) (last_of m))) [
            | true ↦ λ e.
                let same : fingerprint ≡ m = grind (arith, e) in
                (omega (arith, count), ap (λ (n : ℕ). get_or (fingerprints ++ fingerprint ∷ []) n 0) (sym count) ∙ end ∙ same, λ k l o. absurd (omega (arith, count)))
            | false ↦ λ e.
                let other : fingerprint ≢ m = λ s. grind (arith, e, s) in
                further (fingerprints ++ fingerprint ∷ []) m (length fingerprints) (last_of m) (λ s. other (sym end ∙ s)) (grown fingerprints (fingerprint ∷ []) m (length fingerprints) (last_of m) (omega arith) (are.last m))
          ] refl);
      earlier = λ n other l.
          rw all
          (elim (cases_lt n (length fingerprints)) [
            | inl a ↦
                rw (get_or_append_left fingerprints (fingerprint ∷ []) 0 n a, get_or_append_left entries (entry ∷ []) other n (omega (arith, count)))
                (grown fingerprints (fingerprint ∷ []) (get_or fingerprints n 0) n (get_or entries n other).earlier (omega arith) (are.earlier n other a))
            | inr a ↦
                let at : length entries ≡ n = omega (arith, count, size, ap length all, l) in
                let at_fingerprints : length fingerprints ≡ n = omega (arith, count, at) in
                rw (get_or_at entries entry [] other n at, get_or_at fingerprints fingerprint [] 0 n at_fingerprints)
                (subst (λ (b : ℕ). IsLastWith (fingerprints ++ fingerprint ∷ []) fingerprint b earlier) at_fingerprints (grown fingerprints (fingerprint ∷ []) fingerprint (length fingerprints) earlier (omega arith) found))
          ]);
    }
