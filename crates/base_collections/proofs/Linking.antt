-- Links with one more split.
use Rattle.std.proofs.Common.{◌≡◌, ◌≢◌, ℕ, zero, suc, ◌<◌, ◌≤◌, List, [], ◌∷◌, ◌++◌, length, get_or, set, None, Some, Option, refl, sym, ap, subst, ◌∙◌, arith, inl, inr, length-append}
use Rattle.std.proofs.lemmas.Bool.{cases_eq, cases_lt}
use Rattle.std.proofs.lemmas.List.{get_or-set_other, get_or-set_same, get_or_append_left, get_or_at, length-set, nil_from_length}
use Rattle.base_collections.specs.Links.{AreChained, AreLinked, IsFirstFrom, IsLastAfter}

linked_one : (of : ℕ) → AreLinked (of ∷ []) (None ∷ []) (None ∷ []) (None ∷ [])
linked_one of = record {
  chained = record {
    firsts_are = refl;
    nexts_are = refl;
    before = λ k low l. absurd (omega arith);
    first = λ n l. by n l;
    next = λ k low l. absurd (omega arith);
  };
  lasts_are = refl;
  last = λ n l. by_last n l;
}
  where
    by : (n : ℕ) → n < 1 → IsFirstFrom (of ∷ []) n (suc n) (get_or (None ∷ []) n None)
    by zero l = λ k low high. absurd (omega arith)
    by (suc n) l = absurd (omega arith)

    by_last : (n : ℕ) → n < 1 → IsLastAfter (of ∷ []) n (get_or (None ∷ []) n None)
    by_last zero l = λ k low high. absurd (omega arith)
    by_last (suc n) l = absurd (omega arith)

-- the links of the first text, where there were none
pub linked_none : (ofs : List ℕ) (firsts nexts lasts : List (Option ℕ)) (of : ℕ) → length ofs ≡ 0 → AreLinked ofs firsts nexts lasts → AreLinked (ofs ++ of ∷ []) (firsts ++ None ∷ []) (nexts ++ None ∷ []) (lasts ++ None ∷ [])
linked_none ofs firsts nexts lasts of none are =
    let o : ofs ≡ [] = nil_from_length ofs none in
    let f : firsts ≡ [] = nil_from_length firsts (are.chained.firsts_are ∙ none) in
    let n : nexts ≡ [] = nil_from_length nexts (are.chained.nexts_are ∙ none) in
    let l : lasts ≡ [] = nil_from_length lasts (are.lasts_are ∙ none) in
    rw (o, f, n, l) (linked_one of)

module _ (ofs : List ℕ) (of : ℕ) where
  longer : length (ofs ++ of ∷ []) ≡ suc (length ofs)
  longer = omega (arith, length-append ofs (of ∷ []))

  old_at : (k : ℕ) → k < length ofs → get_or (ofs ++ of ∷ []) k 0 ≡ get_or ofs k 0
  old_at k l = get_or_append_left ofs (of ∷ []) 0 k l

  new_at : get_or (ofs ++ of ∷ []) (length ofs) 0 ≡ of
  new_at = get_or_at ofs of [] 0 (length ofs) refl

  -- a split that is there is the first one still
  kept_some : (n bound i : ℕ) → IsFirstFrom ofs n bound (Some i) → IsFirstFrom (ofs ++ of ∷ []) n bound (Some i)
  kept_some n bound i is = (
    is.0,
    (omega (arith, is.1.0, longer), (old_at i is.1.0 ∙ is.1.1.0, λ k low high e. is.1.1.1 k low high (sym (old_at k (omega (arith, high, is.1.0))) ∙ e))),
  )

  kept_first : (n bound : ℕ) (r : Option ℕ) → n ≢ of → IsFirstFrom ofs n bound r → IsFirstFrom (ofs ++ of ∷ []) n bound r
  kept_first n bound None other is = λ k low high e. elim (cases_lt k (length ofs)) [
    | inl a ↦ is k low a (sym (old_at k a) ∙ e)
    | inr a ↦ let at : k ≡ length ofs = omega (arith, high, longer) in other (sym e ∙ ap (λ (j : ℕ). get_or (ofs ++ of ∷ []) j 0) at ∙ new_at)
  ]
  kept_first n bound (Some i) other is = kept_some n bound i is

  -- where there is a split from the bound on
  kept_past : (n bound l : ℕ) (r : Option ℕ) → bound ≤ l → l < length ofs → get_or ofs l 0 ≡ n → IsFirstFrom ofs n bound r → IsFirstFrom (ofs ++ of ∷ []) n bound r
  kept_past n bound l None low high here is = absurd (is l low high here)
  kept_past n bound l (Some i) low high here is = kept_some n bound i is

  -- if no earlier element from `bound` on equals the appended one, the appended one is the first
  now_first : (bound : ℕ) → bound ≤ length ofs → ((k : ℕ) → bound ≤ k → k < length ofs → get_or ofs k 0 ≢ of) → IsFirstFrom (ofs ++ of ∷ []) of bound (Some (length ofs))
  now_first bound low none = (low, (omega (arith, longer), (new_at, λ k above high e. none k above high (sym (old_at k high) ∙ e))))

  past_end : (n : ℕ) → IsFirstFrom (ofs ++ of ∷ []) n (suc (length ofs)) None
  past_end n = λ k low high e. absurd (omega (arith, longer))

  kept_last : (n : ℕ) (r : Option ℕ) → n ≢ of → IsLastAfter ofs n r → IsLastAfter (ofs ++ of ∷ []) n r
  kept_last n None other is = λ k low high e. elim (cases_lt k (length ofs)) [
    | inl a ↦ is k low a (sym (old_at k a) ∙ e)
    | inr a ↦ let at : k ≡ length ofs = omega (arith, high, longer) in other (sym e ∙ ap (λ (j : ℕ). get_or (ofs ++ of ∷ []) j 0) at ∙ new_at)
  ]
  kept_last n (Some i) other is = (
    is.0,
    (
      omega (arith, is.1.0, longer),
      (
        old_at i is.1.0 ∙ is.1.1.0,
        λ k low high e. elim (cases_lt k (length ofs)) [
          | inl a ↦ is.1.1.1 k low a (sym (old_at k a) ∙ e)
          | inr a ↦ let at : k ≡ length ofs = omega (arith, high, longer) in other (sym e ∙ ap (λ (j : ℕ). get_or (ofs ++ of ∷ []) j 0) at ∙ new_at)
        ],
      ),
    ),
  )

  now_last : of < length ofs → IsLastAfter (ofs ++ of ∷ []) of (Some (length ofs))
  now_last low = (low, (omega (arith, longer), (new_at, λ k above high e. absurd (omega (arith, longer)))))

  last_past : (n : ℕ) → n ≡ length ofs → IsLastAfter (ofs ++ of ∷ []) n None
  last_past n at = λ k low high e. absurd (omega (arith, longer, at))

  before_more : ((k : ℕ) → 0 < k → k < length ofs → get_or ofs k 0 < k) → of < length ofs → (k : ℕ) → 0 < k → k < length (ofs ++ of ∷ []) → get_or (ofs ++ of ∷ []) k 0 < k
  before_more before low k some high = elim (cases_lt k (length ofs)) [
    | inl a ↦ omega (arith, before k some a, old_at k a)
    | inr a ↦ let at : k ≡ length ofs = omega (arith, high, longer) in omega (arith, low, at, ap (λ (j : ℕ). get_or (ofs ++ of ∷ []) j 0) at, new_at)
  ]

  -- a list with one item set, and one more at the end
  set_here : (xs : List (Option ℕ)) (at : ℕ) (x : Option ℕ) → at < length xs → get_or (set xs at x ++ None ∷ []) at None ≡ x
  set_here xs at x l = get_or_append_left (set xs at x) (None ∷ []) None at (omega (arith, l, length-set xs at x)) ∙ get_or-set_same xs at x None l

  set_there : (xs : List (Option ℕ)) (at : ℕ) (x : Option ℕ) (k : ℕ) → k < length xs → k ≢ at → get_or (set xs at x ++ None ∷ []) k None ≡ get_or xs k None
  set_there xs at x k l other = get_or_append_left (set xs at x) (None ∷ []) None k (omega (arith, l, length-set xs at x)) ∙ get_or-set_other xs at k x None other

  plain_there : (xs : List (Option ℕ)) (k : ℕ) → k < length xs → get_or (xs ++ None ∷ []) k None ≡ get_or xs k None
  plain_there xs k l = get_or_append_left xs (None ∷ []) None k l

  at_end : (xs : List (Option ℕ)) (k : ℕ) → length xs ≡ k → get_or (xs ++ None ∷ []) k None ≡ None
  at_end xs k e = get_or_at xs None [] None k e

  last_more : (lasts : List (Option ℕ)) → length lasts ≡ length ofs → of < length ofs → ((n : ℕ) → n < length ofs → IsLastAfter ofs n (get_or lasts n None)) → (n : ℕ) → n < length (ofs ++ of ∷ []) → IsLastAfter (ofs ++ of ∷ []) n (get_or (set lasts of (Some (length ofs)) ++ None ∷ []) n None)
  last_more lasts as_many low last n high = elim (cases_lt n (length ofs)) [
    | inl a ↦ elim (cases_eq n of) [
      | inl e ↦ rw (e, set_here lasts of (Some (length ofs)) (omega (arith, low, as_many))) (now_last low)
      | inr e ↦ rw (set_there lasts of (Some (length ofs)) n (omega (arith, a, as_many)) e) (kept_last n (get_or lasts n None) e (last n a))
    ]
    | inr a ↦ let at : n ≡ length ofs = omega (arith, high, longer) in
        rw (at_end (set lasts of (Some (length ofs))) n (omega (arith, as_many, at, length-set lasts of (Some (length ofs))))) (last_past n at)
  ]

  -- the first split that leaves its number
  pub linked_first : (firsts nexts lasts : List (Option ℕ)) → AreLinked ofs firsts nexts lasts → of < length ofs → get_or lasts of None ≡ None → AreLinked (ofs ++ of ∷ []) (set firsts of (Some (length ofs)) ++ None ∷ []) (nexts ++ None ∷ []) (set lasts of (Some (length ofs)) ++ None ∷ [])
  linked_first firsts nexts lasts are low none =
      let chained = are.chained in
      let alone : IsLastAfter ofs of None = subst (IsLastAfter ofs of) none (are.last of low) in
      record {
        chained = record {
          firsts_are = omega (arith, chained.firsts_are, longer, length-append (set firsts of (Some (length ofs))) (None ∷ []), length-set firsts of (Some (length ofs)));
          nexts_are = omega (arith, chained.nexts_are, longer, length-append nexts (None ∷ []));
          before = before_more chained.before low;
          first = λ n high. elim (cases_lt n (length ofs)) [
            | inl a ↦ elim (cases_eq n of) [
              | inl e ↦ rw (e, set_here firsts of (Some (length ofs)) (omega (arith, low, chained.firsts_are))) (now_first (suc of) (omega (arith, low)) (λ k above l. alone k (omega (arith, above)) l))
              | inr e ↦ rw (set_there firsts of (Some (length ofs)) n (omega (arith, a, chained.firsts_are)) e) (kept_first n (suc n) (get_or firsts n None) e (chained.first n a))
            ]
            | inr a ↦ let at : n ≡ length ofs = omega (arith, high, longer) in
                rw (at_end (set firsts of (Some (length ofs))) n (omega (arith, chained.firsts_are, at, length-set firsts of (Some (length ofs)))), at) (past_end (length ofs))
          ];
          next = λ k some high. elim (cases_lt k (length ofs)) [
            | inl a ↦
                let other : get_or ofs k 0 ≢ of = λ e. alone k (omega (arith, chained.before k some a, e)) a e in
                rw (plain_there nexts k (omega (arith, a, chained.nexts_are)), old_at k a) (kept_first (get_or ofs k 0) (suc k) (get_or nexts k None) other (chained.next k some a))
            | inr a ↦ let at : k ≡ length ofs = omega (arith, high, longer) in
                rw (at_end nexts k (omega (arith, chained.nexts_are, at)), at) (past_end (get_or (ofs ++ of ∷ []) (length ofs) 0))
          ];
        };
        lasts_are = omega (arith, are.lasts_are, longer, length-append (set lasts of (Some (length ofs))) (None ∷ []), length-set lasts of (Some (length ofs)));
        last = last_more lasts are.lasts_are low are.last;
      }

  -- one after another one
  pub linked_next : (firsts nexts lasts : List (Option ℕ)) (l : ℕ) → AreLinked ofs firsts nexts lasts → of < length ofs → get_or lasts of None ≡ Some l → AreLinked (ofs ++ of ∷ []) (firsts ++ None ∷ []) (set nexts l (Some (length ofs)) ++ None ∷ []) (set lasts of (Some (length ofs)) ++ None ∷ [])
  linked_next firsts nexts lasts l are low found =
      let chained = are.chained in
      let is : IsLastAfter ofs of (Some l) = subst (IsLastAfter ofs of) found (are.last of low) in
      record {
        chained = record {
          firsts_are = omega (arith, chained.firsts_are, longer, length-append firsts (None ∷ []));
          nexts_are = omega (arith, chained.nexts_are, longer, length-append (set nexts l (Some (length ofs))) (None ∷ []), length-set nexts l (Some (length ofs)));
          before = before_more chained.before low;
          first = λ n high. elim (cases_lt n (length ofs)) [
            | inl a ↦ rw (plain_there firsts n (omega (arith, a, chained.firsts_are))) (elim (cases_eq n of) [
              | inl e ↦ kept_past n (suc n) l (get_or firsts n None) (omega (arith, is.0, e)) is.1.0 (is.1.1.0 ∙ sym e) (chained.first n a)
              | inr e ↦ kept_first n (suc n) (get_or firsts n None) e (chained.first n a)
            ])
            | inr a ↦ let at : n ≡ length ofs = omega (arith, high, longer) in
                rw (at_end firsts n (omega (arith, chained.firsts_are, at)), at) (past_end (length ofs))
          ];
          next = λ k some high. elim (cases_lt k (length ofs)) [
            | inl a ↦ elim (cases_eq k l) [
              | inl e ↦ rw (e, set_here nexts l (Some (length ofs)) (omega (arith, is.1.0, chained.nexts_are)), old_at l is.1.0, is.1.1.0) (now_first (suc l) (omega (arith, is.1.0)) (λ j above low_j. is.1.1.1 j (omega (arith, above)) low_j))
              | inr e ↦ rw (set_there nexts l (Some (length ofs)) k (omega (arith, a, chained.nexts_are)) e, old_at k a) (elim (cases_eq (get_or ofs k 0) of) [
                | inl f ↦ elim (cases_lt l k) [
                  | inl past ↦ absurd (is.1.1.1 k past a f)
                  | inr up ↦ kept_past (get_or ofs k 0) (suc k) l (get_or nexts k None) (below k l e up) is.1.0 (is.1.1.0 ∙ sym f) (chained.next k some a)
                ]
                | inr f ↦ kept_first (get_or ofs k 0) (suc k) (get_or nexts k None) f (chained.next k some a)
              ])
            ]
            | inr a ↦ let at : k ≡ length ofs = omega (arith, high, longer) in
                rw (at_end (set nexts l (Some (length ofs))) k (omega (arith, chained.nexts_are, at, length-set nexts l (Some (length ofs)))), at) (past_end (get_or (ofs ++ of ∷ []) (length ofs) 0))
          ];
        };
        lasts_are = omega (arith, are.lasts_are, longer, length-append (set lasts of (Some (length ofs))) (None ∷ []), length-set lasts of (Some (length ofs)));
        last = last_more lasts are.lasts_are low are.last;
      }
    where
      below : (k l : ℕ) → k ≢ l → k ≤ l → suc k ≤ l
      below k l other up = elim (cases_lt k l) [
        | inl a ↦ a
        | inr a ↦ absurd (other (omega arith))
      ]
