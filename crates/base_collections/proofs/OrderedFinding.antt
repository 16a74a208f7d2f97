-- What is found at buckets and among the others, and one key more.
use Rattle.std.proofs.Common.{◌≡◌, ℕ, ◌+◌, ◌<◌, Bool, true, false, true≢false, cond, nat_eq, List, [], ◌∷◌, ◌++◌, length, Contains, None, Some, Option, is_some, ◌⊎◌, inl, inr, refl, sym, ap, subst, ◌∙◌, arith, eq-eqb}
use Rattle.std.specs.Prelude.{slice_get}
use Rattle.std.specs.Bool.{Decides}
use Rattle.std.specs.Option.{unwrap_or}
use Rattle.std.proofs.lemmas.Bool.{eqb-true}
use Rattle.std.proofs.lemmas.List.{length_push}
use Rattle.std.proofs.lemmas.Option.{slice_get_within}
use Rattle.base_collections.specs.declared.table.Found.{Found}
use Rattle.base_collections.specs.OrderedKeys.{AreFlagged, AreTaken, Holds, IsFree, IsKeyAt, IsLooked, first_of, second_of, slot_at}
use Rattle.base_collections.proofs.Buckets.{once_more}
use Rattle.base_collections.proofs.Pushes.{at_of, cases_push, contained, end_push, left_push}

some_none : {X : Type 0} (o : Option X) (x : X) → o ≡ None → o ≡ Some x → ⊥
some_none o x none some = cc

some_same : {X : Type 0} (x y : X) → ◌≡◌ {A = Option X} (Some x) (Some y) → x ≡ y
some_same x y e = cc

-- a key isn't where another one is
apart : {K : Type 0} (slot : ℕ → Option ℕ) (keys : List K) (key : K) (at number : ℕ) → Holds slot keys key at → slice_get keys number ≡ Some key → slot at ≡ Some number → ⊥
apart slot keys key at number holds there e =
    let same : number ≡ holds.number = some_same number holds.number (sym e ∙ holds.held) in
    holds.differs (some_same holds.other key (sym holds.is ∙ (ap (slice_get keys) (sym same) ∙ there)))

module _ {K : Type 0} {one two : K → ℕ} {buckets : ℕ} {slot : ℕ → Option ℕ} {others : K → Option ℕ} (keys : List K) (key : K) (are : AreFlagged one two buckets slot others keys) where
  -- a key of which a bucket is free isn't there
  pub not_free : (bucket : ℕ) → IsFree slot keys key (one key) (two key) buckets bucket → ¬ Contains keys key
  not_free bucket free has =
      let at = at_of keys key has in
      let some : 0 < buckets = let low = free.within in omega (arith, low) in
      elim free.which [
        | inl is ↦ true≢false (sym (are.first key has.0 at some) ∙ ap is_some (ap slot (sym is) ∙ free.free))
        | inr is ↦ true≢false (sym (are.second key has.0 at some (apart slot keys key (one key) has.0 is.1 at)) ∙ ap is_some (ap slot (sym is.0) ∙ free.free))
      ]

  -- nor is one of which other keys have the buckets, and which isn't among the others
  pub no_other : AreTaken slot keys key (one key) (two key) buckets → others key ≡ None → ¬ Contains keys key
  no_other taken none has = elim (are.found key has.0 at) [ inl e ↦ by_one taken e | inr rest ↦ by_rest rest ] where
    at : slice_get keys has.0 ≡ Some key
    at = at_of keys key has

    by_one : AreTaken slot keys key (one key) (two key) buckets → slot (one key) ≡ Some has.0 → ⊥
    by_one (inl empty) e = some_none (slot (one key)) has.0 (are.none empty (one key)) e
    by_one (inr both) e = apart slot keys key (one key) has.0 both.0 at e

    by_two : AreTaken slot keys key (one key) (two key) buckets → slot (two key) ≡ Some has.0 → ⊥
    by_two (inl empty) e = some_none (slot (two key)) has.0 (are.none empty (two key)) e
    by_two (inr both) e = apart slot keys key (two key) has.0 both.1 at e

    by_rest : (slot (two key) ≡ Some has.0) ⊎ (others key ≡ Some has.0) → ⊥
    by_rest (inl e) = by_two taken e
    by_rest (inr e) = some_none (others key) has.0 none e

  -- the bucket of one of which other keys have the buckets
  pub other_bucket : AreTaken slot keys key (one key) (two key) buckets → (found : Option ℕ) → found ≡ others key → IsKeyAt keys key found
  other_bucket taken None is = no_other taken (sym is)
  other_bucket taken (Some number) is = are.other key number (sym is)

-- what a look at a table and keys shows, it shows of the same ones
pub looked_is : {K : Type 0} (slots same_slots : List ℕ) (keys same_keys : List K) (key : K) (hash same_hash : ℕ) (found : Found) → slots ≡ same_slots → keys ≡ same_keys → hash ≡ same_hash → IsLooked (slot_at slots) keys key (first_of (length slots) hash) (second_of (length slots) hash) (length slots) found → IsLooked (slot_at same_slots) same_keys key (first_of (length same_slots) same_hash) (second_of (length same_slots) same_hash) (length same_slots) found
looked_is slots same_slots keys same_keys key hash same_hash found one two three looked =
    subst (λ (s : List ℕ). IsLooked (slot_at s) same_keys key (first_of (length s) same_hash) (second_of (length s) same_hash) (length s) found) one
    (subst (λ (ks : List _). IsLooked (slot_at slots) ks key (first_of (length slots) same_hash) (second_of (length slots) same_hash) (length slots) found) two
    (subst (λ (h : ℕ). IsLooked (slot_at slots) keys key (first_of (length slots) h) (second_of (length slots) h) (length slots) found) three looked))

module _ {K : Type 0} {one two : K → ℕ} {buckets : ℕ} {slot : ℕ → Option ℕ} {others : K → Option ℕ} (keys : List K) (key : K) (are : AreFlagged one two buckets slot others keys) (new : ¬ Contains keys key) where
  longer : length (keys ++ key ∷ []) ≡ length keys + 1
  longer = length_push keys key

  -- one more at a bucket that is free
  pub one_put : (bucket : ℕ) (now : ℕ → Option ℕ) → IsFree slot keys key (one key) (two key) buckets bucket → ((at : ℕ) → now at ≡ cond (nat_eq bucket at) (Some (length keys)) (slot at)) → AreFlagged one two buckets now others (keys ++ key ∷ [])
  one_put bucket now free after = record { once = once_more keys key are.once new; within = within; none = λ empty. let low = free.within in absurd (omega (arith, low, empty)); other = λ k number e. left_push key keys number k (are.other k number e); found = found; first = first; second = second } where
    stays : (at number : ℕ) → slot at ≡ Some number → now at ≡ Some number
    stays at number e = after at ∙ by (nat_eq bucket at) refl where
      by : (b : Bool) → nat_eq bucket at ≡ b → cond b (Some (length keys)) (slot at) ≡ Some number
      by true told = absurd (some_none (slot bucket) number free.free (ap slot (eqb-true bucket at told) ∙ e))
      by false told = e

    some_stays : (at : ℕ) → is_some (slot at) ≡ true → is_some (now at) ≡ true
    some_stays at told = ap is_some (after at) ∙ by (nat_eq bucket at) where
      by : (b : Bool) → is_some (cond b (Some (length keys)) (slot at)) ≡ true
      by true = refl
      by false = told

    here : now bucket ≡ Some (length keys)
    here = after bucket ∙ ap (λ (b : Bool). cond b (Some (length keys)) (slot bucket)) (eq-eqb bucket bucket refl)

    here_first : bucket ≡ one key → now (one key) ≡ Some (length keys)
    here_first is = ap now (sym is) ∙ here

    here_second : bucket ≡ two key → now (two key) ≡ Some (length keys)
    here_second is = ap now (sym is) ∙ here

    within : (at number : ℕ) → now at ≡ Some number → number < length (keys ++ key ∷ [])
    within at number e = by (nat_eq bucket at) (sym (after at) ∙ e) where
      by : (b : Bool) → cond b (Some (length keys)) (slot at) ≡ Some number → number < length (keys ++ key ∷ [])
      by true told = let last : length keys ≡ number = some_same (length keys) number told in omega (arith, longer, last)
      by false told = let low = are.within at number told in omega (arith, longer, low)

    last_found : (slot_is : (bucket ≡ one key) ⊎ ((bucket ≡ two key) × Holds slot keys key (one key))) → (now (one key) ≡ Some (length keys)) ⊎ ((now (two key) ≡ Some (length keys)) ⊎ (others key ≡ Some (length keys)))
    last_found (inl is) = inl (here_first is)
    last_found (inr is) = inr (inl (here_second is.0))

    found : (k : K) (number : ℕ) → slice_get (keys ++ key ∷ []) number ≡ Some k → (now (one k) ≡ Some number) ⊎ ((now (two k) ≡ Some number) ⊎ (others k ≡ Some number))
    found k number at = elim (cases_push key keys number k at) [
      | inl e ↦ by_old (are.found k number e)
      | inr e ↦ subst (λ (x : K). (now (one x) ≡ Some number) ⊎ ((now (two x) ≡ Some number) ⊎ (others x ≡ Some number))) e.1 (subst (λ (n : ℕ). (now (one key) ≡ Some n) ⊎ ((now (two key) ≡ Some n) ⊎ (others key ≡ Some n))) (sym e.0) (last_found free.which))
    ] where
      by_rest : (slot (two k) ≡ Some number) ⊎ (others k ≡ Some number) → (now (two k) ≡ Some number) ⊎ (others k ≡ Some number)
      by_rest (inl f) = inl (stays (two k) number f)
      by_rest (inr f) = inr f

      by_old : (slot (one k) ≡ Some number) ⊎ ((slot (two k) ≡ Some number) ⊎ (others k ≡ Some number)) → (now (one k) ≡ Some number) ⊎ ((now (two k) ≡ Some number) ⊎ (others k ≡ Some number))
      by_old (inl f) = inl (stays (one k) number f)
      by_old (inr rest) = inr (by_rest rest)

    last_first : (slot_is : (bucket ≡ one key) ⊎ ((bucket ≡ two key) × Holds slot keys key (one key))) → is_some (now (one key)) ≡ true
    last_first (inl is) = ap is_some (here_first is)
    last_first (inr is) = some_stays (one key) (ap is_some is.1.held)

    first : (k : K) (number : ℕ) → slice_get (keys ++ key ∷ []) number ≡ Some k → 0 < buckets → is_some (now (one k)) ≡ true
    first k number at some = elim (cases_push key keys number k at) [
      | inl e ↦ some_stays (one k) (are.first k number e some)
      | inr e ↦ ap (λ (x : K). is_some (now (one x))) (sym e.1) ∙ last_first free.which
    ]

    last_second : (slot_is : (bucket ≡ one key) ⊎ ((bucket ≡ two key) × Holds slot keys key (one key))) → (now (one key) ≡ Some (length keys) → ⊥) → is_some (now (two key)) ≡ true
    last_second (inl is) differ = absurd (differ (here_first is))
    last_second (inr is) differ = ap is_some (here_second is.0)

    second : (k : K) (number : ℕ) → slice_get (keys ++ key ∷ []) number ≡ Some k → 0 < buckets → (now (one k) ≡ Some number → ⊥) → is_some (now (two k)) ≡ true
    second k number at some differ = elim (cases_push key keys number k at) [
      | inl e ↦ some_stays (two k) (are.second k number e some (λ f. differ (stays (one k) number f)))
      | inr e ↦ ap (λ (x : K). is_some (now (two x))) (sym e.1) ∙ last_second free.which (λ f. differ (ap (λ (x : K). now (one x)) (sym e.1) ∙ (f ∙ ap (λ (n : ℕ). Some n) (sym e.0))))
    ]

  -- one more of the others
  pub one_other : (alike : K → K → Bool) (now : K → Option ℕ) → ((a b : K) → Decides (alike a b) (a ≡ b)) → AreTaken slot keys key (one key) (two key) buckets → ((k : K) → now k ≡ cond (alike key k) (Some (length keys)) (others k)) → AreFlagged one two buckets slot now (keys ++ key ∷ [])
  one_other alike now decides taken after = record { once = once_more keys key are.once new; within = λ at number e. let low = are.within at number e in omega (arith, longer, low); none = are.none; other = other; found = found; first = first; second = second } where
    other : (k : K) (number : ℕ) → now k ≡ Some number → slice_get (keys ++ key ∷ []) number ≡ Some k
    other k number e = by (alike key k) refl (sym (after k) ∙ e) where
      by : (b : Bool) → alike key k ≡ b → cond b (Some (length keys)) (others k) ≡ Some number → slice_get (keys ++ key ∷ []) number ≡ Some k
      by true told f =
          let last : length keys ≡ number = some_same (length keys) number f in
          ap (slice_get (keys ++ key ∷ [])) (sym last) ∙ (end_push key keys ∙ ap (λ (x : K). Some x) ((decides key k).0 told))
      by false told f = left_push key keys number k (are.other k number f)

    stays : (k : K) (number : ℕ) → slice_get keys number ≡ Some k → others k ≡ Some number → now k ≡ Some number
    stays k number at f = after k ∙ by (alike key k) refl where
      by : (b : Bool) → alike key k ≡ b → cond b (Some (length keys)) (others k) ≡ Some number
      by true told = absurd (new (subst (Contains keys) (sym ((decides key k).0 told)) (contained keys number k at)))
      by false told = f

    last : (k : K) → key ≡ k → now k ≡ Some (length keys)
    last k is = after k ∙ ap (λ (b : Bool). cond b (Some (length keys)) (others k)) ((decides key k).1 is)

    found : (k : K) (number : ℕ) → slice_get (keys ++ key ∷ []) number ≡ Some k → (slot (one k) ≡ Some number) ⊎ ((slot (two k) ≡ Some number) ⊎ (now k ≡ Some number))
    found k number at = elim (cases_push key keys number k at) [
      | inl e ↦ by_old e (are.found k number e)
      | inr e ↦ inr (inr (last k e.1 ∙ ap (λ (n : ℕ). Some n) (sym e.0)))
    ] where
      by_rest : slice_get keys number ≡ Some k → (slot (two k) ≡ Some number) ⊎ (others k ≡ Some number) → (slot (two k) ≡ Some number) ⊎ (now k ≡ Some number)
      by_rest e (inl f) = inl f
      by_rest e (inr f) = inr (stays k number e f)

      by_old : slice_get keys number ≡ Some k → (slot (one k) ≡ Some number) ⊎ ((slot (two k) ≡ Some number) ⊎ (others k ≡ Some number)) → (slot (one k) ≡ Some number) ⊎ ((slot (two k) ≡ Some number) ⊎ (now k ≡ Some number))
      by_old e (inl f) = inl f
      by_old e (inr rest) = inr (by_rest e rest)

    last_first : AreTaken slot keys key (one key) (two key) buckets → 0 < buckets → is_some (slot (one key)) ≡ true
    last_first (inl empty) some = absurd (omega (arith, empty, some))
    last_first (inr both) some = ap is_some both.0.held

    last_second : AreTaken slot keys key (one key) (two key) buckets → 0 < buckets → is_some (slot (two key)) ≡ true
    last_second (inl empty) some = absurd (omega (arith, empty, some))
    last_second (inr both) some = ap is_some both.1.held

    first : (k : K) (number : ℕ) → slice_get (keys ++ key ∷ []) number ≡ Some k → 0 < buckets → is_some (slot (one k)) ≡ true
    first k number at some = elim (cases_push key keys number k at) [
      | inl e ↦ are.first k number e some
      | inr e ↦ ap (λ (x : K). is_some (slot (one x))) (sym e.1) ∙ last_first taken some
    ]

    second : (k : K) (number : ℕ) → slice_get (keys ++ key ∷ []) number ≡ Some k → 0 < buckets → (slot (one k) ≡ Some number → ⊥) → is_some (slot (two k)) ≡ true
    second k number at some differ = elim (cases_push key keys number k at) [
      | inl e ↦ are.second k number e some differ
      | inr e ↦ ap (λ (x : K). is_some (slot (two x))) (sym e.1) ∙ last_second taken some
    ]

module _ {K : Type 0} {one two : K → ℕ} {buckets : ℕ} {slot : ℕ → Option ℕ} {others : K → Option ℕ} (keys : List K) (key : K) (are : AreFlagged one two buckets slot others keys) where
  -- where the others give a key its number, or the next one: it is the next one exactly where none has it
  pub none_before : (found : ℕ) → found ≡ unwrap_or (others key) (length keys) → found ≡ length keys → others key ≡ None
  none_before found is last = by (others key) refl where
    by : (o : Option ℕ) → others key ≡ o → o ≡ None
    by None e = refl
    by (Some bucket) e =
        let low : bucket < length keys = slice_get_within keys bucket key (are.other key bucket e) in
        let same : found ≡ bucket = is ∙ ap (λ (o : Option ℕ). unwrap_or o (length keys)) e in
        absurd (omega (arith, low, same, last))

  pub some_before : (found : ℕ) → found ≡ unwrap_or (others key) (length keys) → (found ≡ length keys → ⊥) → others key ≡ Some found
  some_before found is differ = by (others key) refl where
    by : (o : Option ℕ) → others key ≡ o → o ≡ Some found
    by None e = absurd (differ (is ∙ ap (λ (o : Option ℕ). unwrap_or o (length keys)) e))
    by (Some bucket) e = ap (λ (n : ℕ). Some n) (sym (is ∙ ap (λ (o : Option ℕ). unwrap_or o (length keys)) e))

  -- the others, of which one is given the number that it has
  pub same_others : (alike : K → K → Bool) (now : K → Option ℕ) (found : ℕ) → ((a b : K) → Decides (alike a b) (a ≡ b)) → others key ≡ Some found → ((k : K) → now k ≡ cond (alike key k) (Some found) (others k)) → AreFlagged one two buckets slot now keys
  same_others alike now found decides is after = record { once = are.once; within = are.within; none = are.none; other = λ k bucket e. are.other k bucket (sym (same k) ∙ e); found = still; first = are.first; second = are.second } where
    same : (k : K) → now k ≡ others k
    same k = after k ∙ by (alike key k) refl where
      by : (b : Bool) → alike key k ≡ b → cond b (Some found) (others k) ≡ others k
      by true told = sym is ∙ ap others ((decides key k).0 told)
      by false told = refl

    by_rest : (k : K) (number : ℕ) → (slot (two k) ≡ Some number) ⊎ (others k ≡ Some number) → (slot (two k) ≡ Some number) ⊎ (now k ≡ Some number)
    by_rest k number (inl f) = inl f
    by_rest k number (inr f) = inr (same k ∙ f)

    by_old : (k : K) (number : ℕ) → (slot (one k) ≡ Some number) ⊎ ((slot (two k) ≡ Some number) ⊎ (others k ≡ Some number)) → (slot (one k) ≡ Some number) ⊎ ((slot (two k) ≡ Some number) ⊎ (now k ≡ Some number))
    by_old k number (inl f) = inl f
    by_old k number (inr rest) = inr (by_rest k number rest)

    still : (k : K) (number : ℕ) → slice_get keys number ≡ Some k → (slot (one k) ≡ Some number) ⊎ ((slot (two k) ≡ Some number) ⊎ (now k ≡ Some number))
    still k number at = by_old k number (are.found k number at)
