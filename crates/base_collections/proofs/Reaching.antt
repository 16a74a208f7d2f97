-- Where texts come to with one more split.
use Rattle.std.proofs.Common.{◌≡◌, ◌≢◌, ℕ, zero, suc, ◌+◌, ◌<◌, eqb, Bool, true, false, not, ◌&&◌, List, [], ◌∷◌, ◌++◌, length, get_or, refl, sym, ap, ◌∙◌, arith, inl, inr, length-append}
use Rattle.std.specs.Prelude.{if◌then◌else◌}
use Rattle.std.proofs.lemmas.Bool.{cases_lt, eqb-true, eqb-false}
use Rattle.std.proofs.lemmas.Bool.Decides.{Decides-eqb}
use Rattle.std.proofs.lemmas.List.{get_or_append_left, get_or_at, get_or_default}
use Rattle.base_collections.specs.declared.splits.Split.{Split}
use Rattle.base_collections.specs.Splits.{AreSplit, Parts, reached, reached_from, turned, value_at}

pub same_if : {X : Type 0} (test : Bool) (x : X) → (if test then x else x) ≡ x
same_if true x = refl
same_if false x = refl

pub by_equal : (a b : ℕ) (P : Bool → Type 0) → (a ≡ b → P true) → (a ≢ b → P false) → P (eqb a b)
by_equal a b P one two = by (eqb a b) refl
  where
    by : (t : Bool) → eqb a b ≡ t → P t
    by true e = one (eqb-true a b e)
    by false e = two (eqb-false a b e)

pub stays : (number : ℕ) (split : Split) (text : List ℕ) (now : ℕ) → (now ≡ split.of → value_at text split.point ≡ split.value) → turned number split text now ≡ now
stays number split text now same =
    by_equal now split.of (λ (t : Bool). (if t && not (eqb (value_at text split.point) split.value) then number else now) ≡ now)
    (λ e. ap (λ (t : Bool). if not t then number else now) ((Decides-eqb (value_at text split.point) split.value).1 (same e)))
    (λ e. refl)

pub turns : (number : ℕ) (split : Split) (text : List ℕ) (now : ℕ) → now ≡ split.of → value_at text split.point ≢ split.value → turned number split text now ≡ number
turns number split text now here other =
    by_equal now split.of (λ (t : Bool). (if t && not (eqb (value_at text split.point) split.value) then number else now) ≡ number)
    (λ e. by_equal (value_at text split.point) split.value (λ (t : Bool). (if not t then number else now) ≡ number) (λ f. absurd (other f)) (λ f. refl))
    (λ e. absurd (e here))

pub reached_push : (n : ℕ) (splits : List Split) (split : Split) (text : List ℕ) (now : ℕ) → reached_from n (splits ++ split ∷ []) text now ≡ turned (n + length splits) split text (reached_from n splits text now)
unfolding reached_from
reached_push n [] split text now = ap (λ (k : ℕ). turned k split text now) (omega arith)
reached_push n (first ∷ splits) split text now =
    reached_push (suc n) splits split text (turned n first text now)
    ∙ ap (λ (k : ℕ). turned k split text (reached_from (suc n) splits text (turned n first text now))) (omega arith)

first_reached : (text : List ℕ) (split : Split) (n : ℕ) (other : List ℕ) → n < 1 → reached (split ∷ []) (get_or (text ∷ []) n other) ≡ n
unfolding reached_from
first_reached text split zero other l = same_if (eqb 0 split.of && not (eqb (value_at text split.point) split.value)) 0
first_reached text split (suc n) other l = absurd (omega arith)

pub first_split : (text : List ℕ) (split : Split) → AreSplit (text ∷ []) (split ∷ [])
first_split text split = record { as_many = refl; each = first_reached text split }

pub more_splits : (texts : List (List ℕ)) (splits : List Split) (text : List ℕ) (split : Split) → AreSplit texts splits → split.of ≡ reached splits text → Parts (get_or texts split.of []) text split → AreSplit (texts ++ text ∷ []) (splits ++ split ∷ [])
more_splits texts splits text split are of parts =
    let m : ℕ = length splits in
    record {
      as_many = omega (arith, are.as_many, length-append texts (text ∷ []), length-append splits (split ∷ []));
      each = λ n other l. elim (cases_lt n (length texts)) [
        | inl a ↦
            let t : List ℕ = get_or texts n other in
            let here : get_or (texts ++ text ∷ []) n other ≡ t = get_or_append_left texts (text ∷ []) other n a in
            let there : reached splits t ≡ n = are.each n other a in
            let same : n ≡ split.of → value_at t split.point ≡ split.value =
            λ e. ap (λ (x : List ℕ). value_at x split.point) (get_or_default texts n other [] a ∙ ap (λ (k : ℕ). get_or texts k []) e) ∙ parts.old_has in
            ap (reached (splits ++ split ∷ [])) here ∙ reached_push 0 splits split t 0 ∙ ap (turned (0 + m) split t) there ∙ stays (0 + m) split t n same
        | inr a ↦
            let at : length texts ≡ n = omega (arith, length-append texts (text ∷ [])) in
            let here : get_or (texts ++ text ∷ []) n other ≡ text = get_or_at texts text [] other n at in
            ap (reached (splits ++ split ∷ [])) here ∙ reached_push 0 splits split text 0 ∙ turns (0 + m) split text (reached splits text) (sym of) parts.new_lacks ∙ omega (arith, are.as_many, at)
      ];
    }
