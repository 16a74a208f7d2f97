-- What is in a list is in what is picked of it, in its map, in the latest of it, and in the sorted list.
use Rattle.std.proofs.Common.{◌≡◌, zero, suc, List, [], ◌∷◌, map, Option, Some, None, refl, sym, ap, subst, ◌∙◌, arith, inl, inr, ◌⊎◌}
use Rattle.std.specs.Prelude.{All, Contains}
use Rattle.std.specs.List.{filter_map, cons_option}
use Rattle.std.specs.Option.{option_and_then, option_map}
use Rattle.std.specs.Ordering.{is_gt}
use Rattle.std.proofs.lemmas.Bool.{cond_both}
use Rattle.std.proofs.lemmas.List.Elements.{All-nil, All-cons, All-head, All-tail}
use Rattle.outside.specs.Records.{Record}
use Rattle.store_form_2.specs.Migrating.{each_of, put_ranked, rank_cmp, ranked}
use Rattle.store_form_2.proofs.Picking.{each_parts, picked_more}

pub here_first : {X : Type 0} (x : X) (xs : List X) → Contains (x ∷ xs) x
here_first x xs = (0, omega arith, refl)

pub there_next : {X : Type 0} (x y : X) (xs : List X) → Contains xs y → Contains (x ∷ xs) y
there_next x y xs has = (suc has.0, omega (arith, has.1), has.2)

pub either_first : {X : Type 0} (x y : X) (xs : List X) → Contains (x ∷ xs) y → (x ≡ y) ⊎ Contains xs y
either_first x y xs (zero, low, is) = inl is
either_first x y xs (suc i, low, is) = inr (i, omega arith, is)

pub Contains-map : {X Y : Type 0} (f : X → Y) (xs : List X) (x : X) → Contains xs x → Contains (map f xs) (f x)
Contains-map f [] x has = absurd (omega (arith, has.1))
Contains-map {X} {Y} f (first ∷ xs) x has =
    elim (either_first first x xs has) [
      | inl is ↦ subst (λ (y : Y). Contains (f first ∷ map f xs) y) (ap f is) (here_first (f first) (map f xs))
      | inr more ↦ there_next (f first) (f x) (map f xs) (Contains-map f xs x more)
    ]

module _ {X Y : Type 0} (f : X → Option Y) where
  kept_by : (here : Option Y) (ys : List Y) (y : Y) → Contains ys y → Contains (cons_option here ys) y
  kept_by None ys y has = has
  kept_by (Some z) ys y has = there_next z y ys has

  pub Contains-filter_map : (xs : List X) (x : X) (y : Y) → Contains xs x → f x ≡ Some y → Contains (filter_map f xs) y
  Contains-filter_map [] x y has is = absurd (omega (arith, has.1))
  Contains-filter_map (first ∷ xs) x y has is =
      elim (either_first first x xs has) [
        | inl same ↦ subst (λ (ys : List Y). Contains ys y) (sym (picked_more f first xs (Some y) (ap f same ∙ is))) (here_first y (filter_map f xs))
        | inr more ↦ kept_by (f first) (filter_map f xs) y (Contains-filter_map xs x y more is)
      ]

  abbrev IsThere : X → Type 0
  IsThere x = (y : Y) × (f x ≡ Some y)

  -- `each_of` has a result exactly if each value exists
  pub each_there : (xs : List X) (ys : List Y) → each_of (map f xs) ≡ Some ys → All IsThere xs
  each_there [] ys h = All-nil IsThere
  each_there (x ∷ xs) ys h =
      let parts = each_parts (f x) (map f xs) ys h in
      All-cons IsThere x xs (parts.0, parts.2) (each_there xs parts.1 parts.3)

  pub each_some : (xs : List X) → All IsThere xs → (ys : List Y) × (each_of (map f xs) ≡ Some ys)
  unfolding each_of
  each_some [] all = ([], refl)
  each_some (x ∷ xs) all =
      let first : IsThere x = All-head IsThere x xs all in
      let rest = each_some xs (All-tail IsThere x xs all) in (
        first.0 ∷ rest.0,
        ap (option_and_then (λ (y : Y). option_map (λ (ys : List Y). y ∷ ys) (each_of (map f xs)))) first.1 ∙ ap (option_map (λ (ys : List Y). first.0 ∷ ys)) rest.1,
      )

pub Contains-put_ranked : (new kept : Record) (records : List Record) → (new ≡ kept) ⊎ Contains records kept → Contains (put_ranked new records) kept
unfolding put_ranked
Contains-put_ranked new kept [] (inl is) = (0, omega arith, is)
Contains-put_ranked new kept [] (inr has) = absurd (omega (arith, has.1))
Contains-put_ranked new kept (first ∷ rest) has =
    cond_both (is_gt (rank_cmp new first)) (first ∷ put_ranked new rest) (new ∷ first ∷ rest) (λ (xs : List Record). Contains xs kept)
    (λ later.
    elim has [
      | inl is ↦ there_next first kept (put_ranked new rest) (Contains-put_ranked new kept rest (inl is))
      | inr among ↦ elim (either_first first kept rest among) [
        | inl is ↦ first_is is
        | inr more ↦ there_next first kept (put_ranked new rest) (Contains-put_ranked new kept rest (inr more))
      ]
    ])
    (λ sooner. elim has [
      | inl is ↦ new_is is
      | inr among ↦ there_next new kept (first ∷ rest) among
    ]) where
      first_is : first ≡ kept → Contains (first ∷ put_ranked new rest) kept
      first_is is = (0, omega arith, is)

      new_is : new ≡ kept → Contains (new ∷ first ∷ rest) kept
      new_is is = (0, omega arith, is)

pub Contains-ranked : (records : List Record) (kept : Record) → Contains records kept → Contains (ranked records) kept
unfolding ranked
Contains-ranked [] kept has = has
Contains-ranked (first ∷ rest) kept has =
    elim (either_first first kept rest has) [
      | inl is ↦ Contains-put_ranked first kept (ranked rest) (inl is)
      | inr more ↦ Contains-put_ranked first kept (ranked rest) (inr (Contains-ranked rest kept more))
    ]
