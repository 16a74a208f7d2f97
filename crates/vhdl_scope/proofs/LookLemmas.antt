-- What a look along one link leaves, and one along some links after others.
use Rattle.std.proofs.Common.{◌≡◌, ℕ, zero, suc, ◌<◌, ◌≤◌, Bool, true, false, ◌||◌, List, [], ◌∷◌, ◌++◌, IsTrue, Contains, length, ◌⊎◌, inl, inr, refl, sym, ◌∙◌, ap, subst, arith}
use Rattle.std.proofs.lemmas.List.Elements.{Contains-append_left, Contains-append_right, Contains-append_cases}
use Rattle.vhdl_scope.specs.declared.links.Link.{Link}
use Rattle.vhdl_scope.specs.Bits.{has, row_has, gap, IsPartOf, AreWithin}
use Rattle.vhdl_scope.specs.Links.{TakesLink, TakesAll, HasLooked}

pub one_of : {X : Type 0} (x y : X) → Contains (x ∷ []) y → x ≡ y
one_of x y (zero, within, is) = is
one_of x y (suc k, within, is) = absurd (omega arith)

pub left_in : (a b c : Bool) → a ≡ (b || c) → b ≡ true → a ≡ true
left_in a true c is told = is
left_in a false c is told = let never : ⊥ = cc in absurd never

pub right_in : (a b c : Bool) → a ≡ (b || c) → c ≡ true → a ≡ true
right_in a true c is told = is
right_in a false c is told = is ∙ told

pub in_either : (a b c : Bool) → a ≡ (b || c) → a ≡ true → (b ≡ true) ⊎ (c ≡ true)
in_either a true c is told = inl refl
in_either a false c is told = inr (sym is ∙ told)

-- a row that took what one link hands on, since it has the link's library number
module _ (link : Link) (rows : List (List ℕ)) (old new : List ℕ) (grown : Bool) (library_number : row_has old link.library_number ≡ true) (bits : (number : ℕ) → row_has new number ≡ (row_has old number || has rows link.source number)) where
  larger_by : IsPartOf (row_has old) (row_has new)
  larger_by number told = left_in _ _ _ (bits number) told

  sound_by : (sets : ℕ → ℕ → Bool) (own : ℕ → Bool) → AreWithin (has rows) sets → TakesAll (link ∷ []) sets own → IsPartOf (row_has old) own → IsPartOf (row_has new) own
  sound_by sets own around takes within number told = by_row (in_either _ _ _ (bits number) told) where
    by_row : (row_has old number ≡ true) ⊎ (has rows link.source number ≡ true) → IsTrue (own number)
    by_row (inl before) = within number before
    by_row (inr handed) = takes link (zero, omega arith, refl) (within link.library_number library_number) number (around link.source number handed)

  taken_by : new ≡ old → TakesAll (link ∷ []) (has rows) (row_has old)
  taken_by same other there library_number_told number handed =
      let from : has rows link.source number ≡ true = subst (λ (l : Link). has rows l.source number ≡ true) (sym (one_of link other there)) handed in
      subst (λ (row : List ℕ). row_has row number ≡ true) same (right_in _ _ _ (bits number) from)

  pub followed : length new ≡ length old → (grown ≡ false → new ≡ old) → (grown ≡ true → gap new < gap old) → HasLooked (link ∷ []) rows old new grown
  followed even same grows = record { even = even; larger = larger_by; sound = sound_by; same = same; taken = λ still. taken_by (same still); grows = grows }

-- some links after others
module _ (first next : List Link) (rows : List (List ℕ)) (old mid new : List ℕ) (grew grows : Bool) (before : HasLooked first rows old mid grew) (after : HasLooked next rows mid new grows) where
  neither : (a b : Bool) → (a || b) ≡ false → (a ≡ false) × (b ≡ false)
  neither true b told = let never : ⊥ = cc in absurd never
  neither false b told = (refl, told)

  both_sound : (sets : ℕ → ℕ → Bool) (own : ℕ → Bool) → AreWithin (has rows) sets → TakesAll (first ++ next) sets own → IsPartOf (row_has old) own → IsPartOf (row_has new) own
  both_sound sets own around takes within =
      after.sound sets own around (λ (link : Link) (there : Contains next link). takes link (Contains-append_right first next link there))
      (before.sound sets own around (λ (link : Link) (there : Contains first link). takes link (Contains-append_left first next link there)) within)

  both_taken : (grew || grows) ≡ false → TakesAll (first ++ next) (has rows) (row_has old)
  both_taken still link there = by_part (Contains-append_cases first next link there) where
    stills : (grew ≡ false) × (grows ≡ false)
    stills = neither grew grows still

    by_part : Contains first link ⊎ Contains next link → TakesLink (has rows) (row_has old) link
    by_part (inl there) = before.taken (stills.0) link there
    by_part (inr there) = subst (λ (row : List ℕ). TakesLink (has rows) (row_has row) link) (before.same (stills.0)) (after.taken (stills.1) link there)

  both_same : (grew || grows) ≡ false → new ≡ old
  both_same still = let stills = neither grew grows still in after.same (stills.1) ∙ before.same (stills.0)

  not_less : (grown : Bool) (x y : List ℕ) → (grown ≡ false → y ≡ x) → (grown ≡ true → gap y < gap x) → gap y ≤ gap x
  not_less true x y same more = omega (arith, more refl)
  not_less false x y same more = let e : gap y ≡ gap x = ap gap (same refl) in omega arith

  both_grow : (a b : Bool) → (a ≡ true → gap mid < gap old) → (b ≡ true → gap new < gap mid) → gap mid ≤ gap old → gap new ≤ gap mid → (a || b) ≡ true → gap new < gap old
  both_grow true b one two least most told = omega (arith, one refl)
  both_grow false b one two least most told = omega (arith, two told)

  pub followed_both : HasLooked (first ++ next) rows old new (grew || grows)
  followed_both = record {
    even = after.even ∙ before.even;
    larger = λ (number : ℕ) told. after.larger number (before.larger number told);
    sound = both_sound;
    same = both_same;
    taken = both_taken;
    grows = both_grow grew grows before.grows after.grows (not_less grew old mid before.same before.grows) (not_less grows mid new after.same after.grows);
  }

-- once a row has grown, the remaining links need not be followed
pub looked_early : (some rest links : List Link) (rows : List (List ℕ)) (old new : List ℕ) (grown : Bool) → some ++ rest ≡ links → grown ≡ true → HasLooked some rows old new grown → HasLooked links rows old new true
looked_early some rest links rows old new grown whole is looked = record {
  even = looked.even;
  larger = looked.larger;
  sound = λ sets own around takes within. looked.sound sets own around (λ link there. takes link (subst (λ (all : List Link). Contains all link) whole (Contains-append_left some rest link there))) within;
  same = λ still. let never : ⊥ = cc in absurd never;
  taken = λ still. let never : ⊥ = cc in absurd never;
  grows = λ grew. looked.grows is;
}
