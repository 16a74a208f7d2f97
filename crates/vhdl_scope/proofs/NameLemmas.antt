-- Names among the keys of a set, and groups.
use Rattle.std.proofs.Common.{◌≡◌, ℕ, zero, suc, ◌<◌, ◌≤◌, Bool, true, false, cond, List, [], ◌∷◌, ◌++◌, Contains, Vec, Global, Option, Some, None, length, map, nat_lt, not, ◌&&◌, refl, sym, ◌∙◌, ap, subst, arith}
use Rattle.std.specs.List.{position, position_or_len}
use Rattle.std.specs.Bool.{Decides}
use Rattle.std.specs.BTreeMap.{BTreeMap, UpdatesBy, get_by, is_at}
use Rattle.std.specs.Map.{AreApart, IsKeyTest, KeepsOthers, lookup}
use Rattle.std.specs.Cmp.{eq_by_cmp_equiv}
use Rattle.std.specs.Cmp.Lexicographic.{nat_list_cmp_total, nat_list_eq_equiv, slice_cmp, texts_ties}
use Rattle.std.specs.Ordering.{eq_by_cmp, is_eq, nat_cmp}
use Rattle.std.specs.declared.cmp.Ordering.{Ordering}
use Rattle.std.specs.Str.{bytes_eq}
use Rattle.std.proofs.lemmas.Bool.Decides.{nat_tests}
use Rattle.std.proofs.lemmas.Slice.Eq.{bytes_eq-Decides}
use Rattle.std.proofs.lemmas.List.{length_push}
use Rattle.std.proofs.lemmas.List.Folds.{position_or_len_push}
use Rattle.std.proofs.lemmas.List.Sums.{prefix_len-le-length}
use Rattle.std.proofs.lemmas.List.Elements.{Contains-append_left, Contains-append_right}
use Rattle.base_collections.proofs.Buckets.{placed_nowhere}
use Rattle.vhdl_spec.proofs.SomeTests.{Contains-first, Contains-later}
use Rattle.vhdl_scope.specs.declared.want.Group.{Group}
use Rattle.vhdl_scope.specs.Groups.{is_same_group}
use Rattle.vhdl_scope.specs.GroupOrder.{groups_decide}
use Rattle.vhdl_scope.specs.Names.{AreFound, HasAll, number_of}
use Rattle.vhdl_scope.proofs.LookLemmas.{one_of}
use Rattle.vhdl_scope.proofs.KeyLemmas.{there_by}

pub Contains-map : {X Y : Type 0} (f : X → Y) (xs : List X) (x : X) → Contains xs x → Contains (map f xs) (f x)
Contains-map f [] x (k, within, is) = absurd (omega arith)
Contains-map f (y ∷ xs) x (zero, within, is) = (zero, omega arith, ap f is)
Contains-map f (y ∷ xs) x (suc k, within, is) = Contains-later (f y) (f x) (map f xs) (Contains-map f xs x (k, omega arith, is))

pub same_bytes : (a b : List ℕ) → bytes_eq a b ≡ true → a ≡ b
same_bytes a b told = (bytes_eq-Decides a b).0 told

pub told_same : (a b : List ℕ) → a ≡ b → bytes_eq a b ≡ true
told_same a b same = (bytes_eq-Decides a b).1 same

pub same_group : (a b : Group) → is_same_group a b ≡ true → a ≡ b
same_group a b told = (groups_decide a b).0 told

pub told_group : (a b : Group) → a ≡ b → is_same_group a b ≡ true
told_group a b same = (groups_decide a b).1 same

-- names are ordered by their bytes
abbrev name_cmp : Vec ℕ Global → Vec ℕ Global → Ordering
name_cmp x y = slice_cmp nat_cmp x.items y.items

-- how a text compares to a name
abbrev to_name : List ℕ → Vec ℕ Global → Ordering
to_name text key = slice_cmp nat_cmp text key.items

others : (old new : List (Vec ℕ Global × ℕ)) (test other : Vec ℕ Global → Bool) → KeepsOthers (eq_by_cmp name_cmp) test old new → IsKeyTest (eq_by_cmp name_cmp) other → AreApart test other → lookup other new ≡ lookup other old
unfolding KeepsOthers
others old new test other kept is apart = kept other is apart

-- what a map of names has at a text, where a name was given a number
pub put_at : (old new : BTreeMap (Vec ℕ Global) ℕ) (key : Vec ℕ Global) (number : Option ℕ) → UpdatesBy name_cmp (to_name key.items) old new number
    → (name : List ℕ) → get_by (to_name name) new ≡ cond (bytes_eq key.items name) number (get_by (to_name name) old)
put_at old new key number updates name = by_same (bytes_eq key.items name) refl where
  apart : bytes_eq key.items name ≡ false → (k : Vec ℕ Global) → is_eq (slice_cmp nat_cmp key.items k.items) ≡ true → is_eq (slice_cmp nat_cmp name k.items) ≡ false
  apart differ k same =
      sym (texts_ties name k.items)
      ∙ (nat_list_eq_equiv.symm name k.items ∙ (sym (nat_list_eq_equiv.congr key.items k.items name (texts_ties key.items k.items ∙ same)) ∙ differ))

  by_same : (b : Bool) → bytes_eq key.items name ≡ b → get_by (to_name name) new ≡ cond b number (get_by (to_name name) old)
  by_same true told = subst (λ (text : List ℕ). get_by (to_name text) new ≡ number) (same_bytes key.items name told) updates.1
  by_same false told = others old.entries new.entries (is_at (to_name key.items)) (is_at (to_name name)) updates.3 (λ x y. (eq_by_cmp_equiv nat_list_cmp_total).congr name x.items y.items) (apart told)

bytes_decide : (a b : List ℕ) → Decides (bytes_eq a b) (a ≡ b)
bytes_decide a b = bytes_eq-Decides a b

-- the index of a text among names, one of which is new
index_push : (names : List (List ℕ)) (last name : List ℕ) → ¬ Contains names last → position (bytes_eq name) (names ++ last ∷ []) ≡ cond (bytes_eq last name) (Some (length names)) (position (bytes_eq name) names)
index_push names last name new = by_same (bytes_eq last name) refl where
  by_same : (b : Bool) → bytes_eq last name ≡ b → position (bytes_eq name) (names ++ last ∷ []) ≡ cond b (Some (length names)) (position (bytes_eq name) names)
  by_same true told =
      let here : bytes_eq name last ≡ true = nat_list_eq_equiv.symm name last ∙ told in
      let none : position_or_len (bytes_eq name) names ≡ length names = placed_nowhere bytes_decide names name (subst (λ (text : List ℕ). ¬ Contains names text) (same_bytes last name told) new) in
      let pushed = position_or_len_push (bytes_eq name) names last in
      let long = length_push names last in
      grind (arith, nat_tests, here, none, pushed, long)
  by_same false told =
      let elsewhere : bytes_eq name last ≡ false = nat_list_eq_equiv.symm name last ∙ told in
      let pushed = position_or_len_push (bytes_eq name) names last in
      let long = length_push names last in
      let most = prefix_len-le-length (λ (other : List ℕ). not (bytes_eq name other)) names in
      grind (arith, nat_tests, elsewhere, pushed, long, most)

-- each name is found, where a name that is new got the next number
pub found_push : (find now : List ℕ → Option ℕ) (names : List (List ℕ)) (last : List ℕ) → ¬ Contains names last → AreFound find names
    → ((name : List ℕ) → now name ≡ cond (bytes_eq last name) (Some (length names)) (find name)) → AreFound now (names ++ last ∷ [])
found_push find now names last new found after name =
    after name ∙ (ap (λ (o : Option ℕ). cond (bytes_eq last name) (Some (length names)) o) (found name) ∙ sym (index_push names last name new))

pub known_already : (names : List (List ℕ)) (name : List ℕ) (number : ℕ) → number ≡ number_of names name → number < length names → HasAll (name ∷ []) names names
known_already names name number is within = record {
  added = λ (other : List ℕ) (there : Contains (name ∷ []) other). subst (Contains names) (one_of name other there) (there_by bytes_eq same_bytes told_same names name (subst (λ (n : ℕ). n < length names) is within));
  unchanged = λ (other : List ℕ) (there : Contains names other). there;
}

pub put_last : (names : List (List ℕ)) (name : List ℕ) → HasAll (name ∷ []) names (names ++ name ∷ [])
put_last names name = record {
  added = λ (other : List ℕ) (there : Contains (name ∷ []) other). subst (Contains (names ++ name ∷ [])) (one_of name other there) (Contains-append_right names (name ∷ []) name (Contains-first name []));
  unchanged = λ (other : List ℕ) (there : Contains names other). Contains-append_left names (name ∷ []) other there;
}
