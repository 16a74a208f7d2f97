-- A key that is put into a set, by the names of the keys.
use Rattle.std.proofs.Common.{◌≡◌, Bool, true, false, ◌||◌, ◌&&◌, List, [], ◌∷◌, ◌++◌, map, refl, sym, ap, ◌∙◌}
use Rattle.std.proofs.lemmas.List.Folds.{list_any-append}
use Rattle.std.proofs.lemmas.Map.Text.{is_eq-slice_cmp}
use Rattle.std.specs.List.{list_any}
use Rattle.std.specs.Ordering.{ordering_then, is_eq, match_ordering, nat_cmp}
use Rattle.std.specs.Cmp.Lexicographic.{slice_cmp}
use Rattle.std.specs.declared.cmp.Ordering.{Ordering}
use Rattle.std.specs.declared.cmp.Ordering.TheVariants.{Less, Equal, Greater}
use Rattle.std.specs.BTreeSet.{insert_key}
use Rattle.base.specs.declared.file.FileName.{FileName}
use Rattle.base_collections.specs.declared.names.Key.{Key}
use Rattle.base.specs.Names.{is_same_name, has_name}
use Rattle.base_collections.specs.NameKeys.{name_of_key, key_cmp}
use Rattle.base_collections.proofs.SameNames.{names_same, same_back}

is_eq-ordering_then : (x y : Ordering) → is_eq (ordering_then x y) ≡ (is_eq x && is_eq y)
is_eq-ordering_then Less y = refl
is_eq-ordering_then Equal y = refl
is_eq-ordering_then Greater y = refl

-- keys that compare alike have one name
is_eq-key_cmp : (a b : Key) → is_eq (key_cmp a b) ≡ is_same_name (name_of_key a) (name_of_key b)
is_eq-key_cmp a b = is_eq-ordering_then (slice_cmp nat_cmp a.library.items b.library.items) (slice_cmp nat_cmp a.path.items b.path.items) ∙ rw (is_eq-slice_cmp a.library.items b.library.items, is_eq-slice_cmp a.path.items b.path.items) refl

-- a key is found where its name is
pub finds : (key : Key) (keys : List Key) → list_any (λ other. is_eq (key_cmp key other)) keys ≡ has_name (map name_of_key keys) (name_of_key key)
finds key [] = refl
finds key (x ∷ xs) = rw (is_eq-key_cmp key x ∙ same_back (name_of_key key) (name_of_key x), finds key xs) refl

before_all : (p q r : Bool) → (p || (q || r)) ≡ (q || (r || (p || false)))
before_all true true r = refl
before_all true false true = refl
before_all true false false = refl
before_all false true r = refl
before_all false false true = refl
before_all false false false = refl

in_index : (p q r : Bool) → p ≡ q → (q || r) ≡ (q || (r || (p || false)))
in_index true true r e = refl
in_index true false r e = absurd cc
in_index false true r e = absurd cc
in_index false false true e = refl
in_index false false false e = refl

module _ (key : Key) (name : FileName) where
  abbrev Puts : List Key → List Key → Type 0
  Puts keys new = has_name (map name_of_key new) name ≡ has_name (map name_of_key keys ++ name_of_key key ∷ []) name

  after : (xs : List Key) → has_name (map name_of_key xs ++ name_of_key key ∷ []) name ≡ (has_name (map name_of_key xs) name || (is_same_name (name_of_key key) name || false))
  after xs = list_any-append (λ n. is_same_name n name) (map name_of_key xs) (name_of_key key ∷ [])

  puts_beside : (order : Ordering) (x : Key) (xs : List Key) → key_cmp key x ≡ order → Puts xs (insert_key key_cmp xs key) → Puts (x ∷ xs) (match_ordering order (key ∷ x ∷ xs) (x ∷ xs) (x ∷ insert_key key_cmp xs key))
  puts_beside Less x xs e rest =
      before_all (is_same_name (name_of_key key) name) (is_same_name (name_of_key x) name) (has_name (map name_of_key xs) name) ∙ ap (λ (b : Bool). is_same_name (name_of_key x) name || b) (sym (after xs))
  puts_beside Equal x xs e rest =
      let same : name_of_key key ≡ name_of_key x = names_same (name_of_key key) (name_of_key x) (sym (is_eq-key_cmp key x) ∙ ap is_eq e) in
      in_index (is_same_name (name_of_key key) name) (is_same_name (name_of_key x) name) (has_name (map name_of_key xs) name) (ap (λ (n : FileName). is_same_name n name) same) ∙ ap (λ (b : Bool). is_same_name (name_of_key x) name || b) (sym (after xs))
  puts_beside Greater x xs e rest = ap (λ (b : Bool). is_same_name (name_of_key x) name || b) rest

  -- the set then has the names that it had, and this one
  pub puts : (keys : List Key) → has_name (map name_of_key (insert_key key_cmp keys key)) name ≡ has_name (map name_of_key keys ++ name_of_key key ∷ []) name
  puts [] = refl
  puts (x ∷ xs) = puts_beside (key_cmp key x) x xs refl (puts xs)
