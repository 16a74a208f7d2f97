-- Names that are the same, and sets that hold one more.
use Rattle.std.proofs.Common.{◌≡◌, ℕ, Bool, true, ◌||◌, List, [], ◌∷◌, ◌++◌, sym, ap, ◌∙◌, inl, inr}
use Rattle.std.proofs.lemmas.Bool.{cases_Bool, and_parts, and_from, both_ways, false_from_ne_true}
use Rattle.std.proofs.lemmas.List.Folds.{list_any-append}
use Rattle.std.proofs.lemmas.Slice.Eq.{bytes_eq-Decides}
use Rattle.base.specs.declared.file.FileName.{FileName}
use Rattle.base_collections.specs.Names.{Holds}
use Rattle.base.specs.Names.{is_same_name, has_name}

pub same_names : (a b : FileName) → a ≡ b → is_same_name a b ≡ true
same_names a b e = and_from _ _ ((bytes_eq-Decides a.library b.library).1 (ap (λ (n : FileName). n.library) e)) ((bytes_eq-Decides a.path b.path).1 (ap (λ (n : FileName). n.path) e))

pub names_same : (a b : FileName) → is_same_name a b ≡ true → a ≡ b
names_same a b t =
    let p = and_parts _ _ t in
    ap (λ (library : List ℕ). record { library = library; path = a.path }) ((bytes_eq-Decides a.library b.library).0 p.0)
    ∙ ap (λ (path : List ℕ). record { library = b.library; path = path }) ((bytes_eq-Decides a.path b.path).0 p.1)

pub same_back : (a b : FileName) → is_same_name a b ≡ is_same_name b a
same_back a b =
    elim (cases_Bool (is_same_name a b)) [
      | inl t ↦ t ∙ sym (same_names b a (sym (names_same a b t)))
      | inr f ↦ f ∙ sym (false_from_ne_true (is_same_name b a) (λ t. both_ways (is_same_name a b) f (same_names a b (sym (names_same b a t)))))
    ]

-- a set that holds names, and then one more
pub holds_more : (set names new : List FileName) (name : FileName) → Holds set names → Holds new (set ++ name ∷ []) → Holds new (names ++ name ∷ [])
holds_more set names new name holds more other =
    more other
    ∙ list_any-append (λ n. is_same_name n other) set (name ∷ [])
    ∙ ap (λ (b : Bool). b || has_name (name ∷ []) other) (holds other)
    ∙ sym (list_any-append (λ n. is_same_name n other) names (name ∷ []))
