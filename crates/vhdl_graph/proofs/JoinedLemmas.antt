-- Keys whose names stand one after another are the same exactly where all of them is.
use Rattle.std.proofs.Common.{◌≡◌, ℕ, ◌-◌, Bool, true, false, ◌&&◌, List, ◌++◌, drop, length, nat_eq, take, refl, sym, ◌∙◌, ap, subst, arith, append_assoc, eq-eqb}
use Rattle.std.specs.Str.{bytes_eq}
use Rattle.std.proofs.Math.Seq.{drop-append_seam, take-append_seam}
use Rattle.std.proofs.Math.Bool.{beq}
use Rattle.std.proofs.lemmas.Bool.{eqb-true}
use Rattle.std.proofs.lemmas.List.{length-drop, length-take-le, take-append-drop, take_rest}
use Rattle.std.proofs.lemmas.Slice.Eq.{bytes_eq-Decides}
use Rattle.vhdl_spec.proofs.SomeTests.{and_cases}
use Rattle.vhdl_scope.proofs.TableLemmas.{both_ways}
use Rattle.vhdl_graph.specs.declared.key.Head.{Head}
use Rattle.vhdl_graph.specs.Joined.{AreJoined, joined_key}
use Rattle.vhdl_graph.specs.Keys.{DesignUnitKey, is_same_key}
use Rattle.vhdl_graph.proofs.KeyLemmas.{same_key, told_key}

abbrev key : Bool → Bool → List ℕ → List ℕ → List ℕ → DesignUnitKey
key primary body library entity name = record { primary = primary; body = body; library = library; entity = entity; name = name }

-- a slice to the end has what comes after its start
pub rest_is : {X : Type 0} (xs : List X) (at : ℕ) → take (length xs - at) (drop at xs) ≡ drop at xs
rest_is xs at = take_rest xs at

-- names that stand one after another are those of a key
pub joined_is : (head : Head) (library entity name letters : List ℕ) → head.library ≡ length library → head.entity ≡ length entity → letters ≡ (library ++ entity) ++ name → joined_key head letters ≡ key head.primary head.body library entity name
unfolding joined_key
joined_is head library entity name letters first second is =
    let whole : letters ≡ library ++ (entity ++ name) = is ∙ append_assoc library entity name in
    let rest : drop head.library letters ≡ entity ++ name = ap (λ (n : ℕ). drop n letters) first ∙ (ap (drop (length library)) whole ∙ drop-append_seam library (entity ++ name)) in
    ap (λ (some : List ℕ). key head.primary head.body some (take head.entity (drop head.library letters)) (drop head.entity (drop head.library letters))) (ap (λ (n : ℕ). take n letters) first ∙ (ap (take (length library)) whole ∙ take-append_seam library (entity ++ name)))
    ∙ (ap (λ (some : List ℕ). key head.primary head.body library (take head.entity some) (drop head.entity some)) rest
    ∙ (ap (λ (n : ℕ). key head.primary head.body library (take n (entity ++ name)) (drop n (entity ++ name))) second
    ∙ (ap (λ (some : List ℕ). key head.primary head.body library some (drop (length entity) (entity ++ name))) (take-append_seam entity name)
    ∙ ap (key head.primary head.body library entity) (drop-append_seam entity name))))

-- all letters, from the names
pub letters_are : (head : Head) (letters : List ℕ) (named : DesignUnitKey) → joined_key head letters ≡ named → letters ≡ named.library ++ (named.entity ++ named.name)
unfolding joined_key
letters_are head letters named is =
    subst (λ (k : DesignUnitKey). letters ≡ k.library ++ (k.entity ++ k.name)) is
    (sym (ap (λ (rest : List ℕ). take head.library letters ++ rest) (take-append-drop head.entity (drop head.library letters)) ∙ take-append-drop head.library letters))

counts : (head : Head) (letters : List ℕ) → AreJoined head letters → (length (joined_key head letters).library ≡ head.library) × (length (joined_key head letters).entity ≡ head.entity)
unfolding joined_key
counts head letters fit = (
  length-take-le head.library letters (omega (arith, fit)),
  length-take-le head.entity (drop head.library letters) (let long = length-drop head.library letters in omega (arith, fit, long)),
)

-- ## Heads

abbrev pub same_head : Head → Head → Bool
same_head a b = beq a.primary b.primary && (beq a.body b.body && (nat_eq a.library b.library && nat_eq a.entity b.entity))

same_flags : (a b : Bool) → beq a b ≡ true → a ≡ b
same_flags true true told = refl
same_flags true false told = let never : ⊥ = cc in absurd never
same_flags false true told = let never : ⊥ = cc in absurd never
same_flags false false told = refl

itself : (a : Bool) → beq a a ≡ true
itself true = refl
itself false = refl

head : Bool → Bool → ℕ → ℕ → Head
head primary body library entity = record { primary = primary; body = body; library = library; entity = entity }

pub same_heads : (a b : Head) → same_head a b ≡ true → a ≡ b
unfolding head
same_heads a b told =
    let one = and_cases (beq a.primary b.primary) _ told in
    let two = and_cases (beq a.body b.body) _ (one.1) in
    let three = and_cases (nat_eq a.library b.library) _ (two.1) in
    ap (λ (p : Bool). head p a.body a.library a.entity) (same_flags a.primary b.primary one.0)
    ∙ (ap (λ (p : Bool). head b.primary p a.library a.entity) (same_flags a.body b.body two.0)
    ∙ (ap (λ (n : ℕ). head b.primary b.body n a.entity) (eqb-true a.library b.library three.0)
    ∙ ap (head b.primary b.body b.library) (eqb-true a.entity b.entity three.1)))

told_heads : (a b : Head) → a.primary ≡ b.primary → a.body ≡ b.body → a.library ≡ b.library → a.entity ≡ b.entity → same_head a b ≡ true
told_heads a b primary body library entity =
    ap (λ (p : Bool). beq p b.primary && (beq a.body b.body && (nat_eq a.library b.library && nat_eq a.entity b.entity))) primary
    ∙ (ap (λ (q : Bool). q && (beq a.body b.body && (nat_eq a.library b.library && nat_eq a.entity b.entity))) (itself b.primary)
    ∙ (ap (λ (p : Bool). beq p b.body && (nat_eq a.library b.library && nat_eq a.entity b.entity)) body
    ∙ (ap (λ (q : Bool). q && (nat_eq a.library b.library && nat_eq a.entity b.entity)) (itself b.body)
    ∙ (ap (λ (q : Bool). q && nat_eq a.entity b.entity) (eq-eqb a.library b.library library)
    ∙ eq-eqb a.entity b.entity entity))))

-- ## Keys

flags : (a b : Head) (letters others : List ℕ) → joined_key a letters ≡ joined_key b others → (a.primary ≡ b.primary) × (a.body ≡ b.body)
unfolding joined_key
flags a b letters others keys = (ap (λ (k : DesignUnitKey). k.primary) keys, ap (λ (k : DesignUnitKey). k.body) keys)

module _ (a b : Head) (letters others : List ℕ) (one other : DesignUnitKey) (is : joined_key a letters ≡ one) (also : joined_key b others ≡ other) where
  -- under the same head keys are the same exactly where their letters are
  pub by_letters : a ≡ b → bytes_eq letters others ≡ is_same_key one other
  by_letters same = both_ways (bytes_eq letters others) (is_same_key one other) there back where
    there : bytes_eq letters others ≡ true → is_same_key one other ≡ true
    there told = told_key one other (sym is ∙ (ap (λ (h : Head). joined_key h letters) same ∙ (ap (joined_key b) ((bytes_eq-Decides letters others).0 told) ∙ also)))

    back : is_same_key one other ≡ true → bytes_eq letters others ≡ true
    back told =
        let keys = same_key one other told in
        (bytes_eq-Decides letters others).1 (letters_are a letters one is ∙ (ap (λ (k : DesignUnitKey). k.library ++ (k.entity ++ k.name)) keys ∙ sym (letters_are b others other also)))

  -- under different heads they aren't
  pub by_heads : AreJoined a letters → AreJoined b others → same_head a b ≡ false → is_same_key one other ≡ false
  by_heads fit fits differ = both_ways (is_same_key one other) false there (λ (told : false ≡ true). let never : ⊥ = cc in absurd never) where
    there : is_same_key one other ≡ true → false ≡ true
    there told =
        let keys : joined_key a letters ≡ joined_key b others = is ∙ (same_key one other told ∙ sym also) in
        let first = counts a letters fit in
        let second = counts b others fits in
        sym differ ∙ told_heads a b (flags a b letters others keys).0 (flags a b letters others keys).1 (sym first.0 ∙ (ap (λ (k : DesignUnitKey). length k.library) keys ∙ second.0)) (sym first.1 ∙ (ap (λ (k : DesignUnitKey). length k.entity) keys ∙ second.1))
