-- The units that the references of a file want, unit after unit.
use Rattle.std.proofs.Common.{◌≡◌, ℕ, zero, suc, ◌+◌, ◌≤◌, Option, Some, None, List, [], ◌∷◌, ◌++◌, length, take, refl, sym, ap, ◌∙◌, arith, append-nil}
use Rattle.std.specs.Prelude.{slice_get}
use Rattle.std.specs.List.{flat_map}
use Rattle.std.specs.Option.{option_map}
use Rattle.std.proofs.lemmas.Grind.{flat_map-append}
use Rattle.std.proofs.lemmas.List.{length-map}
use Rattle.base.specs.declared.design.Scan.{Scan}
use Rattle.vhdl_spec.proofs.Lying.{tokens_few}
use Rattle.vhdl_spec.proofs.Placed.{units_few}
use Rattle.vhdl_spec.specs.Scans.{IsScanOf}
use Rattle.vhdl_spec.specs.Units.{role_of, roles_of}

module _ {X Y : Type 0} (f : X → List Y) where
  take_got : (xs : List X) (i : ℕ) (x : X) → slice_get xs i ≡ Some x → take (i + 1) xs ≡ take i xs ++ x ∷ []
  take_got [] i x is = let never : ⊥ = cc in absurd never
  take_got (y ∷ xs) zero x is = let same : y ≡ x = cc in ap (λ (q : X). q ∷ []) same
  take_got (y ∷ xs) (suc i) x is =
      let next : suc i + 1 ≡ suc (i + 1) = omega arith in
      rw next (ap (λ (rest : List X). y ∷ rest) (take_got xs i x is))

  -- one element more
  pub joined_more : (xs : List X) (i : ℕ) (old new : List Y) → old ≡ flat_map f (take i xs) → option_map (λ x. old ++ f x) (slice_get xs i) ≡ Some new → new ≡ flat_map f (take (i + 1) xs)
  joined_more xs i old new are is = by (slice_get xs i) refl is where
    by : (got : Option X) → slice_get xs i ≡ got → option_map (λ x. old ++ f x) got ≡ Some new → new ≡ flat_map f (take (i + 1) xs)
    by None at is = let never : ⊥ = cc in absurd never
    by (Some x) at is =
        let same : old ++ f x ≡ new = cc in
        sym same ∙ (ap (λ (some : List Y). some ++ f x) are ∙ (ap (λ (rest : List Y). flat_map f (take i xs) ++ rest) (sym (append-nil (f x))) ∙ (sym (flat_map-append f (take i xs) (x ∷ [])) ∙ ap (flat_map f) (sym (take_got xs i x at)))))

pub few_units : (text : List ℕ) (scan : Scan) → IsScanOf text scan → length scan.units ≤ length text
few_units text scan is =
    let few = units_few text scan.tokens.list 0 0 is.elements (length (roles_of text scan.tokens.list)) is.outline in
    omega (arith, length-map scan.tokens.list (role_of text), tokens_few text scan.tokens is.tokens, ap length is.units)
