-- What is read of bytes where reading undoes spelling, and bytes behind a magic.
use Rattle.std.proofs.Common.{◌≡◌, ℕ, cond, List, ◌++◌, length, Option, Some, None, refl, sym, ap, ◌∙◌}
use Rattle.std.specs.Prelude.{IfSome, IsSome}
use Rattle.std.specs.Str.{bytes_eq}
use Rattle.std.proofs.lemmas.Slice.Eq.{bytes_eq-Decides}
use Rattle.std.proofs.lemmas.Option.{same_Some}
use Rattle.base_bytes.specs.Reading.{AreBytes, ReadsAll, taken_at}
use Rattle.base_bytes.proofs.Fields.{bind_some, guard_first, taken_takes, taken_again}
use Rattle.child_compile_request.specs.Reading.{after_magic_at, behind}

module _ {X : Type 0} (read : List ℕ → Option X) (spelling : X → List ℕ) (Is : X → Type 0) where
  module _ (again : (x : X) → Is x → read (spelling x) ≡ Some x) where
    -- two things never have the same bytes
    pub same_spelled : (x other : X) → Is x → Is other → spelling x ≡ spelling other → x ≡ other
    same_spelled x other is is_other e = same_Some x other (sym (again x is) ∙ ap read e ∙ again other is_other)

    -- where a thing has these bytes, a reader gives it
    pub is_given : (bytes : List ℕ) (given : Option X) → ReadsAll (λ same. same) given (read bytes) → (x : X) → Is x → bytes ≡ spelling x → IsSome given
    is_given bytes None none x is e = let both = sym none ∙ ap read e ∙ again x is in absurd cc
    is_given bytes (Some other) found x is e = refl

    pub is_that : (bytes : List ℕ) (given : Option X) → ReadsAll (λ same. same) given (read bytes) → (x : X) → Is x → bytes ≡ spelling x → IfSome given (λ other. other ≡ x)
    is_that bytes None none x is e = tt
    is_that bytes (Some other) found x is e = same_Some other x (sym found ∙ ap read e ∙ again x is)

  -- what a reader gives is a thing with these bytes
  pub is_one : ((bytes : List ℕ) (x : X) → AreBytes bytes → read bytes ≡ Some x → Is x × (bytes ≡ spelling x))
      → (bytes : List ℕ) (given : Option X) → AreBytes bytes → ReadsAll (λ same. same) given (read bytes) → IfSome given (λ x. Is x × (bytes ≡ spelling x))
  is_one takes bytes None fits e = tt
  is_one takes bytes (Some x) fits e = takes bytes x fits e

  -- a magic, and a spelling behind it
  module _ (magic : List ℕ) where
    pub behind_takes : ((bytes : List ℕ) (x : X) → AreBytes bytes → read bytes ≡ Some x → Is x × (bytes ≡ spelling x))
        → (bytes : List ℕ) (x : X) → AreBytes bytes → behind magic read bytes ≡ Some x → Is x × (bytes ≡ magic ++ spelling x)
    unfolding after_magic_at
    behind_takes law bytes x fits e =
        let a = bind_some (after_magic_at magic bytes) read x e in
        let b = bind_some (taken_at (length magic) bytes) (λ taken. cond (bytes_eq taken.0 magic) (Some taken.1) None) a.0 a.1 in
        let t = taken_takes (length magic) bytes b.0.0 b.0.1 fits b.1 in
        let g = guard_first (bytes_eq b.0.0 magic) (Some b.0.1) a.0 b.2 in
        let same : b.0.0 ≡ magic = (bytes_eq-Decides b.0.0 magic).0 g.0 in
        let rest : b.0.1 ≡ a.0 = same_Some b.0.1 a.0 g.1 in
        let fields = law b.0.1 x t.0.left_are_bytes (ap read rest ∙ a.2) in
        (fields.0, t.0.parts ∙ ap (λ (m : List ℕ). m ++ b.0.1) same ∙ ap (λ (f : List ℕ). magic ++ f) fields.1)

    pub behind_again : ((x : X) → Is x → read (spelling x) ≡ Some x) → (x : X) → Is x → behind magic read (magic ++ spelling x) ≡ Some x
    unfolding after_magic_at
    behind_again law x is = rw (taken_again magic (spelling x), (bytes_eq-Decides magic magic).1 refl) (law x is)
