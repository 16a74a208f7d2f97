-- What is read and tested is spelled so, and what passes the test is read.
use Rattle.std.proofs.Common.{◌≡◌, ℕ, Bool, true, cond, List, ◌++◌, Option, Some, None, refl, subst}
use Rattle.base_bytes.specs.Reading.{AreBytes, Takes}
use Rattle.base_bytes.proofs.Fields.{bind_some, guard_ended}
use Rattle.child_compile_request.specs.Reading.{tested_at}

module _ {X : Type 0} (test : X → Bool) (read : List ℕ → Option (X × List ℕ)) (spelling : X → List ℕ) (Fits : X → Type 0) where
  pub tested_takes : ((bytes : List ℕ) (x : X) (left : List ℕ) → AreBytes bytes → read bytes ≡ Some (x, left) → Takes bytes (spelling x) left × Fits x)
      → (bytes : List ℕ) (x : X) (left : List ℕ) → AreBytes bytes → tested_at test read bytes ≡ Some (x, left) → Takes bytes (spelling x) left × (test x ≡ true)
  tested_takes law bytes x left fits e =
      let a = bind_some (read bytes) (λ y. cond (test y.0) (Some y) None) (x, left) e in
      let g = guard_ended (test a.0.0) a.0 (x, left) a.2 in
      let t = law bytes a.0.0 a.0.1 fits a.1 in
      subst (λ (y : X × List ℕ). Takes bytes (spelling y.0) y.1 × (test y.0 ≡ true)) g.1 (t.0, g.0)

  pub tested_again : ((x : X) (left : List ℕ) → Fits x → read (spelling x ++ left) ≡ Some (x, left))
      → (x : X) (left : List ℕ) → Fits x → test x ≡ true → tested_at test read (spelling x ++ left) ≡ Some (x, left)
  tested_again law x left fits passes = rw (law x left fits, passes) refl
