-- A name that is read is spelled so, and what is spelled so is read.
use Rattle.std.proofs.Common.{◌≡◌, ℕ, List, ◌++◌, Some, refl, ap, subst, ◌∙◌, append_assoc}
use Rattle.std.proofs.lemmas.Option.{same_Some}
use Rattle.base.specs.declared.file.FileName.{FileName}
use Rattle.base.specs.Bytes.{text_bytes}
use Rattle.base.specs.Jobs.{name_bytes}
use Rattle.base_bytes.specs.Reading.{◌>>=◌, AreBytes, Takes, text_at}
use Rattle.base_bytes.specs.Names.{name_at, HasNameSpelling}
use Rattle.base_bytes.proofs.Fields.{bind_some, Takes-then, text_takes, text_again}

pub name_takes : (bytes : List ℕ) (name : FileName) (left : List ℕ) → AreBytes bytes → name_at bytes ≡ Some (name, left) → Takes bytes (name_bytes name) left × HasNameSpelling name
unfolding name_at name_bytes
name_takes bytes name left fits e =
    let a = bind_some (text_at bytes) (λ library. text_at library.1 >>= λ path. Some (record { library = library.0; path = path.0 }, path.1)) (name, left) e in
    let b = bind_some (text_at a.0.1) (λ path. Some (record { library = a.0.0; path = path.0 }, path.1)) (name, left) a.2 in
    let t0 = text_takes bytes a.0.0 a.0.1 fits a.1 in
    let t1 = text_takes a.0.1 b.0.0 b.0.1 t0.0.left_are_bytes b.1 in
    let both = Takes-then bytes (text_bytes a.0.0) a.0.1 (text_bytes b.0.0) b.0.1 t0.0 t1.0 in
    let made : FileName × List ℕ = (record { library = a.0.0; path = b.0.0 }, b.0.1) in
    subst (λ (y : FileName × List ℕ). Takes bytes (text_bytes y.0.library ++ text_bytes y.0.path) y.1 × HasNameSpelling y.0) (same_Some made (name, left) b.2) (both, record { library = t0.1; path = t1.1 })

pub name_again : (name : FileName) (left : List ℕ) → HasNameSpelling name → name_at (name_bytes name ++ left) ≡ Some (name, left)
unfolding name_at name_bytes
name_again name left fits =
    ap name_at (append_assoc (text_bytes name.library) (text_bytes name.path) left) ∙ rw (text_again name.library (text_bytes name.path ++ left) fits.library, text_again name.path left fits.path) refl
