-- Names of files are equal only where they are the same.
use Rattle.std.specs.Prelude.{◌≡◌, ℕ, List}
use Rattle.std.proofs.Common.{ap, ◌∙◌}
use Rattle.std.specs.Bool.{Decides}
use Rattle.std.proofs.lemmas.Bool.Decides.{Decides-and}
use Rattle.std.proofs.lemmas.Slice.Eq.{bytes_eq-Decides}
use Rattle.base.specs.declared.file.FileName.{FileName}
use Rattle.base.specs.Names.{is_same_name}

pub names_decide : (a b : FileName) → Decides (is_same_name a b) (a ≡ b)
names_decide a b =
    let both = Decides-and _ _ (bytes_eq-Decides a.library b.library) (bytes_eq-Decides a.path b.path) in (
      λ e. ap (λ (library : List ℕ). record { library = library; path = a.path }) (both.0 e).0 ∙ ap (λ (path : List ℕ). record { library = b.library; path = path }) (both.0 e).1,
      λ e. both.1 (ap (λ (n : FileName). n.library) e, ap (λ (n : FileName). n.path) e),
    )
