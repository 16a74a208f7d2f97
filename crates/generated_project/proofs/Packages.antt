-- The files of packages, one by one.
use Rattle.std.proofs.Common.{◌≡◌, ℕ, ◌+◌, List, [], ◌∷◌, ◌++◌, map, refl, ap, ◌∙◌}
use Rattle.std.proofs.lemmas.List.{map-append}
use Rattle.base.specs.declared.file.NamedText.{NamedText}
use Rattle.base.specs.PresentGraph.{below}
use Rattle.base.proofs.Below.{below-zero, below-more}
use Rattle.generated_project.specs.Files.{package_file, packages}

abbrev file_after : ℕ → ℕ → NamedText
file_after edited before = package_file edited (before + 1)

pub packages-none : (edited : ℕ) → packages edited 0 ≡ []
packages-none edited = ap (map (file_after edited)) below-zero

pub packages-more : (edited count : ℕ) → packages edited (count + 1) ≡ packages edited count ++ package_file edited (count + 1) ∷ []
packages-more edited count = ap (map (file_after edited)) (below-more count) ∙ map-append (file_after edited) (below count) (count ∷ [])
