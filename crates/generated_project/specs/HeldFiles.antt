-- What the tree of the generated project holds.
use Rattle.std.specs.Prelude.{ℕ, List}
use Rattle.base.specs.declared.file.NamedText.{NamedText}

-- The tree of the generated project: its files, the paths that it was asked for, how often it failed, how many packages there
-- are, and which one is edited.
pub record HeldFiles : Type 0 where
  pub files : List NamedText
  pub asked : List (List ℕ)
  pub failed : ℕ
  pub packages : ℕ
  pub edited : ℕ
