-- Overlays: the files of a base tree, with unsaved texts in place of saved ones.
use Rattle.std.specs.Prelude.{◌≡◌, ℕ, List, ◌++◌, filter, Option}
use Rattle.std.specs.Option.{option_or}
use Rattle.std.proofs.Common.{ap, ◌∙◌}
use Rattle.base.specs.declared.file.NamedText.{NamedText}
use Rattle.outside.specs.Trees.{is_listed, HoldsSame}
use Rattle.memory_outside.specs.Trees.{file_at, paths_of, rising_paths}

-- the file of a path: its unsaved text, or else the base's file
abbrev pub overlay_file : List NamedText → (List ℕ → Option (List ℕ)) → List ℕ → Option (List ℕ)
overlay_file texts file path = option_or (file_at texts path) (file path)

-- what an overlay lists: the paths of its base and those of the unsaved texts that a tree lists, in rising order, each once
abbrev pub overlay_names : List NamedText → List (List ℕ) → List (List ℕ)
overlay_names texts paths = rising_paths (filter is_listed (paths_of texts) ++ paths)

-- equal pairs have equal parts
pub first_same : {A B : Type 0} {x y : A × B} → x ≡ y → x.0 ≡ y.0
first_same same = ap (λ pair. pair.0) same

pub second_same : {A B : Type 0} {x y : A × B} → x ≡ y → x.1 ≡ y.1
second_same same = ap (λ pair. pair.1) same

-- the same unsaved texts over bases that hold the same
pub same_overlay : {texts others : List NamedText} {file other : List ℕ → Option (List ℕ)} {paths more : List (List ℕ)} → texts ≡ others → HoldsSame file other paths more → HoldsSame (overlay_file texts file) (overlay_file others other) (overlay_names texts paths) (overlay_names others more)
same_overlay {texts} {others} {file} {other} {paths} {more} same holds = record {
  files = ap (overlay_file texts) holds.files ∙ ap (λ (some : List NamedText). overlay_file some other) same;
  lists = ap (overlay_names texts) holds.lists ∙ ap (λ (some : List NamedText). overlay_names some more) same;
}
