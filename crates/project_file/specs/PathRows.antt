-- Which ends of a path some parts of a pattern match, from each of its components on.
use Rattle.std.specs.Prelude.{◌≡◌, ℕ, ◌+◌, ◌<◌, ◌≤◌, Bool, false, List, length, drop, map, slice_index_or}
use Rattle.std.specs.List.{list_any}
use Rattle.std.specs.Borrow.{Bor}
use Rattle.testbench_select.specs.Patterns.{pattern_parts_of}
use Rattle.testbench_select.specs.Segments.{is_match}
use Rattle.testbench_select.specs.Fits.{ends_of, fits_pattern_parts}
use Rattle.project_file.specs.declared.paths.Part.{Part}
use Rattle.project_file.specs.Paths.{is_any_components}

-- the part of a pattern that a text between slashes is: `**`, or a pattern of one component
abbrev pub part_of : List ℕ → Part
part_of text = record { any = is_any_components text; pattern = pattern_parts_of text }

-- the texts that borrowed ones have now
abbrev pub texts_seen : List (Bor (List ℕ)) → List (List ℕ)
texts_seen texts = map (λ text. text.now) texts

-- whether parts match components
abbrev pub fits_parts : List Part → List (List ℕ) → Bool
fits_parts parts components = fits_pattern_parts (λ part. part.any) (λ part component. is_match part.pattern component) parts components

-- a row has what a test says of the components from each index before one on, and another test of those from there on
pub record IsRowFrom (before after : List (List ℕ) → Bool) (components : List (Bor (List ℕ))) (file_index : ℕ) (row : List Bool) : Type 0 where
  pub long : length row ≡ length components + 1
  pub first : (j : ℕ) → j < file_index → j ≤ length components → slice_index_or row j false ≡ before (texts_seen (drop j components))
  pub last : (j : ℕ) → file_index ≤ j → j ≤ length components → slice_index_or row j false ≡ after (texts_seen (drop j components))

-- a row has what a test says of the components from each index on
abbrev pub IsRow : (List (List ℕ) → Bool) → List (Bor (List ℕ)) → List Bool → Type 0
IsRow test components row = IsRowFrom test test components 0 row

-- whether some of the ends of components pass a test
abbrev pub any_end : (List (List ℕ) → Bool) → List (List ℕ) → Bool
any_end test components = list_any test (ends_of components)
