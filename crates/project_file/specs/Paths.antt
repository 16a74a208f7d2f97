-- Which paths a pattern of files matches: part by part, between slashes.
use Rattle.std.specs.Prelude.{ℕ, Bool, ◌==◌, List, codes}
use Rattle.std.specs.List.{slice_split}
use Rattle.std.specs.Str.{bytes_eq}
use Rattle.testbench_select.specs.Patterns.{pattern_parts_of}
use Rattle.testbench_select.specs.Segments.{is_match}
use Rattle.testbench_select.specs.Fits.{fits_pattern_parts}

-- the parts of a text between slashes
abbrev pub components : List ℕ → List (List ℕ)
components text = slice_split (λ byte. byte == 47) text

-- the part of a pattern that stands for any number of components
abbrev pub is_any_components : List ℕ → Bool
is_any_components part = bytes_eq part (codes "**")

-- a part that stands for one component is a pattern of it
abbrev pub is_component_of : List ℕ → List ℕ → Bool
is_component_of part component = is_match (pattern_parts_of part) component

-- whether a pattern matches a path
unfoldable pub matches_path : List ℕ → List ℕ → Bool
matches_path pattern path = fits_pattern_parts is_any_components is_component_of (components pattern) (components path)
