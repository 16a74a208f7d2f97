-- Whether a list can be cut into one part for each pattern part of a pattern: a pattern part stands for any part, or for one element.
use Rattle.std.specs.Prelude.{Bool, true, false, ◌&&◌, if◌then◌else◌, List, [], ◌∷◌}
use Rattle.std.specs.List.{list_any}

-- the suffixes of a list, from the whole list down to the empty one
abbrev pub ends_of : {X : Type 0} → List X → List (List X)
ends_of [] = [] ∷ []
ends_of (x ∷ xs) = (x ∷ xs) ∷ ends_of xs

-- the first element passes one test, and the rest of the list passes the other; false for an empty list
abbrev pub first_is : {X : Type 0} → (X → Bool) → (List X → Bool) → List X → Bool
first_is right others [] = false
first_is right others (x ∷ xs) = right x && others xs

-- A test for the pattern parts that stand for any part, and one for the elements that another pattern part may stand for.
unfoldable pub fits_pattern_parts : {P X : Type 0} → (P → Bool) → (P → X → Bool) → List P → List X → Bool
fits_pattern_parts any right [] [] = true
fits_pattern_parts any right [] (x ∷ xs) = false
fits_pattern_parts any right (pattern_part ∷ pattern_parts) xs =
    if any pattern_part then list_any (fits_pattern_parts any right pattern_parts) (ends_of xs) else first_is (right pattern_part) (fits_pattern_parts any right pattern_parts) xs
