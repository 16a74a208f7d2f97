-- Lines of some inputs, by computation.
use Rattle.std.specs.Prelude.{◌≡◌, List, [], ◌∷◌, ◌++◌, codes}
use Rattle.std.proofs.Common.{refl}
use Rattle.outside.specs.Streams.{line_end, after_line}
use Rattle.outside.specs.declared.streams.LineEnd.TheVariants as line

-- an input without a byte has no line
empty : line_end [] 9 ≡ line.End
empty = refl

-- a line feed alone is an empty line, and the last one
one_feed : line_end (10 ∷ []) 0 ≡ line.Got []
one_feed = refl

nothing_after : after_line (10 ∷ []) ≡ []
nothing_after = refl

-- a line ends before its line feed, and keeps its carriage return
first : line_end (codes "ab" ++ 13 ∷ 10 ∷ codes "cd") 3 ≡ line.Got (codes "ab" ++ 13 ∷ [])
first = refl

after_first : after_line (codes "ab" ++ 13 ∷ 10 ∷ codes "cd") ≡ codes "cd"
after_first = refl

-- a last line without a line feed counts
last : line_end (codes "cd") 2 ≡ line.Got (codes "cd")
last = refl

after_last : after_line (codes "cd") ≡ []
after_last = refl

-- a line of one byte more than the limit is too long, and goes whole
long : line_end (codes "abc" ++ 10 ∷ codes "d") 2 ≡ line.TooLong
long = refl

after_long : after_line (codes "abc" ++ 10 ∷ codes "d") ≡ codes "d"
after_long = refl
