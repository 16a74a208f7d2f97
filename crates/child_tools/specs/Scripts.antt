-- What the comments of a file say to the children of the program: a line comment that begins with `-- child: ` is a script
-- line.
use Rattle.std.specs.Prelude.{ℕ, List, slice_get, slice_range, codes, Option}
use Rattle.std.specs.List.{filter_map}
use Rattle.std.specs.Option.{option_and_then}
use Rattle.base.specs.declared.lexical.Span.{Span}
use Rattle.child_lines.specs.Lines.{after_word}

-- the script line of the comment at some bytes of a text, if it is one
abbrev pub script_at : List ℕ → Span → Option (List ℕ)
script_at text span = after_word (codes "-- child: ") (slice_range text span.start span.end)

-- what such a line says after `refuse `, if it begins so
abbrev pub refusal_at : List ℕ → Span → Option (List ℕ)
refusal_at text span = option_and_then (after_word (codes "refuse ")) (script_at text span)

-- the text after `refuse ` in the first script line that begins with it
abbrev pub first_refusal : List ℕ → List Span → Option (List ℕ)
first_refusal text comments = slice_get (filter_map (refusal_at text) comments) 0
