-- The unsaved texts of a session: a list of paths with their texts.
use Rattle.std.specs.Prelude.{ℕ, ◌+◌, ◌≤◌, nat_le, ◌&&◌, Bool, List, [], ◌∷◌, length, if◌then◌else◌}
use Rattle.std.specs.List.{AllByRecursion}
use Rattle.std.specs.Ordering.{nat_cmp, match_ordering}
use Rattle.std.specs.Option.{is_some, option_map_or}
use Rattle.std.specs.Cmp.Lexicographic.{slice_cmp}
use Rattle.std.specs.Str.{bytes_eq}
use Rattle.base.specs.declared.file.NamedText.{NamedText}
use Rattle.base.specs.declared.limits.TheConstants.{TEXT_LIMIT, GRAPH_TEXT_LIMIT}
use Rattle.outside.specs.Trees.{IsName, is_listed}
use Rattle.memory_outside.specs.Trees.{file_at}
use Rattle.project_file.specs.Csv.{is_path}

-- A path may have an unsaved text if a project may name it and a tree may list it. So it has no component that begins
-- with a dot, and does not lie below `vunit_out`.
abbrev pub is_overlay_path : List ℕ → Bool
is_overlay_path path = is_path path && is_listed path

-- a path and its text
abbrev pub named_text : List ℕ → List ℕ → NamedText
named_text path text = record { path = path; bytes = text }

-- the texts after the text of a path is set, in rising order of the paths: the path has this text in place of an earlier one
abbrev pub with_text : List ℕ → List ℕ → List NamedText → List NamedText
with_text path text [] = named_text path text ∷ []
with_text path text (first ∷ rest) = match_ordering (slice_cmp nat_cmp path first.path) (named_text path text ∷ first ∷ rest) (named_text first.path text ∷ rest) (first ∷ with_text path text rest)

-- the texts after the text of a path is dropped
abbrev pub without_text : List ℕ → List NamedText → List NamedText
without_text path [] = []
without_text path (first ∷ rest) = if bytes_eq first.path path then rest else first ∷ without_text path rest

-- a path has an unsaved text
abbrev pub has_text : List NamedText → List ℕ → Bool
has_text texts path = is_some (file_at texts path)

-- the number of bytes of the text of a path, or 0 without a text
abbrev pub length_at : List NamedText → List ℕ → ℕ
length_at texts path = option_map_or (λ text. length text) (file_at texts path) 0

-- the number of bytes of all texts
abbrev pub text_sum : List NamedText → ℕ
text_sum [] = 0
text_sum (first ∷ rest) = length first.bytes + text_sum rest

-- A text may be set if it has at most 4,194,304 bytes, and all texts then have at most 67,108,864 bytes.
abbrev pub is_within_limits : List NamedText → List ℕ → List ℕ → Bool
is_within_limits texts path text = nat_le (length text) TEXT_LIMIT && nat_le (text_sum (with_text path text texts)) GRAPH_TEXT_LIMIT

-- the texts after a put: a text over a limit changes nothing
abbrev pub after_put : List NamedText → List ℕ → List ℕ → List NamedText
after_put texts path text = if is_within_limits texts path text then with_text path text texts else texts

-- Each path is a name, each text is within its limit, and all texts together are within theirs.
pub record AreAllowedTexts (texts : List NamedText) : Type 0 where
  pub names : AllByRecursion (λ text. IsName text.path) texts
  pub short : AllByRecursion (λ text. length text.bytes ≤ TEXT_LIMIT) texts
  pub all : text_sum texts ≤ GRAPH_TEXT_LIMIT
