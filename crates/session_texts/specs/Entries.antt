-- The entries of a map of texts, as a list of paths with their texts.
use Rattle.std.specs.Prelude.{ℕ, List, map, Vec}
use Rattle.std.specs.Global.{Global}
use Rattle.base.specs.declared.file.NamedText.{NamedText}
use Rattle.session_texts.specs.Texts.{named_text}

-- the paths and texts of entries
abbrev pub texts_of : List (Vec ℕ Global × List ℕ) → List NamedText
texts_of entries = map (λ entry. named_text entry.0.items entry.1) entries
