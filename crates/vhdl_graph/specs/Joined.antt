-- Keys whose names stand one after another.
use Rattle.std.specs.Prelude.{ℕ, ◌+◌, ◌≤◌, List, drop, length, take}
use Rattle.vhdl_graph.specs.declared.key.Head.{Head}
use Rattle.vhdl_graph.specs.Keys.{DesignUnitKey}

-- the key of a head and the bytes of its three names, which stand one after another
unfoldable pub joined_key : Head → List ℕ → DesignUnitKey
joined_key head letters = record { primary = head.primary; body = head.body; library = take head.library letters; entity = take head.entity (drop head.library letters); name = drop head.entity (drop head.library letters) }

-- there are at least as many bytes as the first two names have
abbrev pub AreJoined : Head → List ℕ → Type 0
AreJoined head letters = head.library + head.entity ≤ length letters
