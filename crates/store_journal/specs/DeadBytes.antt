-- When a journal needs compaction: if many bytes of its side are dead.
use Rattle.std.specs.Prelude.{ℕ, ◌+◌, ◌-◌, ◌^◌, ◌<◌, min, List, length}
use Rattle.std.specs.List.{flat_map}
use Rattle.store_journal.specs.Payloads.{block}

-- how many dead bytes a side may have, whatever its live ones
abbrev pub dead_limit : ℕ
dead_limit = 1048576

-- of `len` bytes `live` are live; the dead ones are more than these and more than the limit
pub record HasManyDead (len live : ℕ) : Type 0 where
  pub many : dead_limit < len - live
  pub most : live < len - live

-- A side of this generation is to be compacted: many of its bytes are dead, and there is a next generation.
pub record AsksAt (generation len live : ℕ) : Type 0 where
  pub next : generation + 1 < 2 ^ 64
  pub dead : HasManyDead len live

-- how many bytes a side has up to and with its closed commit byte
abbrev pub closed_length : List (List ℕ) → ℕ
closed_length payloads = 19 + length (flat_map block payloads)

-- the length of a side whose blocks have this many bytes, up to the greatest number of 64 bits
abbrev pub capped_length : ℕ → ℕ
capped_length blocks = min (2 ^ 64 - 1) (blocks + 19)
