-- Parts of a side that was read, and what was found there.
use Rattle.std.specs.Prelude.{◌≡◌, ℕ, ◌+◌, ◌<◌, ◌≤◌, ◌^◌, List, ◌∷◌, ◌++◌, length, take, drop, All, Option, Some, None}
use Rattle.std.specs.List.{flat_map}
use Rattle.base.specs.Bytes.{number_bytes}
use Rattle.outside.specs.Disks.{bytes_at}
use Rattle.store_journal.specs.declared.windows.Window.{Window}
use Rattle.store_journal.specs.Payloads.{block, payload_at}

-- the bytes of a window are those of a side from the start of the window on
abbrev pub IsWindowOf : List ℕ → Window → Type 0
IsWindowOf reads window = window.bytes.items ≡ bytes_at window.start (length window.bytes.items) reads

-- A window contains the given number of bytes from an offset on.
pub record Covers (window : Window) (at count : ℕ) : Type 0 where
  pub from : window.start ≤ at
  pub to : at + count ≤ window.start + length window.bytes.items

-- How many bytes the payload has that is opened by the commit byte that these bytes begin with, as it says, if it opens one.
abbrev pub IsCountOf : List ℕ → Option ℕ → Type 0
IsCountOf bytes None = payload_at bytes ≡ None
IsCountOf bytes (Some count) = take 5 bytes ≡ 1 ∷ number_bytes count

-- The payload that is opened by the commit byte that these bytes begin with, if it opens one.
abbrev pub IsNextOf : List ℕ → Option (List ℕ) → Type 0
IsNextOf bytes None = payload_at bytes ≡ None
IsNextOf bytes (Some payload) = bytes ≡ block payload ++ drop (5 + length payload) bytes

-- Payloads that were read so far, after the header, and the offset of the next commit byte.
pub record AreReadTo (bytes : List ℕ) (payloads : List (List ℕ)) (commit_byte : ℕ) : Type 0 where
  pub head : List ℕ
  pub parts : bytes ≡ head ++ (flat_map block payloads ++ drop commit_byte bytes)
  pub header : length head ≡ 18
  pub small : All (λ payload. length payload < 2 ^ 32) payloads
  pub next : commit_byte < length bytes
