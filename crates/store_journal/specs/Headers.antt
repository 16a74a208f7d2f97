-- What the sides of an image say of themselves.
use Rattle.std.specs.Prelude.{◌≡◌, ℕ, List, length, Option, Some, None, if◌then◌else◌}
use Rattle.outside.specs.Disks.{Image, image_side}
use Rattle.store_journal.specs.declared.layout.Header.{Header}
use Rattle.store_journal.specs.declared.layout.Headers.{Headers}
use Rattle.store_journal.specs.declared.layout.Live.{Live}
use Rattle.store_journal.specs.Payloads.{counting, generation_of, is_live}

-- a live side says its generation, and has a length
abbrev pub header_in : ℕ → List ℕ → Option Header
header_in form bytes = if is_live form bytes then Some (record { generation = generation_of bytes; len = length bytes }) else None

-- what both sides of an image say of themselves, for a form
abbrev pub headers_in : ℕ → Image → Headers
headers_in form image = record { a = header_in form image.a; b = header_in form image.b }

-- A side that counts, with its generation and its length.
pub record IsLiveOf (form : ℕ) (image : Image) (live : Live) : Type 0 where
  pub counts : counting form image ≡ Some live.side
  pub generation : live.generation ≡ generation_of (image_side live.side image)
  pub len : live.len ≡ length (image_side live.side image)

-- the side that counts, or that none does
abbrev pub IsFoundLive : ℕ → Image → Option Live → Type 0
IsFoundLive form image None = counting form image ≡ None
IsFoundLive form image (Some live) = IsLiveOf form image live
