-- Where the parts of a payload stand that is written.
use Rattle.std.specs.Prelude.{◌≡◌, length}
use Rattle.store_codec.specs.declared.layout.RequestLayout.{RequestLayout}
use Rattle.store_codec.specs.Forms.{RequestDraft, request_payload_bytes}
use Rattle.store_codec.specs.Forms.RequestPayload.{OfRequest}
use Rattle.store_codec.specs.Ranges.{request_in_ranges}

-- The payload of a record has this size, and at these ranges the parts of the record.
pub record IsLayout (draft : RequestDraft) (layout : RequestLayout) : Type 0 where
  pub size : length (request_payload_bytes (OfRequest draft)) ≡ layout.size
  pub parts : request_in_ranges (request_payload_bytes (OfRequest draft)) layout.ranges ≡ draft
