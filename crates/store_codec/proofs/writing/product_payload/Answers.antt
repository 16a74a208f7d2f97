use Rattle.std.proofs.Common.{rules}
use Rattle.store_codec.specs.Forms.{product_draft_bytes, request_payload_bytes}
use Rattle.store_codec.proofs.Sized.{product_small}
use Rattle.store_codec.proofs.writing.product_payload.Goals as goal

pub returns-clause-bytes : goal.returns-clause-bytes
unfolding request_payload_bytes product_draft_bytes
returns-clause-bytes c = search rules

pub returns-clause-small : goal.returns-clause-small
returns-clause-small c =
    rw (returns-clause-bytes c) (product_small c.args.parts.name.now c.args.parts.artefact.known c.args.parts.artefact.text.now (record { library = c.requires.name.library; path = c.requires.name.path }) c.requires.artefact)
