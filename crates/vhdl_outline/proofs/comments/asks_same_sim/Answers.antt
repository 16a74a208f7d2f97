-- The comment here is in the text.
use Rattle.vhdl_spec.proofs.Comments.{comment_lies}
use Rattle.vhdl_outline.proofs.comments.asks_same_sim.Goals as goal

pub asks_at-requires : goal.asks_at-requires
asks_at-requires c =
    let lies = comment_lies c.args.text.now c.args.tokens.now c.as_slice-span-items.result.now c.loop-span.span-index c.requires c.as_slice-span-items.ensures c.loop-span-test.true in
    record { ordered = lies.0; within = lies.1 }
