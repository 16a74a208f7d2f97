-- The comment here is in the text.
use Rattle.vhdl_spec.proofs.Comments.{comment_lies}
use Rattle.child_tools.proofs.artefacts.put_scripts.Goals as goal

pub put_comment-requires : goal.put_comment-requires
put_comment-requires c =
    let lies = comment_lies c.args.text.now c.args.tokens.now c.as_slice-span-items.result.now c.loop-span.span-index c.requires c.as_slice-span-items.ensures c.loop-span-test.true in
    record { ordered = lies.0; within = lies.1 }
