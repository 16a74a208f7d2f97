-- The comment here is in the text, and is the first refusal or none.
use Rattle.std.proofs.Common.{◌≡◌, ◌≤◌, ◌<◌, ℕ, Option, Some, None, List, length, subst}
use Rattle.base.specs.declared.lexical.Span.{Span}
use Rattle.child_tools.specs.Scripts.{refusal_at}
use Rattle.vhdl_spec.proofs.Comments.{comment_at, comment_lies}
use Rattle.child_tools.proofs.ScriptLemmas.{refused_here, refused_later, refused_never}
use Rattle.child_tools.proofs.scripts.first_refusal.Goals as goal

pub refusal_at-requires : goal.refusal_at-requires
refusal_at-requires c =
    let lies = comment_lies c.args.text.now c.args.tokens.now c.as_slice-span-items.result.now c.loop-span.span-index c.requires c.as_slice-span-items.ensures c.loop-span-test.true in
    record { ordered = lies.0; within = lies.1 }

pub returns-in-Some : goal.returns-in-Some
returns-in-Some c =
    let comments = c.args.tokens.now.comments in
    let within : c.loop-span.span-index < length comments = subst (λ (cs : List Span). c.loop-span.span-index < length cs) c.as_slice-span-items.ensures c.loop-span-test.true in
    refused_here c.args.text.now comments c.loop-span.span-index within c.loop-span.invariant c.in-Some.line.now
    (subst (λ (cs : List Span). refusal_at c.args.text.now (comment_at cs c.loop-span.span-index) ≡ Some c.in-Some.line.now) c.as_slice-span-items.ensures c.in-Some.ensures)

pub loop-span-preserved : goal.loop-span-preserved
loop-span-preserved c =
    let comments = c.args.tokens.now.comments in
    let within : c.loop-span.span-index < length comments = subst (λ (cs : List Span). c.loop-span.span-index < length cs) c.as_slice-span-items.ensures c.loop-span-test.true in
    refused_later c.args.text.now comments c.loop-span.span-index within c.loop-span.invariant
    (subst (λ (cs : List Span). ◌≡◌ {A = Option (List ℕ)} (refusal_at c.args.text.now (comment_at cs c.loop-span.span-index)) None) c.as_slice-span-items.ensures c.in-None.ensures)

pub returns : goal.returns
returns c =
    refused_never c.args.text.now c.args.tokens.now.comments c.loop-span.span-index (subst (λ (cs : List Span). length cs ≤ c.loop-span.span-index) c.as_slice-span-items.ensures c.loop-span-test.false) c.loop-span.invariant
