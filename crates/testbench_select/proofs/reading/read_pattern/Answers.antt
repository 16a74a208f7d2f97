-- One pattern part more, and none is left.
use Rattle.std.proofs.Common.{◌∙◌, ◌+◌, ◌++◌, ◌∷◌, [], sym, ap, drop, append_assoc, arith}
use Rattle.std.proofs.lemmas.List.{append-nil}
use Rattle.testbench_select.specs.Patterns.{pattern_parts_of}
use Rattle.testbench_select.proofs.PatternParts.{one_more, no_pattern_parts}
use Rattle.testbench_select.proofs.reading.read_pattern.Goals as goal

pub loop-at-preserved : goal.loop-at-preserved
loop-at-preserved c =
    let found = c.in_ok-pattern_part.field-0 in
    let rest = pattern_parts_of (drop (c.loop-at.at + (1 + found.taken)) c.args.bytes.now) in
    record {
      within = omega (arith, c.in_ok-pattern_part.ensures.within);
      pattern_parts =
          ap (λ ps. ps ++ rest) c.in_ok-push.ensures.ok ∙ append_assoc c.loop-at.pattern_parts (found.pattern_part ∷ []) rest
          ∙ ap (λ ps. c.loop-at.pattern_parts ++ ps) (one_more c.args.bytes.now c.loop-at.at found.pattern_part found.taken c.loop-at-test.true c.in_ok-pattern_part.ensures.found) ∙ c.loop-at.invariant.pattern_parts;
    }

pub returns : goal.returns
returns c =
    c.of_pattern_parts.ensures ∙ sym (append-nil c.loop-at.pattern_parts) ∙ ap (λ ps. c.loop-at.pattern_parts ++ ps) (sym (no_pattern_parts c.args.bytes.now c.loop-at.at c.loop-at-test.false)) ∙ c.loop-at.invariant.pattern_parts
