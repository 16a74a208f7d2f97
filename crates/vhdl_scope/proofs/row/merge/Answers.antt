-- The words up to the nearer end are merged too.
use Rattle.std.proofs.Common.{◌≡◌, ◌<◌, ◌≤◌, ◌||◌, ◌∙◌, ℕ, List, [], false, arith, bit_or, nat_eq, not, refl, subst, sym}
use Rattle.vhdl_scope.specs.declared.row.Run.{Run}
use Rattle.vhdl_scope.specs.Rows.{AreMergedTo, both_words, word_or}
use Rattle.vhdl_scope.proofs.RowLemmas.{both_told, merged_more, merged_none}
use Rattle.vhdl_scope.proofs.row.merge.Goals as goal

pub loop-at-init : goal.loop-at-init
loop-at-init c = record {
  within = omega arith;
  merged = subst (λ (some : List Run). AreMergedTo 0 c.args.first.now c.args.second.now some false) (sym c.requires) (merged_none c.args.first.now c.args.second.now);
  first = λ row_index from. refl;
  second = λ row_index from. refl;
}

pub loop-at-preserved : goal.loop-at-preserved
loop-at-preserved c =
    let start : ℕ = c.loop-at.at in
    let end : ℕ = c.nearer-end.result in
    let own : ℕ = c.stand_at-own.result.word in
    let other : ℕ = c.stand_at-other.result.word in
    let is : c.with_bits-word.result ≡ bit_or own other = c.with_bits-word.ensures.is in
    let longer : start < end = c.nearer-end.ensures.past start c.stand_at-own.ensures.past c.stand_at-other.ensures.past in
    let one : (at : ℕ) → start ≤ at → at < end → word_or 0 c.args.first.now at ≡ own = λ at after below. c.stand_at-own.ensures.word at after (omega (arith, below, c.nearer-end.ensures.one)) in
    let two : (at : ℕ) → start ≤ at → at < end → word_or 0 c.args.second.now at ≡ other = λ at after below. c.stand_at-other.ensures.word at after (omega (arith, below, c.nearer-end.ensures.other)) in
    let runs = c.in_ok-push_run.ensures start (both_words c.args.first.now c.args.second.now) c.loop-at.invariant.merged.runs longer (λ at after below. both_told c.args.first.now c.args.second.now start end own other longer one two at after below ∙ sym is) in
    let fits : bit_or own other < 18446744073709551616 = subst (λ (word : ℕ). word < 18446744073709551616) is c.with_bits-word.ensures.fits in
    record {
      within = omega (arith, c.nearer-end.ensures.one, c.stand_at-own.ensures.within);
      merged = subst (λ (word : ℕ). AreMergedTo end c.args.first.now c.args.second.now c.push_run.new.runs.items (c.loop-at.grown || not (nat_eq word own))) (sym is)
          (merged_more c.args.first.now c.args.second.now start end own other longer one two c.loop-at.merged.items c.push_run.new.runs.items c.loop-at.grown c.loop-at.invariant.merged runs fits);
      first = λ row_index from. c.stand_at-own.ensures.passed row_index (omega (arith, longer, from));
      second = λ row_index from. c.stand_at-other.ensures.passed row_index (omega (arith, longer, from));
    }
