use Rattle.std.proofs.Common.{◌<◌, List, [], ℕ, length, take, sym, ap, ◌∙◌, arith}
use Rattle.std.proofs.lemmas.List.{take_more}
use Rattle.store_table.specs.Located.{nth_payload}
use Rattle.passes_codec.specs.PassTables.{PassTable, after_pass_payload, pass_table_of}
use Rattle.passes_table.proofs.Takes.{table_more, table_none}
use Rattle.passes_table.proofs.taking.taken_up.Goals as goal

pub loop-at-init : goal.loop-at-init
loop-at-init c = record {
  are = c.new-table.ensures.are c.args.held.now.segments;
  is = c.new-table.ensures.is c.args.held.now.segments ∙ sym table_none;
}

pub loop-at-preserved : goal.loop-at-preserved
loop-at-preserved c =
    let payloads : List (List ℕ) = c.args.held.now.segments in
    let low : c.loop-at.at < length c.args.held.now.segments = omega (arith, c.loop-at-test.true, c.len-at-end.ensures) in
    record {
      are = c.in_ok-take_up.ensures.are;
      is = c.in_ok-take_up.ensures.is
          ∙ ap (λ (s : PassTable). after_pass_payload s (nth_payload payloads c.loop-at.at)) c.loop-at.invariant.is
          ∙ sym (table_more (take c.loop-at.at payloads) (nth_payload payloads c.loop-at.at))
          ∙ ap pass_table_of (sym (take_more payloads c.loop-at.at [] low));
    }
