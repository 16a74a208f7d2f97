use Rattle.std.proofs.Common.{◌≡◌, ◌≤◌, ℕ, List, length, sym, ap, subst, ◌∙◌, arith}
use Rattle.std.proofs.lemmas.List.{length-map}
use Rattle.passes_codec.specs.Compaction.{IsNumberable, compacted_passes}
use Rattle.passes_codec.specs.PassTables.{PassTable, passes_among}
use Rattle.passes_table.specs.Located.{located_passes, row_pass}
use Rattle.passes_table.proofs.KeptAll.{on_first, on_last, passes_kept}
use Rattle.passes_table.proofs.compacting.last_payloads.Goals as goal
use Rattle.passes_table.proofs.compacting.last_payloads.Goals.{After-payloads_of}

pub loop-number-init : goal.loop-number-init
loop-number-init c =
    let segments : List (List ℕ) = c.args.held.now.segments in
    let there : PassTable = located_passes segments c.args.table.now in
    let made = c.in_ok-no_numbers.ensures.are segments in
    record {
      are = record { lists = made.lists; texts = made.texts };
      same = on_first there (record { payloads = c.new.result; numbers = c.in_ok-no_numbers.field-0 }) there.passes c.new.ensures (c.in_ok-no_numbers.ensures.none segments) ∙ ap (λ (t : PassTable). compacted_passes t.passes) c.requires.is;
    }

kept_are : (c : After-payloads_of) → c.payloads_of.result ≡ compacted_passes (passes_among c.args.held.now.segments)
kept_are c =
    let table = c.args.table.now in
    let there : PassTable = located_passes c.args.held.now.segments table in
    let all : length there.passes ≤ c.loop-number.number = omega (arith, c.loop-number-test.false, c.len-number-end.ensures, length-map table.rows.items (row_pass c.args.held.now.segments there.lists)) in
    c.payloads_of.ensures ∙ sym (on_last there c.loop-number.kept there.passes c.loop-number.number all) ∙ c.loop-number.invariant.same

pub returns-clause-is : goal.returns-clause-is
returns-clause-is c = kept_are (goal.at.returns-clause-is c).After-payloads_of

pub returns-clause-passes : goal.returns-clause-passes
returns-clause-passes c =
    let few = c.in_ok-no_numbers.ensures.numberable c.args.held.now.segments in
    ap passes_among (kept_are (goal.at.returns-clause-passes c).After-payloads_of) ∙ passes_kept c.args.held.now.segments (subst IsNumberable c.requires.is (record { texts = few.texts; lists = few.lists }))
