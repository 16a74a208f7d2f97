use Rattle.std.proofs.Common.{◌≡◌, ◌+◌, ℕ, suc, true, false, drop, [], length, get_or, sym, ap, subst, ◌∙◌, arith}
use Rattle.std.proofs.lemmas.Option.{get_or_from_slice_get}
use Rattle.passes_spec.specs.Passes.{Pass}
use Rattle.passes_codec.specs.Compaction.{spelled_pass}
use Rattle.passes_codec.specs.Forms.{pass_bytes}
use Rattle.passes_table.specs.declared.compacting.KeptPasses.{KeptPasses}
use Rattle.passes_table.specs.Kept.{IsAfterList, kept_on, kept_table}
use Rattle.passes_table.specs.Located.{located_passes}
use Rattle.passes_table.proofs.KeptOn.{on_kept, on_skipped}
use Rattle.passes_table.proofs.KeptRows.{IsCopied, parts_at, parts_fit, row_low, superseded_at}
use Rattle.passes_table.proofs.PassBytes.{spelled_small}
use Rattle.passes_table.proofs.compacting.keep_next.Goals as goal
use Rattle.passes_table.proofs.compacting.keep_next.Goals.{In_ok-simulator}

copied : (c : In_ok-simulator) → IsCopied c.args.held.now.segments c.args.table.now c.args.number c.index-row.result.now c.get-bytes.result.now c.in_ok-run.run' c.in_ok-simulator.simulator
copied c = record { low = c.requires.number; is = sym c.index-row.ensures; bytes_are = sym (get_or_from_slice_get c.args.held.now.segments c.index-row.result.now.payload c.get-bytes.result.now [] c.get-bytes.ensures); run_is = c.in_ok-run.ensures; simulator_is = c.in_ok-simulator.ensures }

pub returns-then-is_superseded-clause-on : goal.returns-then-is_superseded-clause-on
returns-then-is_superseded-clause-on c =
    let is = copied (goal.at.returns-then-is_superseded-clause-on c).In_ok-simulator in
    let tested = superseded_at c.args.held.now.segments c.args.table.now c.args.number c.index-row.result.now c.get-bytes.result.now c.in_ok-run.run' c.in_ok-simulator.simulator is true (sym c.if-is_superseded.true ∙ c.is_superseded.ensures) in
    let next : c.args.number + 1 ≡ suc c.args.number = omega arith in
    ap (λ (n : ℕ). kept_on (located_passes c.args.held.now.segments c.args.table.now) c.args.kept.now (drop n (located_passes c.args.held.now.segments c.args.table.now).passes)) next ∙ on_skipped (located_passes c.args.held.now.segments c.args.table.now).passes c.args.number (row_low c.args.held.now.segments c.args.table.now c.args.number c.index-row.result.now c.get-bytes.result.now c.in_ok-run.run' c.in_ok-simulator.simulator is) (located_passes c.args.held.now.segments c.args.table.now) c.args.kept.now c.args.kept.now tested

pub kept_payload-requires-clause-parts : goal.kept_payload-requires-clause-parts
kept_payload-requires-clause-parts c =
    let fits = parts_fit c.args.held.now.segments c.args.table.now c.args.number c.index-row.result.now c.get-bytes.result.now c.in_ok-run.run' c.in_ok-simulator.simulator (copied (goal.at.kept_payload-requires-clause-parts c).In_ok-simulator) (record { are = c.requires.table.are; is = c.requires.table.is }) c.bytes_in.result.now c.bytes_in.ensures in
    record { run = fits.run; simulator = fits.simulator; output = fits.output }

pub push-requires : goal.push-requires
push-requires c =
    let made : Pass = record { run = c.in_ok-run.run'; simulator = c.in_ok-simulator.simulator; built = get_or (located_passes c.args.held.now.segments c.args.table.now).lists c.index-row.result.now.list []; output = c.bytes_in.result.now } in
    omega (arith, ap length (c.bytes.ensures ∙ c.in_ok-payload.ensures.is), spelled_small (kept_table (located_passes c.args.held.now.segments c.args.table.now) c.args.kept.now.numbers.lists c.args.kept.now.numbers.texts) made (parts_fit c.args.held.now.segments c.args.table.now c.args.number c.index-row.result.now c.get-bytes.result.now c.in_ok-run.run' c.in_ok-simulator.simulator (copied (goal.at.push-requires c).In_ok-simulator) (record { are = c.requires.table.are; is = c.requires.table.is }) c.bytes_in.result.now c.bytes_in.ensures))

pub returns-clause-on : goal.returns-clause-on
returns-clause-on c =
    let old = c.args.kept.now in
    let new : KeptPasses = record { payloads = c.push.new.self; numbers = c.kept_payload.new.numbers } in
    let row = copied (goal.at.returns-clause-on c).In_ok-simulator in
    let is = parts_at c.args.held.now.segments c.args.table.now c.args.number c.index-row.result.now c.get-bytes.result.now c.in_ok-run.run' c.in_ok-simulator.simulator row c.bytes_in.result.now c.bytes_in.ensures in
    let spelled = c.bytes.ensures ∙ c.in_ok-payload.ensures.is ∙ ap (λ (p : Pass). pass_bytes (spelled_pass (kept_table (located_passes c.args.held.now.segments c.args.table.now) old.numbers.lists old.numbers.texts) p)) is in
    let after = subst (λ (p : Pass). IsAfterList (located_passes c.args.held.now.segments c.args.table.now) p.built old.numbers new.numbers) is (record { texts = c.in_ok-payload.ensures.after.texts; lists = c.in_ok-payload.ensures.after.lists }) in
    let next : c.args.number + 1 ≡ suc c.args.number = omega arith in
    ap (λ (n : ℕ). kept_on (located_passes c.args.held.now.segments c.args.table.now) new (drop n (located_passes c.args.held.now.segments c.args.table.now).passes)) next
    ∙ on_kept (located_passes c.args.held.now.segments c.args.table.now).passes c.args.number (row_low c.args.held.now.segments c.args.table.now c.args.number c.index-row.result.now c.get-bytes.result.now c.in_ok-run.run' c.in_ok-simulator.simulator row) (located_passes c.args.held.now.segments c.args.table.now) old new (superseded_at c.args.held.now.segments c.args.table.now c.args.number c.index-row.result.now c.get-bytes.result.now c.in_ok-run.run' c.in_ok-simulator.simulator row false (sym c.if-is_superseded.false ∙ c.is_superseded.ensures)) c.bytes.result.now c.in_ok-push.ensures.ok spelled after
