use Rattle.std.proofs.Common.{◌≡◌, ℕ, List, ◌++◌, length, ap, sym, subst, ◌∙◌, arith}
use Rattle.std.specs.Prelude.{IfOk}
use Rattle.base.specs.Names.{FitsCommand}
use Rattle.testbench_runs.specs.Runs.{FitsRun}
use Rattle.store_journal.proofs.Framed.{framed, unframed}
use Rattle.passes_table.proofs.PassBytes.{known_small}
use Rattle.passes_table.proofs.writing.known_payload.Goals as goal

pub begin-requires : goal.begin-requires
begin-requires c =
    let fits : FitsRun c.args.parts.run.now = record { library = c.requires.run.library; bench = c.requires.run.bench; architecture = c.requires.run.architecture; few = c.requires.run.few; cases = c.requires.run.cases; path = c.requires.run.path } in
    let command : FitsCommand c.args.parts.simulator.now = record { count = c.requires.simulator.count; words = c.requires.simulator.words } in
    omega (arith, ap length (c.bytes.ensures ∙ c.in_ok-payload.ensures), known_small c.args.parts.run.now c.args.parts.simulator.now c.args.number c.args.parts.output.now fits command c.requires.output)

pub of-requires-clause-length : goal.of-requires-clause-length
of-requires-clause-length c =
    framed c.plain.new.self c.bytes-2.result.now (length c.bytes.result.now) (c.in_ok-plain.ensures ∙ ap (λ (bs : List ℕ). bs ++ c.bytes-2.result.now) c.in_ok-frame.ensures) (ap length (c.bytes-2.ensures ∙ sym c.bytes.ensures))

pub of-requires-clause-small : goal.of-requires-clause-small
of-requires-clause-small c =
    let fits : FitsRun c.args.parts.run.now = record { library = c.requires.run.library; bench = c.requires.run.bench; architecture = c.requires.run.architecture; few = c.requires.run.few; cases = c.requires.run.cases; path = c.requires.run.path } in
    let command : FitsCommand c.args.parts.simulator.now = record { count = c.requires.simulator.count; words = c.requires.simulator.words } in
    let is = unframed c.plain.new.self c.bytes-2.result.now (length c.bytes.result.now) (c.in_ok-plain.ensures ∙ ap (λ (bs : List ℕ). bs ++ c.bytes-2.result.now) c.in_ok-frame.ensures) in
    omega (arith, ap length (is ∙ c.bytes-2.ensures ∙ c.in_ok-payload.ensures), known_small c.args.parts.run.now c.args.parts.simulator.now c.args.number c.args.parts.output.now fits command c.requires.output)

pub returns : goal.returns
returns c =
    let is = unframed c.plain.new.self c.bytes-2.result.now (length c.bytes.result.now) (c.in_ok-plain.ensures ∙ ap (λ (bs : List ℕ). bs ++ c.bytes-2.result.now) c.in_ok-frame.ensures) in
    subst (λ (p : List ℕ). IfOk c.of.result (λ ready. ready ≡ p)) (is ∙ c.bytes-2.ensures ∙ c.in_ok-payload.ensures) c.of.ensures
