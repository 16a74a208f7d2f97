-- The path of the name is that of the bench and then the case.
use Rattle.std.proofs.Common.{◌≡◌, ◌∙◌, ◌++◌, ◌∷◌, [], ℕ, Bool, false, List, Some, reverse, ap, sym, subst, if◌then◌else◌}
use Rattle.std.specs.Prelude.{◌==◌}
use Rattle.std.specs.List.{list_any}
use Rattle.std.proofs.lemmas.List.{reverse-append}
use Rattle.base_outcomes.specs.declared.bench.Bench.{Bench}
use Rattle.base_outcomes.specs.declared.bench.TestCase.{TestCase}
use Rattle.base_outcomes.specs.declared.bench.TestFault.{TestFault}
use Rattle.testbench_select.specs.Selection.{full_name, name_start}
use Rattle.testbench_select.proofs.Starts.{start_then}
use Rattle.testbench_scan.specs.Paths.{AllLead, Leads, LeadsBack}
use Rattle.testbench_scan.specs.declared.steps.Step.{Step}
use Rattle.testbench_scan.proofs.Leading.{all_grown, all_push}
use Rattle.testbench_scan.proofs.Repeats.{repeated_if}
use Rattle.testbench_scan.proofs.names.add_name.Goals as goal

-- after the start of a bench and a name comes the full name
full : (steps : List Step) (name_index : ℕ) (bench : Bench) (test_case : TestCase) (bytes : List ℕ) → bytes ≡ test_case.name → LeadsBack steps name_index (reverse bytes ++ reverse (name_start bench)) → Leads steps name_index (full_name bench test_case)
full steps name_index bench test_case bytes is leads =
    subst (LeadsBack steps name_index) (ap (λ (b : List ℕ). reverse b ++ reverse (name_start bench)) is ∙ sym (reverse-append (name_start bench) test_case.name) ∙ ap reverse (start_then bench test_case)) leads

pub returns-then-came_before-clause-added : goal.returns-then-came_before-clause-added
returns-then-came_before-clause-added c before holds =
    let bench : Bench = c.args.bench.now in
    let test_case : TestCase = c.args.test_case.now in
    let steps : List Step = c.walk.new.steps.keys in
    let leads = full steps c.in_ok-name_index.name_index bench test_case c.bytes.result.now c.bytes.ensures (c.in_ok-name_index.ensures.leads (reverse (name_start bench)) c.requires) in
    let held = all_grown c.args.names.now.steps.keys steps c.args.names.now.ends.keys before c.in_ok-name_index.ensures.grown holds in
    let told = c.came_before.ensures.names before (full_name bench test_case) held leads in
    ap (λ (b : Bool). repeated_if b (full_name bench test_case)) (sym told ∙ c.if-came_before.true) ∙ ap (λ (f : TestFault). Some f) (sym c.in_ok-duplicate_test.ensures)

pub returns-clause-added : goal.returns-clause-added
returns-clause-added c before holds =
    let bench : Bench = c.args.bench.now in
    let test_case : TestCase = c.args.test_case.now in
    let name : List ℕ = full_name bench test_case in
    let steps : List Step = c.walk.new.steps.keys in
    let name_index : ℕ = c.in_ok-name_index.name_index in
    let indices : List ℕ = c.args.names.now.ends.keys in
    let leads = full steps name_index bench test_case c.bytes.result.now c.bytes.ensures (c.in_ok-name_index.ensures.leads (reverse (name_start bench)) c.requires) in
    let held = all_grown c.args.names.now.steps.keys steps indices before c.in_ok-name_index.ensures.grown holds in
    let told = c.came_before.ensures.names before name held leads in
    let absent : list_any (λ other. name_index == other) indices ≡ false = sym c.came_before.ensures.ends ∙ c.if-came_before.false in
    let more : c.insert.new.self.keys ≡ indices ++ name_index ∷ [] = c.in_ok-insert.ensures.keys ∙ ap (λ (b : Bool). if b then indices else indices ++ name_index ∷ []) absent in (
      ap (λ (b : Bool). repeated_if b name) (sym told ∙ c.if-came_before.false),
      subst (λ (ends : List ℕ). AllLead steps ends (before ++ name ∷ [])) (sym more) (all_push steps indices before name_index name held leads),
    )
