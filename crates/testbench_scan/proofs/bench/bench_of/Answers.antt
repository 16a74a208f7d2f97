-- Each part is that of its unit.
use Rattle.std.proofs.Common.{◌≡◌, ◌∙◌, ℕ, Bool, List, [], length, map, refl, sym, ap}
use Rattle.std.specs.Prelude.{◌==◌}
use Rattle.std.proofs.lemmas.Bool.{cond-true}
use Rattle.vhdl_spec.specs.Dependencies.{is_architecture_kind}
use Rattle.base_outcomes.specs.declared.bench.Bench.{Bench}
use Rattle.base_outcomes.specs.declared.bench.TestCase.{TestCase}
use Rattle.base.specs.declared.design.Unit.{Unit as DesignUnit}
use Rattle.base.specs.declared.lexical.Token.{Token}
use Rattle.vhdl_outline.specs.Calls.{cases_or, run_strings, string_case, whole_case}
use Rattle.vhdl_outline.specs.Runs.{unit_runs}
use Rattle.vhdl_outline.specs.declared.runs.UnitFacts.{UnitFacts}
use Rattle.testbench_scan.specs.Benches.{design_unit, unit_cases, unit_text, unit_tokens}
use Rattle.testbench_scan.specs.Files.{scanned}
use Rattle.testbench_scan.proofs.bench.bench_of.Goals as goal

abbrev bench_by : ℕ → List ℕ → List ℕ → List ℕ → List TestCase → Bool → Bool → Bench
bench_by file library name architecture cases whole same_sim = record { library = library; name = name; architecture = architecture; file = file; cases = cases; whole = whole; same_sim = same_sim }

same : (file : ℕ) (l m n o a b : List ℕ) (cs ds : List TestCase) (v w s t : Bool) → l ≡ m → n ≡ o → a ≡ b → cs ≡ ds → v ≡ w → s ≡ t → bench_by file l n a cs v s ≡ bench_by file m o b ds w t
same file l m n o a b cs ds v w s t el en ea ec ew es = rw (el, en, ea, ec, ew, es) refl

pub returns : goal.returns
returns c scans are right =
    let sources = scanned c.args.files scans in
    let of = c.find-of.ensures.located scans are in
    let by = c.find-by.ensures.located scans are in
    let at : ℕ = c.args.architecture.file in
    let text : List ℕ = unit_text sources c.args.architecture in
    let unit : DesignUnit = design_unit sources c.args.architecture in
    let tokens : List Token = unit_tokens sources c.args.architecture in
    let strings : c.as_slice.result.now ≡ run_strings text tokens unit.first unit.last =
    c.as_slice.ensures ∙ ap (λ (r : UnitFacts). r.strings) by.runs ∙ cond-true (is_architecture_kind unit.kind) (run_strings text tokens unit.first unit.last) [] right in
    let called : c.in_ok-called.called ≡ unit_cases sources c.args.architecture =
    c.in_ok-called.ensures ∙ ap (λ (ts : List Token). map (string_case at c.find-by.result.text.now) ts) strings ∙ ap (λ (t : List ℕ). map (string_case at t) (run_strings text tokens unit.first unit.last)) by.text in
    let own : List Token = unit_tokens sources c.args.entity in
    let entity : DesignUnit = design_unit sources c.args.entity in
    let whole : TestCase = whole_case c.args.entity.file own entity in
    let cases = c.in_ok-cases_or.ensures own entity (of.runs ∙ ap (λ (t : List ℕ). unit_runs t own entity) (sym of.text)) in
    same c.args.entity.file _ _ _ _ _ _ _ _ _ _ _ _
    (c.in_ok-copy.ensures ∙ of.library)
    (c.in_ok-copy-2.ensures ∙ ap (λ (u : DesignUnit). u.name) of.unit)
    (c.in_ok-copy-3.ensures ∙ ap (λ (u : DesignUnit). u.name) by.unit)
    (cases ∙ ap (λ (cs : List TestCase). cases_or whole cs) called)
    (c.is_empty-whole.ensures ∙ ap (λ (cs : List TestCase). length cs == 0) called)
    by.same_sim
