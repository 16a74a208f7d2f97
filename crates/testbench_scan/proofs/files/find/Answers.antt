-- All parts are of one file.
use Rattle.std.proofs.Common.{◌∙◌, ◌<◌, ℕ, List, length, ap, refl, sym, subst, arith}
use Rattle.std.specs.Prelude.{slice_index_or}
use Rattle.std.proofs.lemmas.Option.{get_or_from_slice_get, slice_get_within}
use Rattle.vhdl_outline.specs.Runs.{UnitRunsLieIn}
use Rattle.vhdl_outline.specs.declared.runs.UnitFacts.{UnitFacts}
use Rattle.vhdl_outline.specs.Outlines.{OutlineLiesIn}
use Rattle.vhdl_outline.specs.declared.outlines.FileOutline.{FileOutline}
use Rattle.testbench_scan.specs.Files.{no_outline, no_runs}
use Rattle.testbench_scan.proofs.Located.{found_is}
use Rattle.testbench_scan.proofs.files.find.Goals as goal

pub get-runs-requires : goal.get-runs-requires
get-runs-requires c =
    let outline : FileOutline = c.get-outline.result.now in
    let lies : OutlineLiesIn c.get-source.result.now outline = c.requires.files.lie.lie c.args.id.file c.get-source.result.now outline c.get-source.ensures c.get-outline.ensures in
    let here = get_or_from_slice_get c.args.files.outlines.now c.args.id.file outline no_outline c.get-outline.ensures in
    let within : c.args.id.unit < length outline.units = subst (λ (o : FileOutline). c.args.id.unit < length o.units) here c.requires.id.unit in
    omega (arith, within, lies.each_runs)

pub returns-clause-located : goal.returns-clause-located
returns-clause-located c scans are = found_is c.args.files scans c.args.id _ c.get-file.result.now c.get-source.result.now c.get-outline.result.now c.get-unit.result.now c.get-runs.result.now are c.get-file.ensures c.get-source.ensures c.get-outline.ensures c.get-unit.ensures c.get-runs.ensures refl c.bytes-text.ensures refl refl refl

pub returns-clause-runs : goal.returns-clause-runs
returns-clause-runs c =
    let here = get_or_from_slice_get c.args.files.outlines.now c.args.id.file c.get-outline.result.now no_outline c.get-outline.ensures in
    sym (ap (λ (o : FileOutline). slice_index_or o.runs.units c.args.id.unit no_runs) here ∙ get_or_from_slice_get c.get-outline.result.now.runs.units c.args.id.unit c.get-runs.result.now no_runs c.get-runs.ensures)

pub returns-clause-lie : goal.returns-clause-lie
returns-clause-lie c =
    let lies : OutlineLiesIn c.get-source.result.now c.get-outline.result.now = c.requires.files.lie.lie c.args.id.file c.get-source.result.now c.get-outline.result.now c.get-source.ensures c.get-outline.ensures in
    let units = c.get-outline.result.now.runs.units in
    let runs : UnitFacts = c.get-runs.result.now in
    let here : UnitRunsLieIn c.get-source.result.now runs = subst (UnitRunsLieIn c.get-source.result.now) (get_or_from_slice_get units c.args.id.unit runs no_runs c.get-runs.ensures) (lies.runs c.args.id.unit no_runs (slice_get_within units c.args.id.unit runs c.get-runs.ensures)) in
    subst (λ (text : List ℕ). UnitRunsLieIn text runs) (sym c.bytes-text.ensures) here
