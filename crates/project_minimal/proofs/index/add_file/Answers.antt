-- The units of the outline are those of the file.
use Rattle.std.proofs.Common.{ℕ, List, length, subst}
use Rattle.base.specs.declared.design.Unit.{Unit as DesignUnit}
use Rattle.project_minimal.specs.Suppliers.{AddsAll}
use Rattle.project_minimal.proofs.IndexLemmas.{file_more, fit_now}
use Rattle.project_minimal.proofs.index.add_file.Goals as goal

added : (c : goal.In_ok-add_units) → AddsAll c.get.result.now.name.library c.get-2.result.now.units c.args.file (length c.args.sources.project.now.files) c.args.index.now c.add_units.new.index
added c =
    subst (λ (count : ℕ). AddsAll c.get.result.now.name.library c.get-2.result.now.units c.args.file count c.args.index.now c.add_units.new.index) c.len-count.ensures
    (subst (λ (units : List DesignUnit). AddsAll c.get.result.now.name.library units c.args.file c.len-count.result c.args.index.now c.add_units.new.index) c.as_slice-units.ensures c.in_ok-add_units.ensures)

pub returns-clause-fit : goal.returns-clause-fit
returns-clause-fit c = fit_now c.get.result.now.name.library c.get-2.result.now.units c.args.file (length c.args.sources.project.now.files) c.args.index.now c.add_units.new.index (added c)

pub returns-clause-holds : goal.returns-clause-holds
returns-clause-holds c = λ said are holds. file_more c.args.sources said c.args.file c.get.result.now c.get-2.result.now (length c.args.sources.project.now.files) c.args.index.now c.add_units.new.index c.requires.sources are c.get.ensures c.get-2.ensures holds (added c)
