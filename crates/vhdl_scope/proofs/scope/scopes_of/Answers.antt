-- One file more.
use Rattle.std.proofs.Common.{◌∙◌, List, ap, sym, subst, take, arith}
use Rattle.base.specs.declared.design.Unit.{Unit as DesignUnit}
use Rattle.std.specs.List.{list_any}
use Rattle.vhdl_outline.specs.declared.outlines.FileOutline.{FileOutline}
use Rattle.vhdl_spec.specs.References.{is_configuration}
use Rattle.vhdl_spec.specs.Visibility.{ScopeUnit, scope_units}
use Rattle.vhdl_outline.proofs.OutlineLemmas.{got_file}
use Rattle.vhdl_scope.specs.Scopes.{AreGrouped, units_before}
use Rattle.vhdl_scope.specs.Owned.{AddsOwned, IsOwnedBy}
use Rattle.vhdl_scope.proofs.OwnedLemmas.{enough_more, file_none, grouped_more}
use Rattle.vhdl_scope.proofs.ScopeLemmas.{all_units, as_long, file_more, starts_more}
use Rattle.vhdl_scope.proofs.scope.scopes_of.Goals as goal

pub loop-file-preserved : goal.loop-file-preserved
loop-file-preserved c = record {
  each = omega (arith, c.in_ok-push.ensures.len, c.loop-file.invariant.each);
  first = λ texts scans are.
      let so_far = c.loop-file.invariant.first texts scans are in
      let keeps = c.have_configuration-keeps.result in
      let at = c.loop-file.file in
      let files = c.args.project.now.files in
      let it = got_file texts scans c.args.files.now at c.get-in-loop-file.result.now are c.get-in-loop-file.ensures in
      let text = it.0 in
      let scan = it.1 in
      let users : List ScopeUnit = scope_units (take at files) (take at texts) (take at scans) in
      let more = file_more files texts scans at _ text scan c.get.ensures it.2 it.3 in
      let long = as_long (IsOwnedBy keeps c.loop-file.groups) c.loop-file.owned.items users so_far.grouped.each in
      let added = subst (λ (designs : List DesignUnit). AddsOwned keeps c.get.result.now.name.library designs c.loop-file.groups c.loop-file.owned.items c.add_groups.new.groups c.add_groups.new.owned.items) (c.as_slice-units.ensures ∙ it.4.units) c.in_ok-add_groups.ensures in
      record {
        grouped = subst (λ (some : List ScopeUnit). AreGrouped keeps some c.add_groups.new.groups c.add_groups.new.owned.items) (sym more) (record {
          all = grouped_more keeps users c.get.result.now.name.library scan text _ _ so_far.grouped.all added.all;
          each = added.each users text scan so_far.grouped.each;
          enough = enough_more keeps users c.get.result.now.name.library text scan so_far.grouped.enough (λ without.
              ap (list_any (λ (u : DesignUnit). is_configuration u.kind)) (sym it.4.units) ∙ file_none (λ (f : FileOutline). list_any (λ (u : DesignUnit). is_configuration u.kind) f.units) c.args.files.now at c.get-in-loop-file.result.now (ap (list_any (λ (f : FileOutline). list_any (λ (u : DesignUnit). is_configuration u.kind) f.units)) (sym c.as_slice.ensures) ∙ (sym c.have_configuration-keeps.ensures ∙ without)) c.get-in-loop-file.ensures);
        });
        begins = rw c.in_ok-push.ensures.items (starts_more c.loop-file.starts.items c.len.result at (units_before files texts scans) c.loop-file.invariant.each (omega (arith, c.len.ensures, long)) so_far.begins);
      };
}

pub returns : goal.returns
returns c texts scans are =
    let first = c.loop-file.invariant.first texts scans are in
    let long = c.loop-file-test.false in
    let end = c.len-file-end.ensures in
    let each = c.loop-file.invariant.each in
    record {
      grouped = record {
        keeps = c.have_configuration-keeps.result;
        grouped = subst (λ (some : List ScopeUnit). AreGrouped c.have_configuration-keeps.result some c.loop-file.groups c.loop-file.owned.items)
            (all_units c.args.project.now.files texts scans c.loop-file.file (omega (arith, long, end)) (omega (arith, long, end, c.requires, are.each)) (omega (arith, long, end, c.requires, are.each, are.scanned))) first.grouped;
      };
      each = omega (arith, each, end, long, c.loop-file.auto.file-end);
      starts = λ file below. first.begins file (omega (arith, below, end, long));
    }
