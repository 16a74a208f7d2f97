-- The units of one file more are added, or have the first fault.
use Rattle.std.proofs.Common.{◌≡◌, ◌∙◌, ◌++◌, ℕ, ◌+◌, ◌<◌, ◌≤◌, Some, None, List, [], append-nil, length, map, get_or, take, ap, sym, subst, arith}
use Rattle.std.specs.Prelude.{slice_get}
use Rattle.std.proofs.lemmas.Option.{slice_get-get_or}
use Rattle.std.proofs.lemmas.Result.{err_from_is_err_and}
use Rattle.base.specs.declared.design.Scan.{Scan}
use Rattle.base.specs.declared.design.Unit.{Unit as DesignUnit}
use Rattle.base.specs.declared.project.ProjectFile.{ProjectFile}
use Rattle.vhdl_spec.specs.Dependencies.{LinkUnit, first_duplicate, link_unit, link_units}
use Rattle.vhdl_outline.proofs.OutlineLemmas.{got_file}
use Rattle.vhdl_graph.specs.Indexes.{IsIndex}
use Rattle.vhdl_graph.proofs.IndexLemmas.{all_units, file_fault, files_more, files_after, no_file, none_more}
use Rattle.vhdl_graph.proofs.index.index_of.Goals as goal

pub returns-in_err-add_file-clause-index : goal.returns-in_err-add_file-clause-index
returns-in_err-add_file-clause-index c texts scans are =
    let p = err_from_is_err_and c.from_residual.result c.from_residual.ensures.1 in
    let at : ℕ = c.loop-file.file in
    let files : List ProjectFile = c.args.project.now.files in
    let it = got_file texts scans c.args.files.now at c.get.result.now are c.get.ensures in
    let text : List ℕ = it.0 in
    let scan : Scan = it.1 in
    let within : at < length files = omega (arith, c.len-file-end.ensures, c.loop-file-test.true) in
    let file : slice_get files at ≡ Some (get_or files at no_file) = slice_get-get_or files at no_file within in
    let designs : c.as_slice-units.result.now ≡ scan.units = c.as_slice-units.ensures ∙ it.4.units in
    let more : List LinkUnit = map (link_unit at (get_or files at no_file) text scan) c.as_slice-units.result.now in
    let after = files_after 0 files texts scans (at + 1) (omega (arith, within)) (sym are.each ∙ c.requires.each) (are.scanned ∙ (sym are.each ∙ c.requires.each)) in
    let so_far = c.loop-file.invariant.indexed texts scans are in
    rw (p.1, p.2) (file_fault (link_units 0 (take at files) (take at texts) (take at scans)) more (after.0) (link_units 0 files texts scans) c.in_err-add_file.field-0.0
    (c.in_err-add_file.ensures.added _ (get_or files at no_file) text scan so_far.is file) so_far.none
    (after.1 ∙ ap (λ (some : List LinkUnit). some ++ (after.0)) (files_more files texts scans at (get_or files at no_file) text scan file it.2 it.3 ∙ ap (λ (us : List DesignUnit). link_units 0 (take at files) (take at texts) (take at scans) ++ map (link_unit at (get_or files at no_file) text scan) us) (sym designs))))

pub loop-file-preserved : goal.loop-file-preserved
loop-file-preserved c = record {
  indices = c.in_ok-add_file.ensures.indices;
  indexed = λ texts scans are.
      let at : ℕ = c.loop-file.file in
      let files : List ProjectFile = c.args.project.now.files in
      let it = got_file texts scans c.args.files.now at c.get.result.now are c.get.ensures in
      let text : List ℕ = it.0 in
      let scan : Scan = it.1 in
      let within : at < length files = omega (arith, c.len-file-end.ensures, c.loop-file-test.true) in
      let file : slice_get files at ≡ Some (get_or files at no_file) = slice_get-get_or files at no_file within in
      let designs : c.as_slice-units.result.now ≡ scan.units = c.as_slice-units.ensures ∙ it.4.units in
      let before : List LinkUnit = link_units 0 (take at files) (take at texts) (take at scans) in
      let fresh : List LinkUnit = map (link_unit at (get_or files at no_file) text scan) c.as_slice-units.result.now in
      let so_far = c.loop-file.invariant.indexed texts scans are in
      let added = c.in_ok-add_file.ensures.added _ (get_or files at no_file) text scan so_far.is file in
      let more : link_units 0 (take (at + 1) files) (take (at + 1) texts) (take (at + 1) scans) ≡ before ++ fresh =
      files_more files texts scans at (get_or files at no_file) text scan file it.2 it.3 ∙ ap (λ (us : List DesignUnit). before ++ map (link_unit at (get_or files at no_file) text scan) us) (sym designs) in
      record {
        is = subst (λ (units : List LinkUnit). IsIndex files units c.add_file.new.index) (sym more) (added.0);
        none = subst (λ (units : List LinkUnit). (rest : List LinkUnit) → first_duplicate [] (units ++ rest) ≡ first_duplicate units rest) (sym more) (none_more before fresh so_far.none (added.1));
      };
}

pub returns-clause-index : goal.returns-clause-index
returns-clause-index c texts scans are =
    let at : ℕ = c.loop-file.file in
    let files : List ProjectFile = c.args.project.now.files in
    let so_far = c.loop-file.invariant.indexed texts scans are in
    let long : length files ≤ at = omega (arith, c.len-file-end.ensures, c.loop-file-test.false) in
    let all = all_units files texts scans at long (omega (arith, long, c.requires.each, are.each)) (omega (arith, long, c.requires.each, are.each, are.scanned)) in (
      subst (λ (units : List LinkUnit). first_duplicate [] units ≡ None) all (ap (first_duplicate []) (sym (append-nil (link_units 0 (take at files) (take at texts) (take at scans)))) ∙ so_far.none []),
      subst (λ (units : List LinkUnit). IsIndex files units c.loop-file.index) all so_far.is,
    )
