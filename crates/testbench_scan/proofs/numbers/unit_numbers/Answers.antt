-- The units of one file more.
use Rattle.std.proofs.Common.{◌≡◌, ◌++◌, ◌<◌, ◌≤◌, ℕ, List, [], map, length, Some, sym, ◌∙◌, ap, subst, arith}
use Rattle.std.specs.Prelude.{slice_get, slice_index_or, get_or}
use Rattle.std.specs.List.{flat_map}
use Rattle.std.proofs.lemmas.List.Elements.{All-append, All-nil}
use Rattle.std.proofs.lemmas.Option.{get_or_from_slice_get, slice_get-get_or, slice_get_within}
use Rattle.base.specs.PresentGraph.{below}
use Rattle.base.specs.declared.design.Scan.{Scan}
use Rattle.base.specs.declared.limits.TheConstants.{TEXT_LIMIT}
use Rattle.base.specs.declared.refs.UnitId.{UnitId}
use Rattle.vhdl_outline.specs.declared.outlines.FileOutline.{FileOutline}
use Rattle.vhdl_outline.proofs.OutlineLemmas.{got_file}
use Rattle.testbench_scan.specs.Benches.{file_units, no_scan, unit_number}
use Rattle.testbench_scan.specs.Files.{AreFiles, AreInFiles, AreScannedAs, IsInFiles, no_outline}
use Rattle.testbench_scan.specs.declared.files.Files.{Files}
use Rattle.testbench_scan.proofs.Numbering.{each_number, no_parts, parts_more}
use Rattle.testbench_scan.proofs.numbers.unit_numbers.Goals as goal

few : (files : Files) (at : ℕ) (outline : FileOutline) → AreFiles files → slice_get files.outlines.now at ≡ Some outline → length outline.units ≤ TEXT_LIMIT
few files at outline are got =
    let within : at < length files.texts.now = omega (arith, are.lie.each, slice_get_within files.outlines.now at outline got) in
    let text : slice_get files.texts.now at ≡ Some (get_or files.texts.now at []) = slice_get-get_or files.texts.now at [] within in
    let lies = are.lie.lie at (get_or files.texts.now at []) outline text got in
    omega (arith, lies.few, are.small at [] within)

-- a file has as many units as its scan
as_many : (files : Files) (scans : List Scan) (at : ℕ) (outline : FileOutline) → AreScannedAs files scans → slice_get files.outlines.now at ≡ Some outline → length outline.units ≡ length (slice_index_or scans at no_scan).units
as_many files scans at outline are got =
    let of = got_file files.texts.now scans files.outlines.now at outline are got in
    ap length (of.4.units) ∙ ap (λ (s : Scan). length s.units) (sym (get_or_from_slice_get scans at (of.1) no_scan (of.3)))

pub add_numbers-requires : goal.add_numbers-requires
add_numbers-requires c = let less = few c.args.files c.loop-file.file c.get-outline.result.now c.requires c.get-outline.ensures in omega (arith, c.len-count.ensures)

pub loop-file-init : goal.loop-file-init
loop-file-init c = record {
  all = λ scans are. c.new-ids.ensures.items ∙ sym (no_parts (file_units scans));
  within = subst (AreInFiles c.args.files) (sym c.new-ids.ensures.items) (All-nil (IsInFiles c.args.files));
}

pub loop-file-preserved : goal.loop-file-preserved
loop-file-preserved c =
    let at : ℕ = c.loop-file.file in
    let files = c.args.files in
    let outline : FileOutline = c.get-outline.result.now in
    let count : ℕ = c.len-count.result in
    let here = get_or_from_slice_get files.outlines.now at outline no_outline c.get-outline.ensures in
    let units : count ≡ length (slice_index_or files.outlines.now at no_outline).units = c.len-count.ensures ∙ ap (λ (o : FileOutline). length o.units) (sym here) in
    record {
      all = λ scans are.
          c.in_ok-add_numbers.ensures
          ∙ ap (λ (so_far : List UnitId). so_far ++ map (unit_number at) (below count)) (c.loop-file.invariant.all scans are)
          ∙ ap (λ (n : ℕ). flat_map (file_units scans) (below at) ++ map (unit_number at) (below n)) (c.len-count.ensures ∙ as_many files scans at outline are c.get-outline.ensures)
          ∙ sym (parts_more (file_units scans) at);
      within = subst (AreInFiles files) (sym c.in_ok-add_numbers.ensures) (All-append (IsInFiles files) c.loop-file.ids.items (map (unit_number at) (below count)) c.loop-file.invariant.within
          (each_number (IsInFiles files) (unit_number at) count (λ k lt. record { file = slice_get_within files.outlines.now at outline c.get-outline.ensures; unit = omega (arith, lt, units) })));
    }

pub returns : goal.returns
returns c = record {
  all = λ scans are.
      c.loop-file.invariant.all scans are ∙ ap (λ (n : ℕ). flat_map (file_units scans) (below n)) (let e = c.len-file-end.ensures in omega (arith, c.loop-file-test.false, c.loop-file.auto.file-end, are.each, are.scanned));
  within = c.loop-file.invariant.within;
}
