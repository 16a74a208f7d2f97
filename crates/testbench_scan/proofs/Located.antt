-- What is found of a unit by the outline of its file.
use Rattle.std.proofs.Common.{◌≡◌, ℕ, zero, suc, List, [], ◌∷◌, Some, map, sym, ◌∙◌, ap, arith}
use Rattle.std.specs.Prelude.{slice_get, slice_index_or}
use Rattle.std.proofs.lemmas.Option.{slice_get-get_or, slice_get_within, get_or_from_slice_get}
use Rattle.base.specs.declared.design.Scan.{Scan}
use Rattle.base.specs.declared.design.Unit.{Unit as DesignUnit}
use Rattle.base.specs.declared.project.ProjectFile.{ProjectFile}
use Rattle.base.specs.declared.refs.UnitId.{UnitId}
use Rattle.vhdl_outline.specs.Runs.{unit_runs}
use Rattle.vhdl_outline.specs.declared.runs.FileFacts.{FileFacts}
use Rattle.vhdl_outline.specs.declared.runs.UnitFacts.{UnitFacts}
use Rattle.vhdl_outline.specs.Outlines.{IsOutlineOf}
use Rattle.vhdl_outline.specs.declared.outlines.FileOutline.{FileOutline}
use Rattle.vhdl_outline.specs.Calls.{asks_same_sim}
use Rattle.testbench_scan.specs.Benches.{no_design_unit, no_scan, no_source}
use Rattle.testbench_scan.specs.Files.{AreScannedAs, IsLocated, scanned}
use Rattle.testbench_scan.specs.declared.files.Files.{Files}
use Rattle.testbench_scan.specs.declared.files.Found.{Found}

-- what is made of an element is at its index
got_map : {X Y : Type 0} (f : X → Y) (xs : List X) (i : ℕ) (x : X) (y : Y) → slice_get xs i ≡ Some x → slice_get (map f xs) i ≡ Some y → y ≡ f x
got_map f [] i x y here made = let never : ⊥ = cc in absurd never
got_map f (z ∷ xs) zero x y here made = let same : z ≡ x = cc in let is : f z ≡ y = cc in sym is ∙ ap f same
got_map f (z ∷ xs) (suc i) x y here made = got_map f xs i x y here made

pub found_is : (files : Files) (scans : List Scan) (id : UnitId) (found : Found) (file : ProjectFile) (text : List ℕ) (outline : FileOutline) (unit : DesignUnit) (runs : UnitFacts) → AreScannedAs files scans
    → slice_get files.project.now.files id.file ≡ Some file → slice_get files.texts.now id.file ≡ Some text → slice_get files.outlines.now id.file ≡ Some outline → slice_get outline.units id.unit ≡ Some unit → slice_get outline.runs.units id.unit ≡ Some runs
    → found.library.now ≡ file.name.library → found.text.now ≡ text → found.unit.now ≡ unit → found.runs.now ≡ runs → found.same_sim ≡ outline.runs.same_sim → IsLocated (scanned files scans) id found
found_is files scans id found file text outline unit runs are in_files in_texts in_outlines in_units in_runs library_is text_is unit_is runs_is same_is =
    let scan : Scan = slice_index_or scans id.file no_scan in
    let in_scans : slice_get scans id.file ≡ Some scan = slice_get-get_or scans id.file no_scan (omega (arith, slice_get_within files.texts.now id.file text in_texts, are.scanned)) in
    let is : IsOutlineOf text scan outline = are.are id.file text scan outline in_texts in_scans in_outlines in
    let text_here : slice_index_or files.texts.now id.file [] ≡ text = get_or_from_slice_get files.texts.now id.file text [] in_texts in
    let units : slice_get scan.units id.unit ≡ Some unit = ap (λ (us : List DesignUnit). slice_get us id.unit) (sym is.units) ∙ in_units in
    let unit_here : slice_index_or scan.units id.unit no_design_unit ≡ unit = get_or_from_slice_get scan.units id.unit unit no_design_unit units in
    let mapped : slice_get (map (unit_runs text scan.tokens.list) scan.units) id.unit ≡ Some runs = ap (λ (r : FileFacts). slice_get r.units id.unit) (sym is.runs) ∙ in_runs in
    let made : runs ≡ unit_runs text scan.tokens.list unit = got_map (unit_runs text scan.tokens.list) scan.units id.unit unit runs units mapped in
    record {
      library = library_is ∙ sym (ap (λ (f : ProjectFile). f.name.library) (get_or_from_slice_get files.project.now.files id.file file no_source in_files));
      text = text_is ∙ sym text_here;
      unit = unit_is ∙ sym unit_here;
      runs = runs_is ∙ made ∙ ap (λ (t : List ℕ). unit_runs t scan.tokens.list unit) (sym text_here) ∙ ap (unit_runs (slice_index_or files.texts.now id.file []) scan.tokens.list) (sym unit_here);
      same_sim = same_is ∙ ap (λ (r : FileFacts). r.same_sim) is.runs ∙ ap (λ (t : List ℕ). asks_same_sim t scan.tokens.comments) (sym text_here);
    }
