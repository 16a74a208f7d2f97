use Rattle.std.proofs.Common.{◌≡◌, List, ℕ, Err, subst}
use Rattle.std.proofs.lemmas.Result.{err_from_is_err_and}
use Rattle.base.specs.declared.design.Scan.{Scan}
use Rattle.base.specs.declared.project.ProjectFile.{ProjectFile}
use Rattle.vhdl_outline.specs.declared.outlines.Outlines.{Outlines}
use Rattle.project_reading.specs.Reading.{scans_of, scanned_reading}
use Rattle.project_reading.specs.Scanning.{AreScanned}
use Rattle.project_reading.specs.Sources.{Gives}
use Rattle.project_reading.proofs.Steps.{stops_there, goes_on, is_read}
use Rattle.project_reading.proofs.reading.read_from_texts.Goals as goal

pub returns-in_err-outlines-clause-reading : goal.returns-in_err-outlines-clause-reading
returns-in_err-outlines-clause-reading c =
    let p = err_from_is_err_and c.from_residual.result c.from_residual.ensures.1 in
    rw (p.1, p.2) (λ scan is. stops_there (scanned_reading c.args.query.now c.args.project c.args.texts) (scans_of scan c.args.project.files c.args.texts) c.in_err-outlines.field-0.0
    (subst (λ (files : List ProjectFile). Gives {T = List Scan} (scans_of scan files c.args.texts) (Err c.in_err-outlines.field-0.0)) c.as_slice.ensures
    (subst (λ (texts : List (List ℕ)). Gives {T = List Scan} (scans_of scan c.as_slice.result.now texts) (Err c.in_err-outlines.field-0.0)) c.as_slice-2.ensures (c.in_err-outlines.ensures.outlines scan is))))

scanned : (files some : List ProjectFile) (texts more : List (List ℕ)) (outlines : Outlines) → some ≡ files → more ≡ texts → AreScanned some more outlines → AreScanned files texts outlines
scanned files some texts more outlines same_files same_texts are =
    subst (λ (fs : List ProjectFile). AreScanned fs texts outlines) same_files (subst (λ (ts : List (List ℕ)). AreScanned some ts outlines) same_texts are)

pub read_from_outlines-requires-clause-outlined : goal.read_from_outlines-requires-clause-outlined
read_from_outlines-requires-clause-outlined c =
    let it = scanned c.args.project.files c.as_slice.result.now c.args.texts c.as_slice-2.result.now c.in_ok-outlines.outlines c.as_slice.ensures c.as_slice-2.ensures c.in_ok-outlines.ensures.outlines in
    record { scans = it.scans; scanned = it.scanned; are = it.are; lie = it.lie }

pub returns-clause-reading : goal.returns-clause-reading
returns-clause-reading c scan is =
    let it = scanned c.args.project.files c.as_slice.result.now c.args.texts c.as_slice-2.result.now c.in_ok-outlines.outlines c.as_slice.ensures c.as_slice-2.ensures c.in_ok-outlines.ensures.outlines in
    goes_on (scanned_reading c.args.query.now c.args.project c.args.texts) (scans_of scan c.args.project.files c.args.texts) it.scans c.read_from_outlines.result (it.given scan is) (c.read_from_outlines.ensures.reading it.scans it.are)

pub returns-clause-form : goal.returns-clause-form
returns-clause-form c =
    let it = scanned c.args.project.files c.as_slice.result.now c.args.texts c.as_slice-2.result.now c.in_ok-outlines.outlines c.as_slice.ensures c.as_slice-2.ensures c.in_ok-outlines.ensures.outlines in
    is_read c.args.query.now c.args.project c.args.texts it.scans c.requires.project c.requires.few c.requires.texts it.scanned c.read_from_outlines.result (c.read_from_outlines.ensures.reading it.scans it.are)
