-- One file more is scanned, or is the first that has a fault.
use Rattle.std.proofs.Common.{ℕ, List, Err, get_or, subst, sym}
use Rattle.std.proofs.lemmas.Result.{err_from_is_err_and}
use Rattle.base.specs.declared.project.ProjectFile.{ProjectFile}
use Rattle.vhdl_spec.specs.Scans.{IsScanOf}
use Rattle.vhdl_outline.specs.Outlines.{HasAdded}
use Rattle.project_reading.specs.Scanning.{GivesScan}
use Rattle.project_reading.proofs.ScanLemmas.{AreFirst, all_first, no_scan_then, none_first, one_more}
use Rattle.project_reading.proofs.scanning.scan_all.Goals as goal

pub loop-i-init : goal.loop-i-init
loop-i-init c = subst (AreFirst c.args.files.now c.args.texts.now 0) (sym c.new-outlines.ensures) (none_first c.args.files.now c.args.texts.now)

pub returns-in_err-scan-clause-outlines : goal.returns-in_err-scan-clause-outlines
returns-in_err-scan-clause-outlines c =
    let p = err_from_is_err_and c.from_residual.result c.from_residual.ensures.1 in
    let stops = subst (λ (file : ProjectFile). GivesScan file.name c.index-texts-i.result (Err c.in_err-scan.field-0.0)) (sym c.index-files-i.is) (subst (λ (text : List ℕ). GivesScan (get_or c.args.files.now c.loop-i.i c.index-files-i.result).name text (Err c.in_err-scan.field-0.0)) c.bytes-text.ensures c.in_err-scan.ensures.scan) in
    rw (p.1, p.2) (λ scan is. no_scan_then scan is c.args.files.now c.args.texts.now c.loop-i.i c.index-files-i.result c.index-texts-i.result c.loop-i.invariant.scans _ c.requires.fit.each c.loop-i-test.true c.index-files-i.is c.index-texts-i.is (c.loop-i.invariant.given scan is) c.in_err-scan.field-0.0 stops)

pub loop-i-preserved : goal.loop-i-preserved
loop-i-preserved c =
    let text : List ℕ = c.index-texts-i.result in
    let old = c.loop-i.outlines in
    let new = c.push.new.self in
    let is : IsScanOf text c.in_ok-scan.scan = subst (λ (t : List ℕ). IsScanOf t c.in_ok-scan.scan) c.bytes-text.ensures c.in_ok-scan.ensures.scan in
    let added : HasAdded text c.in_ok-scan.scan old new = subst (λ (t : List ℕ). HasAdded t c.in_ok-scan.scan old new) c.bytes-text.ensures c.in_ok-used.ensures.added in
    one_more c.args.files.now c.args.texts.now c.loop-i.i c.index-files-i.result text c.in_ok-scan.scan old new
    c.requires.fit.each c.loop-i-test.true c.index-files-i.is c.index-texts-i.is c.loop-i.invariant is added

pub returns-clause-outlines : goal.returns-clause-outlines
returns-clause-outlines c = all_first c.args.files.now c.args.texts.now c.loop-i.i c.loop-i.outlines c.requires.fit.each c.loop-i-test.false c.loop-i.invariant
