-- One file more.
use Rattle.std.proofs.Common.{◌≡◌, ◌∙◌, ℕ, List, Some, ap, sym, subst, arith}
use Rattle.std.specs.Prelude.{slice_get}
use Rattle.std.specs.List.{AllZip}
use Rattle.vhdl_outline.proofs.OutlineLemmas.{got_file}
use Rattle.vhdl_outline.specs.Outlines.{OutlineLiesIn}
use Rattle.vhdl_scope.specs.Names.{keys_of}
use Rattle.vhdl_scope.specs.Joins.{IsLinkedFor}
use Rattle.vhdl_scope.proofs.ScopeLemmas.{all_units, file_more}
use Rattle.vhdl_scope.proofs.linking.links_of_units.Goals as goal

pub add_links-requires-clause-lies : goal.add_links-requires-clause-lies
add_links-requires-clause-lies c =
    subst (λ (text : List ℕ). OutlineLiesIn text c.get-in-loop-file-2.result.now) (sym c.bytes.ensures) (c.requires.lie.lie c.loop-file.file c.get-in-loop-file.result.now c.get-in-loop-file-2.result.now c.get-in-loop-file.ensures c.get-in-loop-file-2.ensures)

pub loop-file-preserved : goal.loop-file-preserved
loop-file-preserved c scans are =
    let text : List ℕ = c.bytes.result.now in
    let is_text : slice_get c.args.texts.now c.loop-file.file ≡ Some text = c.get-in-loop-file.ensures ∙ ap Some (sym c.bytes.ensures) in
    let it = got_file c.args.texts.now scans c.args.files.now c.loop-file.file c.get-in-loop-file-2.result.now are c.get-in-loop-file-2.ensures in
    let scan = it.1 in
    let is_scan = it.3 in
    let more = file_more c.args.project.now.files c.args.texts.now scans c.loop-file.file _ _ _ c.get.ensures is_text is_scan in
    subst (AllZip (IsLinkedFor (keys_of c.args.names.now) c.args.groups.now c.args.row_indices) c.add_links.new.links.items) (sym more) (c.in_ok-want.ensures scan (are.are c.loop-file.file text scan c.get-in-loop-file-2.result.now is_text is_scan c.get-in-loop-file-2.ensures) _ (c.loop-file.invariant scans are))

pub returns : goal.returns
returns c scans are =
    let long = c.loop-file-test.false in
    let end = c.len-file-end.ensures in
    subst (AllZip (IsLinkedFor (keys_of c.args.names.now) c.args.groups.now c.args.row_indices) c.loop-file.links.items)
    (all_units c.args.project.now.files c.args.texts.now scans c.loop-file.file (omega (arith, long, end)) (omega (arith, long, end, c.requires.each)) (omega (arith, long, end, c.requires.each, are.scanned)))
    (c.loop-file.invariant scans are)
