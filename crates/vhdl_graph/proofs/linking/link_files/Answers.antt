-- One file more is linked, or is the first that lacks something.
use Rattle.std.proofs.Common.{◌≡◌, ◌∙◌, ◌++◌, ◌∷◌, ℕ, ◌+◌, ◌<◌, ◌≤◌, Some, None, List, [], length, map, get_or, take, refl, sym, ap, subst, arith}
use Rattle.std.specs.Prelude.{filter, slice_get}
use Rattle.std.specs.List.{flat_map, list_any}
use Rattle.std.proofs.lemmas.Grind.{flat_map-append}
use Rattle.std.proofs.lemmas.Option.{get_or_from_slice_get, slice_get-get_or, slice_get_within}
use Rattle.std.proofs.lemmas.Result.{err_from_is_err_and}
use Rattle.base.specs.declared.design.Scan.{Scan}
use Rattle.base.specs.declared.design.Unit.{Unit as DesignUnit}
use Rattle.base.specs.declared.limits.TheConstants.{TEXT_LIMIT}
use Rattle.base.specs.declared.linking.Linked.{Linked}
use Rattle.base.specs.declared.linking.Warning.{Warning}
use Rattle.base.specs.declared.project.Project.{Project}
use Rattle.base.specs.declared.project.ProjectFile.{ProjectFile}
use Rattle.base.specs.PresentGraph.{below}
use Rattle.base_collections.specs.Positions.{has}
use Rattle.vhdl_spec.specs.Dependencies.{LinkUnit, depends_on, edges_of, first_missing, first_some, link_unit, link_units, missing_of, warnings_of}
use Rattle.vhdl_outline.specs.declared.outlines.FileOutline.{FileOutline}
use Rattle.vhdl_outline.specs.Outlines.{IsOutlineOf, OutlineLiesIn}
use Rattle.vhdl_outline.proofs.OutlineLemmas.{got_file}
use Rattle.order.proofs.Finds.{filter_below}
use Rattle.vhdl_graph.specs.Rows.{is_in_row}
use Rattle.vhdl_graph.specs.Linking.{StandAll, unit_lacks, refers_from}
use Rattle.vhdl_graph.proofs.IndexLemmas.{all_units, fault_on, files_after, files_more, no_file}
use Rattle.vhdl_graph.proofs.FileLemmas.{any_map, below_none, file_missing, in_file, map_below, missing_of_file, none_missing, row_is, stand_all}
use Rattle.vhdl_graph.proofs.UnitLemmas.{parts_map}
use Rattle.vhdl_graph.proofs.linking.link_files.Goals as goal

abbrev mk : List (List ℕ) → List Warning → Linked
mk edges warnings = record { edges = edges; warnings = warnings }

pub loop-file-init : goal.loop-file-init
loop-file-init c scans are =
    let project : Project = c.args.project.now in
    let units : List LinkUnit = link_units 0 project.files c.args.texts.now scans in
    record {
      none = refl;
      edges_are = c.new-edges.ensures ∙ below_none (λ user. filter (depends_on project units user) (below (length project.files)));
      warnings_are = c.new-warnings.ensures;
    }

pub link_file-requires-clause-small : goal.link_file-requires-clause-small
link_file-requires-clause-small c =
    let text : List ℕ = c.get.result.now in
    subst (λ (t : List ℕ). length t ≤ TEXT_LIMIT) (get_or_from_slice_get c.args.texts.now c.loop-file.file text text c.get.ensures ∙ sym c.bytes-text.ensures) (c.requires.small c.loop-file.file text (slice_get_within c.args.texts.now c.loop-file.file text c.get.ensures))

pub link_file-requires-clause-lies : goal.link_file-requires-clause-lies
link_file-requires-clause-lies c =
    subst (λ (text : List ℕ). OutlineLiesIn text c.get-in-loop-file.result.now) (sym c.bytes-text.ensures) (c.requires.outlined.lie.lie c.loop-file.file c.get.result.now c.get-in-loop-file.result.now c.get.ensures c.get-in-loop-file.ensures)

pub link_file-requires-clause-each : goal.link_file-requires-clause-each
link_file-requires-clause-each c = (c.requires.seen c.requires.outlined.scans c.requires.outlined.are).each

pub returns-in_err-link_file : goal.returns-in_err-link_file
returns-in_err-link_file c scans are =
    let p = err_from_is_err_and c.from_residual.result c.from_residual.ensures.1 in
    let project : Project = c.args.project.now in
    let texts : List (List ℕ) = c.args.texts.now in
    let outline : FileOutline = c.get-in-loop-file.result.now in
    let it = got_file texts scans c.args.outlines.now.files c.loop-file.file outline are.files c.get-in-loop-file.ensures in
    let units : List LinkUnit = link_units 0 project.files texts scans in
    let at : ℕ = c.loop-file.file in
    let so_far = c.loop-file.invariant scans are in
    let text : List ℕ = c.bytes-text.result.now in
    let scan : Scan = it.1 in
    let within : at < length project.files = omega (arith, c.len-count.ensures, c.loop-file-test.true) in
    let named : ProjectFile = get_or project.files at no_file in
    let is_file : slice_get project.files at ≡ Some named = slice_get-get_or project.files at no_file within in
    let is_text : slice_get texts at ≡ Some text = c.get.ensures ∙ ap (λ (t : List ℕ). Some t) (sym c.bytes-text.ensures) in
    let is_scan : slice_get scans at ≡ Some scan = it.3 in
    let outlined : IsOutlineOf text scan outline = are.files.are at text scan outline is_text is_scan c.get-in-loop-file.ensures in
    let made : DesignUnit → LinkUnit = link_unit at named text scan in
    let before : List LinkUnit = link_units 0 (take at project.files) (take at texts) (take at scans) in
    let after = files_after 0 project.files texts scans (at + 1) (omega (arith, within)) c.requires.each (are.files.scanned ∙ c.requires.each) in
    let is : units ≡ (before ++ map made scan.units) ++ after.0 = after.1 ∙ ap (λ (some : List LinkUnit). some ++ after.0) (files_more project.files texts scans at named text scan is_file is_text is_scan) in
    let stand : StandAll units c.args.tables.now at named text scan = stand_all project.files texts scans c.args.tables.now at named text scan (c.requires.seen scans are) is_file is_text is_scan in
    rw (p.1, p.2) (fault_on (first_some (map (λ design. unit_lacks project units (made design)) scan.units)) (first_missing project units) c.in_err-link_file.field-0.0
    (λ given said. file_missing (λ unit. map (missing_of project units unit) unit.refs) before (map made scan.units) (after.0) units given so_far.none (missing_of_file project units made scan.units ∙ said) is)
    (c.in_err-link_file.ensures units named scan outlined (c.requires.known scans are) is_file stand))

pub loop-file-preserved : goal.loop-file-preserved
loop-file-preserved c scans are =
    let project : Project = c.args.project.now in
    let texts : List (List ℕ) = c.args.texts.now in
    let outline : FileOutline = c.get-in-loop-file.result.now in
    let it = got_file texts scans c.args.outlines.now.files c.loop-file.file outline are.files c.get-in-loop-file.ensures in
    let units : List LinkUnit = link_units 0 project.files texts scans in
    let at : ℕ = c.loop-file.file in
    let so_far = c.loop-file.invariant scans are in
    let text : List ℕ = c.bytes-text.result.now in
    let scan : Scan = it.1 in
    let within : at < length project.files = omega (arith, c.len-count.ensures, c.loop-file-test.true) in
    let named : ProjectFile = get_or project.files at no_file in
    let is_file : slice_get project.files at ≡ Some named = slice_get-get_or project.files at no_file within in
    let is_text : slice_get texts at ≡ Some text = c.get.ensures ∙ ap (λ (t : List ℕ). Some t) (sym c.bytes-text.ensures) in
    let is_scan : slice_get scans at ≡ Some scan = it.3 in
    let outlined : IsOutlineOf text scan outline = are.files.are at text scan outline is_text is_scan c.get-in-loop-file.ensures in
    let made : DesignUnit → LinkUnit = link_unit at named text scan in
    let before : List LinkUnit = link_units 0 (take at project.files) (take at texts) (take at scans) in
    let more = files_more project.files texts scans at named text scan is_file is_text is_scan in
    let stand : StandAll units c.args.tables.now at named text scan = stand_all project.files texts scans c.args.tables.now at named text scan (c.requires.seen scans are) is_file is_text is_scan in
    let gave = c.in_ok-link_file.ensures units named scan outlined (c.requires.known scans are) is_file stand in
    let edge : ℕ → List ℕ = λ user. filter (depends_on project units user) (below (length project.files)) in
    let zero_more : at ≡ 0 + at = omega arith in
    record {
      none = none_missing (λ unit. map (missing_of project units unit) unit.refs) before (map made scan.units) _ so_far.none (missing_of_file project units made scan.units ∙ gave.0) more;
      edges_are =
          c.in_ok-push.ensures.ok
          ∙ (ap (λ (es : List (List ℕ)). es ++ c.in_ok-positions_below.field-0 ∷ []) so_far.edges_are
          ∙ (ap (λ (e : List ℕ). map edge (below at) ++ e ∷ []) (c.in_ok-positions_below.ensures ∙ (ap (λ (n : ℕ). filter (has c.remove.new.self) (below n)) c.len-count.ensures
          ∙ filter_below (has c.remove.new.self) (depends_on project units at) (length project.files)
          (λ k low. row_is project units at k c.new-row.result c.add_row.new.row c.link_file.new.row c.remove.new.self (is_in_row c.args.rows.now at k) (list_any (λ design. refers_from project units (made design) (made design).refs k) scan.units) (c.new-row.ensures k) (c.add_row.ensures k) (gave.1.0 k) c.remove.ensures.is c.remove.ensures.others
          (c.requires.rows.pairs at k within (omega (arith, low, c.requires.few)))
          (any_map (λ (unit : LinkUnit). refers_from project units unit unit.refs k) made scan.units ∙ sym (in_file (λ (unit : LinkUnit). refers_from project units unit unit.refs k) at 0 at project.files texts scans named text scan zero_more is_file is_text is_scan)))))
          ∙ sym (map_below edge at)));
      warnings_are =
          gave.1.1 ∙ (ap (λ (ws : List Warning). ws ++ flat_map (λ design. warnings_of project units (made design)) scan.units) so_far.warnings_are
          ∙ (ap (λ (ws : List Warning). flat_map (warnings_of project units) before ++ ws) (parts_map (warnings_of project units) made scan.units)
          ∙ (sym (flat_map-append (warnings_of project units) before (map made scan.units)) ∙ ap (flat_map (warnings_of project units)) (sym more))));
    }

pub returns : goal.returns
returns c scans are =
    let project : Project = c.args.project.now in
    let texts : List (List ℕ) = c.args.texts.now in
    let units : List LinkUnit = link_units 0 project.files texts scans in
    let at : ℕ = c.loop-file.file in
    let so_far = c.loop-file.invariant scans are in
    let long : length project.files ≤ at = omega (arith, c.len-count.ensures, c.loop-file-test.false) in
    let end : at ≡ length project.files = omega (arith, long, c.len-count.ensures, c.loop-file.auto.file-end) in
    let all = all_units project.files texts scans at long (omega (arith, long, c.requires.each)) (omega (arith, long, c.requires.each, are.files.scanned)) in
    let edge : ℕ → List ℕ = λ user. filter (depends_on project units user) (below (length project.files)) in
    let edges : c.loop-file.edges ≡ edges_of project units = so_far.edges_are ∙ ap (λ (n : ℕ). map edge (below n)) end in
    let warnings : c.loop-file.warnings ≡ flat_map (warnings_of project units) units = so_far.warnings_are ∙ ap (flat_map (warnings_of project units)) all in (
      subst (λ (some : List LinkUnit). first_some (flat_map (λ (unit : LinkUnit). map (missing_of project units unit) unit.refs) some) ≡ None) all so_far.none,
      ap (λ (some : List (List ℕ)). mk some c.loop-file.warnings) edges ∙ ap (mk (edges_of project units)) warnings,
    )
