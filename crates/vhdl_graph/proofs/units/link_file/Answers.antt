-- One unit more is taken up, or is the first that lacks something.
use Rattle.std.proofs.Common.{◌≡◌, ◌∙◌, ◌++◌, ℕ, ◌<◌, Some, List, length, get_or, map, take, sym, ap, subst, arith, append_assoc}
use Rattle.std.specs.Prelude.{⊤, All, Ok, slice_get}
use Rattle.std.specs.List.{flat_map}
use Rattle.std.proofs.lemmas.List.{take_all}
use Rattle.std.proofs.lemmas.Option.{get_or_from_slice_get, slice_get_within}
use Rattle.std.proofs.lemmas.Result.{err_from_is_err_and}
use Rattle.base.specs.declared.design.Unit.{Unit as DesignUnit}
use Rattle.base.specs.declared.linking.Warning.{Warning}
use Rattle.base.specs.declared.project.ProjectFile.{ProjectFile}
use Rattle.base.specs.declared.refs.UnitId.{UnitId}
use Rattle.vhdl_spec.specs.Dependencies.{LinkUnit, link_unit, warnings_of}
use Rattle.vhdl_spec.specs.References.{named_refs, refs_of}
use Rattle.base.specs.declared.lexical.Token.{Token}
use Rattle.base.specs.declared.refs.Ref.{Ref}
use Rattle.vhdl_lex.specs.LexicalElements.{LiesIn}
use Rattle.vhdl_units.specs.Names.{token_name}
use Rattle.vhdl_outline.specs.declared.unresolved.UnresolvedRefs.{UnresolvedRefs}
use Rattle.vhdl_outline.specs.UnresolvedRefs.{AreUnresolvedRefsOf, UnresolvedRefsLieIn, named_ref, structural_of}
use Rattle.vhdl_scope.proofs.KeyLemmas.{part_more}
use Rattle.vhdl_graph.specs.Linking.{FileGives, Stands, unit_lacks, noted, refers_from}
use Rattle.vhdl_graph.proofs.LinkLemmas.{added_more, first_here, first_more}
use Rattle.vhdl_graph.proofs.UnitLemmas.{noted_is, parts_map, some_same}
use Rattle.vhdl_graph.proofs.units.link_file.Goals as goal

pub overflow_cast-id : goal.overflow_cast-id
overflow_cast-id c = omega (arith, c.requires.small, c.requires.lies.few)

lies : (text : List ℕ) (all : List UnresolvedRefs) (number : ℕ) (one : UnresolvedRefs) → All (UnresolvedRefsLieIn text) all → slice_get all number ≡ Some one → UnresolvedRefsLieIn text one
lies text all number one lie got = subst (UnresolvedRefsLieIn text) (get_or_from_slice_get all number one one got) (lie number one (slice_get_within all number one got))

pub link_unit-requires-clause-lie : goal.link_unit-requires-clause-lie
link_unit-requires-clause-lie c = lies c.args.text.now c.args.outline.now.unresolved c.loop-number.number c.get-unresolved.result.now c.requires.lies.unresolved c.get-unresolved.ensures

pub note_uses-requires-clause-lie : goal.note_uses-requires-clause-lie
note_uses-requires-clause-lie c =
    let lie = lies c.args.text.now c.args.outline.now.unresolved c.loop-number.number c.get-unresolved.result.now c.requires.lies.unresolved c.get-unresolved.ensures in
    subst (λ (whole : List Token). All (LiesIn c.args.text.now) whole) (sym c.as_slice-whole.ensures) lie.whole

-- the references of a unit by what it mentions
refs_are : (text : List ℕ) (tokens : List Token) (design : DesignUnit) (one : UnresolvedRefs) → AreUnresolvedRefsOf text tokens design one → refs_of text tokens design ≡ structural_of one.configured design design.kind ++ map (named_ref text) one.refs
refs_are text tokens design one are =
    ap (λ (refs : List Ref). refs ++ named_refs text tokens design) (sym are.structural)
    ∙ ap (λ (refs : List Ref). structural_of one.configured design design.kind ++ refs) (sym are.refs)

pub returns-in_err-link_unit : goal.returns-in_err-link_unit
returns-in_err-link_unit c units named scan outlined known got_file stand =
    let p = err_from_is_err_and c.from_residual.result c.from_residual.ensures.1 in
    let number : ℕ = c.loop-number.number in
    let designs : List DesignUnit = scan.units in
    let design : DesignUnit = c.get-design.result.now in
    let got : slice_get designs number ≡ Some design = ap (λ (some : List DesignUnit). slice_get some number) (sym outlined.units) ∙ c.get-design.ensures in
    let within : number < length designs = slice_get_within designs number design got in
    let made : DesignUnit → LinkUnit = link_unit c.args.file named c.args.text.now scan in
    let here : design ≡ get_or designs number design = sym (get_or_from_slice_get designs number design design got) in
    let same : named ≡ c.get.result.now = some_same named c.get.result.now (sym got_file ∙ c.get.ensures) in
    let id : UnitId = record { file = c.args.file; unit = number } in
    let stands : Stands units c.args.tables.now id c.get.result.now.name (made design) = subst (λ (f : ProjectFile). Stands units c.args.tables.now id f.name (made design)) same (stand number design got) in
    let refs = refs_are c.args.text.now scan.tokens.list design c.get-unresolved.result.now (outlined.unresolved.are number design c.get-unresolved.result.now got c.get-unresolved.ensures) in
    let so_far = c.loop-number.invariant units named scan outlined known got_file stand in
    rw (p.1, p.2) (first_here (λ (d : DesignUnit). unit_lacks c.args.project.now units (made d)) designs number design c.in_err-link_unit.field-0.0 within here (so_far.0) (c.in_err-link_unit.ensures units (made design) known stands refs))

pub loop-number-preserved : goal.loop-number-preserved
loop-number-preserved c units named scan outlined known got_file stand =
    let text = c.args.text.now in
    let number : ℕ = c.loop-number.number in
    let designs : List DesignUnit = scan.units in
    let design : DesignUnit = c.get-design.result.now in
    let one : UnresolvedRefs = c.get-unresolved.result.now in
    let got : slice_get designs number ≡ Some design = ap (λ (some : List DesignUnit). slice_get some number) (sym outlined.units) ∙ c.get-design.ensures in
    let within : number < length designs = slice_get_within designs number design got in
    let made : DesignUnit → LinkUnit = link_unit c.args.file named text scan in
    let here : design ≡ get_or designs number design = sym (get_or_from_slice_get designs number design design got) in
    let same : named ≡ c.get.result.now = some_same named c.get.result.now (sym got_file ∙ c.get.ensures) in
    let id : UnitId = record { file = c.args.file; unit = number } in
    let stands : Stands units c.args.tables.now id c.get.result.now.name (made design) = subst (λ (f : ProjectFile). Stands units c.args.tables.now id f.name (made design)) same (stand number design got) in
    let are = outlined.unresolved.are number design one got c.get-unresolved.ensures in
    let so_far = c.loop-number.invariant units named scan outlined known got_file stand in
    let gave = c.in_ok-link_unit.ensures units (made design) known stands (refs_are text scan.tokens.list design one are) in
    let note : List ℕ → List Warning = noted c.args.tables.now id c.get.result.now.name.library in
    let warned : flat_map (λ token. note (token_name text token)) c.as_slice-whole.result.now ≡ warnings_of c.args.project.now units (made design) =
    parts_map note (token_name text) c.as_slice-whole.result.now ∙ (ap (λ (tokens : List Token). flat_map note (map (token_name text) tokens)) c.as_slice-whole.ensures ∙ (ap (flat_map note) are.whole
    ∙ noted_is c.args.project.now units (made design) c.args.tables.now id c.get.result.now.name known stands)) in
    let w : DesignUnit → List Warning = λ d. warnings_of c.args.project.now units (made d) in (
      first_more (λ (d : DesignUnit). unit_lacks c.args.project.now units (made d)) designs number design within here (so_far.0) (gave.0),
      (
        added_more (λ (d : DesignUnit) (at : ℕ). refers_from c.args.project.now units (made d) (made d).refs at) designs number design c.args.row.now c.loop-number.row c.link_unit.new.row within here (so_far.1.0) (gave.1),
        c.in_ok-note_uses.ensures ∙ (ap (λ (ws : List Warning). c.loop-number.warnings ++ ws) warned
            ∙ (ap (λ (ws : List Warning). ws ++ w design) (so_far.1.1)
            ∙ (append_assoc c.args.warnings.now (flat_map w (take number designs)) (w design)
            ∙ ap (λ (ws : List Warning). c.args.warnings.now ++ ws) (ap (λ (d : DesignUnit). flat_map w (take number designs) ++ w d) here ∙ sym (part_more w designs number design within))))),
      ),
    )

pub returns : goal.returns
returns c units named scan outlined known got_file stand =
    let all : take c.loop-number.number scan.units ≡ scan.units = take_all c.loop-number.number scan.units (let same = ap length outlined.units in omega (arith, same, c.len-number-end.ensures, c.loop-number-test.false)) in
    subst (λ (designs : List DesignUnit). FileGives {T = ⊤} c.args.project.now units (link_unit c.args.file named c.args.text.now scan) designs c.args.row.now c.loop-number.row c.args.warnings.now c.loop-number.warnings (Ok tt)) all
    (c.loop-number.invariant units named scan outlined known got_file stand)
