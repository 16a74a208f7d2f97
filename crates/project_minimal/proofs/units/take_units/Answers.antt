-- One unit more.
use Rattle.std.proofs.Common.{◌≡◌, ◌+◌, ◌<◌, ◌≤◌, ℕ, List, [], length, get_or, refl, subst, sym, take, arith}
use Rattle.std.specs.List.{list_any}
use Rattle.std.proofs.lemmas.List.{take_all}
use Rattle.std.proofs.lemmas.List.Folds.{list_any_more}
use Rattle.std.proofs.lemmas.Option.{get_or_from_slice_get, slice_get-get_or}
use Rattle.project_minimal.specs.MinimalSet.{NeedUnit, units_at, wants_of}
use Rattle.project_minimal.specs.Taking.{Takes}
use Rattle.project_minimal.proofs.Supplied.{count_units, no_unit}
use Rattle.base.specs.declared.limits.TheConstants.{TEXT_LIMIT}
use Rattle.vhdl_outline.specs.declared.outlines.FileOutline.{FileOutline}
use Rattle.project_minimal.specs.Needing.{count_of, no_outline}
use Rattle.project_minimal.proofs.TakingLemmas.{grows_none, grows_on, takes_none, takes_on}
use Rattle.project_minimal.proofs.units.take_units.Goals as goal

pub loop-number-init : goal.loop-number-init
loop-number-init c = record {
  grows = grows_none (count_of c.args.tables) c.args.taken.now c.requires.before;
  takes = λ said known. takes_none _ c.args.taken.now (λ at. refl);
}

pub overflow_cast-id : goal.overflow_cast-id
overflow_cast-id c =
    let texts : length c.args.tables.sources.texts.now ≡ length c.args.tables.sources.project.now.files = c.requires.tables.sources.each in
    let text : List ℕ = get_or c.args.tables.sources.texts.now c.args.file [] in
    let within : c.args.file < length c.args.tables.sources.texts.now = omega (arith, c.requires.file, texts) in
    let lies = c.requires.tables.sources.lie.lie c.args.file text c.get.result.now (slice_get-get_or c.args.tables.sources.texts.now c.args.file [] within) c.get.ensures in
    let small : length text ≤ TEXT_LIMIT = c.requires.tables.sources.small c.args.file [] within in
    omega (arith, lies.few, small, c.len-number-end.ensures, c.loop-number-test.true)

pub take_unit-requires-clause-unit : goal.take_unit-requires-clause-unit
take_unit-requires-clause-unit c =
    subst (λ (outline : FileOutline). c.loop-number.number < length outline.units) (sym (get_or_from_slice_get c.args.tables.sources.outlines.now c.args.file c.get.result.now no_outline c.get.ensures))
    (omega (arith, c.len-number-end.ensures, c.loop-number-test.true))

pub take_unit-requires-clause-before : goal.take_unit-requires-clause-before
take_unit-requires-clause-before c = c.loop-number.invariant.grows.are

pub loop-number-preserved : goal.loop-number-preserved
loop-number-preserved c = record {
  grows = grows_on (count_of c.args.tables) c.args.taken.now c.loop-number.taken c.take_unit.new.taken c.loop-number.invariant.grows c.in_ok-take_unit.ensures.grows;
  takes = λ said known.
      let units : List NeedUnit = units_at said c.args.file in
      let unit : NeedUnit = get_or units c.loop-number.number no_unit in
      let many : length units ≡ length c.get.result.now.units = count_units c.args.tables said c.requires.tables known c.args.file c.get.result.now c.get.ensures c.requires.file in
      let low : c.loop-number.number < length units = omega (arith, many, c.len-number-end.ensures, c.loop-number-test.true) in
      takes_on _ _ (λ at. list_any (λ one. wants_of said one at) (take (c.loop-number.number + 1) units)) c.args.taken.now c.loop-number.taken c.take_unit.new.taken (c.loop-number.invariant.takes said known) (c.in_ok-take_unit.ensures.takes said unit known (slice_get-get_or units c.loop-number.number no_unit low))
      (λ at. list_any_more (λ one. wants_of said one at) units c.loop-number.number no_unit low);
}

pub returns-clause-takes : goal.returns-clause-takes
returns-clause-takes c = λ said known.
    let units : List NeedUnit = units_at said c.args.file in
    let many : length units ≡ length c.get.result.now.units = count_units c.args.tables said c.requires.tables known c.args.file c.get.result.now c.get.ensures c.requires.file in
    subst (λ (some : List NeedUnit). Takes (λ at. list_any (λ one. wants_of said one at) some) c.args.taken.now c.loop-number.taken) (take_all c.loop-number.number units (omega (arith, many, c.len-number-end.ensures, c.loop-number-test.false))) (c.loop-number.invariant.takes said known)
