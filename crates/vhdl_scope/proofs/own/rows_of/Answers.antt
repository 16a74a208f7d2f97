-- The units of one file more, and one group more.
use Rattle.std.proofs.Common.{◌≡◌, ◌<◌, ◌∙◌, ◌++◌, ℕ, List, [], ap, length, map, arith, subst, sym, take}
use Rattle.std.specs.List.{All, AllZip}
use Rattle.vhdl_outline.specs.declared.outlines.FileOutline.{FileOutline}
use Rattle.vhdl_outline.specs.declared.outlines.UnitScope.{UnitScope}
use Rattle.vhdl_outline.specs.Outlines.{file_scopes}
use Rattle.vhdl_scope.specs.Names.{implicit, keys_of}
use Rattle.vhdl_scope.specs.Graph.{AreNamed, IsRowOf}
use Rattle.vhdl_scope.proofs.OwnLemmas.{zip_again, zip_part}
use Rattle.vhdl_scope.proofs.own.rows_of.Goals as goal

pub push_rows-requires-clause-first : goal.push_rows-requires-clause-first
push_rows-requires-clause-first c = subst (λ (words : ℕ). IsRowOf (keys_of c.args.names.now) words c.in_ok-first.first implicit) (sym c.loop-file.invariant.room) c.in_ok-first.ensures

pub push_rows-requires-clause-known : goal.push_rows-requires-clause-known
push_rows-requires-clause-known c =
    subst (All (λ (unit : UnitScope). AreNamed (keys_of c.args.names.now) unit.names)) (sym (c.as_slice.ensures ∙ ap (λ (file : FileOutline). file.scopes) c.file-item.is)) (c.requires.known c.loop-file.file-index c.file-item.result c.loop-file-test.true)

pub loop-file-preserved : goal.loop-file-preserved
loop-file-preserved c =
    let within : c.loop-file.file-index < length c.args.files.now = omega arith in
    let words : length c.loop-file.room ≡ c.args.words = c.loop-file.invariant.room in
    let row = λ (unit : UnitScope). implicit ++ unit.names in
    let before = map row (file_scopes (take c.loop-file.file-index c.args.files.now)) in
    let more = c.in_ok-push_rows.ensures.rows before (subst (λ (long : ℕ). AllZip (IsRowOf (keys_of c.args.names.now) long) c.loop-file.rows.items before) (sym words) c.loop-file.invariant.rows) in
    let rows = subst (λ (units : List UnitScope). AllZip (IsRowOf (keys_of c.args.names.now) c.args.words) c.push_rows.new.rows.items (before ++ map row units)) (c.as_slice.ensures ∙ ap (λ (file : FileOutline). file.scopes) c.file-item.is)
    (subst (λ (long : ℕ). AllZip (IsRowOf (keys_of c.args.names.now) long) c.push_rows.new.rows.items (before ++ map row c.as_slice.result.now)) words more) in
    record {
      room = c.push_rows.ensures.long ∙ words;
      rows = zip_part (IsRowOf (keys_of c.args.names.now) c.args.words) row (λ (file : FileOutline). file.scopes) c.push_rows.new.rows.items c.args.files.now c.loop-file.file-index c.file-item.result within rows;
    }

pub row_of-requires-clause-first : goal.row_of-requires-clause-first
row_of-requires-clause-first c = subst (λ (words : ℕ). IsRowOf (keys_of c.args.names.now) words c.in_ok-first.first implicit) (sym c.loop.invariant.room) c.in_ok-first.ensures

pub loop-preserved : goal.loop-preserved
loop-preserved c =
    let words : length c.loop.room ≡ c.args.words = c.loop.invariant.room in
    let one = subst (λ (long : ℕ). IsRowOf (keys_of c.args.names.now) long c.in_ok-row_of.field-0 (implicit ++ [])) words c.in_ok-row_of.ensures.row in
    record {
      room = c.row_of.ensures.long ∙ words;
      rows = rw c.in_ok-push.ensures.items (zip_again (IsRowOf (keys_of c.args.names.now) c.args.words) (map (λ (unit : UnitScope). implicit ++ unit.names) (file_scopes c.args.files.now)) c.loop.rows.items c.in_ok-row_of.field-0 c.loop.counter (implicit ++ []) c.loop.invariant.rows one);
    }
