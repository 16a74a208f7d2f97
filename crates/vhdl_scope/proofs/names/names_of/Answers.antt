-- Those of one file more are there.
use Rattle.std.proofs.Common.{◌≡◌, ◌<◌, ◌∙◌, ◌++◌, ℕ, List, [], length, arith, ap, subst, sym, take}
use Rattle.std.specs.List.{flat_map}
use Rattle.std.proofs.lemmas.List.{take_all}
use Rattle.vhdl_outline.specs.declared.outlines.FileOutline.{FileOutline}
use Rattle.vhdl_outline.specs.declared.outlines.UnitScope.{UnitScope}
use Rattle.vhdl_scope.specs.Names.{HasAll, implicit, keys_of}
use Rattle.vhdl_scope.proofs.KeyLemmas.{all_more, parts_of_parts}
use Rattle.vhdl_scope.proofs.names.names_of.Goals as goal

-- what the units of a file name
abbrev names_in : FileOutline → List (List ℕ)
names_in file = flat_map (λ (unit : UnitScope). unit.names) file.scopes

pub loop-file-preserved : goal.loop-file-preserved
loop-file-preserved c =
    let within : c.loop-file.file-index < length c.args.files.now = omega arith in
    let one = subst (λ (some : List UnitScope). HasAll (flat_map (λ (unit : UnitScope). unit.names) some) (keys_of c.loop-file.names) (keys_of c.add_units.new.names)) (c.as_slice-in-loop-file.ensures ∙ ap (λ (file : FileOutline). file.scopes) c.file-item.is) c.in_ok-add_units.ensures in
    all_more implicit names_in c.args.files.now c.loop-file.file-index c.file-item.result _ _ _ within c.loop-file.invariant one

pub returns : goal.returns
returns c =
    let all : take c.loop-file.file-index c.args.files.now ≡ c.args.files.now = take_all c.loop-file.file-index c.args.files.now (omega (arith, c.loop-file-test.false)) in
    subst (λ (some : List (List ℕ)). HasAll (implicit ++ some) [] (keys_of c.loop-file.names))
    (ap (flat_map names_in) all ∙ sym (parts_of_parts (λ (unit : UnitScope). unit.names) (λ (file : FileOutline). file.scopes) c.args.files.now)) c.loop-file.invariant
