-- Rows and links fit together, and the rows are grown.
use Rattle.std.proofs.Common.{◌≡◌, ◌+◌, ◌/◌, ◌++◌, ◌∙◌, List, ℕ, [], length, map, refl, replicate, ap, arith, subst, sym}
use Rattle.std.specs.List.{AllZip, flat_map}
use Rattle.base.specs.declared.design.Scan.{Scan}
use Rattle.vhdl_spec.specs.References.{work}
use Rattle.vhdl_spec.specs.Visibility.{ScopeUnit, scope_units}
use Rattle.vhdl_scope.specs.declared.links.Link.{Link}
use Rattle.vhdl_scope.specs.declared.want.Group.{Group}
use Rattle.vhdl_outline.specs.declared.outlines.FileOutline.{FileOutline}
use Rattle.vhdl_outline.specs.declared.outlines.UnitScope.{UnitScope}
use Rattle.vhdl_scope.specs.Bits.{has}
use Rattle.vhdl_scope.specs.Links.{AreBelow, AreEven, AreTaken, HasSpread}
use Rattle.vhdl_outline.specs.Outlines.{AreOutlinesOf, file_scopes}
use Rattle.vhdl_scope.specs.Names.{HasAll, implicit, keys_of, number_of}
use Rattle.vhdl_scope.specs.Graph.{IsRowOf}
use Rattle.vhdl_scope.specs.Joins.{IsLinkedFor}
use Rattle.vhdl_scope.specs.Exact.{AreGrown, AreLinked}
use Rattle.vhdl_scope.proofs.ReadyLemmas.{kept_each, names_known, ready_below, ready_each, ready_even, written}
use Rattle.vhdl_scope.proofs.table.grown_rows.Goals as goal

pub rows_of-requires-clause-known : goal.rows_of-requires-clause-known
rows_of-requires-clause-known c = names_known c.as_slice-files.result.now (keys_of c.args.names.now) (subst (λ (files : List FileOutline). HasAll (implicit ++ flat_map (λ (unit : UnitScope). unit.names) (file_scopes files)) [] (keys_of c.args.names.now)) (sym c.as_slice-files.ensures) c.requires.named)

-- the rows of what the units of files name, and of as many groups as there are
rows_for : (names : List (List ℕ)) (words : ℕ) (rows : List (List ℕ)) (some all : List FileOutline) (number groups : ℕ) → some ≡ all → number ≡ groups → AllZip (IsRowOf names words) rows (map (λ unit. implicit ++ unit.names) (file_scopes some) ++ replicate number (implicit ++ [])) → AllZip (IsRowOf names words) rows (map (λ unit. implicit ++ unit.names) (file_scopes all) ++ replicate groups (implicit ++ []))
rows_for names words rows some all number groups same as_many are =
    let lists = λ (files : List FileOutline) (n : ℕ). map (λ (unit : UnitScope). implicit ++ unit.names) (file_scopes files) ++ replicate n (implicit ++ []) in
    subst (λ (files : List FileOutline). AllZip (IsRowOf names words) rows (lists files groups)) same (subst (λ (n : ℕ). AllZip (IsRowOf names words) rows (lists some n)) as_many are)

-- what the units name
abbrev units : (c : goal.After-as_mut_slice) → List UnitScope
units c = file_scopes c.args.outlines.now.files

rows_are : (c : goal.After-as_mut_slice) (groups : List Group) → c.args.groups ≡ length groups → AllZip (IsRowOf (keys_of c.args.names.now) (c.len.result / 64 + 1)) c.in_ok-rows.rows.items (map (λ (unit : UnitScope). implicit ++ unit.names) (units c) ++ replicate (length groups) (implicit ++ []))
rows_are c groups as_many = rows_for (keys_of c.args.names.now) (c.len.result / 64 + 1) c.in_ok-rows.rows.items _ _ _ _ c.as_slice-files.ensures as_many c.in_ok-rows.ensures

abbrev users_of : (c : goal.After-as_mut_slice) → List Scan → List ScopeUnit
users_of c scans = scope_units c.args._project.now.files c.args._texts.now scans

-- the units of some scans with these outlines
abbrev users : (c : goal.After-as_mut_slice) → List ScopeUnit
users c = users_of c c.requires.outlined.scans

linked : (c : goal.After-as_mut_slice) → AreLinked (users c) (keys_of c.args.names.now) c.args.groups c.args.links.now
linked c = c.requires.linked c.requires.outlined.scans c.requires.outlined.are

count : (c : goal.After-as_mut_slice) (scans : List Scan) → AreOutlinesOf c.args._texts.now scans c.args.outlines.now → length (users_of c scans) ≡ length (units c)
count c scans are = kept_each c.args._project.now.files c.args._texts.now scans c.args.outlines.now.files c.requires.each are.files

units_linked : (c : goal.After-as_mut_slice) (scans : List Scan) (are : AreOutlinesOf c.args._texts.now scans c.args.outlines.now) (is : AreLinked (users_of c scans) (keys_of c.args.names.now) c.args.groups c.args.links.now) → AllZip (IsLinkedFor (keys_of c.args.names.now) is.groups (length (units c))) is.of_units (users_of c scans)
units_linked c scans are is = subst (λ (n : ℕ). AllZip (IsLinkedFor (keys_of c.args.names.now) is.groups n) is.of_units (users_of c scans)) (count c scans are) is.links_are

pub spread-requires-clause-each : goal.spread-requires-clause-each
spread-requires-clause-each c =
    let is = linked c in
    ap length is.are ∙ (ready_each (units c) (keys_of c.args.names.now) is.groups (c.len.result / 64 + 1) c.in_ok-rows.rows.items is.of_units is.of_groups (number_of (keys_of c.args.names.now) work) (rows_are c is.groups is.as_many) (users c) (count c _ c.requires.outlined.are) (units_linked c _ c.requires.outlined.are is) is.members_are ∙ ap length (sym c.as_mut_slice.ensures.value))

pub spread-requires-clause-even : goal.spread-requires-clause-even
spread-requires-clause-even c =
    let is = linked c in
    subst (AreEven (c.len.result / 64 + 1)) (sym c.as_mut_slice.ensures.value) (ready_even (units c) (keys_of c.args.names.now) is.groups (c.len.result / 64 + 1) c.in_ok-rows.rows.items is.of_units is.of_groups (number_of (keys_of c.args.names.now) work) (rows_are c is.groups is.as_many) (users c) (count c _ c.requires.outlined.are) (units_linked c _ c.requires.outlined.are is) is.members_are)

pub spread-requires-clause-below : goal.spread-requires-clause-below
spread-requires-clause-below c =
    let is = linked c in
    subst (λ (rows : List (List ℕ)). AreBelow (length rows) c.args.links.now) (sym c.as_mut_slice.ensures.value)
    (subst (λ (links : List (List Link)). AreBelow (length c.in_ok-rows.rows.items) links) (sym is.are)
    (ready_below (units c) (keys_of c.args.names.now) is.groups (c.len.result / 64 + 1) c.in_ok-rows.rows.items is.of_units is.of_groups (number_of (keys_of c.args.names.now) work) (rows_are c is.groups is.as_many) (users c) (count c _ c.requires.outlined.are) (units_linked c _ c.requires.outlined.are is) is.members_are))

pub returns : goal.returns
returns c scans are =
    let is = c.requires.linked scans are in
    let spread = subst (λ (rows : List (List ℕ)). HasSpread c.args.links.now rows c.spread.new.rows) c.as_mut_slice.ensures.value c.in_ok-spread.ensures.spread in
    let same : c.in_ok-rows.rows.len ≡ length c.spread.new.rows = omega (arith, spread.each) in
    let users : List ScopeUnit = scope_units c.args._project.now.files c.args._texts.now scans in
    subst (AreGrown (file_scopes c.args.outlines.now.files) users (keys_of c.args.names.now)) (sym (written c.in_ok-rows.rows.len c.spread.new.rows _ same)) (record {
      groups = is.groups;
      words = c.len.result / 64 + 1;
      first = c.in_ok-rows.rows.items;
      of_units = is.of_units;
      of_groups = is.of_groups;
      names_are = c.requires.named;
      keeps = is.keeps;
      groups_are = is.groups_are;
      enough = is.enough;
      rows_are = rows_for (keys_of c.args.names.now) (c.len.result / 64 + 1) c.in_ok-rows.rows.items _ _ _ _ c.as_slice-files.ensures is.as_many c.in_ok-rows.ensures;
      links_are = subst (λ (n : ℕ). AllZip (IsLinkedFor (keys_of c.args.names.now) is.groups n) is.of_units users) (kept_each c.args._project.now.files c.args._texts.now scans c.args.outlines.now.files c.requires.each are.files) is.links_are;
      members_are = is.members_are;
      spread = subst (λ (links : List (List Link)). HasSpread links c.in_ok-rows.rows.items c.spread.new.rows) is.are spread;
      taken = subst (λ (links : List (List Link)). AreTaken links (has c.spread.new.rows)) is.are c.in_ok-spread.ensures.taken;
    })
