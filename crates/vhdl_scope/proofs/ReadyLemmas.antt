-- The rows and links of a project fit together.
use Rattle.std.proofs.Common.{◌≡◌, ℕ, Bool, false, ◌+◌, ◌<◌, List, [], ◌++◌, Contains, length, map, get_or, replicate, ◌⊎◌, inl, inr, ◌∙◌, ap, subst, sym, arith, length-append, take}
use Rattle.std.specs.List.{All, AllZip, flat_map}
use Rattle.std.proofs.Math.Seq.{take-append_seam}
use Rattle.std.proofs.lemmas.List.{get_or_default, length-map, length-replicate}
use Rattle.std.proofs.lemmas.List.Elements.{All-append, Contains-append_right, Contains-get_or}
use Rattle.base.specs.declared.design.Scan.{Scan}
use Rattle.base.specs.declared.project.ProjectFile.{ProjectFile}
use Rattle.vhdl_spec.specs.Visibility.{ScopeUnit, scope_units}
use Rattle.vhdl_scope.specs.declared.groups.Owned.{Owned}
use Rattle.vhdl_scope.specs.declared.links.Link.{Link}
use Rattle.vhdl_outline.specs.declared.outlines.FileOutline.{FileOutline}
use Rattle.vhdl_outline.specs.declared.outlines.UnitScope.{UnitScope}
use Rattle.vhdl_outline.specs.Outlines.{FilesAreOf, file_scopes}
use Rattle.vhdl_outline.proofs.OutlineLemmas.{scopes_kept}
use Rattle.vhdl_scope.specs.declared.want.Group.{Group}
use Rattle.vhdl_scope.specs.Groups.{is_same_group}
use Rattle.vhdl_scope.specs.Links.{AreBelow, AreEven, links_at}
use Rattle.vhdl_scope.specs.Names.{HasAll, group_number, implicit}
use Rattle.vhdl_scope.specs.Wants.{group_of, unit_wants}
use Rattle.vhdl_scope.specs.Graph.{AreNamed, IsRowOf}
use Rattle.vhdl_scope.specs.Joins.{AreMembers, IsLinkFor, IsLinkedFor}
use Rattle.vhdl_scope.specs.Owned.{IsOwnedBy}
use Rattle.vhdl_scope.specs.Scopes.{as_scope}
use Rattle.vhdl_scope.proofs.Exact.{in_parts, no_unit}
use Rattle.vhdl_scope.proofs.KeyLemmas.{numbered}
use Rattle.vhdl_scope.proofs.NameLemmas.{same_group, told_group}
use Rattle.vhdl_scope.proofs.ScopeLemmas.{as_long, at_index, scopes_are}

-- the names of each unit have numbers
pub names_known : (files : List FileOutline) (names : List (List ℕ)) → HasAll (implicit ++ flat_map (λ unit. unit.names) (file_scopes files)) [] names → All (λ file. All (λ unit. AreNamed names unit.names) file.scopes) files
names_known files names are i d within k e inside name there =
    let file : FileOutline = get_or files i d in
    let unit : UnitScope = get_or file.scopes k e in
    let scoped : Contains (file_scopes files) unit = in_parts (λ (f : FileOutline). f.scopes) files file unit (Contains-get_or files i d within) (Contains-get_or file.scopes k e inside) in
    are.added name (Contains-append_right implicit (flat_map (λ (u : UnitScope). u.names) (file_scopes files)) name (in_parts (λ (u : UnitScope). u.names) (file_scopes files) unit name scoped there))

-- one scope is kept for each unit
pub kept_each : (files : List ProjectFile) (texts : List (List ℕ)) (scans : List Scan) (outlines : List FileOutline) → length texts ≡ length files → FilesAreOf texts scans outlines → length (scope_units files texts scans) ≡ length (file_scopes outlines)
kept_each files texts scans outlines each are =
    sym (ap length (scopes_kept texts scans outlines are ∙ scopes_are files texts scans each) ∙ length-map (scope_units files texts scans) as_scope)

-- each unit has its links, where each has the numbers of its groups
pub linked_each : (keeps : Bool) (files : List ProjectFile) (texts : List (List ℕ)) (scans : List Scan) (outlines : List FileOutline) (names : List (List ℕ)) (groups : List Group) (owned : List Owned) (links : List (List Link))
    → length texts ≡ length files → FilesAreOf texts scans outlines → AllZip (IsOwnedBy keeps groups) owned (scope_units files texts scans) → AllZip (IsLinkedFor names groups (length owned)) links (scope_units files texts scans)
    → AllZip (IsLinkedFor names groups (length (file_scopes outlines))) links (scope_units files texts scans)
linked_each keeps files texts scans outlines names groups owned links each are own linked =
    let users : List ScopeUnit = scope_units files texts scans in
    let long : length owned ≡ length (file_scopes outlines) = as_long (IsOwnedBy keeps groups) owned users own ∙ kept_each files texts scans outlines each are in
    subst (λ (n : ℕ). AllZip (IsLinkedFor names groups n) links users) long linked

module _ (units : List UnitScope) (names : List (List ℕ)) (groups : List Group) (words : ℕ) (rows : List (List ℕ)) (of_units of_groups : List (List Link)) (library_number : ℕ) (rows_are : AllZip (IsRowOf names words) rows (map (λ unit. implicit ++ unit.names) units ++ replicate (length groups) (implicit ++ []))) (users : List ScopeUnit) (long : length users ≡ length units) (links_are : AllZip (IsLinkedFor names groups (length units)) of_units users) {keeps : Bool} (members_are : AreMembers keeps groups users library_number of_groups) where
  abbrev lists : List (List (List ℕ))
  lists = map (λ (unit : UnitScope). implicit ++ unit.names) units ++ replicate (length groups) (implicit ++ [])

  lists_long : length lists ≡ length units + length groups
  lists_long = length-append (map (λ (unit : UnitScope). implicit ++ unit.names) units) (replicate (length groups) (implicit ++ [])) ∙ omega (arith, length-map units (λ (unit : UnitScope). implicit ++ unit.names), length-replicate (length groups) (implicit ++ []))

  rows_long : length rows ≡ length units + length groups
  rows_long = as_long (IsRowOf names words) rows lists rows_are ∙ lists_long

  units_long : length of_units ≡ length units
  units_long = as_long (IsLinkedFor names groups (length units)) of_units users links_are ∙ long

  pub ready_each : length (of_units ++ of_groups) ≡ length rows
  ready_each = omega (arith, length-append of_units of_groups, units_long, members_are.each, rows_long)

  pub ready_even : AreEven words rows
  ready_even k d within =
      let row = at_index (IsRowOf names words) rows lists k d [] rows_are (omega (arith, rows_long, lists_long)) in
      row.even

  unit_below : (at : ℕ) → at < length of_units → (link : Link) → Contains (links_at of_units at) link → link.source < length rows
  unit_below at within link there = by_link ((at_index (IsLinkedFor names groups (length units)) of_units users at [] no_unit links_are (omega (arith, units_long, long))).only link there) where
    by_link : Contains [] link ⊎ IsLinkFor names groups (length units) (unit_wants (get_or users at no_unit)) link → link.source < length rows
    by_link (inl none) = absurd (omega (arith, none.1))
    by_link (inr for) =
        let source : link.source ≡ length units + group_number groups for.want.group = ap (λ (l : Link). l.source) for.is in
        let number : group_number groups for.want.group < length groups = (numbered is_same_group same_group told_group groups for.want.group (group_of false [] []) for.there.group).0 in
        omega (arith, rows_long)

  group_below : (at : ℕ) (link : Link) → Contains (links_at of_groups at) link → link.source < length rows
  group_below at link there = let one = members_are.only at link there in omega (arith, rows_long, one.1, long)

  all_of : (links : List (List Link)) → ((at : ℕ) → at < length links → (link : Link) → Contains (links_at links at) link → link.source < length rows) → AreBelow (length rows) links
  all_of links below k d within i e inside =
      let some : List Link = get_or links k d in
      let same : get_or links k d ≡ links_at links k = get_or_default links k d [] within in
      below k within (get_or some i e) (subst (λ (l : List Link). Contains l (get_or some i e)) same (Contains-get_or some i e inside))

  pub ready_below : AreBelow (length rows) (of_units ++ of_groups)
  ready_below = All-append (All (λ (link : Link). link.source < length rows)) of_units of_groups (all_of of_units unit_below) (all_of of_groups (λ (at : ℕ) (within : at < length of_groups). group_below at))

-- what was written through a slice of the whole
pub written : {X : Type 0} (count : ℕ) (new rest : List X) → count ≡ length new → take count (new ++ rest) ≡ new
written count new rest same = ap (λ (n : ℕ). take n (new ++ rest)) same ∙ take-append_seam new rest
