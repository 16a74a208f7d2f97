-- The table of a project says exactly what its units see.
use Rattle.std.proofs.Common.{◌≡◌, ℕ, zero, suc, ◌+◌, ◌<◌, ◌≤◌, Bool, true, false, cond, List, [], ◌∷◌, ◌++◌, Contains, Option, Some, None, length, map, filter, take, get_or, ◌⊎◌, inl, inr, refl, sym, ◌∙◌, ap, subst, arith, length-append}
use Rattle.std.specs.List.{list_any, slice_get}
use Rattle.std.specs.Str.{bytes_eq}
use Rattle.std.proofs.Math.ListN.{get_or-append}
use Rattle.std.proofs.lemmas.Bool.{cases_lt}
use Rattle.std.proofs.lemmas.List.{get_or-append-add, get_or-map, get_or_past, get_or-take, length-map, length-take}
use Rattle.std.proofs.lemmas.Option.{get_or_from_slice_get, slice_get-get_or, slice_get_within}
use Rattle.base.specs.declared.design.Scan.{Scan}
use Rattle.base.specs.declared.design.Unit.{Unit as DesignUnit}
use Rattle.base.specs.declared.project.ProjectFile.{ProjectFile}
use Rattle.base.specs.declared.refs.UnitId.{UnitId}
use Rattle.vhdl_spec.specs.Visibility.{ScopeUnit, scope_unit, scope_units, sees}
use Rattle.vhdl_spec.proofs.SomeTests.{some_of, Contains-later}
use Rattle.vhdl_scope.specs.declared.scope.Scopes.{Scopes}
use Rattle.vhdl_scope.specs.Bits.{row_has}
use Rattle.vhdl_scope.specs.Links.{index_row}
use Rattle.vhdl_scope.specs.Names.{name_of_number, number_of}
use Rattle.vhdl_scope.specs.Scopes.{AreScopes, as_scope, units_before}
use Rattle.vhdl_scope.specs.Exact.{AreGrown}
use Rattle.vhdl_scope.specs.Tables.{AreVisible, IsUnitAt, Table, row_names, set_at, table_of}
use Rattle.vhdl_scope.proofs.KeyLemmas.{numbered, there_by}
use Rattle.vhdl_scope.proofs.NameLemmas.{same_bytes, told_same}
use Rattle.vhdl_scope.proofs.Exact.{all_seen, any_by, no_unit, only_seen, rows_enough}

pub both_ways : (a b : Bool) → (a ≡ true → b ≡ true) → (b ≡ true → a ≡ true) → a ≡ b
both_ways true b there back = sym (there refl)
both_ways false true there back = back refl
both_ways false false there back = refl

-- what passes a test stays
pub in_filter : {X : Type 0} (p : X → Bool) (xs : List X) (x : X) → Contains xs x → p x ≡ true → Contains (filter p xs) x
in_filter p [] x (k, within, is) told = absurd (omega arith)
in_filter {X} p (first ∷ xs) x (zero, within, is) told = rw (ap p is ∙ told) (zero, omega arith, is)
in_filter {X} p (first ∷ xs) x (suc k, within, is) told = by_first (p first) (in_filter p xs x (k, omega arith, is) told) where
  by_first : (b : Bool) → Contains (filter p xs) x → Contains (cond b (first ∷ filter p xs) (filter p xs)) x
  by_first true later = Contains-later first x (filter p xs) later
  by_first false later = later

pub from_filter : {X : Type 0} (p : X → Bool) (xs : List X) (x : X) → Contains (filter p xs) x → Contains xs x × (p x ≡ true)
from_filter p [] x (k, within, is) = absurd (omega arith)
from_filter {X} p (first ∷ xs) x there = by_first (p first) refl there (λ (later : Contains (filter p xs) x). from_filter p xs x later) where
  by_first : (b : Bool) → p first ≡ b → Contains (cond b (first ∷ filter p xs) (filter p xs)) x → (Contains (filter p xs) x → Contains xs x × (p x ≡ true)) → Contains (first ∷ xs) x × (p x ≡ true)
  by_first true told (zero, within, is) rest = ((zero, omega arith, is), ap p (sym is) ∙ told)
  by_first true told (suc k, within, is) rest = let r = rest (k, omega arith, is) in (Contains-later first x xs (r.0), r.1)
  by_first false told there rest = let r = rest there in (Contains-later first x xs (r.0), r.1)

-- where the unit of a file is among all
pub unit_found : (files : List ProjectFile) (texts : List (List ℕ)) (scans : List Scan) (at number : ℕ) (file : ProjectFile) (text : List ℕ) (scan : Scan) (unit : DesignUnit) → slice_get files at ≡ Some file → slice_get texts at ≡ Some text → slice_get scans at ≡ Some scan → slice_get scan.units number ≡ Some unit → (units_before files texts scans at + number < length (scope_units files texts scans)) × (get_or (scope_units files texts scans) (units_before files texts scans at + number) no_unit ≡ scope_unit file.name.library text scan unit)
unit_found [] texts scans at number file text scan unit f t s u = let never : ⊥ = cc in absurd never
unit_found (x ∷ files) [] scans at number file text scan unit f t s u = let never : ⊥ = cc in absurd never
unit_found (x ∷ files) (y ∷ texts) [] at number file text scan unit f t s u = let never : ⊥ = cc in absurd never
unit_found (x ∷ files) (y ∷ texts) (z ∷ scans) zero number file text scan unit f t s u =
    let same_file : x ≡ file = cc in
    let same_text : y ≡ text = cc in
    let same_scan : z ≡ scan = cc in
    let first : List ScopeUnit = map (scope_unit x.name.library y z) z.units in
    let rest : List ScopeUnit = scope_units files texts scans in
    let in_z : slice_get z.units number ≡ Some unit = ap (λ (q : Scan). slice_get q.units number) same_scan ∙ u in
    let within : number < length z.units = slice_get_within z.units number unit in_z in
    let start : 0 + number ≡ number = omega arith in
    let here : get_or (first ++ rest) number no_unit ≡ scope_unit x.name.library y z unit =
    get_or-append first rest no_unit number (omega (arith, length-map z.units (scope_unit x.name.library y z)))
    ∙ (get_or-map (scope_unit x.name.library y z) z.units number unit no_unit within ∙ ap (scope_unit x.name.library y z) (get_or_from_slice_get z.units number unit unit in_z)) in
    rw start (
      omega (arith, length-map z.units (scope_unit x.name.library y z), length-append first rest),
      here ∙ (ap (λ (q : ProjectFile). scope_unit q.name.library y z unit) same_file
          ∙ (ap (λ (q : List ℕ). scope_unit file.name.library q z unit) same_text ∙ ap (λ (q : Scan). scope_unit file.name.library text q unit) same_scan)),
    )
unit_found (x ∷ files) (y ∷ texts) (z ∷ scans) (suc at) number file text scan unit f t s u =
    let first : List ScopeUnit = map (scope_unit x.name.library y z) z.units in
    let rest : List ScopeUnit = scope_units files texts scans in
    let later = unit_found files texts scans at number file text scan unit f t s u in
    let long : length (first ++ scope_units (take at files) (take at texts) (take at scans)) ≡ length first + units_before files texts scans at = length-append first (scope_units (take at files) (take at texts) (take at scans)) in
    let row_index : length (first ++ scope_units (take at files) (take at texts) (take at scans)) + number ≡ length first + (units_before files texts scans at + number) = omega (arith, long) in
    rw row_index (omega (arith, later.0, length-append first rest), get_or-append-add first rest (units_before files texts scans at + number) no_unit ∙ later.1)

-- the names of a row are the names that its unit sees
module _ (units : List ScopeUnit) (names : List (List ℕ)) (rows : List (List ℕ)) (is : AreGrown (map as_scope units) units names rows) (at : ℕ) (within : at < length units) (user : ScopeUnit) (found : get_or units at no_unit ≡ user) where
  row : List ℕ
  row = index_row rows at

  there : (name : List ℕ) → list_any (bytes_eq name) (row_names names (index_row rows at)) ≡ true → sees units user name ≡ true
  there name told =
      let some = some_of (bytes_eq name) (row_names names (index_row rows at)) told in
      let same : name ≡ some.0 = same_bytes name some.0 some.2 in
      let kept = from_filter (λ (n : List ℕ). row_has (index_row rows at) (number_of names n)) names some.0 some.1 in
      let seen = only_seen units names rows is at within (number_of names some.0) (kept.1) in
      let name_is : name_of_number names (number_of names some.0) ≡ some.0 = (numbered bytes_eq same_bytes told_same names some.0 [] (kept.0)).1 in
      subst (λ (n : List ℕ). sees units user n ≡ true) (name_is ∙ sym same) (subst (λ (u : ScopeUnit). sees units u (name_of_number names (number_of names some.0)) ≡ true) found seen)

  back : (name : List ℕ) → sees units user name ≡ true → list_any (bytes_eq name) (row_names names (index_row rows at)) ≡ true
  back name told =
      let seen = all_seen units names rows is at within name (subst (λ (u : ScopeUnit). sees units u name ≡ true) (sym found) told) in
      any_by (bytes_eq name) (row_names names (index_row rows at)) name (in_filter (λ (n : List ℕ). row_has (index_row rows at) (number_of names n)) names name (seen.0) (seen.1)) (told_same name name refl)

  pub row_is : (name : List ℕ) → list_any (bytes_eq name) (row_names names (index_row rows at)) ≡ sees units user name
  row_is name = both_ways (list_any (bytes_eq name) (row_names names (index_row rows at))) (sees units user name) (there name) (back name)

pub visible : (files : List ProjectFile) (texts : List (List ℕ)) (scans : List Scan) (scopes : Scopes) (names : List (List ℕ)) (rows : List (List ℕ)) (count : ℕ) → count ≡ length (scope_units files texts scans) → AreScopes files texts scans scopes → AreGrown (map as_scope (scope_units files texts scans)) (scope_units files texts scans) names rows → AreVisible files texts scans (table_of scopes.starts.items names (take count rows))
unfolding table_of
visible files texts scans scopes names rows count counted are grown = record { each = are.each; sees = by_unit } where
  units : List ScopeUnit
  units = scope_units files texts scans

  by_unit : (id : UnitId) (user : ScopeUnit) → IsUnitAt files texts scans id user → (name : List ℕ) → list_any (bytes_eq name) (get_or (map (row_names names) (take count rows)) (get_or scopes.starts.items id.file 0 + id.unit) []) ≡ sees (scope_units files texts scans) user name
  by_unit id user unit name =
      let file_within : id.file < length files = slice_get_within files id.file unit.file unit.is_file in
      let start : get_or scopes.starts.items id.file 0 ≡ units_before files texts scans id.file = are.starts id.file file_within in
      let row_index = unit_found files texts scans id.file id.unit unit.file unit.text unit.scan unit.unit unit.is_file unit.is_text unit.is_scan unit.is_unit in
      let found : get_or (scope_units files texts scans) (units_before files texts scans id.file + id.unit) no_unit ≡ user = row_index.1 ∙ sym unit.is in
      let enough : length (scope_units files texts scans) ≤ length rows = rows_enough (scope_units files texts scans) names rows grown in
      let set : get_or (map (row_names names) (take count rows)) (units_before files texts scans id.file + id.unit) [] ≡ row_names names (index_row rows (units_before files texts scans id.file + id.unit)) =
      get_or-map (row_names names) (take count rows) (units_before files texts scans id.file + id.unit) [] [] (omega (arith, row_index.0, enough, counted, length-take count rows))
      ∙ ap (row_names names) (get_or-take count rows (units_before files texts scans id.file + id.unit) [] (omega (arith, row_index.0, counted))) in
      rw start (rw set (row_is (scope_units files texts scans) names rows grown (units_before files texts scans id.file + id.unit) (row_index.0) user found name))

-- a name that has a number is in a row where its bit is set
pub by_number : (names : List (List ℕ)) (row name : List ℕ) (number : ℕ) → number ≡ number_of names name → number < length names → row_has row number ≡ list_any (bytes_eq name) (row_names names row)
by_number names row name number is within = both_ways (row_has row number) (list_any (bytes_eq name) (row_names names row)) forth back_again where
  forth : row_has row number ≡ true → list_any (bytes_eq name) (row_names names row) ≡ true
  forth told =
      any_by (bytes_eq name) (row_names names row) name
      (in_filter (λ (n : List ℕ). row_has row (number_of names n)) names name (there_by bytes_eq same_bytes told_same names name (subst (λ (n : ℕ). n < length names) is within)) (subst (λ (n : ℕ). row_has row n ≡ true) is told))
      (told_same name name refl)

  back_again : list_any (bytes_eq name) (row_names names row) ≡ true → row_has row number ≡ true
  back_again told =
      let some = some_of (bytes_eq name) (row_names names row) told in
      let kept = from_filter (λ (n : List ℕ). row_has row (number_of names n)) names some.0 some.1 in
      subst (λ (n : ℕ). row_has row n ≡ true) (sym is) (subst (λ (n : List ℕ). row_has row (number_of names n) ≡ true) (sym (same_bytes name some.0 some.2)) (kept.1))

-- a name without a number is in no row
pub by_none : (names : List (List ℕ)) (row name : List ℕ) → (Contains names name → ⊥) → false ≡ list_any (bytes_eq name) (row_names names row)
by_none names row name none = both_ways false (list_any (bytes_eq name) (row_names names row)) (λ (told : false ≡ true). let never : ⊥ = cc in absurd never) found where
  found : list_any (bytes_eq name) (row_names names row) ≡ true → false ≡ true
  found told =
      let some = some_of (bytes_eq name) (row_names names row) told in
      let kept = from_filter (λ (n : List ℕ). row_has row (number_of names n)) names some.0 some.1 in
      absurd (none (subst (Contains names) (sym (same_bytes name some.0 some.2)) (kept.0)))

-- the set of an index with a row, and of an index past the rows
pub set_there : (names : List (List ℕ)) (rows : List (List ℕ)) (at : ℕ) (row : List ℕ) → slice_get rows at ≡ Some row → get_or (map (row_names names) rows) at [] ≡ row_names names row
set_there names rows at row is = get_or-map (row_names names) rows at row [] (slice_get_within rows at row is) ∙ ap (row_names names) (get_or_from_slice_get rows at row row is)

pub set_past : (names : List (List ℕ)) (rows : List (List ℕ)) (at : ℕ) → slice_get rows at ≡ None → get_or (map (row_names names) rows) at [] ≡ []
set_past names rows at is = by_index (cases_lt at (length rows)) where
  by_index : (at < length rows) ⊎ (length rows ≤ at) → get_or (map (row_names names) rows) at [] ≡ []
  by_index (inl within) = let never : Some (get_or rows at []) ≡ None = sym (slice_get-get_or rows at [] within) ∙ is in let impossible : ⊥ = cc in absurd impossible
  by_index (inr past_end) = get_or_past (map (row_names names) rows) at [] (omega (arith, length-map rows (row_names names)))

pub table_there : (starts : List ℕ) (names rows : List (List ℕ)) (table : Table) (id : UnitId) (row : List ℕ) → table_of starts names rows ≡ table → slice_get rows (get_or starts id.file 0 + id.unit) ≡ Some row → set_at table id ≡ row_names names row
unfolding table_of
table_there starts names rows table id row view is = subst (λ (t : Table). set_at t id ≡ row_names names row) view (set_there names rows (get_or starts id.file 0 + id.unit) row is)

pub table_past : (starts : List ℕ) (names rows : List (List ℕ)) (table : Table) (id : UnitId) → table_of starts names rows ≡ table → slice_get rows (get_or starts id.file 0 + id.unit) ≡ None → set_at table id ≡ []
unfolding table_of
table_past starts names rows table id view is = subst (λ (t : Table). set_at t id ≡ []) view (set_past names rows (get_or starts id.file 0 + id.unit) is)

-- an index in slices is one in what they are of
pub moved : {X : Type 0} (starts starts' : List ℕ) (rows rows' : List X) (file unit : ℕ) (r : Option X) → starts ≡ starts' → rows ≡ rows' → r ≡ slice_get rows (get_or starts file 0 + unit) → slice_get rows' (get_or starts' file 0 + unit) ≡ r
moved {X} starts starts' rows rows' file unit r same_starts same_rows is =
    sym (is ∙ (ap (λ (some : List X). slice_get some (get_or starts file 0 + unit)) same_rows ∙ ap (λ (some : List ℕ). slice_get rows' (get_or some file 0 + unit)) same_starts))
