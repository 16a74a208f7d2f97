-- The files of a project one by one: what they lack, refer to and use whole.
use Rattle.std.proofs.Common.{◌≡◌, ℕ, zero, suc, ◌+◌, ◌<◌, ◌==◌, Bool, true, false, ◌&&◌, ◌||◌, not, Option, Some, None, List, [], ◌∷◌, ◌++◌, length, map, take, inl, inr, refl, sym, ◌∙◌, ap, arith}
use Rattle.std.specs.Prelude.{Result, Ok, Err, filter, slice_get}
use Rattle.std.specs.List.{flat_map, list_any}
use Rattle.std.specs.Option.{option_or, option_map_or}
use Rattle.std.proofs.lemmas.Bool.{cases_eq, eq-eqb, ne_eqb}
use Rattle.std.proofs.lemmas.Grind.{flat_map-append}
use Rattle.std.proofs.lemmas.List.{map-append}
use Rattle.std.proofs.lemmas.List.Folds.{list_any-append}
use Rattle.base.specs.declared.design.Scan.{Scan}
use Rattle.base.specs.declared.design.Unit.{Unit as DesignUnit}
use Rattle.base.specs.declared.linking.LinkFault.{LinkFault}
use Rattle.base.specs.declared.linking.LinkFault.TheVariants.{NoMemory, DuplicateUnit, MissingUnit, MissingArchitecture}
use Rattle.base.specs.declared.linking.Linked.{Linked}
use Rattle.base.specs.declared.linking.Warning.{Warning}
use Rattle.base.specs.declared.project.Project.{Project}
use Rattle.base.specs.declared.project.ProjectFile.{ProjectFile}
use Rattle.base.specs.declared.refs.UnitId.{UnitId}
use Rattle.base.specs.PresentGraph.{below}
use Rattle.vhdl_spec.specs.Visibility.{ScopeUnit, scope_unit, scope_units, sees}
use Rattle.vhdl_spec.specs.Dependencies.{LinkUnit, depends_on, edges_of, first_duplicate, first_missing, first_some, link_of, link_unit, link_units, missing_of, refers_to, warnings_of}
use Rattle.base_collections.specs.declared.set.PositionSet.{PositionSet}
use Rattle.base_collections.specs.Positions.{has}
use Rattle.vhdl_scope.specs.Tables.{AreVisible, IsUnitAt}
use Rattle.vhdl_graph.specs.declared.seen.Tables.{Tables}
use Rattle.vhdl_graph.specs.Linking.{GivesAll, StandAll, unit_lacks}
use Rattle.vhdl_graph.specs.Results.{GivesLinks}
use Rattle.vhdl_graph.specs.Rows.{has_pair}
use Rattle.vhdl_graph.proofs.LinkLemmas.{none_append}

-- ## Lists of parts

pub any_map : {X Y : Type 0} (p : Y → Bool) (f : X → Y) (xs : List X) → list_any (λ x. p (f x)) xs ≡ list_any p (map f xs)
any_map p f [] = refl
any_map p f (x ∷ xs) = ap (λ (b : Bool). p (f x) || b) (any_map p f xs)

pub map_map : {X Y Z : Type 0} (g : Y → Z) (f : X → Y) (xs : List X) → map (λ x. g (f x)) xs ≡ map g (map f xs)
map_map g f [] = refl
map_map {X} {Y} {Z} g f (x ∷ xs) = ap (λ (rest : List Z). g (f x) ∷ rest) (map_map g f xs)

or_group : (a b c : Option LinkFault) → option_or (option_or a b) c ≡ option_or a (option_or b c)
or_group None b c = refl
or_group (Some fault) b c = refl

pub first_append : (xs ys : List (Option LinkFault)) → first_some (xs ++ ys) ≡ option_or (first_some xs) (first_some ys)
first_append [] ys = refl
first_append (one ∷ xs) ys = ap (λ (o : Option LinkFault). option_or one o) (first_append xs ys) ∙ sym (or_group one (first_some xs) (first_some ys))

-- the first of all parts is the first of the firsts
pub first_parts : {X : Type 0} (f : X → List (Option LinkFault)) (xs : List X) → first_some (flat_map f xs) ≡ first_some (map (λ x. first_some (f x)) xs)
first_parts f [] = refl
first_parts f (x ∷ xs) = first_append (f x) (flat_map f xs) ∙ ap (λ (o : Option LinkFault). option_or (first_some (f x)) o) (first_parts f xs)

-- what is missing of the units of a file
pub missing_of_file : (project : Project) (units : List LinkUnit) (made : DesignUnit → LinkUnit) (designs : List DesignUnit) → first_some (flat_map (λ unit. map (missing_of project units unit) unit.refs) (map made designs)) ≡ first_some (map (λ design. unit_lacks project units (made design)) designs)
missing_of_file project units made designs =
    first_parts (λ (unit : LinkUnit). map (missing_of project units unit) unit.refs) (map made designs)
    ∙ ap first_some (sym (map_map (unit_lacks project units) made designs))

-- ## What units see

scopes_of_file : (position : ℕ) (file : ProjectFile) (text : List ℕ) (scan : Scan) (designs : List DesignUnit) → map (λ other. other.scope) (map (link_unit position file text scan) designs) ≡ map (scope_unit file.name.library text scan) designs
scopes_of_file position file text scan designs = sym (map_map (λ (other : LinkUnit). other.scope) (link_unit position file text scan) designs)

pub scopes_are : (position : ℕ) (files : List ProjectFile) (texts : List (List ℕ)) (scans : List Scan) → map (λ other. other.scope) (link_units position files texts scans) ≡ scope_units files texts scans
scopes_are position [] texts scans = refl
scopes_are position (file ∷ files) [] scans = refl
scopes_are position (file ∷ files) (text ∷ texts) [] = refl
scopes_are position (file ∷ files) (text ∷ texts) (scan ∷ scans) =
    map-append (λ (other : LinkUnit). other.scope) (map (link_unit position file text scan) scan.units) (link_units (suc position) files texts scans)
    ∙ (ap (λ (some : List ScopeUnit). some ++ map (λ other. other.scope) (link_units (suc position) files texts scans)) (scopes_of_file position file text scan scan.units)
    ∙ ap (λ (some : List ScopeUnit). map (scope_unit file.name.library text scan) scan.units ++ some) (scopes_are (suc position) files texts scans))

pub stand_all : (files : List ProjectFile) (texts : List (List ℕ)) (scans : List Scan) (tables : Tables) (at : ℕ) (file : ProjectFile) (text : List ℕ) (scan : Scan) → AreVisible files texts scans tables.sets.now → slice_get files at ≡ Some file → slice_get texts at ≡ Some text → slice_get scans at ≡ Some scan → StandAll (link_units 0 files texts scans) tables at file text scan
stand_all files texts scans tables at file text scan seen is_file is_text is_scan number design got =
    let id : UnitId = record { file = at; unit = number } in
    let user : ScopeUnit = scope_unit file.name.library text scan design in
    let there : IsUnitAt files texts scans id user = record { file = file; text = text; scan = scan; unit = design; is_file = is_file; is_text = is_text; is_scan = is_scan; is_unit = got; is = refl } in
    record {
      name = refl;
      library = refl;
      position = refl;
      sees = λ name. seen.sees id user there name ∙ ap (λ (some : List ScopeUnit). sees some user name) (sym (scopes_are 0 files texts scans));
    }

-- ## The units of one file among all

others_never : (P : LinkUnit → Bool) (user position : ℕ) (file : ProjectFile) (text : List ℕ) (scan : Scan) (designs : List DesignUnit) → (position == user) ≡ false → list_any (λ unit. unit.position == user && P unit) (map (link_unit position file text scan) designs) ≡ false
others_never P user position file text scan [] differ = refl
others_never P user position file text scan (d ∷ designs) differ =
    ap (λ (b : Bool). (b && P (link_unit position file text scan d)) || list_any (λ unit. unit.position == user && P unit) (map (link_unit position file text scan) designs)) differ ∙ others_never P user position file text scan designs differ

own_units : (P : LinkUnit → Bool) (user : ℕ) (file : ProjectFile) (text : List ℕ) (scan : Scan) (designs : List DesignUnit) → list_any (λ unit. unit.position == user && P unit) (map (link_unit user file text scan) designs) ≡ list_any P (map (link_unit user file text scan) designs)
own_units P user file text scan [] = refl
own_units P user file text scan (d ∷ designs) =
    ap (λ (b : Bool). (b && P (link_unit user file text scan d)) || list_any (λ unit. unit.position == user && P unit) (map (link_unit user file text scan) designs)) (eq-eqb user user refl)
    ∙ ap (λ (b : Bool). P (link_unit user file text scan d) || b) (own_units P user file text scan designs)

later_never : (P : LinkUnit → Bool) (user position : ℕ) (files : List ProjectFile) (texts : List (List ℕ)) (scans : List Scan) → user < position → list_any (λ unit. unit.position == user && P unit) (link_units position files texts scans) ≡ false
later_never P user position [] texts scans past = refl
later_never P user position (file ∷ files) [] scans past = refl
later_never P user position (file ∷ files) (text ∷ texts) [] past = refl
later_never P user position (file ∷ files) (text ∷ texts) (scan ∷ scans) past =
    list_any-append (λ (unit : LinkUnit). unit.position == user && P unit) (map (link_unit position file text scan) scan.units) (link_units (suc position) files texts scans)
    ∙ (ap (λ (b : Bool). b || list_any (λ unit. unit.position == user && P unit) (link_units (suc position) files texts scans)) (others_never P user position file text scan scan.units (ne_eqb position user (λ e. omega (arith, e, past))))
    ∙ later_never P user (suc position) files texts scans (omega (arith, past)))

or_none : (a : Bool) → (a || false) ≡ a
or_none true = refl
or_none false = refl

pub in_file : (P : LinkUnit → Bool) (user first at : ℕ) (files : List ProjectFile) (texts : List (List ℕ)) (scans : List Scan) (file : ProjectFile) (text : List ℕ) (scan : Scan) → user ≡ first + at → slice_get files at ≡ Some file → slice_get texts at ≡ Some text → slice_get scans at ≡ Some scan →
    list_any (λ unit. unit.position == user && P unit) (link_units first files texts scans) ≡ list_any P (map (link_unit user file text scan) scan.units)
in_file P user first at [] texts scans file text scan is f t s = let never : ⊥ = cc in absurd never
in_file P user first at (x ∷ files) [] scans file text scan is f t s = let never : ⊥ = cc in absurd never
in_file P user first at (x ∷ files) (y ∷ texts) [] file text scan is f t s = let never : ⊥ = cc in absurd never
in_file P user first zero (x ∷ files) (y ∷ texts) (z ∷ scans) file text scan is f t s =
    let same_file : x ≡ file = cc in
    let same_text : y ≡ text = cc in
    let same_scan : z ≡ scan = cc in
    let here : first ≡ user = omega (arith, is) in
    list_any-append (λ (unit : LinkUnit). unit.position == user && P unit) (map (link_unit first x y z) z.units) (link_units (suc first) files texts scans)
    ∙ (ap (λ (b : Bool). list_any (λ unit. unit.position == user && P unit) (map (link_unit first x y z) z.units) || b) (later_never P user (suc first) files texts scans (omega (arith, is)))
    ∙ (or_none (list_any (λ unit. unit.position == user && P unit) (map (link_unit first x y z) z.units))
    ∙ (ap (λ (p : ℕ). list_any (λ unit. unit.position == user && P unit) (map (link_unit p x y z) z.units)) here
    ∙ (own_units P user x y z z.units
    ∙ (ap (λ (q : ProjectFile). list_any P (map (link_unit user q y z) z.units)) same_file
    ∙ (ap (λ (q : List ℕ). list_any P (map (link_unit user file q z) z.units)) same_text
    ∙ ap (λ (q : Scan). list_any P (map (link_unit user file text q) q.units)) same_scan))))))
in_file P user first (suc at) (x ∷ files) (y ∷ texts) (z ∷ scans) file text scan is f t s =
    list_any-append (λ (unit : LinkUnit). unit.position == user && P unit) (map (link_unit first x y z) z.units) (link_units (suc first) files texts scans)
    ∙ (ap (λ (b : Bool). b || list_any (λ unit. unit.position == user && P unit) (link_units (suc first) files texts scans)) (others_never P user first x y z z.units (ne_eqb first user (λ e. omega (arith, e, is))))
    ∙ in_file P user (suc first) at files texts scans file text scan (omega (arith, is)) f t s)

-- ## Edges

pub map_below : {X : Type 0} (f : ℕ → X) (n : ℕ) → map f (below (n + 1)) ≡ map f (below n) ++ f n ∷ []
unfolding below
map_below f n = let e : n + 1 ≡ suc n = omega arith in rw e (map-append f (below n) (n ∷ []))

or_swap : (a b : Bool) → ((false || a) || b) ≡ (b || a)
or_swap true true = refl
or_swap true false = refl
or_swap false true = refl
or_swap false false = refl

-- the row of a file has what the file depends on
pub row_is : (project : Project) (units : List LinkUnit) (file at : ℕ) (empty paired linked row : PositionSet) (pairs refers : Bool) → has empty at ≡ false → has paired at ≡ (has empty at || pairs) → has linked at ≡ (has paired at || refers) → has row file ≡ false → ((other : ℕ) → (other ≡ file → ⊥) → has row other ≡ has linked other)
    → pairs ≡ has_pair project.depends file at → refers ≡ refers_to project units file at → has row at ≡ depends_on project units file at
row_is project units file at empty paired linked row pairs refers none with_pairs with_refs without others is_pair is_ref = elim (cases_eq at file) [
  | inl e ↦ ap (has row) e ∙ (without ∙ sym (ap (λ (b : Bool). not b && (refers_to project units file at || has_pair project.depends file at)) (eq-eqb file at (sym e))))
  | inr ne ↦ others at ne ∙ (with_refs ∙ (ap (λ (b : Bool). b || refers) with_pairs ∙ (ap (λ (b : Bool). (b || pairs) || refers) none ∙ (or_swap pairs refers ∙ (ap (λ (b : Bool). b || pairs) is_ref ∙ (ap (λ (b : Bool). refers_to project units file at || b) is_pair ∙ sym (ap (λ (b : Bool). not b && (refers_to project units file at || has_pair project.depends file at)) (ne_eqb file at (λ e. ne (sym e))))))))))
]

pub below_none : {X : Type 0} (f : ℕ → X) → [] ≡ map f (below 0)
unfolding below
below_none f = refl

-- the first fault of a file is that of all files
pub file_missing : (g : LinkUnit → List (Option LinkFault)) (before more rest all : List LinkUnit) (fault : LinkFault) → first_some (flat_map g before) ≡ None → first_some (flat_map g more) ≡ Some fault → all ≡ (before ++ more) ++ rest → first_some (flat_map g all) ≡ Some fault
file_missing g before more rest all fault none said is =
    ap (λ (some : List LinkUnit). first_some (flat_map g some)) is
    ∙ (ap first_some (flat_map-append g (before ++ more) rest)
    ∙ (first_append (flat_map g (before ++ more)) (flat_map g rest)
    ∙ ap (λ (o : Option LinkFault). option_or o (first_some (flat_map g rest))) (ap first_some (flat_map-append g before more) ∙ (none_append (flat_map g before) (flat_map g more) none ∙ said))))

pub none_missing : (g : LinkUnit → List (Option LinkFault)) (before more all : List LinkUnit) → first_some (flat_map g before) ≡ None → first_some (flat_map g more) ≡ None → all ≡ before ++ more → first_some (flat_map g all) ≡ None
none_missing g before more all none said is =
    ap (λ (some : List LinkUnit). first_some (flat_map g some)) is ∙ (ap first_some (flat_map-append g before more) ∙ (none_append (flat_map g before) (flat_map g more) none ∙ said))

-- the files up to a position are linked
pub record AreLinked (project : Project) (texts : List (List ℕ)) (scans : List Scan) (count : ℕ) (edges : List (List ℕ)) (warnings : List Warning) : Type 0 where
  pub none : first_some (flat_map (λ unit. map (missing_of project (link_units 0 project.files texts scans) unit) unit.refs) (link_units 0 (take count project.files) (take count texts) (take count scans))) ≡ None
  pub edges_are : edges ≡ map (λ user. filter (depends_on project (link_units 0 project.files texts scans) user) (below (length project.files))) (below count)
  pub warnings_are : warnings ≡ flat_map (warnings_of project (link_units 0 project.files texts scans)) (link_units 0 (take count project.files) (take count texts) (take count scans))

-- ## The answer

abbrev answer : Project → List LinkUnit → Option LinkFault → Result Linked LinkFault
answer project units said = option_map_or (λ fault. Err fault) said (Ok (record { edges = edges_of project units; warnings = flat_map (warnings_of project units) units }))

pub all_links : (project : Project) (units : List LinkUnit) (result : Result Linked LinkFault) → first_duplicate [] units ≡ None → GivesAll project units result → GivesLinks (link_of project units) result
all_links project units (Ok linked) none is =
    ap (λ (o : Option LinkFault). answer project units o) (ap (λ (o : Option LinkFault). option_or o (first_missing project units)) none ∙ is.0) ∙ ap (λ (l : Linked). Ok l) (sym (is.1))
all_links project units (Err NoMemory) none is = tt
all_links project units (Err (DuplicateUnit a b c)) none is = ap (λ (o : Option LinkFault). answer project units o) (ap (λ (o : Option LinkFault). option_or o (first_missing project units)) none ∙ is)
all_links project units (Err (MissingUnit a b c)) none is = ap (λ (o : Option LinkFault). answer project units o) (ap (λ (o : Option LinkFault). option_or o (first_missing project units)) none ∙ is)
all_links project units (Err (MissingArchitecture a b c d)) none is = ap (λ (o : Option LinkFault). answer project units o) (ap (λ (o : Option LinkFault). option_or o (first_missing project units)) none ∙ is)
