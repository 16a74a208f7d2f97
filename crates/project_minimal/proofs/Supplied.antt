-- The units that an index of names supplies are the units that are needed.
use Rattle.std.proofs.Common.{◌≡◌, ◌<◌, ℕ, zero, suc, ◌≤◌, nat_lt, Bool, false, ◌&&◌, ◌||◌, Option, Some, None, List, [], ◌∷◌, length, map, get_or, inl, inr, refl, sym, ◌∙◌, ap, subst, arith}
use Rattle.std.specs.Prelude.{slice_get}
use Rattle.std.specs.List.{All, list_any}
use Rattle.std.specs.Str.{bytes_eq}
use Rattle.std.proofs.lemmas.Bool.{cases_lt, lt-ltb}
use Rattle.std.proofs.lemmas.Cmp.{nat_list_eq_equiv}
use Rattle.std.proofs.lemmas.List.{length-map}
use Rattle.std.proofs.lemmas.Option.{get_or_from_slice_get, same_Some, slice_get-get_or, slice_get_past, slice_get_within}
use Rattle.base.specs.declared.design.Scan.{Scan}
use Rattle.base.specs.declared.design.Unit.{Unit as DesignUnit}
use Rattle.base.specs.declared.design.UnitKind.{UnitKind}
use Rattle.base.specs.declared.design.UnitKind.TheVariants as kinds
use Rattle.base.specs.declared.child.MaybeText.TheVariants.{Nothing}
use Rattle.base.specs.declared.lexical.Token.{Token}
use Rattle.base.specs.declared.project.ProjectFile.{ProjectFile}
use Rattle.base.specs.declared.refs.UnitId.{UnitId}
use Rattle.vhdl_spec.specs.Dependencies.{is_architecture_kind, is_body_kind, is_one_of, is_package_kind}
use Rattle.vhdl_spec.specs.References.{owner_name}
use Rattle.vhdl_spec.specs.Visibility.{sees}
use Rattle.vhdl_spec.proofs.SomeTests.{and_true, and_false, any_never, any_same, or_group, or_none}
use Rattle.project_minimal.specs.MinimalSet.{NeedSources, NeedUnit, has_architecture, has_body, is_entity_kind, looks_into, may_bind, need_unit, scopes_of, units_at, units_of, wants_of, needs, uses}
use Rattle.vhdl_scope.specs.Tables.{table_sees}
use Rattle.vhdl_outline.specs.Components.{component_names}
use Rattle.vhdl_units.specs.Names.{token_name}
use Rattle.vhdl_lex.specs.LexicalElements.{LiesIn}
use Rattle.vhdl_outline.specs.UnresolvedRefs.{UnresolvedRefsLieIn}
use Rattle.vhdl_outline.specs.declared.unresolved.UnresolvedRefs.{UnresolvedRefs}
use Rattle.vhdl_outline.specs.Outlines.{IsOutlineOf, OutlineLiesIn}
use Rattle.vhdl_outline.specs.declared.outlines.FileOutline.{FileOutline}
use Rattle.project_minimal.specs.Needing.{AreTables, IsKnown, binds_one, count_of, has_part, library_at, looks, no_file}
use Rattle.project_minimal.specs.Suppliers.{HoldsFiles, Naming, architecture_by, architecture_name, body_by, body_name, entity_by, entity_name, files_of, has_file, is_called, is_supplied, supplies}
use Rattle.project_minimal.specs.declared.index.Index.{Index}
use Rattle.vhdl_units.specs.UnitKeys.{unit_key}
use Rattle.vhdl_units.specs.declared.units.UnitKey.{UnitKey}
use Rattle.project_minimal.specs.declared.suppliers.Suppliers.{Suppliers}
use Rattle.project_minimal.specs.declared.units.Tables.{Tables}
use Rattle.project_minimal.proofs.Tests.{any_map, any_or, any_swapped, any_where}

-- ## What a unit is called

called_architecture : (kind : UnitKind) (library name : List ℕ) (other : List ℕ) (unit : DesignUnit) → is_called (unit_key library name) (architecture_by kind other unit) ≡ (is_architecture_kind kind && (bytes_eq name (owner_name unit.owner) && bytes_eq library other))
called_architecture kinds.Architecture library name other unit = refl
called_architecture kinds.Entity library name other unit = refl
called_architecture kinds.Configuration library name other unit = refl
called_architecture kinds.Package library name other unit = refl
called_architecture kinds.PackageBody library name other unit = refl
called_architecture kinds.PackageInstance library name other unit = refl
called_architecture kinds.Context library name other unit = refl

called_body : (kind : UnitKind) (library name : List ℕ) (other : List ℕ) (unit : DesignUnit) → is_called (unit_key library name) (body_by kind other unit) ≡ (is_body_kind kind && (bytes_eq name unit.name && bytes_eq library other))
called_body kinds.PackageBody library name other unit = refl
called_body kinds.Architecture library name other unit = refl
called_body kinds.Entity library name other unit = refl
called_body kinds.Configuration library name other unit = refl
called_body kinds.Package library name other unit = refl
called_body kinds.PackageInstance library name other unit = refl
called_body kinds.Context library name other unit = refl

called_entity : (kind : UnitKind) (name : List ℕ) (other : List ℕ) (unit : DesignUnit) → is_called (unit_key [] name) (entity_by kind other unit) ≡ (is_entity_kind kind && bytes_eq name unit.name)
called_entity kinds.Entity name other unit = and_true (bytes_eq name unit.name)
called_entity kinds.Architecture name other unit = refl
called_entity kinds.Configuration name other unit = refl
called_entity kinds.Package name other unit = refl
called_entity kinds.PackageBody name other unit = refl
called_entity kinds.PackageInstance name other unit = refl
called_entity kinds.Context name other unit = refl

-- ## The units of a file

no_units : (said : NeedSources) (at : ℕ) → length said.files ≤ at → units_at said at ≡ []
unfolding units_at
no_units said at past = ap (λ (file : Option ProjectFile). units_of file (slice_get said.texts at) (slice_get said.scans at)) (slice_get_past said.files at past)

-- whether a file has a unit of a name: the bound by the number of files excludes nothing
supplied_all : (naming : Naming) (said : NeedSources) (name : UnitKey) (at : ℕ) → is_supplied naming said (length said.files) name at ≡ list_any (λ unit. is_called name (naming unit.scope.library unit.scope.unit)) (units_at said at)
supplied_all naming said name at = elim (cases_lt at (length said.files)) [
  | inl low ↦ ap (λ (b : Bool). b && list_any (λ unit. is_called name (naming unit.scope.library unit.scope.unit)) (units_at said at)) (lt-ltb at (length said.files) low)
  | inr past ↦
      let none : list_any (λ (unit : NeedUnit). is_called name (naming unit.scope.library unit.scope.unit)) (units_at said at) ≡ false = ap (list_any (λ (unit : NeedUnit). is_called name (naming unit.scope.library unit.scope.unit))) (no_units said at past) in
      ap (λ (b : Bool). nat_lt at (length said.files) && b) none ∙ and_false (nat_lt at (length said.files)) ∙ sym none
]

abbrev arch_of : UnitKind → List ℕ → List ℕ → NeedUnit → Bool
arch_of kind library name other = is_entity_kind kind && (is_architecture_kind other.scope.unit.kind && (bytes_eq name (owner_name other.scope.unit.owner) && bytes_eq library other.scope.library))

abbrev body_of : UnitKind → List ℕ → List ℕ → NeedUnit → Bool
body_of kind library name other = is_package_kind kind && (is_body_kind other.scope.unit.kind && (bytes_eq name other.scope.unit.name && bytes_eq library other.scope.library))

module _ (said : NeedSources) (index : Index) (holds : HoldsFiles said (length said.files) index) where
  architectures_are : (library name : List ℕ) (at : ℕ) → supplies index.architectures (unit_key library name) at ≡ list_any (λ other. is_architecture_kind other.scope.unit.kind && (bytes_eq name (owner_name other.scope.unit.owner) && bytes_eq library other.scope.library)) (units_at said at)
  architectures_are library name at =
      holds.architectures (unit_key library name) at ∙ supplied_all architecture_name said (unit_key library name) at
      ∙ any_same (λ other. is_called (unit_key library name) (architecture_name other.scope.library other.scope.unit)) _ (units_at said at) (λ other. called_architecture other.scope.unit.kind library name other.scope.library other.scope.unit)

  bodies_are : (library name : List ℕ) (at : ℕ) → supplies index.bodies (unit_key library name) at ≡ list_any (λ other. is_body_kind other.scope.unit.kind && (bytes_eq name other.scope.unit.name && bytes_eq library other.scope.library)) (units_at said at)
  bodies_are library name at =
      holds.bodies (unit_key library name) at ∙ supplied_all body_name said (unit_key library name) at
      ∙ any_same (λ other. is_called (unit_key library name) (body_name other.scope.library other.scope.unit)) _ (units_at said at) (λ other. called_body other.scope.unit.kind library name other.scope.library other.scope.unit)

  entities_are : (name : List ℕ) (at : ℕ) → supplies index.entities (unit_key [] name) at ≡ list_any (λ other. is_entity_kind other.scope.unit.kind && bytes_eq name other.scope.unit.name) (units_at said at)
  entities_are name at =
      holds.entities (unit_key [] name) at ∙ supplied_all entity_name said (unit_key [] name) at
      ∙ any_same (λ other. is_called (unit_key [] name) (entity_name other.scope.library other.scope.unit)) _ (units_at said at) (λ other. called_entity other.scope.unit.kind name other.scope.library other.scope.unit)

  -- what belongs to a unit of a kind and a name
  parts_are : (kind : UnitKind) (library name : List ℕ) (at : ℕ) → has_part index kind library name at ≡ list_any (λ other. arch_of kind library name other || body_of kind library name other) (units_at said at)
  parts_are kinds.Entity library name at = architectures_are library name at ∙ any_same (λ other. is_architecture_kind other.scope.unit.kind && (bytes_eq name (owner_name other.scope.unit.owner) && bytes_eq library other.scope.library)) _ (units_at said at) (λ other. sym (or_none _))
  parts_are kinds.Package library name at = bodies_are library name at
  parts_are kinds.Architecture library name at = sym (any_never (units_at said at))
  parts_are kinds.Configuration library name at = sym (any_never (units_at said at))
  parts_are kinds.PackageBody library name at = sym (any_never (units_at said at))
  parts_are kinds.PackageInstance library name at = sym (any_never (units_at said at))
  parts_are kinds.Context library name at = sym (any_never (units_at said at))

  -- entities of one of some names
  entities_of : (names : List (List ℕ)) (at : ℕ) → list_any (λ name. supplies index.entities (unit_key [] name) at) names ≡ list_any (λ other. is_entity_kind other.scope.unit.kind && is_one_of names other.scope.unit.name) (units_at said at)
  entities_of names at =
      any_same (λ name. supplies index.entities (unit_key [] name) at) (λ name. list_any (λ other. is_entity_kind other.scope.unit.kind && bytes_eq name other.scope.unit.name) (units_at said at)) names (λ name. entities_are name at)
      ∙ any_swapped (λ name other. is_entity_kind other.scope.unit.kind && bytes_eq name other.scope.unit.name) names (units_at said at)
      ∙ any_same (λ other. list_any (λ name. is_entity_kind other.scope.unit.kind && bytes_eq name other.scope.unit.name) names) (λ other. is_entity_kind other.scope.unit.kind && is_one_of names other.scope.unit.name) (units_at said at)
      (λ other. any_where (is_entity_kind other.scope.unit.kind) (λ name. bytes_eq name other.scope.unit.name) names
      ∙ ap (λ (b : Bool). is_entity_kind other.scope.unit.kind && b) (any_same (λ name. bytes_eq name other.scope.unit.name) (bytes_eq other.scope.unit.name) names (λ name. nat_list_eq_equiv.symm name other.scope.unit.name)))

-- ## What a unit needs

pub units_there : (said : NeedSources) (at : ℕ) (file : ProjectFile) (text : List ℕ) (scan : Scan) → slice_get said.files at ≡ Some file → slice_get said.texts at ≡ Some text → slice_get said.scans at ≡ Some scan → units_at said at ≡ map (need_unit file.name.library text scan) scan.units
unfolding units_at
units_there said at file text scan f t s =
    ap (λ (x : Option ProjectFile). units_of x (slice_get said.texts at) (slice_get said.scans at)) f
    ∙ ap (λ (x : Option (List ℕ)). units_of (Some file) x (slice_get said.scans at)) t
    ∙ ap (λ (x : Option Scan). units_of (Some file) (Some text) x) s

-- the units of a file are of its library
units_by : (p : List ℕ → NeedUnit → Bool) (library text : List ℕ) (scan : Scan) (units : List DesignUnit) → list_any (λ unit. p unit.scope.library unit) (map (need_unit library text scan) units) ≡ list_any (p library) (map (need_unit library text scan) units)
units_by p library text scan [] = refl
units_by p library text scan (unit ∷ units) = ap (λ (b : Bool). p library (need_unit library text scan unit) || b) (units_by p library text scan units)

slice_get_map : {X Y : Type 0} (f : X → Y) (xs : List X) (i : ℕ) (x : X) → slice_get xs i ≡ Some x → slice_get (map f xs) i ≡ Some (f x)
slice_get_map f [] i x found = let never : ⊥ = cc in absurd never
slice_get_map {X} {Y} f (y ∷ xs) zero x found = let same : y ≡ x = cc in ap (λ (z : X). Some (f z)) same
slice_get_map f (y ∷ xs) (suc i) x found = slice_get_map f xs i x found

module _ (said : NeedSources) (tables : Tables) (known : IsKnown tables said) (id : UnitId) (file : ProjectFile) (text : List ℕ) (scan : Scan) (unit : DesignUnit) (tokens : List Token)
    (f : slice_get said.files id.file ≡ Some file) (t : slice_get said.texts id.file ≡ Some text) (s : slice_get said.scans id.file ≡ Some scan) (u : slice_get scan.units id.unit ≡ Some unit)
    (components : map (token_name text) tokens ≡ component_names text scan.tokens.list unit) where
  abbrev user : NeedUnit
  user = need_unit file.name.library text scan unit

  library_is : (at : ℕ) (other : ProjectFile) → slice_get said.files at ≡ Some other → library_at tables at ≡ other.name.library
  library_is at other found =
      ap (λ (files : List ProjectFile). (get_or files at no_file).name.library) (sym known.needs.files) ∙ ap (λ (one : ProjectFile). one.name.library) (get_or_from_slice_get said.files at other no_file found)

  visible : (name : List ℕ) → table_sees tables.sets.now id name ≡ sees (scopes_of said) user.scope name
  visible = known.visible.sees id user.scope (record { file = file; text = text; scan = scan; unit = unit; is_file = f; is_text = t; is_scan = s; is_unit = u; is = refl })

  looks_are : (at : ℕ) (other : ProjectFile) → slice_get said.files at ≡ Some other → looks tables id at ≡ looks_into (scopes_of said) user.scope other.name.library
  looks_are at other found =
      ap (λ (own : List ℕ). bytes_eq own (library_at tables at) || table_sees tables.sets.now id (library_at tables at)) (library_is id.file file f)
      ∙ ap (λ (library : List ℕ). bytes_eq file.name.library library || table_sees tables.sets.now id library) (library_is at other found)
      ∙ ap (λ (b : Bool). bytes_eq file.name.library other.name.library || b) (visible other.name.library)

  abbrev is_named : NeedUnit → Bool
  is_named other = is_entity_kind other.scope.unit.kind && is_one_of user.components other.scope.unit.name

  -- what is bound, by what is supplied
  bound_are : (at : ℕ) → binds_one tables id text tokens at ≡ (looks tables id at && list_any is_named (units_at said at))
  bound_are at =
      any_where (looks tables id at) (λ token. supplies tables.index.now.entities (unit_key [] (token_name text token)) at) tokens
      ∙ ap (λ (b : Bool). looks tables id at && b)
      (sym (any_map (λ name. supplies tables.index.now.entities (unit_key [] name) at) (token_name text) tokens)
      ∙ ap (list_any (λ name. supplies tables.index.now.entities (unit_key [] name) at)) components
      ∙ entities_of said tables.index.now known.index user.components at)

  abbrev Agrees : List NeedUnit → ℕ → Type 0
  Agrees units at = (looks tables id at && list_any is_named units) ≡ list_any (λ other. may_bind (scopes_of said) user.scope user.components other.scope) units

  agree_none : (at : ℕ) → Agrees [] at
  agree_none at = and_false (looks tables id at)

  agree_all : (at : ℕ) (other : ProjectFile) (its_text : List ℕ) (its_scan : Scan) → slice_get said.files at ≡ Some other → Agrees (map (need_unit other.name.library its_text its_scan) its_scan.units) at
  agree_all at other its_text its_scan found =
      let units : List NeedUnit = map (need_unit other.name.library its_text its_scan) its_scan.units in
      ap (λ (b : Bool). b && list_any is_named units) (looks_are at other found)
      ∙ sym (any_where (looks_into (scopes_of said) user.scope other.name.library) is_named units)
      ∙ sym (units_by (λ library one. looks_into (scopes_of said) user.scope library && is_named one) other.name.library its_text its_scan its_scan.units)

  agree : (at : ℕ) → Agrees (units_at said at) at
  unfolding units_at
  agree at = by_file (slice_get said.files at) (slice_get said.texts at) (slice_get said.scans at) refl where
    by_file : (one : Option ProjectFile) (its_text : Option (List ℕ)) (its_scan : Option Scan) → slice_get said.files at ≡ one → Agrees (units_of one its_text its_scan) at
    by_file None its_text its_scan found = agree_none at
    by_file (Some other) None its_scan found = agree_none at
    by_file (Some other) (Some its_text) None found = agree_none at
    by_file (Some other) (Some its_text) (Some its_scan) found = agree_all at other its_text its_scan found

  -- what a unit wants is what belongs to it and what its components may be bound to
  pub wants_are : (at : ℕ) → wants_of said user at ≡ (has_part tables.index.now unit.kind file.name.library unit.name at || binds_one tables id text tokens at)
  wants_are at =
      let units = units_at said at in
      let arch = λ (other : NeedUnit). has_architecture user.scope other.scope in
      let body = λ (other : NeedUnit). has_body user.scope other.scope in
      let bind = λ (other : NeedUnit). may_bind (scopes_of said) user.scope user.components other.scope in
      any_same (λ other. arch other || (body other || bind other)) (λ other. (arch other || body other) || bind other) units (λ other. sym (or_group (arch other) (body other) (bind other)))
      ∙ any_or (λ other. arch other || body other) bind units
      ∙ ap (λ (b : Bool). b || list_any bind units) (sym (parts_are said tables.index.now known.index unit.kind file.name.library unit.name at))
      ∙ ap (λ (b : Bool). has_part tables.index.now unit.kind file.name.library unit.name at || b) (sym (bound_are at ∙ agree at))

  pub user_is : (other : NeedUnit) → slice_get (units_at said id.file) id.unit ≡ Some other → user ≡ other
  user_is other found = same_Some user other (sym (ap (λ (units : List NeedUnit). slice_get units id.unit) (units_there said id.file file text scan f t s) ∙ slice_get_map (need_unit file.name.library text scan) scan.units id.unit unit u) ∙ found)

pub no_unit : NeedUnit
no_unit = record {
  scope = record { library = []; unit = record { kind = kinds.Entity; name = []; owner = Nothing; lead = 0; first = 0; last = 0 }; names = []; contexts = []; configured = Nothing };
  components = [];
}

abbrev no_scan : Scan
no_scan = record { tokens = record { list = []; comments = [] }; units = [] }

module _ (tables : Tables) (said : NeedSources) (are : AreTables tables) (known : IsKnown tables said) (at_file : ℕ) (outline : FileOutline) (o : slice_get tables.sources.outlines.now at_file ≡ Some outline) (low : at_file < count_of tables) where
  text_there : at_file < length said.texts
  text_there = omega (arith, low, are.sources.each, ap (λ (ts : List (List ℕ)). length ts) known.needs.texts)

  abbrev the_scan : Scan
  the_scan = get_or said.scans at_file no_scan

  scan_there : slice_get said.scans at_file ≡ Some the_scan
  scan_there = slice_get-get_or said.scans at_file no_scan (omega (arith, text_there, known.needs.outlined.scanned))

  outline_is : (text : List ℕ) → slice_get said.texts at_file ≡ Some text → IsOutlineOf text the_scan outline
  outline_is text t = known.needs.outlined.are at_file text the_scan outline t scan_there o

  -- a file has as many units as its outline
  pub count_units : length (units_at said at_file) ≡ length outline.units
  count_units =
      let text : List ℕ = get_or said.texts at_file [] in
      let t : slice_get said.texts at_file ≡ Some text = slice_get-get_or said.texts at_file [] text_there in
      let file : ProjectFile = get_or said.files at_file no_file in
      let f : slice_get said.files at_file ≡ Some file = slice_get-get_or said.files at_file no_file (omega (arith, low, ap (λ (fs : List ProjectFile). length fs) known.needs.files)) in
      ap (λ (units : List NeedUnit). length units) (units_there said at_file file text the_scan f t scan_there)
      ∙ (length-map the_scan.units (need_unit file.name.library text the_scan) ∙ ap (λ (units : List DesignUnit). length units) (sym (outline_is text t).units))

  -- the files that a unit wants, by its outline and its unresolved references
  pub unit_wants : (number : ℕ) (file : ProjectFile) (text : List ℕ) (design : DesignUnit) (unresolved : UnresolvedRefs) (tokens : List Token) (unit : NeedUnit) → slice_get tables.sources.project.now.files at_file ≡ Some file → slice_get tables.sources.texts.now at_file ≡ Some text
      → slice_get outline.units number ≡ Some design → slice_get outline.unresolved number ≡ Some unresolved → tokens ≡ unresolved.components → slice_get (units_at said at_file) number ≡ Some unit
      → (at : ℕ) → wants_of said unit at ≡ (has_part tables.index.now design.kind file.name.library design.name at || binds_one tables (record { file = at_file; unit = number }) text tokens at)
  unit_wants number file text design unresolved tokens unit f t d m same found at =
      let id : UnitId = record { file = at_file; unit = number } in
      let f_said : slice_get said.files at_file ≡ Some file = ap (λ (files : List ProjectFile). slice_get files at_file) known.needs.files ∙ f in
      let t_said : slice_get said.texts at_file ≡ Some text = ap (λ (texts : List (List ℕ)). slice_get texts at_file) known.needs.texts ∙ t in
      let is = outline_is text t_said in
      let u : slice_get the_scan.units number ≡ Some design = ap (λ (units : List DesignUnit). slice_get units number) (sym is.units) ∙ d in
      let components : map (token_name text) tokens ≡ component_names text the_scan.tokens.list design = ap (map (token_name text)) same ∙ (is.unresolved.are number design unresolved u m).components in
      ap (λ (one : NeedUnit). wants_of said one at) (sym (user_is said tables known id file text the_scan design tokens f_said t_said scan_there u components unit found))
      ∙ wants_are said tables known id file text the_scan design tokens f_said t_said scan_there u components at

pub supplies_is : (suppliers : Suppliers) (name : UnitKey) (at : ℕ) → supplies suppliers name at ≡ has_file (files_of suppliers name) at
unfolding supplies
supplies_is suppliers name at = refl

pub needs_are : (said : NeedSources) (edges : Option (List (List ℕ))) (user used : ℕ) → said.edges ≡ edges → needs said user used ≡ (uses edges user used || list_any (λ unit. wants_of said unit used) (units_at said user))
unfolding needs
needs_are said edges user used is = ap (λ (e : Option (List (List ℕ))). uses e user used || list_any (λ unit. wants_of said unit used) (units_at said user)) is

-- the tokens of a unit's components lie in the text
pub components_lie : (text : List ℕ) (outline : FileOutline) (number : ℕ) (unresolved : UnresolvedRefs) → OutlineLiesIn text outline → slice_get outline.unresolved number ≡ Some unresolved → All (LiesIn text) unresolved.components
components_lie text outline number unresolved lies got = (subst (UnresolvedRefsLieIn text) (get_or_from_slice_get outline.unresolved number unresolved unresolved got) (lies.unresolved number unresolved (slice_get_within outline.unresolved number unresolved got))).components
