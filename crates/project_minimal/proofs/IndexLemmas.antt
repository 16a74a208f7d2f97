-- Units that are added to an index.
use Rattle.std.proofs.Common.{◌≡◌, ℕ, ◌+◌, ◌<◌, ◌==◌, nat_lt, Bool, true, false, ◌&&◌, ◌||◌, Option, Some, List, [], ◌∷◌, ◌++◌, length, take, get_or, inl, inr, sym, ◌∙◌, ap, subst, arith}
use Rattle.std.specs.Prelude.{slice_get}
use Rattle.std.specs.List.{All, list_any}
use Rattle.std.proofs.lemmas.Bool.{cases_eq, cases_lt, eq-eqb, le-ltb, lt-ltb, ne_eqb}
use Rattle.std.proofs.lemmas.List.{take_more}
use Rattle.std.proofs.lemmas.List.Folds.{list_any-append}
use Rattle.base.specs.declared.design.Scan.{Scan}
use Rattle.base.specs.declared.design.Unit.{Unit as DesignUnit}
use Rattle.base.specs.declared.project.ProjectFile.{ProjectFile}
use Rattle.vhdl_spec.proofs.SomeTests.{and_false, and_swap, or_group, or_none}
use Rattle.project_minimal.specs.MinimalSet.{NeedSources, NeedUnit, need_unit, units_at}
use Rattle.vhdl_units.specs.UnitKeys.{is_same_unit, same_parts, unit_key}
use Rattle.std.proofs.lemmas.Option.{slice_get-get_or, slice_get_within}
use Rattle.vhdl_outline.specs.declared.outlines.FileOutline.{FileOutline}
use Rattle.project_minimal.specs.Sources.{AreNeeds, AreSources}
use Rattle.project_minimal.specs.declared.sources.Sources.{Sources}
use Rattle.project_minimal.specs.Suppliers.{Adds, AddsAll, AreVoid, FitAll, FitFiles, HoldsFiles, HoldsSuppliers, IsVoid, Naming, architecture_name, body_name, calls_one, entity_name, is_called, supplies}
use Rattle.project_minimal.specs.declared.index.Index.{Index}
use Rattle.vhdl_units.specs.declared.units.UnitKey.{UnitKey}
use Rattle.project_minimal.specs.declared.suppliers.Suppliers.{Suppliers}
use Rattle.project_minimal.proofs.Supplied.{units_there}
use Rattle.project_minimal.proofs.SupplierLemmas.{none_supplied}
use Rattle.project_minimal.proofs.Tests.{and_or, any_map}

abbrev no_scan : Scan
no_scan = record { tokens = record { list = []; comments = [] }; units = [] }

-- the unit of this name was added
pub adds_one : (naming : Naming) (library : List ℕ) (unit : DesignUnit) (file count : ℕ) (old new : Suppliers) (name : UnitKey) → FitFiles count new
    → ((other : UnitKey) (at : ℕ) → supplies new other at ≡ (supplies old other at || (is_same_unit other name && file == at))) → naming library unit ≡ Some name → Adds naming library (unit ∷ []) file count old new
adds_one naming library unit file count old new name fit added is = record {
  fit = fit;
  all = λ other at. added other at ∙ ap (λ (b : Bool). supplies old other at || b) (and_swap (is_same_unit other name) (file == at) ∙ ap (λ (b : Bool). file == at && b) (sym (or_none (is_called other (naming library unit)) ∙ ap (is_called other) is)));
}

-- nothing was added
pub adds_nothing : (naming : Naming) (library : List ℕ) (file count : ℕ) (suppliers : Suppliers) → FitFiles count suppliers → Adds naming library [] file count suppliers suppliers
adds_nothing naming library file count suppliers fit = record {
  fit = fit;
  all = λ name at. sym (ap (λ (b : Bool). supplies suppliers name at || b) (and_false (file == at)) ∙ or_none (supplies suppliers name at));
}

-- one unit more was added
adds_more : (naming : Naming) (library : List ℕ) (units : List DesignUnit) (unit : DesignUnit) (file count : ℕ) (a b c : Suppliers) → Adds naming library units file count a b → Adds naming library (unit ∷ []) file count b c → Adds naming library (units ++ unit ∷ []) file count a c
adds_more naming library units unit file count a b c one two = record {
  fit = two.fit;
  all = λ name at.
      let some = calls_one naming library units name in
      let last = calls_one naming library (unit ∷ []) name in
      two.all name at ∙ ap (λ (x : Bool). x || (file == at && last)) (one.all name at) ∙ or_group (supplies a name at) (file == at && some) (file == at && last)
      ∙ ap (λ (x : Bool). supplies a name at || x) (sym (and_or (file == at) some last) ∙ ap (λ (x : Bool). file == at && x) (sym (list_any-append (λ one_of. is_called name (naming library one_of)) units (unit ∷ []))));
}

pub all_nothing : (library : List ℕ) (file count : ℕ) (index : Index) → FitAll count index → AddsAll library [] file count index index
all_nothing library file count index fit = record {
  architectures = adds_nothing architecture_name library file count index.architectures fit.architectures;
  bodies = adds_nothing body_name library file count index.bodies fit.bodies;
  entities = adds_nothing entity_name library file count index.entities fit.entities;
}

pub all_more : (library : List ℕ) (units : List DesignUnit) (i : ℕ) (unit : DesignUnit) (file count : ℕ) (a b c : Index) → i < length units → unit ≡ get_or units i unit → AddsAll library (take i units) file count a b → AddsAll library (unit ∷ []) file count b c → AddsAll library (take (i + 1) units) file count a c
all_more library units i unit file count a b c low is one two =
    let more : take i units ++ unit ∷ [] ≡ take (i + 1) units = ap (λ (u : DesignUnit). take i units ++ u ∷ []) is ∙ sym (take_more units i unit low) in
    subst (λ (some : List DesignUnit). AddsAll library some file count a c) more (record {
      architectures = adds_more architecture_name library (take i units) unit file count a.architectures b.architectures c.architectures one.architectures two.architectures;
      bodies = adds_more body_name library (take i units) unit file count a.bodies b.bodies c.bodies one.bodies two.bodies;
      entities = adds_more entity_name library (take i units) unit file count a.entities b.entities c.entities one.entities two.entities;
    })

pub fit_now : (library : List ℕ) (units : List DesignUnit) (file count : ℕ) (a b : Index) → AddsAll library units file count a b → FitAll count b
fit_now library units file count a b adds = record { architectures = adds.architectures.fit; bodies = adds.bodies.fit; entities = adds.entities.fit }

-- ## The units of the files so far

-- the units of one file more
module _ (said : NeedSources) (n : ℕ) (file : ProjectFile) (text : List ℕ) (scan : Scan) (f : slice_get said.files n ≡ Some file) (t : slice_get said.texts n ≡ Some text) (s : slice_get said.scans n ≡ Some scan) where
  calls_here : (naming : Naming) (name : UnitKey) → list_any (λ unit. is_called name (naming unit.scope.library unit.scope.unit)) (units_at said n) ≡ calls_one naming file.name.library scan.units name
  calls_here naming name =
      ap (list_any (λ unit. is_called name (naming unit.scope.library unit.scope.unit))) (units_there said n file text scan f t s)
      ∙ any_map (λ unit. is_called name (naming unit.scope.library unit.scope.unit)) (need_unit file.name.library text scan) scan.units

  holds_more : (naming : Naming) (count : ℕ) (a b : Suppliers) → HoldsSuppliers naming said n a → Adds naming file.name.library scan.units n count a b → HoldsSuppliers naming said (n + 1) b
  holds_more naming count a b holds adds name at =
      let some = list_any (λ (unit : NeedUnit). is_called name (naming unit.scope.library unit.scope.unit)) (units_at said at) in
      adds.all name at ∙ ap (λ (x : Bool). x || (n == at && calls_one naming file.name.library scan.units name)) (holds name at)
      ∙ elim (cases_eq n at) [
        | inl same ↦
            let here : (n == at) ≡ true = eq-eqb n at same in
            let past : nat_lt at n ≡ false = le-ltb at n (omega (arith, same)) in
            let now : nat_lt at (n + 1) ≡ true = lt-ltb at (n + 1) (omega (arith, same)) in
            ap (λ (x : Bool). (x && some) || (n == at && calls_one naming file.name.library scan.units name)) past
            ∙ ap (λ (x : Bool). x && calls_one naming file.name.library scan.units name) here
            ∙ sym (calls_here naming name) ∙ ap (λ (k : ℕ). list_any (λ (unit : NeedUnit). is_called name (naming unit.scope.library unit.scope.unit)) (units_at said k)) same
            ∙ sym (ap (λ (x : Bool). x && some) now)
        | inr differ ↦
            let not_here : (n == at) ≡ false = ne_eqb n at differ in
            ap (λ (x : Bool). (nat_lt at n && some) || (x && calls_one naming file.name.library scan.units name)) not_here
            ∙ or_none (nat_lt at n && some)
            ∙ ap (λ (x : Bool). x && some) (lt_same at differ)
      ] where
        lt_same : (at : ℕ) → (n ≡ at → ⊥) → nat_lt at n ≡ nat_lt at (n + 1)
        lt_same at differ = elim (cases_lt at n) [
          | inl low ↦ lt-ltb at n low ∙ sym (lt-ltb at (n + 1) (omega (arith, low)))
          | inr high ↦ le-ltb at n high ∙ sym (le-ltb at (n + 1) (omega (arith, high, differ)))
        ]

  pub files_more : (count : ℕ) (a b : Index) → HoldsFiles said n a → AddsAll file.name.library scan.units n count a b → HoldsFiles said (n + 1) b
  files_more count a b holds adds = record {
    architectures = holds_more architecture_name count a.architectures b.architectures holds.architectures adds.architectures;
    bodies = holds_more body_name count a.bodies b.bodies holds.bodies adds.bodies;
    entities = holds_more entity_name count a.entities b.entities holds.entities adds.entities;
  }

-- no unit at first
void_supplies : (suppliers : Suppliers) → IsVoid suppliers → (name : UnitKey) (at : ℕ) → supplies suppliers name at ≡ false
void_supplies suppliers is name at = none_supplied suppliers name at is.files

void_fits : (count : ℕ) (suppliers : Suppliers) → IsVoid suppliers → FitFiles count suppliers
void_fits count suppliers is = record {
  paired = ap (λ (rows : List (List ℕ)). length rows) is.files ∙ sym (ap (λ (names : List UnitKey). length names) is.names);
  within = subst (λ (rows : List (List ℕ)). All (λ (some : List ℕ). All (λ other. other < count) some) rows) (sym is.files) (λ k d low. absurd (omega (arith, low)));
}

void_holds : (naming : Naming) (said : NeedSources) (suppliers : Suppliers) → IsVoid suppliers → HoldsSuppliers naming said 0 suppliers
void_holds naming said suppliers is name at =
    void_supplies suppliers is name at
    ∙ sym (ap (λ (x : Bool). x && list_any (λ (unit : NeedUnit). is_called name (naming unit.scope.library unit.scope.unit)) (units_at said at)) (le-ltb at 0 (omega arith)))

pub fit_void : (count : ℕ) (index : Index) → AreVoid index → FitAll count index
fit_void count index are = record { architectures = void_fits count index.architectures are.architectures; bodies = void_fits count index.bodies are.bodies; entities = void_fits count index.entities are.entities }

pub files_void : (said : NeedSources) (index : Index) → AreVoid index → HoldsFiles said 0 index
files_void said index are = record {
  architectures = void_holds architecture_name said index.architectures are.architectures;
  bodies = void_holds body_name said index.bodies are.bodies;
  entities = void_holds entity_name said index.entities are.entities;
}

-- a name that was made of a library and a name
pub named_as : (library its_library name its_name : List ℕ) (key : UnitKey) → key ≡ unit_key its_library its_name → its_library ≡ library → its_name ≡ name → ◌≡◌ {A = Option UnitKey} (Some (unit_key library name)) (Some key)
named_as library its_library name its_name key is l n = ap (λ (k : UnitKey). Some k) (sym (is ∙ same_parts its_library library its_name name l n))

-- if all units of a file are added to an index of the files before it, the index holds this file too
pub file_more : (sources : Sources) (said : NeedSources) (n : ℕ) (file : ProjectFile) (outline : FileOutline) (count : ℕ) (a b : Index) → AreSources sources → AreNeeds sources said
    → slice_get sources.project.now.files n ≡ Some file → slice_get sources.outlines.now n ≡ Some outline → HoldsFiles said n a → AddsAll file.name.library outline.units n count a b → HoldsFiles said (n + 1) b
file_more sources said n file outline count a b are needs f o holds adds =
    let few : n < length sources.project.now.files = slice_get_within sources.project.now.files n file f in
    let texts : n < length said.texts = omega (arith, few, are.each, ap (λ (ts : List (List ℕ)). length ts) needs.texts) in
    let scans : n < length said.scans = omega (arith, texts, needs.outlined.scanned) in
    let text : List ℕ = get_or said.texts n [] in
    let scan : Scan = get_or said.scans n no_scan in
    let t : slice_get said.texts n ≡ Some text = slice_get-get_or said.texts n [] texts in
    let s : slice_get said.scans n ≡ Some scan = slice_get-get_or said.scans n no_scan scans in
    let units : outline.units ≡ scan.units = (needs.outlined.are n text scan outline t s o).units in
    files_more said n file text scan (ap (λ (files : List ProjectFile). slice_get files n) needs.files ∙ f) t s count a b holds (subst (λ (some : List DesignUnit). AddsAll file.name.library some n count a b) units adds)
