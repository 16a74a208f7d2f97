-- Units that are wanted, the libraries that are there, and the first unit that is missing.
use Rattle.std.proofs.Common.{◌≡◌, ℕ, zero, suc, ◌+◌, ◌<◌, ◌≤◌, Bool, true, false, cond, ◌&&◌, ◌||◌, Option, Some, None, List, [], ◌∷◌, ◌++◌, length, get_or, drop, take, refl, sym, ap, ◌∙◌, arith}
use Rattle.std.specs.Prelude.{is_some}
use Rattle.std.specs.List.{list_any}
use Rattle.std.specs.Option.{option_map}
use Rattle.std.specs.Str.{bytes_eq}
use Rattle.std.proofs.lemmas.List.{drop_all, drop_more, take_more}
use Rattle.std.proofs.lemmas.List.Folds.{list_any-append}
use Rattle.std.proofs.lemmas.Slice.Eq.{bytes_eq-Decides}
use Rattle.base.specs.declared.graph.BuiltFile.{BuiltFile}
use Rattle.base_collections.specs.Maps.{get}
use Rattle.child_lines.specs.Lines.{in_library}
use Rattle.child_tools.specs.Exports.{exports, exports_unit, first_missing, has_library, is_missing}
use Rattle.child_tools.specs.Flags.{HasPut, KnowsLibraries, KnowsUnits, Flags, has_key}
use Rattle.vhdl_units.specs.UnitKeys.{is_same_unit, unit_key, units_decide}
use Rattle.vhdl_units.specs.declared.units.UnitKey.{UnitKey}
use Rattle.child_tools.proofs.FlagLemmas.{Marking}

-- ## Units that are wanted

abbrev pub AreWanted : List UnitKey → Marking → Type 0
AreWanted units flags = (unit : UnitKey) → get is_same_unit flags unit ≡ cond (list_any (λ other. is_same_unit other unit) units) (Some false) None

either : (a b : Bool) → cond b (Some false) (cond a (Some false) None) ≡ cond (a || (b || false)) (Some false) None
either true true = refl
either true false = refl
either false true = refl
either false false = refl

pub wanted_more : (units : List UnitKey) (unit : UnitKey) (old new : Marking) → AreWanted units old → ((other : UnitKey) → get is_same_unit new other ≡ cond (is_same_unit unit other) (Some false) (get is_same_unit old other)) → AreWanted (units ++ unit ∷ []) new
wanted_more units unit old new are put other =
    put other ∙ (ap (cond (is_same_unit unit other) (Some false)) (are other) ∙ (either (list_any (λ o. is_same_unit o other) units) (is_same_unit unit other)
    ∙ ap (λ (b : Bool). cond b (Some false) None) (sym (list_any-append (λ o. is_same_unit o other) units (unit ∷ [])))))

-- what files and one more export is found of what is wanted
pub units_known : (files : List BuiltFile) (last : BuiltFile) (units : List UnitKey) (library artefact : List ℕ) (first now new : Marking) → last.name.library ≡ library → last.artefact ≡ artefact → AreWanted units first → Flags (exports files) first now
    → Flags (λ unit. bytes_eq library unit.library && exports_unit artefact unit.name) now new → KnowsUnits (files ++ last ∷ []) units new
units_known files last units library artefact first now new is_library is_artefact are more own unit =
    own unit ∙ (ap (option_map (λ found. found || (bytes_eq library unit.library && exports_unit artefact unit.name))) (more unit ∙ ap (option_map (λ found. found || exports files unit)) (are unit))
    ∙ (told (list_any (λ other. is_same_unit other unit) units) (exports files unit) (bytes_eq library unit.library && exports_unit artefact unit.name)
    ∙ ap (λ (b : Bool). cond (list_any (λ other. is_same_unit other unit) units) (Some b) None) (ap (λ (b : Bool). exports files unit || (b || false)) same ∙ sym (list_any-append (λ file. in_library unit.library file && exports_unit file.artefact unit.name) files (last ∷ []))))) where
      same : (bytes_eq library unit.library && exports_unit artefact unit.name) ≡ (bytes_eq last.name.library unit.library && exports_unit last.artefact unit.name)
      same = ap (λ (l : List ℕ). bytes_eq l unit.library && exports_unit artefact unit.name) (sym is_library) ∙ ap (λ (a : List ℕ). bytes_eq last.name.library unit.library && exports_unit a unit.name) (sym is_artefact)

      told : (wanted one two : Bool) → option_map (λ found. found || two) (option_map (λ found. found || one) (cond wanted (Some false) None)) ≡ cond wanted (Some (one || (two || false))) None
      told true true two = refl
      told true false true = refl
      told true false false = refl
      told false one two = refl

-- ## Libraries that are there

abbrev pub library_name : List ℕ → UnitKey
library_name library = unit_key library []

some_put : (b : Bool) (o : Option Bool) → is_some (cond b (Some true) o) ≡ (is_some o || b)
some_put true None = refl
some_put true (Some x) = refl
some_put false None = refl
some_put false (Some x) = refl

or_false : (a : Bool) → (a || false) ≡ a
or_false true = refl
or_false false = refl

pub has_put : (library : List ℕ) (old new : Marking) → ((other : UnitKey) → get is_same_unit new other ≡ cond (is_same_unit (library_name library) other) (Some true) (get is_same_unit old other)) → HasPut library old new
has_put library old new put other =
    ap is_some (put (library_name other)) ∙ some_put (is_same_unit (library_name library) (library_name other)) (get is_same_unit old (library_name other))

-- nothing is to be put where it is there
pub has_same : (library before : List ℕ) (old : Marking) → library ≡ before → has_key old before ≡ true → HasPut library old old
has_same library before old same there other = in_it (has_key old other) (bytes_eq library other) (λ (e : bytes_eq library other ≡ true). ap (has_key old) (sym ((bytes_eq-Decides library other).0 e) ∙ same) ∙ there) where
  in_it : (a b : Bool) → (b ≡ true → a ≡ true) → a ≡ (a || b)
  in_it true b known = refl
  in_it false true known = known refl
  in_it false false known = refl

-- what was put is there
pub put_is_there : (library : List ℕ) (old new : Marking) → HasPut library old new → has_key new library ≡ true
put_is_there library old new put = put library ∙ (ap (λ (b : Bool). has_key old library || b) ((bytes_eq-Decides library library).1 refl) ∙ or_true (has_key old library)) where
  or_true : (b : Bool) → (b || true) ≡ true
  or_true true = refl
  or_true false = refl

-- the libraries of files and one more are there
abbrev pub AreThere : List BuiltFile → List ℕ → Marking → Type 0
AreThere files own libraries = (other : List ℕ) → has_key libraries other ≡ (has_library files other || bytes_eq own other)

pub own_there : (own : List ℕ) (old new : Marking) → ((key : UnitKey) → get is_same_unit old key ≡ None) → HasPut own old new → AreThere [] own new
own_there own old new none put other = put other ∙ ap (λ (o : Option Bool). is_some o || bytes_eq own other) (none (library_name other))

pub library_more : (files : List BuiltFile) (file : BuiltFile) (own : List ℕ) (old new : Marking) → AreThere files own old → HasPut file.name.library old new → AreThere (files ++ file ∷ []) own new
library_more files file own old new there put other =
    put other ∙ (ap (λ (b : Bool). b || bytes_eq file.name.library other) (there other) ∙ (last_first (has_library files other) (bytes_eq own other) (bytes_eq file.name.library other)
    ∙ ap (λ (b : Bool). b || bytes_eq own other) (sym (list_any-append (in_library other) files (file ∷ []))))) where
      last_first : (a b c : Bool) → ((a || b) || c) ≡ ((a || (c || false)) || b)
      last_first true b c = refl
      last_first false true true = refl
      last_first false true false = refl
      last_first false false true = refl
      last_first false false false = refl

pub libraries_known : (files : List BuiltFile) (own : List ℕ) (libraries : Marking) (last : BuiltFile) → last.name.library ≡ own → AreThere files own libraries → KnowsLibraries (files ++ last ∷ []) libraries
libraries_known files own libraries last is there other =
    there other ∙ (ap (λ (b : Bool). has_library files other || b) (ap (λ (library : List ℕ). bytes_eq library other) (sym is) ∙ sym (or_false (bytes_eq last.name.library other)))
    ∙ sym (list_any-append (in_library other) files (last ∷ [])))

-- ## The first that is missing

-- each of the units is among them
pub among : (units : List UnitKey) (i : ℕ) (unit : UnitKey) → i < length units → unit ≡ get_or units i unit → list_any (λ other. is_same_unit other unit) units ≡ true
among [] i unit within is = absurd (omega arith)
among (first ∷ units) zero unit within is = ap (λ (b : Bool). b || list_any (λ other. is_same_unit other unit) units) ((units_decide first unit).1 (sym is))
among (first ∷ units) (suc i) unit within is = ap (λ (b : Bool). is_same_unit first unit || b) (among units i unit (omega arith) is) ∙ or_true (is_same_unit first unit) where
  or_true : (b : Bool) → (b || true) ≡ true
  or_true true = refl
  or_true false = refl

module _ (files : List BuiltFile) (units : List UnitKey) (i : ℕ) (unit : UnitKey) (within : i < length units) (is : unit ≡ get_or units i unit) (so_far : first_missing files (drop i units) ≡ first_missing files units) where
  next : (missing : Bool) → is_missing files unit ≡ missing → first_missing files units ≡ cond missing (Some unit) (first_missing files (drop (i + 1) units))
  next missing says =
      sym so_far ∙ (ap (first_missing files) (drop_more units i unit within ∙ ap (λ (u : UnitKey). u ∷ drop (i + 1) units) (sym is))
      ∙ ap (λ (b : Bool). cond b (Some unit) (first_missing files (drop (i + 1) units))) says)

  pub missing_here : is_missing files unit ≡ true → first_missing files units ≡ Some unit
  missing_here says = next true says

  pub missing_later : is_missing files unit ≡ false → first_missing files (drop (i + 1) units) ≡ first_missing files units
  missing_later says = sym (next false says)

pub none_missing : (files : List BuiltFile) (units : List UnitKey) (i : ℕ) → length units ≤ i → first_missing files (drop i units) ≡ first_missing files units → first_missing files units ≡ None
none_missing files units i long so_far = sym so_far ∙ ap (first_missing files) (drop_all i units long)

-- ## Lists up to a place

pub next_take : {X : Type 0} (xs : List X) (i : ℕ) (x : X) → i < length xs → x ≡ get_or xs i x → take (i + 1) xs ≡ take i xs ++ x ∷ []
next_take {X} xs i x within is = take_more xs i x within ∙ ap (λ (y : X). take i xs ++ y ∷ []) (sym is)
