-- Units that are added to an index, one by one and file by file.
use Rattle.std.proofs.Common.{◌≡◌, ℕ, zero, suc, ◌+◌, ◌<◌, ◌≤◌, Bool, true, false, cond, Option, Some, None, List, [], ◌∷◌, ◌++◌, Contains, length, map, take, drop, get_or, ◌⊎◌, inl, inr, refl, sym, ◌∙◌, ap, subst, arith, append_assoc, append-nil}
use Rattle.std.specs.Prelude.{slice_get, Result, Ok, Err}
use Rattle.std.specs.List.{All, find}
use Rattle.std.specs.Option.{option_map, option_or}
use Rattle.base_collections.specs.Maps.{Entries, get}
use Rattle.std.proofs.lemmas.Bool.{cond-true, cond-false}
use Rattle.std.proofs.lemmas.Grind.{common_steps}
use Rattle.std.proofs.lemmas.List.Folds.{find-append}
use Rattle.std.proofs.lemmas.List.Elements.{Contains-append_cases}
use Rattle.order.proofs.Finds.{found_within, none_passes}
use Rattle.std.proofs.lemmas.List.{map-append, map_more, take_all}
use Rattle.base.specs.declared.design.Scan.{Scan}
use Rattle.base.specs.declared.design.Unit.{Unit as DesignUnit}
use Rattle.base.specs.declared.linking.LinkFault.{LinkFault}
use Rattle.base.specs.declared.linking.LinkFault.TheVariants.{NoMemory, DuplicateUnit, MissingUnit, MissingArchitecture}
use Rattle.base.specs.declared.project.ProjectFile.{ProjectFile}
use Rattle.vhdl_spec.specs.Dependencies.{LinkUnit, first_duplicate, is_alike, is_package_kind, link_unit, link_units}
use Rattle.vhdl_graph.specs.declared.index.UnitIndex.{UnitIndex}
use Rattle.vhdl_graph.specs.Keys.{DesignUnitKey, is_same_key, key_of, design_unit_key}
use Rattle.vhdl_graph.specs.Indexes.{AreDistinct, ArePositionsOfFiles, GivesOrFaults, GivesIndex, HoldsUnits, IsFaultOf, IsIndex, IsOfFile, IsUnitOf, Refuses, fault_before, index_of_unit, unit_named}
use Rattle.vhdl_graph.proofs.KeyLemmas.{alike_is, same_key, told_key}

pub one_of : {X : Type 0} (x y : X) → Contains (x ∷ []) y → x ≡ y
one_of x y (zero, within, is) = is
one_of x y (suc k, within, is) = absurd (omega arith)

-- tests that agree find the same
pub find_same : {X : Type 0} (p q : X → Bool) (xs : List X) → ((x : X) → p x ≡ q x) → find p xs ≡ find q xs
find_same p q [] same = refl
find_same {X} p q (x ∷ xs) same = ap (λ (b : Bool). cond b (Some x) (find p xs)) (same x) ∙ ap (λ (o : Option X). cond (q x) (Some x) o) (find_same p q xs same)

-- a unit alike to this one is one of its name
pub alike_named : (units : List LinkUnit) (unit : LinkUnit) → find (is_alike unit) units ≡ unit_named units (key_of unit)
alike_named units unit = find_same (is_alike unit) (λ other. is_same_key (key_of unit) (key_of other)) units (λ other. alike_is unit other)

none_some : {X : Type 0} (x : X) → ◌≡◌ {A = Option X} None (Some x) → ⊥
none_some x e = cc

-- the unit of a name in an index
pub named_some : (units : List LinkUnit) (key : DesignUnitKey) (unit_index : UnitIndex) → option_map index_of_unit (unit_named units key) ≡ Some unit_index → (unit : LinkUnit) × (unit_named units key ≡ Some unit) × (index_of_unit unit ≡ unit_index)
named_some units key unit_index told = by_unit (unit_named units key) refl where
  by_unit : (found : Option LinkUnit) → unit_named units key ≡ found → (unit : LinkUnit) × (unit_named units key ≡ Some unit) × (index_of_unit unit ≡ unit_index)
  by_unit None is = let never : ⊥ = none_some unit_index (ap (option_map index_of_unit) (sym is) ∙ told) in absurd never
  by_unit (Some unit) is = (unit, is, (let e : Some (index_of_unit unit) ≡ Some unit_index = ap (option_map index_of_unit) (sym is) ∙ told in cc))

pub named_none : (units : List LinkUnit) (key : DesignUnitKey) → option_map index_of_unit (unit_named units key) ≡ None → unit_named units key ≡ None
named_none units key told = by_unit (unit_named units key) refl where
  by_unit : (found : Option LinkUnit) → unit_named units key ≡ found → unit_named units key ≡ None
  by_unit None is = is
  by_unit (Some unit) is = let e : Some (index_of_unit unit) ≡ None = ap (option_map index_of_unit) (sym is) ∙ told in let never : ⊥ = cc in absurd never

-- ## One unit more

module _ (files : List ProjectFile) (units : List LinkUnit) (unit : LinkUnit) (old new : Entries DesignUnitKey UnitIndex) (is : IsIndex files units old) (of : IsOfFile files unit) (absent : unit_named units (key_of unit) ≡ None) (updates : GivesIndex old new (key_of unit) (index_of_unit unit)) where
  holds : HoldsUnits new (units ++ unit ∷ [])
  holds key = updates key ∙ by_key (is_same_key (key_of unit) key) refl ∙ sym (ap (option_map index_of_unit) (find-append (λ u. is_same_key key (key_of u)) units (unit ∷ []))) where
    by_key : (b : Bool) → is_same_key (key_of unit) key ≡ b → cond b (Some (index_of_unit unit)) (get is_same_key old key) ≡ option_map index_of_unit (option_or (unit_named units key) (cond (is_same_key key (key_of unit)) (Some unit) None))
    by_key true told =
        let same : key_of unit ≡ key = same_key (key_of unit) key told in
        let none : unit_named units key ≡ None = subst (λ (k : DesignUnitKey). unit_named units k ≡ None) same absent in
        let back : is_same_key key (key_of unit) ≡ true = told_key key (key_of unit) (sym same) in
        rw none (rw back refl)
    by_key false told =
        let back : is_same_key key (key_of unit) ≡ false = differ (is_same_key key (key_of unit)) refl in
        is.holds key ∙ rw back (plain (unit_named units key)) where
          differ : (b : Bool) → is_same_key key (key_of unit) ≡ b → is_same_key key (key_of unit) ≡ false
          differ false e = e
          differ true e = let never : true ≡ false = sym (told_key (key_of unit) key (sym (same_key key (key_of unit) e))) ∙ told in let impossible : ⊥ = cc in absurd impossible

          plain : (o : Option LinkUnit) → option_map index_of_unit o ≡ option_map index_of_unit (option_or o None)
          plain None = refl
          plain (Some u) = refl

  apart : (other : LinkUnit) → Contains units other → key_of other ≡ key_of unit → ⊥
  apart other there same =
      let passes : is_same_key (key_of unit) (key_of other) ≡ true = told_key (key_of unit) (key_of other) (sym same) in
      let fails : is_same_key (key_of unit) (key_of other) ≡ false = none_passes (λ u. is_same_key (key_of unit) (key_of u)) units absent other there in
      let never : true ≡ false = sym passes ∙ fails in
      cc

  distinct : AreDistinct (units ++ unit ∷ [])
  distinct a b in_a in_b same = by_index (Contains-append_cases units (unit ∷ []) a in_a) (Contains-append_cases units (unit ∷ []) b in_b) where
    by_index : Contains units a ⊎ Contains (unit ∷ []) a → Contains units b ⊎ Contains (unit ∷ []) b → a ≡ b
    by_index (inl x) (inl y) = is.distinct a b x y same
    by_index (inl x) (inr y) = absurd (apart a x (same ∙ ap key_of (sym (one_of unit b y))))
    by_index (inr x) (inl y) = absurd (apart b y (sym same ∙ ap key_of (sym (one_of unit a x))))
    by_index (inr x) (inr y) = sym (one_of unit a x) ∙ one_of unit b y

  pub index_more : IsIndex files (units ++ unit ∷ []) new
  index_more = record { holds = holds; distinct = distinct; of = λ i d lt. of_at i d lt } where
    of_at : All (IsOfFile files) (units ++ unit ∷ [])
    of_at = grind (arith, common_steps, is.of, of)

-- indices of one unit more
pub indices_more : (files : ℕ) (old new : Entries DesignUnitKey UnitIndex) (key : DesignUnitKey) (unit_index : UnitIndex) → ArePositionsOfFiles files old → unit_index.file < files → GivesIndex old new key unit_index → ArePositionsOfFiles files new
indices_more files old new key unit_index are within updates other found told = by_key (is_same_key key other) refl where
  by_key : (b : Bool) → is_same_key key other ≡ b → found.file < files
  by_key true is = let e : Some unit_index ≡ Some found = sym (cond-true (is_same_key key other) (Some unit_index) (get is_same_key old other) is) ∙ (sym (updates other) ∙ told) in let same : unit_index ≡ found = cc in subst (λ (p : UnitIndex). p.file < files) same within
  by_key false is = are other found (sym (cond-false (is_same_key key other) (Some unit_index) (get is_same_key old other) is) ∙ (sym (updates other) ∙ told))

-- ## Two units of one name

pub duplicate_here : (units : List LinkUnit) (unit : LinkUnit) (fault : LinkFault) → fault_before units unit ≡ Some fault → (rest : List LinkUnit) → first_duplicate units (unit ∷ rest) ≡ Some fault
duplicate_here units unit fault told rest = rw told refl

pub no_duplicate : (units : List LinkUnit) (unit : LinkUnit) → fault_before units unit ≡ None → (rest : List LinkUnit) → first_duplicate units (unit ∷ rest) ≡ first_duplicate (units ++ unit ∷ []) rest
no_duplicate units unit told rest = rw told refl

-- ## What `add_unit` answers

some_same : {X : Type 0} (x y : X) → ◌≡◌ {A = Option X} (Some x) (Some y) → x ≡ y
some_same x y e = cc

-- the name of a unit of a file
pub key_is : (files : List ProjectFile) (file : ℕ) (named : ProjectFile) (design : DesignUnit) (other : LinkUnit) → IsUnitOf files file design other → slice_get files file ≡ Some named → design_unit_key named.name.library design design.kind ≡ key_of other
key_is files file named design other is got =
    let of : slice_get files file ≡ Some other.file = subst (λ (at : ℕ). slice_get files at ≡ Some other.file) is.position (is.of.0) in
    let same : named ≡ other.file = some_same named other.file (sym got ∙ of) in
    ap (λ (f : ProjectFile). design_unit_key f.name.library design design.kind) same
    ∙ (ap (λ (library : List ℕ). design_unit_key library design design.kind) (sym (is.of.1))
    ∙ ap (λ (d : DesignUnit). design_unit_key other.scope.library d d.kind) (sym is.is))

-- a fault that is said here is said there
pub fault_on : (said other : Option LinkFault) (fault : LinkFault) → ((given : LinkFault) → said ≡ Some given → other ≡ Some given) → IsFaultOf said fault → IsFaultOf other fault
fault_on said other NoMemory on is = tt
fault_on said other (DuplicateUnit a b c) on is = on (DuplicateUnit a b c) is
fault_on said other (MissingUnit a b c) on is = on (MissingUnit a b c) is
fault_on said other (MissingArchitecture a b c d) on is = on (MissingArchitecture a b c d) is

pub refused : {T : Type 0} (said : Option LinkFault) (P : T → Type 0) (fault : LinkFault) (result : Result T LinkFault) → said ≡ Some fault → Refuses fault result → GivesOrFaults said P result
refused said P fault (Ok v) told is = absurd is
refused said P fault (Err given) told is = fault_on (Some fault) said given (λ f e. told ∙ e) is

-- one fault more of a file
pub fault_more : (units more all after : List LinkUnit) (unit : LinkUnit) (fault : LinkFault) → IsFaultOf (fault_before (units ++ more) unit) fault → ((rest : List LinkUnit) → first_duplicate units (more ++ rest) ≡ first_duplicate (units ++ more) rest) → all ≡ more ++ unit ∷ after → (rest : List LinkUnit) → IsFaultOf (first_duplicate units (all ++ rest)) fault
fault_more units more all after unit fault told none is rest =
    fault_on (fault_before (units ++ more) unit) (first_duplicate units (all ++ rest)) fault
    (λ given said. ap (λ (some : List LinkUnit). first_duplicate units (some ++ rest)) is
    ∙ (ap (first_duplicate units) (append_assoc more (unit ∷ after) rest)
    ∙ (none (unit ∷ (after ++ rest)) ∙ duplicate_here (units ++ more) unit given said (after ++ rest)))) told

-- ## The units of a file

-- a list is what comes before an element, the element, and what comes after it
pub split_here : {X : Type 0} (xs : List X) (i : ℕ) (x : X) → i < length xs → x ≡ get_or xs i x → xs ≡ take i xs ++ x ∷ drop (i + 1) xs
split_here [] i x within is = absurd (omega arith)
split_here (y ∷ ys) zero x within is = ap (λ z. z ∷ ys) (sym is)
split_here {X} (y ∷ ys) (suc i) x within is = let e : suc i + 1 ≡ suc (i + 1) = omega arith in rw e (ap (λ (zs : List X). y ∷ zs) (split_here ys i x (omega arith) is))

pub mapped_split : {X Y : Type 0} (f : X → Y) (xs : List X) (i : ℕ) (x : X) → i < length xs → x ≡ get_or xs i x → map f xs ≡ map f (take i xs) ++ f x ∷ map f (drop (i + 1) xs)
mapped_split f xs i x within is = ap (map f) (split_here xs i x within is) ∙ map-append f (take i xs) (x ∷ drop (i + 1) xs)

pub mapped_more : {X Y : Type 0} (f : X → Y) (xs : List X) (i : ℕ) (x : X) → i < length xs → x ≡ get_or xs i x → map f (take (i + 1) xs) ≡ map f (take i xs) ++ f x ∷ []
mapped_more {X} {Y} f xs i x within is = map_more f xs i x within ∙ ap (λ (z : X). map f (take i xs) ++ f z ∷ []) (sym is)

pub unit_of : (files : List ProjectFile) (file : ℕ) (named : ProjectFile) (text : List ℕ) (scan : Scan) (design : DesignUnit) → slice_get files file ≡ Some named → IsUnitOf files file design (link_unit file named text scan design)
unit_of files file named text scan design got = record { position = refl; is = refl; of = (got, refl) }

-- one unit more was added
pub added_more : (files : List ProjectFile) (units more : List LinkUnit) (unit : LinkUnit) (new : Entries DesignUnitKey UnitIndex) → (fault_before (units ++ more) unit ≡ None) × IsIndex files ((units ++ more) ++ unit ∷ []) new → ((rest : List LinkUnit) → first_duplicate units (more ++ rest) ≡ first_duplicate (units ++ more) rest) → (all : List LinkUnit) → all ≡ more ++ unit ∷ [] →
    IsIndex files (units ++ all) new × ((rest : List LinkUnit) → first_duplicate units (all ++ rest) ≡ first_duplicate (units ++ all) rest)
added_more files units more unit new told none all is =
    let longer : (units ++ more) ++ unit ∷ [] ≡ units ++ all = append_assoc units more (unit ∷ []) ∙ ap (λ (some : List LinkUnit). units ++ some) (sym is) in (
      subst (λ (some : List LinkUnit). IsIndex files some new) longer (told.1),
      λ rest. ap (λ (some : List LinkUnit). first_duplicate units (some ++ rest)) is
          ∙ (ap (first_duplicate units) (append_assoc more (unit ∷ []) rest)
          ∙ (none (unit ∷ rest) ∙ (no_duplicate (units ++ more) unit (told.0) rest ∙ ap (λ (some : List LinkUnit). first_duplicate some rest) longer))),
    )

-- ## The units of all files

-- those of the files before a position, and of the one at it
pub file_more : (first : ℕ) (files : List ProjectFile) (texts : List (List ℕ)) (scans : List Scan) (at : ℕ) (file : ProjectFile) (text : List ℕ) (scan : Scan) → slice_get files at ≡ Some file → slice_get texts at ≡ Some text → slice_get scans at ≡ Some scan →
    link_units first (take (at + 1) files) (take (at + 1) texts) (take (at + 1) scans) ≡ link_units first (take at files) (take at texts) (take at scans) ++ map (link_unit (first + at) file text scan) scan.units
file_more first [] texts scans at file text scan f t s = let never : ⊥ = cc in absurd never
file_more first (x ∷ files) [] scans at file text scan f t s = let never : ⊥ = cc in absurd never
file_more first (x ∷ files) (y ∷ texts) [] at file text scan f t s = let never : ⊥ = cc in absurd never
file_more first (x ∷ files) (y ∷ texts) (z ∷ scans) zero file text scan f t s =
    let same_file : x ≡ file = cc in
    let same_text : y ≡ text = cc in
    let same_scan : z ≡ scan = cc in
    let start : first + 0 ≡ first = omega arith in
    rw start
    (append-nil (map (link_unit first x y z) z.units)
    ∙ (ap (λ (q : ProjectFile). map (link_unit first q y z) z.units) same_file
    ∙ (ap (λ (q : List ℕ). map (link_unit first file q z) z.units) same_text
    ∙ ap (λ (q : Scan). map (link_unit first file text q) q.units) same_scan)))
file_more first (x ∷ files) (y ∷ texts) (z ∷ scans) (suc at) file text scan f t s =
    let next : suc at + 1 ≡ suc (at + 1) = omega arith in
    let start : suc first + at ≡ first + suc at = omega arith in
    let here : List LinkUnit = map (link_unit first x y z) z.units in
    rw next (ap (λ (rest : List LinkUnit). here ++ rest) (file_more (suc first) files texts scans at file text scan f t s ∙ ap (λ (p : ℕ). link_units (suc first) (take at files) (take at texts) (take at scans) ++ map (link_unit p file text scan) scan.units) start)
    ∙ sym (append_assoc here (link_units (suc first) (take at files) (take at texts) (take at scans)) (map (link_unit (first + suc at) file text scan) scan.units)))

-- the same from the first file on
pub files_more : (files : List ProjectFile) (texts : List (List ℕ)) (scans : List Scan) (at : ℕ) (file : ProjectFile) (text : List ℕ) (scan : Scan) → slice_get files at ≡ Some file → slice_get texts at ≡ Some text → slice_get scans at ≡ Some scan →
    link_units 0 (take (at + 1) files) (take (at + 1) texts) (take (at + 1) scans) ≡ link_units 0 (take at files) (take at texts) (take at scans) ++ map (link_unit at file text scan) scan.units
files_more files texts scans at file text scan f t s =
    let start : 0 + at ≡ at = omega arith in
    subst (λ (p : ℕ). link_units 0 (take (at + 1) files) (take (at + 1) texts) (take (at + 1) scans) ≡ link_units 0 (take at files) (take at texts) (take at scans) ++ map (link_unit p file text scan) scan.units) start (file_more 0 files texts scans at file text scan f t s)

-- those of the files before a position, and the others
pub files_after : (first : ℕ) (files : List ProjectFile) (texts : List (List ℕ)) (scans : List Scan) (at : ℕ) → at ≤ length files → length texts ≡ length files → length scans ≡ length files → (rest : List LinkUnit) × (link_units first files texts scans ≡ link_units first (take at files) (take at texts) (take at scans) ++ rest)
files_after first files texts scans zero within t s = (link_units first files texts scans, nothing files texts scans) where
  nothing : (fs : List ProjectFile) (ts : List (List ℕ)) (ss : List Scan) → link_units first fs ts ss ≡ link_units first (take 0 fs) (take 0 ts) (take 0 ss) ++ link_units first fs ts ss
  nothing fs ts ss = refl
files_after first [] texts scans (suc at) within t s = absurd (omega arith)
files_after first (x ∷ files) [] scans (suc at) within t s = absurd (omega arith)
files_after first (x ∷ files) (y ∷ texts) [] (suc at) within t s = absurd (omega arith)
files_after first (x ∷ files) (y ∷ texts) (z ∷ scans) (suc at) within t s =
    let after = files_after (suc first) files texts scans at (omega arith) (omega arith) (omega arith) in
    let here : List LinkUnit = map (link_unit first x y z) z.units in
    (after.0, ap (λ (some : List LinkUnit). here ++ some) after.1 ∙ sym (append_assoc here (link_units (suc first) (take at files) (take at texts) (take at scans)) (after.0)))

-- a unit that is named is of its file, and its index says so
pub of_named : (files : List ProjectFile) (units : List LinkUnit) (key : DesignUnitKey) (unit : LinkUnit) → All (IsOfFile files) units → unit_named units key ≡ Some unit → IsOfFile files unit
of_named files units key unit all found = within units all (found_within (λ u. is_same_key key (key_of u)) units unit found) where
  within : (us : List LinkUnit) → All (IsOfFile files) us → Contains us unit → IsOfFile files unit
  within us are there = subst (IsOfFile files) (there.2) (are (there.0) unit (there.1))

abbrev as_index : ℕ → Bool → UnitIndex
as_index f b = record { file = f; is_package = b }

pub placed : (file : ℕ) (is_package : Bool) (design : DesignUnit) (unit : LinkUnit) → unit.position ≡ file → unit.scope.unit ≡ design → is_package ≡ is_package_kind design.kind → as_index file is_package ≡ index_of_unit unit
placed file is_package design unit at is told =
    ap (λ (f : ℕ). as_index f is_package) (sym at) ∙ ap (as_index unit.position) (told ∙ ap (λ (d : DesignUnit). is_package_kind d.kind) (sym is))

pub no_file : ProjectFile
no_file = record { name = record { library = []; path = [] }; command = [] }

-- the fault of a file is that of all files
pub file_fault : (before more rest all : List LinkUnit) (fault : LinkFault) → ((rest : List LinkUnit) → IsFaultOf (first_duplicate before (more ++ rest)) fault) → ((rest : List LinkUnit) → first_duplicate [] (before ++ rest) ≡ first_duplicate before rest) → all ≡ (before ++ more) ++ rest → IsFaultOf (first_duplicate [] all) fault
file_fault before more rest all fault told none is =
    fault_on (first_duplicate before (more ++ rest)) (first_duplicate [] all) fault (λ given said. ap (first_duplicate []) (is ∙ append_assoc before more rest) ∙ (none (more ++ rest) ∙ said)) (told rest)

-- the units of a file more, and none has the name of one before
pub none_more : (before more : List LinkUnit) → ((rest : List LinkUnit) → first_duplicate [] (before ++ rest) ≡ first_duplicate before rest) → ((rest : List LinkUnit) → first_duplicate before (more ++ rest) ≡ first_duplicate (before ++ more) rest) → (rest : List LinkUnit) → first_duplicate [] ((before ++ more) ++ rest) ≡ first_duplicate (before ++ more) rest
none_more before more one two rest = ap (first_duplicate []) (append_assoc before more rest) ∙ (one (more ++ rest) ∙ two rest)

-- the units of the files up to a position are added, and no two of them have one name
pub record AreIndexed (files : List ProjectFile) (texts : List (List ℕ)) (scans : List Scan) (count : ℕ) (index : Entries DesignUnitKey UnitIndex) : Type 0 where
  pub is : IsIndex files (link_units 0 (take count files) (take count texts) (take count scans)) index
  pub none : (rest : List LinkUnit) → first_duplicate [] (link_units 0 (take count files) (take count texts) (take count scans) ++ rest) ≡ first_duplicate (link_units 0 (take count files) (take count texts) (take count scans)) rest

-- the units of as many files as there are
pub all_units : (files : List ProjectFile) (texts : List (List ℕ)) (scans : List Scan) (count : ℕ) → length files ≤ count → length texts ≤ count → length scans ≤ count → link_units 0 (take count files) (take count texts) (take count scans) ≡ link_units 0 files texts scans
all_units files texts scans count f t s =
    ap (λ (some : List ProjectFile). link_units 0 some (take count texts) (take count scans)) (take_all count files f)
    ∙ (ap (λ (some : List (List ℕ)). link_units 0 files some (take count scans)) (take_all count texts t)
    ∙ ap (link_units 0 files texts) (take_all count scans s))
