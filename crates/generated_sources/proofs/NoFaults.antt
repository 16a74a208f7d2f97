-- Nothing is wrong with the names of the units of the files of numbers, and there is no warning.
use Rattle.std.proofs.Common.{◌≡◌, ◌≢◌, zero, suc, ℕ, ◌/◌, ◌^◌, ◌<◌, ◌≤◌, ⊎_elim, inl, inr, Bool, true, false, not, ◌&&◌, ◌||◌, List, [], ◌∷◌, ◌++◌, map, refl, sym, ap, subst, ◌∙◌, arith}
use Rattle.std.specs.Prelude.{Contains, Option, None, Result, Ok, Err, if◌then◌else◌, slice_index}
use Rattle.std.specs.List.{AllByRecursion, flat_map, list_any}
use Rattle.std.specs.Str.{bytes_eq}
use Rattle.std.specs.Option.{option_map, option_map_or, option_or}
use Rattle.std.proofs.lemmas.Bool.Decides.{nat_tests}
use Rattle.std.proofs.lemmas.Fmt.{decimal_digit}
use Rattle.std.proofs.lemmas.List.{get_or_default}
use Rattle.std.proofs.lemmas.List.Elements.{recursion_from_All}
use Rattle.base.specs.declared.linking.Linked.{Linked}
use Rattle.base.specs.declared.linking.LinkFault.{LinkFault}
use Rattle.base.specs.declared.linking.Warning.{Warning}
use Rattle.base.specs.declared.project.Project.{Project}
use Rattle.base.specs.declared.refs.Ref.{Ref}
use Rattle.vhdl_spec.specs.Dependencies.{LinkUnit, duplicate_of, edges_of, first_duplicate, first_missing, first_some, is_alike, is_primary, library_of, link_of, missing_of, warnings_of}
use Rattle.generated_sources.proofs.Digits.{same_number}
use Rattle.generated_sources.specs.BenchScans.{bench_entity_name}
use Rattle.generated_sources.specs.PackageLinks.{used_library}
use Rattle.generated_sources.specs.PackageScans.{is_alone, package_name}
use Rattle.generated_sources.specs.NumberedFiles.{AreNumbers, numbered_project, uses_number}
use Rattle.generated_sources.proofs.Members.{Has, AreApart, all_apart, any_had, contains_had, has_at, has_either, has_mapped, map_had, none_found}
use Rattle.generated_sources.proofs.Naming.{has_ref, other_bytes, library_is, primary_by, primary_is, ref_is, ref_of, same_bytes, target}
use Rattle.generated_sources.proofs.Slots.{Member, entity, architecture, package_after, IsAt, Slot, main_member, main_slot, number_of, slot_at, slots_from, unit_by, unit_of, units_in}

-- ## Who is referred to

abbrev pub used_by : Member → ℕ
used_by entity = 1
used_by architecture = 0
used_by (package_after before) = suc before / 2

pub half_used : (before : ℕ) → not (is_alone (suc before)) ≡ true → uses_number (suc before) (suc before / 2) ≡ true
half_used before uses = grind (arith, nat_tests)

pub half_some : (before : ℕ) → not (is_alone (suc before)) ≡ true → 1 ≤ suc before / 2
half_some before uses = let other : 2 ≤ suc before = grind (arith, nat_tests) in omega (arith, other)

pub main_named : (number : ℕ) → 1 ≤ number → primary_by (package_name number) (main_member number) ≡ true
main_named zero some = absurd (omega (arith, some))
main_named (suc before) some = same_bytes (package_name (suc before)) (package_name (suc before)) refl

pub first_name : package_name 1 ≡ 112 ∷ 49 ∷ []
first_name = ap (λ (digits : List ℕ). 112 ∷ digits) (decimal_digit 1 (omega arith))

main_primary : (member : Member) → has_ref member ≡ true → primary_by (target member) (main_member (used_by member)) ≡ true
main_primary entity uses = same_bytes (package_name 1) (112 ∷ 49 ∷ []) first_name
main_primary architecture uses = same_bytes bench_entity_name bench_entity_name refl
main_primary (package_after before) uses = main_named (suc before / 2) (half_some before uses)

-- ## Lists

flat_had : {X Y : Type 0} (f : X → List Y) (xs : List X) (y : Y) → Has (flat_map f xs) y → (x : X) × Has xs x × Has (f x) y
flat_had f [] y has = absurd has
flat_had {X} {Y} f (x ∷ xs) y has =
    ⊎_elim
    (λ (here : Has (f x) y). (x, inl refl, here))
    (λ (later : Has (flat_map f xs) y). let found = flat_had f xs y later in (found.0, inr found.1, found.2))
    (has_either (f x) (flat_map f xs) y has)

flat_none : {X Y : Type 0} (f : X → List Y) (xs : List X) → ((x : X) → Has xs x → f x ≡ []) → flat_map f xs ≡ []
flat_none f [] none = refl
flat_none {X} {Y} f (x ∷ xs) none = ap (λ (ys : List Y). ys ++ flat_map f xs) (none x (inl refl)) ∙ flat_none f xs (λ (y : X) (has : Has xs y). none y (inr has))

first_none : (xs : List (Option LinkFault)) → ((x : Option LinkFault) → Has xs x → x ≡ None) → first_some xs ≡ None
first_none [] none = refl
first_none (x ∷ xs) none = ap (λ (one : Option LinkFault). option_or one (first_some xs)) (none x (inl refl)) ∙ first_none xs (λ (y : Option LinkFault) (has : Has xs y). none y (inr has))

none_missing : (asked named : Bool) (x : Option LinkFault) → named ≡ true → (if asked then (if not named then x else None) else None) ≡ None
none_missing true true x is = refl
none_missing true false x is = let no_way : ⊥ = cc in absurd no_way
none_missing false named x is = refl

-- ## No name is missing

module _ (command simulator external : List (List ℕ)) (numbers : List ℕ) (are : AreNumbers numbers) where
  abbrev project : Project
  project = numbered_project command simulator external numbers

  abbrev units : List LinkUnit
  units = units_in command numbers

  pub number_there : (slot : Slot) → Has (slots_from 0 numbers) slot → Contains numbers (number_of slot.member)
  number_there slot has =
      let at : IsAt 0 numbers slot = slot_at 0 numbers slot has in
      contains_had numbers (number_of slot.member) (subst (Has numbers) (sym at.number) (has_at numbers at.index 0 at.within))

  used_there : (rank : ℕ) (member : Member) → has_ref member ≡ true → Has (slots_from 0 numbers) (record { rank = rank; member = member }) → Contains numbers (used_by member)
  used_there rank entity uses has = are.closed 0 1 (number_there (record { rank = rank; member = entity }) has) refl
  used_there rank architecture uses has = number_there (record { rank = rank; member = architecture }) has
  used_there rank (package_after before) uses has = are.closed (suc before) (suc before / 2) (number_there (record { rank = rank; member = package_after before }) has) (half_used before uses)

  pub main_there : (number : ℕ) → Contains numbers number → (rank : ℕ) × Has (slots_from 0 numbers) (record { rank = rank; member = main_member number })
  main_there number there =
      let is : slice_index numbers there.0 ≡ number = get_or_default numbers there.0 0 number there.1 ∙ there.2 in
      (there.0, subst (λ (n : ℕ). Has (slots_from 0 numbers) (record { rank = there.0; member = main_member n })) is (main_slot 0 numbers there.0 there.0 there.1 (omega arith)))

  target_there : (rank : ℕ) (member : Member) → has_ref member ≡ true → Has (slots_from 0 numbers) (record { rank = rank; member = member }) → list_any (is_primary used_library (target member)) units ≡ true
  target_there rank member uses has =
      let found = main_there (used_by member) (used_there rank member uses has) in
      any_had (is_primary used_library (target member)) units (unit_by command found.0 (main_member (used_by member)))
      (has_mapped (unit_of command) (slots_from 0 numbers) (record { rank = found.0; member = main_member (used_by member) }) found.1)
      (primary_is command found.0 (main_member (used_by member)) (target member) ∙ main_primary member uses)

  target_named : (rank : ℕ) (member : Member) → has_ref member ≡ true → Has (slots_from 0 numbers) (record { rank = rank; member = member }) → list_any (is_primary (library_of (unit_by command rank member) (ref_of member)) (target member)) units ≡ true
  target_named rank member uses has = ap (λ (library : List ℕ). list_any (is_primary library (target member)) units) (library_is command rank member) ∙ target_there rank member uses has

  ref_there : (rank : ℕ) (member : Member) → has_ref member ≡ true → Has (slots_from 0 numbers) (record { rank = rank; member = member }) → missing_of project units (unit_by command rank member) (ref_of member) ≡ None
  ref_there rank entity uses has = none_missing _ _ _ (target_named rank entity uses has)
  ref_there rank architecture uses has = none_missing _ _ _ (target_named rank architecture uses has)
  ref_there rank (package_after before) uses has = none_missing _ _ _ (target_named rank (package_after before) uses has)

  no_ref : (slot : Slot) (ref : Ref) → Has (slots_from 0 numbers) slot → Has (unit_of command slot).refs ref → missing_of project units (unit_of command slot) ref ≡ None
  no_ref slot ref has there =
      let is = ref_is command slot.rank slot.member ref there in
      ap (λ (r : Ref). missing_of project units (unit_of command slot) r) (sym is.1) ∙ ref_there slot.rank slot.member is.0 has

  no_unit : (unit : LinkUnit) → Has units unit → (fault : Option LinkFault) → Has (map (missing_of project units unit) unit.refs) fault → fault ≡ None
  no_unit unit has fault missing =
      let slot = map_had (unit_of command) (slots_from 0 numbers) unit has in
      let ref = map_had (missing_of project units unit) unit.refs fault missing in
      sym ref.2
      ∙ ap (λ (u : LinkUnit). missing_of project units u ref.0) (sym slot.2)
      ∙ no_ref slot.0 ref.0 slot.1 (subst (λ (u : LinkUnit). Has u.refs ref.0) (sym slot.2) ref.1)

  none_is_missing : first_missing project units ≡ None
  none_is_missing =
      first_none (flat_map (λ unit. map (missing_of project units unit) unit.refs) units)
      (λ fault has. let found = flat_had (λ unit. map (missing_of project units unit) unit.refs) units fault has in no_unit found.0 found.1 fault found.2)

  no_warning : (rank : ℕ) (member : Member) → warnings_of project units (unit_by command rank member) ≡ []
  no_warning rank entity = refl
  no_warning rank architecture = refl
  no_warning rank (package_after before) = refl

  none_is_warned : flat_map (warnings_of project units) units ≡ []
  none_is_warned =
      flat_none (warnings_of project units) units
      (λ unit has. let slot = map_had (unit_of command) (slots_from 0 numbers) unit has in ap (warnings_of project units) (sym slot.2) ∙ no_warning slot.0.rank slot.0.member)

-- ## No name is given twice

-- no unit is alike to one before it
abbrev AreUnlike : List LinkUnit → Type 0
AreUnlike [] = Unit {0}
AreUnlike (unit ∷ units) = ((other : LinkUnit) → Has units other → is_alike other unit ≡ false) × AreUnlike units

-- those before are unlike to all of these
abbrev AreNew : List LinkUnit → List LinkUnit → Type 0
AreNew before units = (unit other : LinkUnit) → Has before unit → Has units other → is_alike other unit ≡ false

none_twice : (before units : List LinkUnit) → AreNew before units → AreUnlike units → first_duplicate before units ≡ None
none_twice before [] new unlike = refl
none_twice before (unit ∷ units) new unlike =
    ap (λ (found : Option LinkUnit). option_or (option_map (λ first. duplicate_of first unit) found) (first_duplicate (before ++ unit ∷ []) units)) (none_found (is_alike unit) before (λ (one : LinkUnit) (has : Has before one). new one unit has (inl refl)))
    ∙ none_twice (before ++ unit ∷ []) units
    (λ one other has there.
    ⊎_elim
    (λ (first : Has before one). new one other first (inr there))
    (λ (last : Has (unit ∷ []) one). ⊎_elim (λ (is : unit ≡ one). subst (λ (u : LinkUnit). is_alike other u ≡ false) is (unlike.0 other there)) (λ none. absurd none) last)
    (has_either before (unit ∷ []) one has))
    unlike.1

-- what is alike has the same name
one_test : (named : Bool) → named ≡ false → (((named && true) || false) || false) ≡ false
one_test named is = ap (λ (x : Bool). ((x && true) || false) || false) is

abbrev Below : Member → Type 0
Below member = number_of member < 2 ^ 64

module _ (command : List (List ℕ)) (rank other : ℕ) where
  unlike_by : (member named : Member) → Below member → Below named → number_of member ≢ number_of named → is_alike (unit_by command rank member) (unit_by command other named) ≡ false
  unfolding used_library bench_entity_name
  unlike_by entity entity small few apart = absurd (apart refl)
  unlike_by entity architecture small few apart = absurd (apart refl)
  unlike_by entity (package_after before) small few apart = refl
  unlike_by architecture entity small few apart = absurd (apart refl)
  unlike_by architecture architecture small few apart = absurd (apart refl)
  unlike_by architecture (package_after before) small few apart = refl
  unlike_by (package_after after) entity small few apart = refl
  unlike_by (package_after after) architecture small few apart = refl
  unlike_by (package_after after) (package_after before) small few apart =
      one_test (bytes_eq (package_name (suc before)) (package_name (suc after)))
      (other_bytes (package_name (suc before)) (package_name (suc after)) (λ same. apart (same_number (suc after) (suc before) small few (sym same))))

  body_unlike : is_alike (unit_by command rank architecture) (unit_by command other entity) ≡ false
  unfolding used_library bench_entity_name
  body_unlike = refl

pub small_had : (numbers : List ℕ) (number : ℕ) → AllByRecursion (λ n. n < 2 ^ 64) numbers → Has numbers number → number < 2 ^ 64
small_had [] number small has = absurd has
small_had (n ∷ numbers) number small has = ⊎_elim (λ (is : n ≡ number). subst (λ (m : ℕ). m < 2 ^ 64) is small.0) (λ (later : Has numbers number). small_had numbers number small.1 later) has

-- the units of files of other numbers are unlike to a unit
unlike_rest : (command : List (List ℕ)) (rank from : ℕ) (member : Member) (numbers : List ℕ) → Below member → AllByRecursion (λ n. n < 2 ^ 64) numbers → ((y : ℕ) → Has numbers y → y ≢ number_of member) →
    (other : LinkUnit) → Has (map (unit_of command) (slots_from from numbers)) other → is_alike other (unit_by command rank member) ≡ false
unlike_rest command rank from member numbers few small apart other has =
    let slot = map_had (unit_of command) (slots_from from numbers) other has in
    let at : IsAt from numbers slot.0 = slot_at from numbers slot.0 slot.1 in
    let there : Has numbers (number_of slot.0.member) = subst (Has numbers) (sym at.number) (has_at numbers at.index 0 at.within) in
    subst (λ (unit : LinkUnit). is_alike unit (unit_by command rank member) ≡ false) slot.2
    (unlike_by command slot.0.rank rank slot.0.member member (small_had numbers (number_of slot.0.member) small there) few (apart (number_of slot.0.member) there))

all_unlike : (command : List (List ℕ)) (rank : ℕ) (numbers : List ℕ) → AllByRecursion (λ n. n < 2 ^ 64) numbers → AreApart numbers → AreUnlike (map (unit_of command) (slots_from rank numbers))
all_unlike command rank [] small apart = tt
all_unlike command rank (zero ∷ numbers) small apart = (
  λ other has.
      ⊎_elim
      (λ (is : unit_by command rank architecture ≡ other). subst (λ (unit : LinkUnit). is_alike unit (unit_by command rank entity) ≡ false) is (body_unlike command rank rank))
      (λ (later : Has (map (unit_of command) (slots_from (suc rank) numbers)) other). unlike_rest command rank (suc rank) entity numbers small.0 small.1 apart.0 other later)
      has,
  (unlike_rest command rank (suc rank) architecture numbers small.0 small.1 apart.0, all_unlike command (suc rank) numbers small.1 apart.1),
)
all_unlike command rank (suc before ∷ numbers) small apart = (unlike_rest command rank (suc rank) (package_after before) numbers small.0 small.1 apart.0, all_unlike command (suc rank) numbers small.1 apart.1)

-- ## The links

linked_by : (duplicate missing : Option LinkFault) (edges : List (List ℕ)) (warnings : List Warning) → duplicate ≡ None → missing ≡ None → warnings ≡ [] →
    option_map_or {T = LinkFault} {U = Result Linked LinkFault} (λ fault. Err fault) (option_or duplicate missing) (Ok (record { edges = edges; warnings = warnings })) ≡ Ok (record { edges = edges; warnings = [] })
linked_by duplicate missing edges warnings a b c = λ i. option_map_or {T = LinkFault} {U = Result Linked LinkFault} (λ fault. Err fault) (option_or (a i) (b i)) (Ok (record { edges = edges; warnings = c i }))

pub all_linked : (command simulator external : List (List ℕ)) (numbers : List ℕ) → AreNumbers numbers → link_of (numbered_project command simulator external numbers) (units_in command numbers) ≡ Ok (record { edges = edges_of (numbered_project command simulator external numbers) (units_in command numbers); warnings = [] })
all_linked command simulator external numbers are =
    linked_by (first_duplicate [] (units_in command numbers)) (first_missing (numbered_project command simulator external numbers) (units_in command numbers)) _ _
    (none_twice [] (units_in command numbers) (λ unit other none. absurd none) (all_unlike command 0 numbers (recursion_from_All (λ n. n < 2 ^ 64) numbers are.small) (all_apart numbers are.distinct)))
    (none_is_missing command simulator external numbers are)
    (none_is_warned command simulator external numbers are)
