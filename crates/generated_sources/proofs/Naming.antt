-- What the units of the files of numbers refer to, and which of them a name means.
use Rattle.std.proofs.Common.{◌≡◌, suc, ℕ, ◌/◌, ⊎_elim, inl, inr, Bool, true, false, not, ◌&&◌, ◌||◌, List, [], ◌∷◌, map, refl, sym, ap, ◌∙◌}
use Rattle.std.specs.Cmp.Lexicographic.{other_text, same_text}
use Rattle.std.specs.List.{list_any}
use Rattle.std.specs.Str.{bytes_eq}
use Rattle.std.proofs.lemmas.Bool.{cases_Bool}
use Rattle.base.specs.declared.project.Project.{Project}
use Rattle.base.specs.declared.refs.Ref.{Ref}
use Rattle.vhdl_spec.proofs.Seeing.{closed}
use Rattle.vhdl_spec.specs.Dependencies.{LinkUnit, is_primary, is_seen, library_of, names_unit}
use Rattle.vhdl_spec.specs.Visibility.{is_implicit, is_own, sees}
use Rattle.generated_sources.specs.BenchScans.{bench_entity_name, entity_ref}
use Rattle.generated_sources.specs.PackageLinks.{file_libraries, file_refs, used_library, used_ref}
use Rattle.generated_sources.specs.PackageScans.{is_alone, package_name}
use Rattle.generated_sources.specs.NumberedFiles.{numbered_project}
use Rattle.generated_sources.proofs.Members.{Has, has_mapped, contains_had}
use Rattle.generated_sources.proofs.Slots.{Member, entity, architecture, package_after, unit_by}

-- ## Equal names

pub same_bytes : (x y : List ℕ) → x ≡ y → bytes_eq x y ≡ true
same_bytes x y is =
    elim (cases_Bool (bytes_eq x y)) [
      | inl t ↦ t
      | inr f ↦ absurd (other_text x y (sym f) is)
    ]

pub bytes_same : (x y : List ℕ) → bytes_eq x y ≡ true → x ≡ y
bytes_same x y t = same_text x y (sym t)

pub other_bytes : (x y : List ℕ) → (x ≡ y → ⊥) → bytes_eq x y ≡ false
other_bytes x y other =
    elim (cases_Bool (bytes_eq x y)) [
      | inl t ↦ absurd (other (bytes_same x y t))
      | inr f ↦ f
    ]

-- ## References

-- the name that a unit refers to, if it refers to one
abbrev pub target : Member → List ℕ
target entity = 112 ∷ 49 ∷ []
target architecture = bench_entity_name
target (package_after before) = package_name (suc before / 2)

abbrev pub ref_of : Member → Ref
ref_of entity = used_ref (target entity)
ref_of architecture = entity_ref
ref_of (package_after before) = used_ref (target (package_after before))

abbrev pub has_ref : Member → Bool
has_ref entity = true
has_ref architecture = true
has_ref (package_after before) = not (is_alone (suc before))

of_file : (alone : Bool) (name : List ℕ) (ref : Ref) → Has (file_refs alone name) ref → (not alone ≡ true) × (used_ref name ≡ ref)
of_file true name ref has = absurd has
of_file false name ref has = ⊎_elim (λ is. (refl, is)) (λ none. absurd none) has

in_file : (alone : Bool) (name : List ℕ) → not alone ≡ true → Has (file_refs alone name) (used_ref name)
in_file true name uses = let no_way : ⊥ = cc in absurd no_way
in_file false name uses = inl refl

module _ (command : List (List ℕ)) (rank : ℕ) where
  pub ref_is : (member : Member) (ref : Ref) → Has (unit_by command rank member).refs ref → (has_ref member ≡ true) × (ref_of member ≡ ref)
  ref_is entity ref has = ⊎_elim (λ is. (refl, is)) (λ none. absurd none) has
  ref_is architecture ref has = ⊎_elim (λ is. (refl, is)) (λ none. absurd none) has
  ref_is (package_after before) ref has = of_file (is_alone (suc before)) (package_name (suc before / 2)) ref has

  pub refers : (member : Member) → has_ref member ≡ true → Has (unit_by command rank member).refs (ref_of member)
  refers entity uses = inl refl
  refers architecture uses = inl refl
  refers (package_after before) uses = in_file (is_alone (suc before)) (package_name (suc before / 2)) uses

  -- ## Libraries

  pub library_is : (member : Member) → library_of (unit_by command rank member) (ref_of member) ≡ used_library
  unfolding used_library
  library_is entity = refl
  library_is architecture = refl
  library_is (package_after before) = refl

  own_library : (alone : Bool) → not alone ≡ true → (is_implicit used_library || list_any (bytes_eq used_library) (file_libraries alone)) ≡ true
  unfolding used_library
  own_library true uses = let no_way : ⊥ = cc in absurd no_way
  own_library false uses = refl

  owns : (member : Member) → has_ref member ≡ true → is_own (unit_by command rank member).scope (ref_of member).library ≡ true
  unfolding used_library
  owns entity uses = refl
  owns architecture uses = refl
  owns (package_after before) uses = own_library (is_alone (suc before)) uses

  pub seen : (units : List LinkUnit) (member : Member) → has_ref member ≡ true → Has units (unit_by command rank member) → is_seen units (unit_by command rank member) (ref_of member) ≡ true
  seen units member uses has =
      (closed (map (λ (other : LinkUnit). other.scope) units)).own (unit_by command rank member).scope (ref_of member).library
      (contains_had (map (λ (other : LinkUnit). other.scope) units) (unit_by command rank member).scope (has_mapped (λ (other : LinkUnit). other.scope) units (unit_by command rank member) has))
      (owns member uses)

-- ## What a name means

abbrev pub primary_by : List ℕ → Member → Bool
primary_by name entity = bytes_eq bench_entity_name name
primary_by name architecture = false
primary_by name (package_after before) = bytes_eq (package_name (suc before)) name

pub primary_is : (command : List (List ℕ)) (rank : ℕ) (member : Member) (name : List ℕ) → is_primary used_library name (unit_by command rank member) ≡ primary_by name member
unfolding used_library
primary_is command rank entity name = refl
primary_is command rank architecture name = refl
primary_is command rank (package_after before) name = refl

or_false : (a : Bool) → ((a || false) || false) ≡ a
or_false true = refl
or_false false = refl

module _ (command simulator external : List (List ℕ)) (numbers : List ℕ) (units : List LinkUnit) where
  abbrev project : Project
  project = numbered_project command simulator external numbers

  by_library : (rank other : ℕ) (member named : Member) → is_seen units (unit_by command rank member) (ref_of member) ≡ true → is_primary (library_of (unit_by command rank member) (ref_of member)) (ref_of member).name (unit_by command other named) ≡ primary_by (target member) named →
      names_unit project units (unit_by command rank member) (ref_of member) (unit_by command other named) ≡ primary_by (target member) named
  by_library rank other entity named sees is = (λ i. sees i && ((is i || false) || false)) ∙ or_false (primary_by (target entity) named)
  by_library rank other architecture named sees is = (λ i. sees i && ((is i || false) || false)) ∙ or_false (primary_by (target architecture) named)
  by_library rank other (package_after before) named sees is = (λ i. sees i && ((is i || false) || false)) ∙ or_false (primary_by (target (package_after before)) named)

  named_primary : (rank other : ℕ) (member named : Member) → is_primary (library_of (unit_by command rank member) (ref_of member)) (ref_of member).name (unit_by command other named) ≡ primary_by (target member) named
  named_primary rank other entity named = ap (λ (library : List ℕ). is_primary library (target entity) (unit_by command other named)) (library_is command rank entity) ∙ primary_is command other named (target entity)
  named_primary rank other architecture named = ap (λ (library : List ℕ). is_primary library (target architecture) (unit_by command other named)) (library_is command rank architecture) ∙ primary_is command other named (target architecture)
  named_primary rank other (package_after before) named = ap (λ (library : List ℕ). is_primary library (target (package_after before)) (unit_by command other named)) (library_is command rank (package_after before)) ∙ primary_is command other named (target (package_after before))

  pub names_is : (rank other : ℕ) (member named : Member) → has_ref member ≡ true → Has units (unit_by command rank member) → names_unit project units (unit_by command rank member) (ref_of member) (unit_by command other named) ≡ primary_by (target member) named
  names_is rank other member named uses has = by_library rank other member named (seen command rank units member uses has) (named_primary rank other member named)
