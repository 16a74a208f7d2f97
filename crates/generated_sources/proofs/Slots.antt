-- The design units of the files of numbers, each by its file's position and by what it is.
use Rattle.std.proofs.Common.{◌≡◌, zero, suc, ℕ, ◌+◌, ◌^◌, ◌<◌, ⊎_elim, inl, List, [], ◌∷◌, ◌++◌, length, map, refl, sym, ap, subst, ◌∙◌, arith}
use Rattle.std.specs.Prelude.{◌==◌, slice_index}
use Rattle.std.specs.List.{AllByRecursion}
use Rattle.vhdl_spec.specs.Dependencies.{LinkUnit, link_units}
use Rattle.generated_sources.proofs.BenchFindings.{architecture_linked, entity_linked}
use Rattle.generated_sources.proofs.PackageReferences.{package_linked}
use Rattle.generated_sources.specs.BenchScans.{architecture_link, entity_link}
use Rattle.generated_sources.specs.PackageLinks.{package_link}
use Rattle.generated_sources.specs.NumberedFiles.{numbered_file, numbered_scan, numbered_bytes}
use Rattle.generated_sources.proofs.Members.{Has, has_either, has_first_part, has_second_part}

-- the bench's units, and the package of the number after another
pub data Member : Type 0 where
  entity : Member
  architecture : Member
  package_after : ℕ → Member

pub record Slot : Type 0 where
  pub rank : ℕ
  pub member : Member

abbrev pub number_of : Member → ℕ
number_of entity = 0
number_of architecture = 0
number_of (package_after before) = suc before

abbrev pub slots_at : ℕ → ℕ → List Slot
slots_at rank zero = record { rank = rank; member = entity } ∷ record { rank = rank; member = architecture } ∷ []
slots_at rank (suc before) = record { rank = rank; member = package_after before } ∷ []

-- the units of files from a position on
abbrev pub slots_from : ℕ → List ℕ → List Slot
slots_from rank [] = []
slots_from rank (number ∷ numbers) = slots_at rank number ++ slots_from (suc rank) numbers

abbrev pub unit_by : List (List ℕ) → ℕ → Member → LinkUnit
unit_by command rank entity = entity_link rank (numbered_file command 0)
unit_by command rank architecture = architecture_link rank (numbered_file command 0)
unit_by command rank (package_after before) = package_link rank (numbered_file command (suc before)) (suc before)

abbrev pub unit_of : List (List ℕ) → Slot → LinkUnit
unit_of command slot = unit_by command slot.rank slot.member

abbrev pub units_in : List (List ℕ) → List ℕ → List LinkUnit
units_in command numbers = map (unit_of command) (slots_from 0 numbers)

-- ## They are the units of the project

abbrev Small : ℕ → Type 0
Small number = number < 2 ^ 64

cons_is : {x y : LinkUnit} {xs ys : List LinkUnit} → x ≡ y → xs ≡ ys → x ∷ xs ≡ y ∷ ys
cons_is first rest = λ i. first i ∷ rest i

pub units_are : (command : List (List ℕ)) (edited rank : ℕ) (numbers : List ℕ) → AllByRecursion Small numbers → link_units rank (map (numbered_file command) numbers) (map (numbered_bytes edited) numbers) (map (numbered_scan edited) numbers) ≡ map (unit_of command) (slots_from rank numbers)
units_are command edited rank [] small = refl
units_are command edited rank (zero ∷ numbers) small =
    cons_is (entity_linked rank (numbered_file command 0))
    (cons_is (architecture_linked rank (numbered_file command 0)) (units_are command edited (suc rank) numbers small.1))
units_are command edited rank (suc before ∷ numbers) small =
    cons_is (package_linked rank (numbered_file command (suc before)) (suc before) (suc before == edited) small.0) (units_are command edited (suc rank) numbers small.1)

-- ## Where they are

-- a unit of the file at a position
pub record IsAt (rank : ℕ) (numbers : List ℕ) (slot : Slot) : Type 0 where
  pub index : ℕ
  pub within : index < length numbers
  pub position : slot.rank ≡ rank + index
  pub number : number_of slot.member ≡ slice_index numbers index

at_first : (rank number : ℕ) (slot : Slot) → Has (slots_at rank number) slot → (slot.rank ≡ rank) × (number_of slot.member ≡ number)
at_first rank zero slot has =
    ⊎_elim
    (λ is. (ap (λ (s : Slot). s.rank) (sym is), ap (λ (s : Slot). number_of s.member) (sym is)))
    (λ later. ⊎_elim (λ is. (ap (λ (s : Slot). s.rank) (sym is), ap (λ (s : Slot). number_of s.member) (sym is))) (λ none. absurd none) later)
    has
at_first rank (suc before) slot has = ⊎_elim (λ is. (ap (λ (s : Slot). s.rank) (sym is), ap (λ (s : Slot). number_of s.member) (sym is))) (λ none. absurd none) has

pub slot_at : (rank : ℕ) (numbers : List ℕ) (slot : Slot) → Has (slots_from rank numbers) slot → IsAt rank numbers slot
slot_at rank [] slot has = absurd has
slot_at rank (number ∷ numbers) slot has =
    ⊎_elim
    (λ (here : Has (slots_at rank number) slot). let is = at_first rank number slot here in record { index = 0; within = omega arith; position = is.0 ∙ (let same : rank ≡ rank + 0 = omega arith in same); number = is.1 })
    (λ (later : Has (slots_from (suc rank) numbers) slot). let found = slot_at (suc rank) numbers slot later in record { index = suc found.index; within = omega (arith, found.within); position = omega (arith, found.position); number = found.number })
    (has_either (slots_at rank number) (slots_from (suc rank) numbers) slot has)

-- the unit of a file that is referred to
abbrev pub main_member : ℕ → Member
main_member zero = entity
main_member (suc before) = package_after before

main_first : (rank number : ℕ) → Has (slots_at rank number) (record { rank = rank; member = main_member number })
main_first rank zero = inl refl
main_first rank (suc before) = inl refl

pub main_slot : (rank : ℕ) (numbers : List ℕ) (index position : ℕ) → index < length numbers → position ≡ rank + index → Has (slots_from rank numbers) (record { rank = position; member = main_member (slice_index numbers index) })
main_slot rank [] index position within is = absurd (omega (arith, within))
main_slot rank (number ∷ numbers) zero position within is =
    let same : rank ≡ position = omega (arith, is) in
    has_first_part (slots_at rank number) (slots_from (suc rank) numbers) (record { rank = position; member = main_member number })
    (subst (λ (p : ℕ). Has (slots_at rank number) (record { rank = p; member = main_member number })) same (main_first rank number))
main_slot rank (number ∷ numbers) (suc index) position within is =
    has_second_part (slots_at rank number) (slots_from (suc rank) numbers) (record { rank = position; member = main_member (slice_index numbers index) })
    (main_slot (suc rank) numbers index position (omega (arith, within)) (omega (arith, is)))
