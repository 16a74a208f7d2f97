-- What the files of numbers depend on.
use Rattle.std.proofs.Common.{◌≡◌, zero, suc, ℕ, ◌/◌, ◌^◌, ◌<◌, ◌⊎◌, ⊎_elim, inl, inr, true, false, not, ◌&&◌, ◌||◌, List, [], ◌∷◌, length, map, refl, sym, ap, subst, ◌∙◌, arith}
use Rattle.std.specs.Prelude.{◌==◌, filter, slice_index}
use Rattle.std.specs.List.{list_any}
use Rattle.std.proofs.lemmas.Bool.{cases_Bool, eq-eqb, eqb-true}
use Rattle.order.proofs.Finds.{below_bounded}
use Rattle.std.proofs.lemmas.Bool.Decides.{nat_tests}
use Rattle.std.proofs.lemmas.List.{length-map}
use Rattle.base.specs.declared.project.Project.{Project}
use Rattle.base.specs.declared.refs.Ref.{Ref}
use Rattle.base.specs.PresentGraph.{below}
use Rattle.vhdl_spec.proofs.SomeTests.{and_both, and_cases, or_cases, or_first}
use Rattle.vhdl_spec.specs.Dependencies.{LinkUnit, depends_on, edges_of, names_unit, refers_to}
use Rattle.generated_sources.proofs.Digits.{same_number}
use Rattle.generated_sources.specs.BenchScans.{bench_entity_name}
use Rattle.generated_sources.specs.PackageScans.{is_alone, package_name}
use Rattle.generated_sources.specs.NumberedFiles.{AreNumbers, numbered_edges, numbered_file, numbered_project, uses_at, uses_number}
use Rattle.generated_sources.proofs.Members.{Has, any_had, contains_had, had_any, has_mapped, map_had, one_rank, same_filter, same_map, same_tests}
use Rattle.generated_sources.proofs.Naming.{bytes_same, has_ref, names_is, primary_by, ref_is, ref_of, refers, target}
use Rattle.generated_sources.proofs.NoFaults.{first_name, half_used, half_some, main_named}
use Rattle.generated_sources.proofs.Slots.{Member, entity, architecture, package_after, IsAt, Slot, main_member, main_slot, number_of, slot_at, slots_from, unit_by, unit_of, units_in}

-- ## Numbers

pub no_self : (number : ℕ) → uses_number number number ≡ false
no_self zero = refl
no_self (suc before) = grind (arith, nat_tests)

rank_is : (command : List (List ℕ)) (rank : ℕ) (member : Member) → (unit_by command rank member).position ≡ rank
rank_is command rank entity = refl
rank_is command rank architecture = refl
rank_is command rank (package_after before) = refl

-- a name that a unit refers to means the file that its number uses, or the unit's own file
used_or_own : (member named : Member) → has_ref member ≡ true → number_of member < 2 ^ 64 → number_of named < 2 ^ 64 → primary_by (target member) named ≡ true → (uses_number (number_of member) (number_of named) ≡ true) ⊎ (number_of member ≡ number_of named)
unfolding bench_entity_name
used_or_own entity entity uses small few is = inr refl
used_or_own entity architecture uses small few is = inr refl
used_or_own entity (package_after before) uses small few is =
    let one : suc before ≡ 1 = same_number (suc before) 1 few (omega arith) (bytes_same (package_name (suc before)) (112 ∷ 49 ∷ []) is ∙ sym first_name) in
    inl (ap (λ (n : ℕ). n == 1) one)
used_or_own architecture entity uses small few is = inr refl
used_or_own architecture architecture uses small few is = inr refl
used_or_own architecture (package_after before) uses small few is = let no_way : ⊥ = cc in absurd no_way
used_or_own (package_after after) entity uses small few is = let no_way : ⊥ = cc in absurd no_way
used_or_own (package_after after) architecture uses small few is = let no_way : ⊥ = cc in absurd no_way
used_or_own (package_after after) (package_after before) uses small few is =
    let half : suc before ≡ suc after / 2 = same_number (suc before) (suc after / 2) few (omega (arith, small)) (bytes_same (package_name (suc before)) (package_name (suc after / 2)) is) in
    inl (subst (λ (n : ℕ). uses_number (suc after) n ≡ true) (sym half) (half_used after uses))

-- a file that is used has the name that its user refers to
main_uses : (user : ℕ) (used : ℕ) → uses_number user used ≡ true → (has_ref (main_member user) ≡ true) × (primary_by (target (main_member user)) (main_member used) ≡ true)
main_uses zero used uses =
    let one : 1 ≡ used = grind (arith, nat_tests) in
    (refl, subst (λ (n : ℕ). primary_by (112 ∷ 49 ∷ []) (main_member n) ≡ true) one (subst (λ (name : List ℕ). primary_by name (main_member 1) ≡ true) first_name (main_named 1 (omega arith))))
main_uses (suc before) used uses =
    let half : suc before / 2 ≡ used = grind (arith, nat_tests) in
    let other : not (is_alone (suc before)) ≡ true = grind (arith, nat_tests) in
    (other, subst (λ (n : ℕ). primary_by (package_name (suc before / 2)) (main_member n) ≡ true) half (main_named (suc before / 2) (half_some before other)))

-- ## Tests

module _ (command simulator external : List (List ℕ)) (numbers : List ℕ) (are : AreNumbers numbers) where
  abbrev project : Project
  project = numbered_project command simulator external numbers

  abbrev units : List LinkUnit
  units = units_in command numbers

  -- the number of a unit's file is that at its position
  number_at : (slot : Slot) (rank : ℕ) → Has (slots_from 0 numbers) slot → ((unit_of command slot).position == rank) ≡ true → (rank < length numbers) × (number_of slot.member ≡ slice_index numbers rank)
  number_at slot rank has is =
      let at : IsAt 0 numbers slot = slot_at 0 numbers slot has in
      let same : at.index ≡ rank = let first : (unit_of command slot).position ≡ rank = eqb-true (unit_of command slot).position rank is in let second : (unit_of command slot).position ≡ slot.rank = rank_is command slot.rank slot.member in omega (arith, first, second, at.position) in
      (subst (λ (n : ℕ). n < length numbers) same at.within, subst (λ (n : ℕ). number_of slot.member ≡ slice_index numbers n) same at.number)

  small_at : (rank : ℕ) → rank < length numbers → slice_index numbers rank < 2 ^ 64
  small_at rank within = are.small rank 0 within

  -- a unit of the one file names a unit of the other
  abbrev Names : ℕ → ℕ → Slot → Slot → Type 0
  Names user used slot other = (Has (slots_from 0 numbers) slot × Has (slots_from 0 numbers) other) × ((((unit_of command slot).position == user) ≡ true) × (((unit_of command other).position == used) ≡ true)) × ((has_ref slot.member ≡ true) × (primary_by (target slot.member) other.member ≡ true))

  named : (user used : ℕ) → refers_to project units user used ≡ true → (slot : Slot) × (other : Slot) × Names user used slot other
  named user used refers =
      let found = had_any (λ (unit : LinkUnit). unit.position == user && list_any (λ (ref : Ref). list_any (λ (it : LinkUnit). it.position == used && names_unit project units unit ref it) units) unit.refs) units refers in
      let slot = map_had (unit_of command) (slots_from 0 numbers) found.0 found.1 in
      of_slot slot.0 slot.1 (subst (λ (unit : LinkUnit). (unit.position == user && list_any (λ (ref : Ref). list_any (λ (it : LinkUnit). it.position == used && names_unit project units unit ref it) units) unit.refs) ≡ true) (sym slot.2) found.2) where
        of_slot : (slot : Slot) → Has (slots_from 0 numbers) slot → ((unit_of command slot).position == user && list_any (λ (ref : Ref). list_any (λ (it : LinkUnit). it.position == used && names_unit project units (unit_of command slot) ref it) units) (unit_of command slot).refs) ≡ true → (slot : Slot) × (other : Slot) × Names user used slot other
        of_slot slot has passes =
            let both = and_cases ((unit_of command slot).position == user) (list_any (λ (ref : Ref). list_any (λ (it : LinkUnit). it.position == used && names_unit project units (unit_of command slot) ref it) units) (unit_of command slot).refs) passes in
            let ref = had_any (λ (ref : Ref). list_any (λ (it : LinkUnit). it.position == used && names_unit project units (unit_of command slot) ref it) units) (unit_of command slot).refs both.1 in
            let is = ref_is command slot.rank slot.member ref.0 ref.1 in
            let it = had_any (λ (it : LinkUnit). it.position == used && names_unit project units (unit_of command slot) ref.0 it) units ref.2 in
            let other = map_had (unit_of command) (slots_from 0 numbers) it.0 it.1 in
            let parts = and_cases (it.0.position == used) (names_unit project units (unit_of command slot) ref.0 it.0) it.2 in
            let names : names_unit project units (unit_of command slot) (ref_of slot.member) (unit_of command other.0) ≡ true =
            ap (λ (r : Ref). names_unit project units (unit_of command slot) r (unit_of command other.0)) is.1 ∙ ap (λ (u : LinkUnit). names_unit project units (unit_of command slot) ref.0 u) other.2 ∙ parts.1 in (
              slot,
              other.0,
              (
                (has, other.1),
                (both.0, ap (λ (u : LinkUnit). u.position == used) other.2 ∙ parts.0),
                (is.0, sym (names_is command simulator external numbers units slot.rank other.0.rank slot.member other.0.member is.0 (has_mapped (unit_of command) (slots_from 0 numbers) slot has)) ∙ names),
              ),
            )

  used_if : (user used : ℕ) → depends_on project units user used ≡ true → uses_at numbers user used ≡ true
  used_if user used depends =
      let parts = and_cases (not (user == used)) (refers_to project units user used || false) depends in
      let refers : refers_to project units user used ≡ true = ⊎_elim (λ h. h) (λ no_way. let nothing : ⊥ = cc in absurd nothing) (or_cases (refers_to project units user used) false parts.1) in
      let found = named user used refers in
      let has = found.2.0 in
      let positions = found.2.1 in
      let first = number_at found.0 user has.0 positions.0 in
      let second = number_at found.1 used has.1 positions.1 in
      let small : number_of found.0.member < 2 ^ 64 = subst (λ (n : ℕ). n < 2 ^ 64) (sym first.1) (small_at user first.0) in
      let few : number_of found.1.member < 2 ^ 64 = subst (λ (n : ℕ). n < 2 ^ 64) (sym second.1) (small_at used second.0) in
      ⊎_elim
      (λ (uses : uses_number (number_of found.0.member) (number_of found.1.member) ≡ true). sym (λ i. uses_number (first.1 i) (second.1 i)) ∙ uses)
      (λ (own : number_of found.0.member ≡ number_of found.1.member). absurd (apart user used first.0 second.0 (sym first.1 ∙ own ∙ second.1) parts.0))
      (used_or_own found.0.member found.1.member found.2.2.0 small few found.2.2.1) where
        apart : (user used : ℕ) → user < length numbers → used < length numbers → slice_index numbers user ≡ slice_index numbers used → not (user == used) ≡ true → ⊥
        apart user used first second same other =
            let is : user ≡ used = one_rank numbers are.distinct user used 0 first second same in
            let test : (user == used) ≡ true = eq-eqb user used is in
            let no_way : not (user == used) ≡ false = ap not test in
            cc

  not_same : (user used : ℕ) → uses_at numbers user used ≡ true → not (user == used) ≡ true
  not_same user used uses =
      elim (cases_Bool (user == used)) [
        | inl t ↦
            let is : user ≡ used = eqb-true user used t in
            let own : uses_number (slice_index numbers used) (slice_index numbers used) ≡ true = ap (λ (n : ℕ). uses_number (slice_index numbers n) (slice_index numbers used)) (sym is) ∙ uses in
            let never : uses_number (slice_index numbers used) (slice_index numbers used) ≡ false = no_self (slice_index numbers used) in
            let no_way : ⊥ = cc in
            absurd no_way
        | inr f ↦ ap not f
      ]

  refers_if : (user used : ℕ) (member named : Member) → has_ref member ≡ true → primary_by (target member) named ≡ true → Has (slots_from 0 numbers) (record { rank = user; member = member }) → Has (slots_from 0 numbers) (record { rank = used; member = named }) → refers_to project units user used ≡ true
  refers_if user used member named uses is slot other =
      let unit : Has units (unit_by command user member) = has_mapped (unit_of command) (slots_from 0 numbers) (record { rank = user; member = member }) slot in
      let it : Has units (unit_by command used named) = has_mapped (unit_of command) (slots_from 0 numbers) (record { rank = used; member = named }) other in
      any_had (λ (unit : LinkUnit). unit.position == user && list_any (λ (ref : Ref). list_any (λ (it : LinkUnit). it.position == used && names_unit project units unit ref it) units) unit.refs) units (unit_by command user member) unit
      (and_both ((unit_by command user member).position == user) _ (eq-eqb (unit_by command user member).position user (rank_is command user member))
      (any_had (λ (ref : Ref). list_any (λ (it : LinkUnit). it.position == used && names_unit project units (unit_by command user member) ref it) units) (unit_by command user member).refs (ref_of member) (refers command user member uses)
      (any_had (λ (it : LinkUnit). it.position == used && names_unit project units (unit_by command user member) (ref_of member) it) units (unit_by command used named) it
      (and_both ((unit_by command used named).position == used) _ (eq-eqb (unit_by command used named).position used (rank_is command used named))
      (names_is command simulator external numbers units user used member named uses unit ∙ is)))))

  depends_if : (user used : ℕ) → user < length numbers → used < length numbers → uses_at numbers user used ≡ true → depends_on project units user used ≡ true
  depends_if user used within there uses =
      let parts = main_uses (slice_index numbers user) (slice_index numbers used) uses in
      and_both (not (user == used)) (refers_to project units user used || false) (not_same user used uses)
      (or_first (refers_to project units user used) false
      (refers_if user used (main_member (slice_index numbers user)) (main_member (slice_index numbers used)) parts.0 parts.1
      (main_slot 0 numbers user user within (omega arith)) (main_slot 0 numbers used used there (omega arith))))

  -- ## All edges

  in_below : (n k : ℕ) → Has (below n) k → k < n
  in_below n k has = below_bounded n k (contains_had (below n) k has)

  edges_from : (n : ℕ) → n ≡ length numbers → map (λ user. filter (depends_on project units user) (below n)) (below n) ≡ map (λ user. filter (uses_at numbers user) (below n)) (below n)
  edges_from n is =
      same_map (λ user. filter (depends_on project units user) (below n)) (λ user. filter (uses_at numbers user) (below n)) (below n)
      (λ user has. same_filter (depends_on project units user) (uses_at numbers user) (below n)
      (λ used there. same_tests (depends_on project units user used) (uses_at numbers user used) (used_if user used)
      (depends_if user used (let inside : user < n = in_below n user has in omega (arith, inside, is)) (let inside : used < n = in_below n used there in omega (arith, inside, is)))))

  pub edges_are : edges_of project units ≡ numbered_edges numbers
  edges_are =
      let count : length (map (numbered_file command) numbers) ≡ length numbers = length-map numbers (numbered_file command) in
      edges_from (length (map (numbered_file command) numbers)) count
      ∙ ap (λ (n : ℕ). map (λ user. filter (uses_at numbers user) (below n)) (below n)) count
