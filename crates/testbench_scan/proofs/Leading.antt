-- A name has one index, and an index one name.
use Rattle.std.proofs.Common.{◌≡◌, ℕ, zero, suc, ◌+◌, inl, inr, List, [], ◌∷◌, ◌++◌, Some, get_or, refl, sym, ◌∙◌, ap, subst, append-nil, append_assoc, arith, reverse}
use Rattle.std.specs.Prelude.{◌==◌, slice_get}
use Rattle.std.specs.List.{list_any}
use Rattle.std.specs.Str.{bytes_eq}
use Rattle.std.proofs.lemmas.Bool.Decides.{Decides-eqb, same_from_decides}
use Rattle.std.proofs.lemmas.List.{reverse-reverse}
use Rattle.std.proofs.lemmas.Option.{get_or_from_slice_get, slice_get_within}
use Rattle.std.proofs.lemmas.Bool.{cases_lt}
use Rattle.std.proofs.lemmas.Slice.Eq.{bytes_eq-Decides}
use Rattle.vhdl_spec.specs.Dependencies.{is_one_of}
use Rattle.testbench_scan.specs.Paths.{AllLead, AreOnce, HasGrown, Leads, LeadsBack}
use Rattle.testbench_scan.specs.declared.steps.Step.{Step}

abbrev step_by : ℕ → ℕ → Step
step_by from byte = record { from = from; byte = byte }

-- a step keeps its number
kept : (steps more : List Step) (i : ℕ) (step : Step) → slice_get steps i ≡ Some step → slice_get (steps ++ more) i ≡ Some step
kept [] more i step there = let never : ⊥ = cc in absurd never
kept (s ∷ steps) more zero step there = there
kept (s ∷ steps) more (suc i) step there = kept steps more i step there

back_more : (steps more : List Step) (name_index : ℕ) (name : List ℕ) → LeadsBack steps name_index name → LeadsBack (steps ++ more) name_index name
back_more steps more name_index [] leads = leads
back_more steps more name_index (byte ∷ before) leads = (leads.0, leads.1, leads.2, kept steps more (leads.0) (step_by (leads.1) byte) (leads.3), back_more steps more (leads.1) before (leads.4))

pub back_grown : (old new : List Step) (name_index : ℕ) (name : List ℕ) → HasGrown old new → LeadsBack old name_index name → LeadsBack new name_index name
back_grown old new name_index name grown leads = subst (λ (steps : List Step). LeadsBack steps name_index name) (sym (grown.1)) (back_more old (grown.0) name_index name leads)

pub grown_twice : (old middle new : List Step) → HasGrown old middle → HasGrown middle new → HasGrown old new
grown_twice old middle new first second = (first.0 ++ second.0, second.1 ∙ ap (λ (steps : List Step). steps ++ second.0) (first.1) ∙ append_assoc old (first.0) (second.0))

pub not_grown : (steps : List Step) → HasGrown steps steps
not_grown steps = ([], sym (append-nil steps))

same_step : (from other byte byte' : ℕ) → Some (step_by from byte) ≡ Some (step_by other byte') → (from ≡ other) × (byte ≡ byte')
same_step from other byte byte' same =
    let steps : step_by from byte ≡ step_by other byte' = cc in
    (ap (λ (s : Step). s.from) steps, ap (λ (s : Step). s.byte) steps)

-- an index has one name
one_name : (steps : List Step) (name_index : ℕ) (name other : List ℕ) → LeadsBack steps name_index name → LeadsBack steps name_index other → name ≡ other
one_name steps name_index [] [] first second = refl
one_name steps name_index [] (byte ∷ before) first second = absurd (omega (arith, first, second.2))
one_name steps name_index (byte ∷ before) [] first second = absurd (omega (arith, second, first.2))
one_name steps name_index (byte ∷ before) (byte' ∷ before') first second =
    let number : first.0 ≡ second.0 = omega (arith, first.2, second.2) in
    let same = same_step (first.1) (second.1) byte byte' (sym (first.3) ∙ ap (slice_get steps) number ∙ second.3) in
    let rest : before ≡ before' = one_name steps (second.1) before before' (subst (λ (from : ℕ). LeadsBack steps from before) (same.0) (first.4)) (second.4) in
    ap (λ (b : ℕ). b ∷ before) (same.1) ∙ ap (λ (bs : List ℕ). byte' ∷ bs) rest

-- a step that is there once has one number
one_number : (steps : List Step) (i j : ℕ) (step : Step) → AreOnce steps → slice_get steps i ≡ Some step → slice_get steps j ≡ Some step → i ≡ j
one_number steps i j step once first second =
    let same : get_or steps i step ≡ get_or steps j step = get_or_from_slice_get steps i step step first ∙ sym (get_or_from_slice_get steps j step step second) in
    elim (cases_lt i j) [
      | inl before ↦ absurd (once i j step before (slice_get_within steps j step second) same)
      | inr after ↦ elim (cases_lt j i) [
        | inl later ↦ absurd (once j i step later (slice_get_within steps i step first) (sym same))
        | inr both ↦ omega arith
      ]
    ]

-- a name has one index
one_index : (steps : List Step) (name_index other : ℕ) (name : List ℕ) → AreOnce steps → LeadsBack steps name_index name → LeadsBack steps other name → name_index ≡ other
one_index steps name_index other [] once first second = first ∙ sym second
one_index steps name_index other (byte ∷ before) once first second =
    let from : first.1 ≡ second.1 = one_index steps (first.1) (second.1) before once (first.4) (second.4) in
    let number : first.0 ≡ second.0 = one_number steps (first.0) (second.0) (step_by (second.1) byte) once (first.3 ∙ ap (λ (f : ℕ). Some (step_by f byte)) from) (second.3) in
    first.2 ∙ ap (λ (n : ℕ). n + 1) number ∙ sym (second.2)

-- ## Many names

pub all_grown : (old new : List Step) (indices : List ℕ) (names : List (List ℕ)) → HasGrown old new → AllLead old indices names → AllLead new indices names
all_grown old new [] [] grown lead = tt
all_grown old new (name_index ∷ indices) (name ∷ names) grown lead = (back_grown old new name_index (reverse name) grown (lead.0), all_grown old new indices names grown (lead.1))
all_grown old new [] (name ∷ names) grown lead = absurd lead
all_grown old new (name_index ∷ indices) [] grown lead = absurd lead

pub all_push : (steps : List Step) (indices : List ℕ) (names : List (List ℕ)) (name_index : ℕ) (name : List ℕ) → AllLead steps indices names → Leads steps name_index name → AllLead steps (indices ++ name_index ∷ []) (names ++ name ∷ [])
all_push steps [] [] name_index name lead leads = (leads, tt)
all_push steps (p ∷ indices) (n ∷ names) name_index name lead leads = (lead.0, all_push steps indices names name_index name (lead.1) leads)
all_push steps [] (n ∷ names) name_index name lead leads = absurd lead
all_push steps (p ∷ indices) [] name_index name lead leads = absurd lead

-- a name came before where its path ends at one of the indices
pub came_before : (steps : List Step) (indices : List ℕ) (names : List (List ℕ)) (name_index : ℕ) (name : List ℕ) → AreOnce steps → AllLead steps indices names → Leads steps name_index name → list_any (λ other. name_index == other) indices ≡ is_one_of names name
came_before steps [] [] name_index name once lead leads = refl
came_before steps (p ∷ indices) (n ∷ names) name_index name once lead leads =
    let there = Decides-eqb name_index p in
    let here = bytes_eq-Decides name n in
    let same : (name_index == p) ≡ bytes_eq name n = same_from_decides (name_index == p) (bytes_eq name n) (
      λ told. sym (reverse-reverse name) ∙ ap reverse (one_name steps p (reverse name) (reverse n) (subst (λ (q : ℕ). Leads steps q name) (there.0 told) leads) (lead.0)) ∙ reverse-reverse n,
      λ is. there.1 (one_index steps name_index p (reverse name) once leads (subst (λ (m : List ℕ). Leads steps p m) (sym is) (lead.0))),
    ) here in
    rw (same, came_before steps indices names name_index name once (lead.1) leads) refl
came_before steps [] (n ∷ names) name_index name once lead leads = absurd lead
came_before steps (p ∷ indices) [] name_index name once lead leads = absurd lead
