-- A build commits at most one record of each name.
use Rattle.std.proofs.Common.{◌≡◌, ℕ, ◌≤◌, Bool, true, false, eqb, cond, List, [], ◌∷◌, ◌++◌, Some, refl, sym, ap, subst, ◌∙◌, append_assoc, arith, inl, inr}
use Rattle.std.specs.Prelude.{◌⊎◌, slice_get}
use Rattle.std.specs.List.{list_any}
use Rattle.std.proofs.lemmas.Bool.{cases_Bool, cond-true, cond-false, eqb-true, eqb-false, or_from}
use Rattle.std.proofs.lemmas.List.Concat.{flat_map-cons}
use Rattle.std.proofs.lemmas.List.Folds.{list_any-append}
use Rattle.base.specs.declared.file.FileName.{FileName}
use Rattle.base.specs.declared.graph.Entry.{Entry}
use Rattle.base.specs.Graphs.{IsGraph}
use Rattle.outside.specs.Records.{Record}
use Rattle.outside.specs.Records.{is_of}
use Rattle.run_spec.specs.ChildJournal.{End}
use Rattle.run_spec.specs.Commits.{record_at, commit_of, commits_of}
use Rattle.run_spec.proofs.RecordNames.{is_of_own, is_of_other}
use Rattle.run_laws.proofs.EndsOnce.{count_ends}

-- one record of a name, and none of it before or after
pub record HasOne (name : FileName) (more : List Record) : Type 0 where
  pub before : List Record
  pub only : Record
  pub after : List Record
  pub parts : more ≡ before ++ only ∷ after
  pub of : is_of name only ≡ true
  pub none_before : list_any (is_of name) before ≡ false
  pub none_after : list_any (is_of name) after ≡ false

module _ (graph : List Entry) (is : IsGraph graph) (k : ℕ) (entry : Entry) (at : slice_get graph k ≡ Some entry) where
  abbrev has : List Record → Bool
  has records = list_any (is_of entry.name) records

  -- what is committed of one child of another file
  other_commit : (end : End) → eqb end.position k ≡ false → has (commit_of graph end) ≡ false
  other_commit end other =
      elim (cases_Bool (eqb end.exit.code 0)) [
        | inl made ↦
            ap has (cond-true (eqb end.exit.code 0) (record_at graph end.position end.below end.exit.output ∷ []) [] made)
            ∙ or_from (is_of entry.name (record_at graph end.position end.below end.exit.output)) false (is_of_other graph end.position k end.below end.exit.output entry is at (eqb-false end.position k other)) refl
        | inr refused ↦ ap has (cond-false (eqb end.exit.code 0) (record_at graph end.position end.below end.exit.output ∷ []) [] refused)
      ]

  first_of : (end : End) (ends : List End) → commits_of graph (end ∷ ends) ≡ commit_of graph end ++ commits_of graph ends
  first_of end ends = flat_map-cons (commit_of graph) end ends

  -- of a file without an end nothing is committed
  pub none_committed : (ends : List End) → count_ends k ends ≡ 0 → has (commits_of graph ends) ≡ false
  none_committed [] none = refl
  none_committed (end ∷ ends) none =
      elim (cases_Bool (eqb end.position k)) [
        | inl same ↦ let one : cond {A = ℕ} (eqb end.position k) 1 0 ≡ 1 = ap (λ (b : Bool). cond {A = ℕ} b 1 0) same in absurd (omega (arith, none, one))
        | inr other ↦
            let zero_here : cond {A = ℕ} (eqb end.position k) 1 0 ≡ 0 = ap (λ (b : Bool). cond {A = ℕ} b 1 0) other in
            ap has (first_of end ends)
            ∙ list_any-append (is_of entry.name) (commit_of graph end) (commits_of graph ends)
            ∙ or_from (has (commit_of graph end)) (has (commits_of graph ends)) (other_commit end other) (none_committed ends (omega (arith, none, zero_here)))
      ]

  own_commit : (end : End) (ends : List End) → end.position ≡ k → count_ends k ends ≡ 0 → (has (commits_of graph (end ∷ ends)) ≡ false) ⊎ HasOne entry.name (commits_of graph (end ∷ ends))
  own_commit end ends same none =
      elim (cases_Bool (eqb end.exit.code 0)) [
        | inl made ↦ inr (record {
          before = [];
          only = record_at graph end.position end.below end.exit.output;
          after = commits_of graph ends;
          parts = first_of end ends ∙ ap (λ (l : List Record). l ++ commits_of graph ends) (cond-true (eqb end.exit.code 0) (record_at graph end.position end.below end.exit.output ∷ []) [] made);
          of = subst (λ (p : ℕ). is_of entry.name (record_at graph p end.below end.exit.output) ≡ true) (sym same) (is_of_own graph k entry at end.below end.exit.output);
          none_before = refl;
          none_after = none_committed ends none;
        })
        | inr refused ↦ inl (ap has (first_of end ends ∙ ap (λ (l : List Record). l ++ commits_of graph ends) (cond-false (eqb end.exit.code 0) (record_at graph end.position end.below end.exit.output ∷ []) [] refused)) ∙ none_committed ends none)
      ]

  later_commit : (end : End) (ends : List End) → eqb end.position k ≡ false → (has (commits_of graph ends) ≡ false) ⊎ HasOne entry.name (commits_of graph ends)
      → (has (commits_of graph (end ∷ ends)) ≡ false) ⊎ HasOne entry.name (commits_of graph (end ∷ ends))
  later_commit end ends other (inl none) =
      inl (ap has (first_of end ends)
      ∙ list_any-append (is_of entry.name) (commit_of graph end) (commits_of graph ends)
      ∙ or_from (has (commit_of graph end)) (has (commits_of graph ends)) (other_commit end other) none)
  later_commit end ends other (inr one) = inr (record {
    before = commit_of graph end ++ one.before;
    only = one.only;
    after = one.after;
    parts = first_of end ends ∙ ap (λ (l : List Record). commit_of graph end ++ l) one.parts ∙ sym (append_assoc (commit_of graph end) one.before (one.only ∷ one.after));
    of = one.of;
    none_before =
        list_any-append (is_of entry.name) (commit_of graph end) one.before
        ∙ or_from (has (commit_of graph end)) (has one.before) (other_commit end other) one.none_before;
    none_after = one.none_after;
  })

  -- of a file with at most one end at most one record is committed
  pub one_committed : (ends : List End) → count_ends k ends ≤ 1 → (has (commits_of graph ends) ≡ false) ⊎ HasOne entry.name (commits_of graph ends)
  one_committed [] once = inl refl
  one_committed (end ∷ ends) once =
      elim (cases_Bool (eqb end.position k)) [
        | inl same ↦
            let one : cond {A = ℕ} (eqb end.position k) 1 0 ≡ 1 = ap (λ (b : Bool). cond {A = ℕ} b 1 0) same in
            own_commit end ends (eqb-true end.position k same) (omega (arith, once, one))
        | inr other ↦
            let zero_here : cond {A = ℕ} (eqb end.position k) 1 0 ≡ 0 = ap (λ (b : Bool). cond {A = ℕ} b 1 0) other in
            later_commit end ends other (one_committed ends (omega (arith, once, zero_here)))
      ]
