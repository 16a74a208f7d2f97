-- The files that an edit touches. A clean build makes the same of all other files before and after the edit. If the artefact of the
-- edited file changes, the request for a file changes exactly if the edit touches it.
use Rattle.std.proofs.Common.{◌≡◌, ℕ, zero, suc, ◌<◌, ◌==◌, Bool, true, false, List, [], ◌∷◌, length, get_or, Option, Some, None, sym, ap, subst, ◌∙◌, arith, inl, inr, is_some}
use Rattle.std.specs.Prelude.{All, Contains, slice_get}
use Rattle.std.specs.List.{list_all, list_any, filter_map, cons_option}
use Rattle.std.proofs.lemmas.Bool.{eqb-true, eqb-false, ne_eqb, and_parts, or_parts, or_cases, or_from, false≢true}
use Rattle.std.proofs.lemmas.List.Elements.{All-contains}
use Rattle.std.proofs.lemmas.Option.{slice_get_cases, slice_get_past, slice_get_within, get_or_from_slice_get}
use Rattle.base.specs.declared.graph.Entry.{Entry}
use Rattle.base.specs.declared.child.Request.{Request}
use Rattle.base.specs.declared.child.Exit.{Exit}
use Rattle.base.specs.Graphs.{IsGraph, IsEntryAt}
use Rattle.outside.specs.Records.{deps_at}
use Rattle.run_spec.specs.CleanBuild.{Result, built_of, built_below, clean_build}
use Rattle.run_spec.proofs.FoldLaws.{by_all_below}
use Rattle.run_laws.proofs.SparedRuns.{unheld}
use Rattle.run_laws.proofs.CleanRanks.{clean_at, length-clean, same_next, filter_map-same}
use Rattle.generated_laws.specs.Edits.{IsEdit, is_touched}
use Rattle.generated_laws.proofs.MadeFiles.{entry_deps}

-- if a test finds no `x` in a list, no index of the list has it
other_at : (x : ℕ) (xs : List ℕ) → list_any (λ y. y == x) xs ≡ false → (k : ℕ) (d : ℕ) → k < length xs → get_or xs k d ≡ x → ⊥
other_at x [] none k d lt is = absurd (omega arith)
other_at x (y ∷ xs) none zero d lt is = eqb-false y x (or_parts (y == x) (list_any (λ z. z == x) xs) none).0 is
other_at x (y ∷ xs) none (suc k) d lt is = other_at x xs (or_parts (y == x) (list_any (λ z. z == x) xs) none).1 k d (omega arith) is

-- where two ways pick something of each item, and the same of all, they pick the same of each
both_picked : {X : Type 0} (o p : Option X) (xs ys : List X) → is_some o ≡ true → is_some p ≡ true → cons_option o xs ≡ cons_option p ys → (o ≡ p) × (xs ≡ ys)
both_picked None p xs ys some other same = absurd (false≢true some)
both_picked (Some x) None xs ys some other same = absurd (false≢true other)
both_picked (Some x) (Some y) xs ys some other same = (cc, cc)

pub same_picked : {X : Type 0} (f g : ℕ → Option X) (xs : List ℕ) → list_all (λ x. is_some (f x)) xs ≡ true → list_all (λ x. is_some (g x)) xs ≡ true → filter_map f xs ≡ filter_map g xs →
    (x : ℕ) → list_any (λ y. y == x) xs ≡ true → f x ≡ g x
same_picked f g [] all every same x has = absurd (false≢true has)
same_picked {X} f g (y ∷ xs) all every same x has =
    let here = and_parts (is_some (f y)) (list_all (λ z. is_some (f z)) xs) all in
    let there = and_parts (is_some (g y)) (list_all (λ z. is_some (g z)) xs) every in
    let both : (f y ≡ g y) × (filter_map f xs ≡ filter_map g xs) = both_picked (f y) (g y) (filter_map f xs) (filter_map g xs) here.0 there.0 same in
    elim (or_cases (y == x) (list_any (λ z. z == x) xs) has) [
      | inl is ↦ subst (λ (z : ℕ). f z ≡ g z) (eqb-true y x is) both.0
      | inr later ↦ same_picked f g xs here.1 there.1 both.1 x later
    ]

module _ (edited : ℕ) (before after : List Entry) (valid : IsGraph before) (edit : IsEdit edited before after) where
  abbrev touches : ℕ → Bool
  touches position = is_touched before edited position

  untouched_parts : (at : ℕ) → touches at ≡ false → ((at ≡ edited) → ⊥) × (list_any (λ dep. dep == edited) (deps_at before at) ≡ false)
  untouched_parts at untouched =
      let parts = or_parts (at == edited) (list_any (λ dep. dep == edited) (deps_at before at)) untouched in
      (eqb-false at edited parts.0, parts.1)

  -- an untouched file depends on no touched file
  module _ (at : ℕ) (entry : Entry) (found : slice_get before at ≡ Some entry) (untouched : touches at ≡ false) where
    none_below : list_any (λ dep. dep == edited) entry.deps ≡ false
    none_below = ap (list_any (λ dep. dep == edited)) (sym (entry_deps before at entry found)) ∙ (untouched_parts at untouched).1

    form : IsEntryAt before at entry
    form = subst (IsEntryAt before at) (get_or_from_slice_get before at entry entry found) (valid.each at entry (slice_get_within before at entry found))

    not_held : Contains entry.deps edited → ⊥
    not_held holds = other_at edited entry.deps none_below holds.0 edited holds.1 holds.2

    dep_untouched : All (λ dep. touches dep ≡ false) entry.deps
    dep_untouched j d lt =
        or_from (get_or entry.deps j d == edited) (list_any (λ dep. dep == edited) (deps_at before (get_or entry.deps j d)))
        (ne_eqb (get_or entry.deps j d) edited (other_at edited entry.deps none_below j d lt))
        (unheld (deps_at before (get_or entry.deps j d)) edited (below_not (get_or entry.deps j d) (form.before j d lt) (form.closed j d lt)))
      where
        below_not : (dep : ℕ) → dep < at → ((other : Entry) → All (Contains entry.deps) (get_or before dep other).deps) → Contains (deps_at before dep) edited → ⊥
        below_not dep low closed holds = elim (slice_get_cases before dep).1 [
          | inl here ↦
              let same : (get_or before dep entry).deps ≡ deps_at before dep = ap (λ (e : Entry). e.deps) (get_or_from_slice_get before dep here.0 entry here.2) ∙ sym (entry_deps before dep here.0 here.2) in
              not_held (All-contains (Contains entry.deps) (deps_at before dep) edited (subst (All (Contains entry.deps)) same (closed entry)) holds)
          | inr past ↦ absurd (omega (arith, past.0, low, slice_get_within before at entry found))
        ]

  module _ (answer : Request → Exit) where
    abbrev old : List Result
    old = clean_build answer before

    abbrev new : List Result
    new = clean_build answer after

    -- what a clean build makes of a file that isn't touched is the same
    pub same_result : (at : ℕ) → touches at ≡ false → slice_get old at ≡ slice_get new at
    same_result =
        by_all_below (λ at. touches at ≡ false → slice_get old at ≡ slice_get new at)
        (λ at lower untouched. elim (slice_get_cases before at).1 [
          | inl here ↦ same_here at here.0 here.2 untouched lower
          | inr past ↦ slice_get_past old at (omega (arith, past.0, length-clean answer before)) ∙ sym (slice_get_past new at (omega (arith, past.0, length-clean answer after, edit.count)))
        ])
      where
        same_here : (at : ℕ) (entry : Entry) → slice_get before at ≡ Some entry → touches at ≡ false → ((dep : ℕ) → dep < at → touches dep ≡ false → slice_get old dep ≡ slice_get new dep) → slice_get old at ≡ slice_get new at
        same_here at entry found untouched lower =
            let low : All (λ dep. dep < at) entry.deps = (form at entry found untouched).before in
            clean_at answer before at entry found low
            ∙ ap (λ (r : Result). Some r) (same_next answer old new entry (λ k lt. lower (get_or entry.deps k 0) (low k 0 lt) (dep_untouched at entry found untouched k 0 lt)))
            ∙ sym (clean_at answer after at entry (edit.others at (untouched_parts at untouched).0 ∙ found) low)

    -- and so is what is made below it
    pub same_below : (at : ℕ) (entry : Entry) → slice_get before at ≡ Some entry → touches at ≡ false → built_below old entry ≡ built_below new entry
    same_below at entry found untouched =
        filter_map-same (λ dep. built_of (slice_get old dep)) (λ dep. built_of (slice_get new dep)) entry.deps 0
        (λ k lt. ap built_of (same_result (get_or entry.deps k 0) (dep_untouched at entry found untouched k 0 lt)))
