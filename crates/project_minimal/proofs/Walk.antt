-- A walk along the files that were taken, which takes what each needs.
use Rattle.std.proofs.Common.{◌≡◌, ℕ, ◌+◌, ◌<◌, ◌≤◌, ◌==◌, Bool, true, List, length, get_or, inl, inr, sym, ◌∙◌, ap, subst, arith}
use Rattle.std.specs.Prelude.{Contains}
use Rattle.std.specs.List.{list_any}
use Rattle.std.proofs.lemmas.Bool.{cases_lt, eqb-true}
use Rattle.std.proofs.lemmas.List.{get_or_append_left, get_or_default}
use Rattle.std.proofs.lemmas.List.Folds.{list_any-append}
use Rattle.std.proofs.lemmas.Map.Steps.{length-le_from_distinct_below}
use Rattle.vhdl_spec.proofs.SomeTests.{or_cases, or_first, or_second, some_of}
use Rattle.project_minimal.specs.MinimalSet.{NeedSources, needs}
use Rattle.project_minimal.specs.Needing.{HasAllNeeds, HasGrown}
use Rattle.project_minimal.specs.Taking.{AreTaken, Grows, Takes, is_taken}
use Rattle.project_minimal.specs.declared.taken.Taken.{Taken}
use Rattle.project_minimal.proofs.TakingLemmas.{listed_taken}

-- where a file that was taken is in the list
listed_at : (count : ℕ) (t : Taken) (at : ℕ) → AreTaken count t → is_taken t at ≡ true → Contains t.list.items at
listed_at count t at are there =
    let found = some_of (λ other. at == other) t.list.items (sym (are.each at) ∙ there) in
    subst (Contains t.list.items) (sym (eqb-true at found.0 found.2)) found.1

pub taken_within : (count : ℕ) (t : Taken) (at : ℕ) → AreTaken count t → is_taken t at ≡ true → at < count
taken_within count t at are there = let found = listed_at count t at are there in omega (arith, are.within found.0 at found.1, found.2)

pub list_few : (count : ℕ) (t : Taken) → AreTaken count t → length t.list.items ≤ count
list_few count t are = length-le_from_distinct_below t.list.items count are.distinct (λ q there. taken_within count t q are (are.each q ∙ there))

-- what was taken stays
pub stays : (count : ℕ) (a b : Taken) (at : ℕ) → AreTaken count a → Grows count a b → is_taken a at ≡ true → is_taken b at ≡ true
stays count a b at are grows there =
    grows.are.each at ∙ ap (list_any (λ other. at == other)) grows.goes_on.is ∙ list_any-append (λ other. at == other) a.list.items grows.goes_on.more
    ∙ or_first (list_any (λ other. at == other) a.list.items) (list_any (λ other. at == other) grows.goes_on.more) (sym (are.each at) ∙ there)

-- so far in the walk
pub record IsWalk (count : ℕ) (said : NeedSources) (old now : Taken) (next : ℕ) : Type 0 where
  pub all : (i used : ℕ) → i < next → needs said (get_or now.list.items i 0) used ≡ true → is_taken now used ≡ true
  pub least : (set : ℕ → Bool) → ((at : ℕ) → is_taken old at ≡ true → set at ≡ true) → HasAllNeeds said set → (at : ℕ) → is_taken now at ≡ true → set at ≡ true

pub begins : (count : ℕ) (said : NeedSources) (old : Taken) → IsWalk count said old old 0
begins count said old = record { all = λ i used below is. absurd (omega (arith, below)); least = λ set within closed at is. within at is }

-- one file more
pub goes_on : (count : ℕ) (said : NeedSources) (old now new : Taken) (next file : ℕ) → length said.files ≡ count → AreTaken count now → Grows count now new → next < length now.list.items → file ≡ get_or now.list.items next 0 → Takes (needs said file) now new → IsWalk count said old now next → IsWalk count said old new (next + 1)
goes_on count said old now new next file size are grows low is takes walk =
    let same : (i : ℕ) → i < length now.list.items → get_or new.list.items i 0 ≡ get_or now.list.items i 0 = λ i within. ap (λ (xs : List ℕ). get_or xs i 0) grows.goes_on.is ∙ get_or_append_left now.list.items grows.goes_on.more 0 i within in
    record {
      all = λ i used below needed. elim (cases_lt i next) [
        | inl earlier ↦
            let within : i < length now.list.items = omega (arith, earlier, low) in
            stays count now new used are grows (walk.all i used earlier (sym (ap (λ (k : ℕ). needs said k used) (same i within)) ∙ needed))
        | inr late ↦
            let here : i ≡ next = omega (arith, late, below) in
            let of_file : needs said file used ≡ true = ap (λ (k : ℕ). needs said k used) (is ∙ sym (same next low) ∙ ap (λ (k : ℕ). get_or new.list.items k 0) (sym here)) ∙ needed in
            takes used ∙ or_second (is_taken now used) (needs said file used) of_file
      ];
      least = λ set within closed at there. elim (or_cases (is_taken now at) (needs said file at) (sym (takes at) ∙ there)) [
        | inl before ↦ walk.least set within closed at before
        | inr needed ↦
            let file_there : is_taken now file ≡ true = ap (is_taken now) is ∙ listed_taken count now next are low in
            let file_low : file < count = taken_within count now file are file_there in
            let at_low : at < count = taken_within count new at grows.are there in
            closed file at (omega (arith, file_low, size)) (omega (arith, at_low, size)) (walk.least set within closed file file_there) needed
      ];
    }

pub ends : (count : ℕ) (said : NeedSources) (old now : Taken) (next : ℕ) → AreTaken count old → Grows count old now → length now.list.items ≤ next → IsWalk count said old now next → HasGrown said old now
ends count said old now next are grows past walk = record {
  kept = λ at there. stays count old now at are grows there;
  all = λ user used low within there needed.
      let found = listed_at count now user grows.are there in
      let is : get_or now.list.items found.0 0 ≡ user = get_or_default now.list.items found.0 0 user found.1 ∙ found.2 in
      walk.all found.0 used (omega (arith, found.1, past)) (ap (λ (k : ℕ). needs said k used) is ∙ needed);
  least = walk.least;
}
