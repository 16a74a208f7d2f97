-- Which files remain after one more file was taken, and which file is taken next.
use Rattle.std.proofs.Common.{◌≡◌, ◌≢◌, ℕ, ◌+◌, ◌<◌, ◌≤◌, ◌==◌, nat_lt, Bool, true, false, not, ◌&&◌, ◌||◌, cond, replicate, Option, Some, None, List, [], ◌∷◌, ◌++◌, length, get_or, refl, sym, ap, ◌∙◌, arith, inl, inr}
use Rattle.std.specs.List.{list_all}
use Rattle.std.specs.Option.{IfSome}
use Rattle.std.proofs.lemmas.Bool.{cases_eq, cases_lt, lt-ltb, le-ltb, and_parts, false≢true, cond-true, cond-false, eq-eqb, ne_eqb}
use Rattle.std.proofs.lemmas.List.{length-replicate, get_or-replicate}
use Rattle.base.specs.PresentGraph.{below}
use Rattle.base_collections.specs.Positions.{IsNext}
use Rattle.order.specs.BuildOrder.{deps_in, has_taken, can_take, first_free, all_taken, reported_cycle, Ordered, Cyclic, file_order}
use Rattle.order.proofs.Finds.{find_first, find_none, found_passes}
use Rattle.order.proofs.Taking.{few_taken, taken_so_far}
use Rattle.order.proofs.Members.{taken_other, taken_here}
use Rattle.order.specs.Counts.{times, undone, is_ready}
use Rattle.order.specs.Waits.{AreWaitingFiles, is_listed}
use Rattle.order.specs.declared.files.ReadyFiles.{ReadyFiles}
use Rattle.order.proofs.Times.{undone_all}
use Rattle.order.specs.Untakens.{IsUntaken, IsUntakenTo}

-- nothing was taken, and what the files so far depend on is noted
pub none_so_far : (left : ReadyFiles) (edges : List (List ℕ)) (waiting : List Bool) → waiting ≡ replicate (length edges) true → AreWaitingFiles left (length waiting) (λ file. []) (λ file. get_or waiting file false) (has_taken [])
    → IsUntakenTo left edges 0
none_so_far left edges waiting all is =
    let count : length waiting ≡ length edges = ap (λ (xs : List Bool). length xs) all ∙ length-replicate (length edges) true in
    let one : (file : ℕ) → file < length edges → get_or waiting file false ≡ true = λ file lt. ap (λ (xs : List Bool). get_or xs file false) all ∙ get_or-replicate (length edges) file true false lt in
    let first : (file : ℕ) → cond {A = List ℕ} (nat_lt file 0) (deps_in edges file) [] ≡ [] = λ file. cond-false (nat_lt file 0) (deps_in edges file) [] (le-ltb file 0 (omega arith)) in
    record {
      as_many = is.as_many ∙ count;
      waiting = λ file lt. is.waiting file (omega (arith, count)) ∙ one file lt;
      missing = λ file lt waits. is.missing file (omega (arith, count)) (one file lt) ∙ ap (undone (has_taken [])) (sym (first file));
      users = λ dep file low lt waits. is.users dep file (omega (arith, count)) (omega (arith, count)) (one file lt) ∙ ap (times dep) (sym (first file));
    }

pub none_here : (deps : List ℕ) (file : ℕ) → cond {A = List ℕ} (nat_lt file file) deps [] ≡ []
none_here deps file = cond-false (nat_lt file file) deps [] (le-ltb file file (omega arith))

pub one_here : (deps : List ℕ) (file : ℕ) → cond {A = List ℕ} (nat_lt file (file + 1)) deps [] ≡ deps
one_here deps file = cond-true (nat_lt file (file + 1)) deps [] (lt-ltb file (file + 1) (omega arith))

pub others_same : (deps : List ℕ) (file k : ℕ) → k ≢ file → cond {A = List ℕ} (nat_lt k (file + 1)) deps [] ≡ cond (nat_lt k file) deps []
others_same deps file k ne = elim (cases_lt k file) [
  | inl l ↦ cond-true (nat_lt k (file + 1)) deps [] (lt-ltb k (file + 1) (omega arith)) ∙ sym (cond-true (nat_lt k file) deps [] (lt-ltb k file l))
  | inr l ↦ cond-false (nat_lt k (file + 1)) deps [] (le-ltb k (file + 1) (omega (arith, l, ne))) ∙ sym (cond-false (nat_lt k file) deps [] (le-ltb k file l))
]

-- one more file's dependencies are noted
pub one_noted : (old new : ReadyFiles) (edges : List (List ℕ)) (file : ℕ) (deps : List ℕ) → deps ≡ deps_in edges file
    → ((count : ℕ) (before after : ℕ → List ℕ) (waits done : ℕ → Bool) → AreWaitingFiles old count before waits done → before file ≡ [] → after file ≡ deps → ((k : ℕ) → k ≢ file → after k ≡ before k) → length deps ≡ undone done deps
    → AreWaitingFiles new count after waits done)
    → IsUntakenTo old edges file → IsUntakenTo new edges (file + 1)
one_noted old new edges file deps same more is =
    more (length edges) (λ k. cond (nat_lt k file) (deps_in edges k) []) (λ k. cond (nat_lt k (file + 1)) (deps_in edges k) []) (λ k. not (has_taken [] k)) (has_taken []) is
    (none_here (deps_in edges file) file) (one_here (deps_in edges file) file ∙ sym same) (λ k ne. others_same (deps_in edges k) file k ne) (sym (undone_all deps))

-- all are
pub all_noted : (left : ReadyFiles) (edges : List (List ℕ)) (end : ℕ) → length edges ≤ end → IsUntakenTo left edges end → IsUntaken left edges []
all_noted left edges end le is = record {
  as_many = is.as_many;
  waiting = is.waiting;
  missing = λ file lt waits. is.missing file lt waits ∙ ap (undone (has_taken [])) (cond-true (nat_lt file end) (deps_in edges file) [] (lt-ltb file end (omega arith)));
  users = λ dep file low lt waits. is.users dep file low lt waits ∙ ap (times dep) (cond-true (nat_lt file end) (deps_in edges file) [] (lt-ltb file end (omega arith)));
}

taken_one : (taken : List ℕ) (at k : ℕ) → has_taken (taken ++ at ∷ []) k ≡ (has_taken taken k || (at == k))
taken_one taken at k = elim (cases_eq k at) [
  | inl e ↦ taken_here taken at k e ∙ sym (or_yes (has_taken taken k) (at == k) (eq-eqb at k (sym e)))
  | inr ne ↦ taken_other taken at k ne ∙ sym (or_no (has_taken taken k) (at == k) (ne_eqb at k (λ e. ne (sym e))))
]
  where
    or_yes : (a e : Bool) → e ≡ true → (a || e) ≡ true
    or_yes true e is = refl
    or_yes false e is = is

    or_no : (a e : Bool) → e ≡ false → (a || e) ≡ a
    or_no true e fails = refl
    or_no false e fails = fails

-- a file waits no more, and then it is done: it was taken
pub untaken_after : (old mid new : ReadyFiles) (edges : List (List ℕ)) (taken : List ℕ) (at : ℕ)
    → ((count : ℕ) (deps : ℕ → List ℕ) (before after done : ℕ → Bool) → AreWaitingFiles old count deps before done → ((k : ℕ) → after k ≡ (before k && not (at == k))) → AreWaitingFiles mid count deps after done)
    → ((count : ℕ) (deps : ℕ → List ℕ) (waits before after : ℕ → Bool) → AreWaitingFiles mid count deps waits before → before at ≡ false → ((k : ℕ) → after k ≡ (before k || (at == k))) → AreWaitingFiles new count deps waits after)
    → has_taken taken at ≡ false → IsUntaken old edges taken → IsUntaken new edges (taken ++ at ∷ [])
untaken_after old mid new edges taken at takes does fresh is =
    does (length edges) (deps_in edges) (λ k. not (has_taken (taken ++ at ∷ []) k)) (has_taken taken) (has_taken (taken ++ at ∷ []))
    (takes (length edges) (deps_in edges) (λ k. not (has_taken taken k)) (λ k. not (has_taken (taken ++ at ∷ []) k)) (has_taken taken) is (λ k. ap not (taken_one taken at k) ∙ not_or (has_taken taken k) (at == k)))
    fresh (taken_one taken at)
  where
    not_or : (a e : Bool) → not (a || e) ≡ (not a && not e)
    not_or true e = refl
    not_or false e = refl

-- the first listed file is the first that can be taken
pub next_is_first : (left : ReadyFiles) (edges : List (List ℕ)) (taken : List ℕ) (o : Option ℕ) → ((file : ℕ) → file < length edges → is_listed left file ≡ is_ready (deps_in edges) (λ f. not (has_taken taken f)) (has_taken taken) file)
    → IfSome o (λ at. at < length edges) → IsNext (is_listed left) 0 o → o ≡ first_free edges taken
unfolding first_free is_ready
next_is_first left edges taken None exact within none = sym (find_none (can_take edges taken) (length edges) (λ k lt. sym (exact k lt) ∙ none k (omega arith)))
next_is_first left edges taken (Some at) exact within next =
    sym (find_first (can_take edges taken) (length edges) at (λ k lt. sym (exact k (omega (arith, within))) ∙ next.2 k (omega arith) lt) within (sym (exact at within) ∙ next.1))

-- what can be taken wasn't taken before
pub free_is_fresh : (edges : List (List ℕ)) (taken : List ℕ) (at : ℕ) → can_take edges taken at ≡ true → has_taken taken at ≡ false
free_is_fresh edges taken at free = not_taken (has_taken taken at) (and_parts (not (has_taken taken at)) (list_all (has_taken taken) (deps_in edges at)) free).0 where
  not_taken : (b : Bool) → not b ≡ true → b ≡ false
  not_taken true h = absurd (false≢true h)
  not_taken false h = refl

pub fresh_from_first : (edges : List (List ℕ)) (taken : List ℕ) (at : ℕ) → first_free edges taken ≡ Some at → has_taken taken at ≡ false
unfolding first_free
fresh_from_first edges taken at first = free_is_fresh edges taken at (found_passes (can_take edges taken) (below (length edges)) at first)

-- ## The answer

pub order_is_whole : (edges : List (List ℕ)) → length (all_taken edges) ≡ length edges → file_order edges ≡ Ordered (all_taken edges)
unfolding file_order
order_is_whole edges all = cond-true (length (all_taken edges) == length edges) (Ordered (all_taken edges)) (Cyclic (reported_cycle edges)) (eq-eqb (length (all_taken edges)) (length edges) all)

pub order_is_short : (edges : List (List ℕ)) → length (all_taken edges) ≢ length edges → file_order edges ≡ Cyclic (reported_cycle edges)
unfolding file_order
order_is_short edges some = cond-false (length (all_taken edges) == length edges) (Ordered (all_taken edges)) (Cyclic (reported_cycle edges)) (ne_eqb (length (all_taken edges)) (length edges) some)

pub some_left : (edges : List (List ℕ)) → length (all_taken edges) ≢ length edges → 0 < length edges
some_left edges some = omega (arith, few_taken edges (all_taken edges) (taken_so_far edges (length edges)))
