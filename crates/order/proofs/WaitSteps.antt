-- What the lists of files that wait stand for, one call on.
use Rattle.std.proofs.Common.{◌≡◌, ◌≢◌, ℕ, ◌+◌, ◌-◌, ◌<◌, ◌≤◌, ◌==◌, Bool, true, false, not, ◌&&◌, ◌||◌, cond, List, [], length, get_or, Option, Some, None, refl, sym, ap, ◌∙◌, arith, inl, inr}
use Rattle.std.specs.Prelude.{count_by}
use Rattle.std.specs.Option.{IfSome}
use Rattle.std.proofs.Math.ListN.{set}
use Rattle.std.proofs.lemmas.Bool.{cases_eq, cases_lt, and_parts, false≢true, cond-true, eq-eqb, ne_eqb}
use Rattle.std.proofs.lemmas.List.Sums.{sum_by-set}
use Rattle.std.proofs.lemmas.List.{get_or-set_other, length-set, get_or_past}
use Rattle.std.proofs.lemmas.Grind.{get_or-set_at}
use Rattle.base_collections.specs.Positions.{has, IsNext}
use Rattle.order.specs.Counts.{times, undone, is_ready, AreReady}
use Rattle.order.specs.Waits.{AreWaitingFiles, file_count, is_listed, wait_count}
use Rattle.order.specs.declared.files.ReadyFiles.{ReadyFiles}
use Rattle.order.proofs.Times.{undone_more, undone_none, times_none, ready_when}

-- none depends on another
pub waits_new : (files : ReadyFiles) (waiting : List Bool) → files.waiting.items ≡ waiting → ((k : ℕ) → k < length waiting → get_or files.missing.items k 0 ≡ 0)
    → ((dep file : ℕ) → times file (get_or files.users.items dep []) ≡ 0) → (done : ℕ → Bool) → AreWaitingFiles files (length waiting) (λ file. []) (λ file. get_or waiting file false) done
unfolding file_count
waits_new files waiting w zeros none done = record {
  as_many = ap (λ (xs : List Bool). length xs) w;
  waiting = λ file lt. ap (λ xs. get_or xs file false) w;
  missing = λ file lt waits. zeros file lt ∙ sym (undone_none done);
  users = λ dep file low lt waits. none dep file ∙ sym (times_none dep);
}

used_here : (e : Bool) (new old t was next : ℕ) → new ≡ old + cond e t 0 → e ≡ true → old ≡ was → was ≡ 0 → next ≡ t → new ≡ next
used_here true new old t was next x is y z u = omega arith
used_here false new old t was next x is y z u = absurd (false≢true is)

used_other : (e : Bool) (new old t : ℕ) → new ≡ old + cond e t 0 → e ≡ false → new ≡ old
used_other true new old t x fails = absurd (false≢true (sym fails))
used_other false new old t x fails = omega arith

-- a file depends on these
pub waits_depends : (old new : ReadyFiles) (file missing : ℕ) (deps : List ℕ) → file < length old.waiting.items → length old.missing.items ≡ length old.waiting.items → new.waiting.items ≡ old.waiting.items
    → new.missing.items ≡ set old.missing.items file missing
    → ((dep k : ℕ) → times k (get_or new.users.items dep []) ≡ times k (get_or old.users.items dep []) + cond (file == k) (times dep deps) 0)
    → (count : ℕ) (before after : ℕ → List ℕ) (waits done : ℕ → Bool) → AreWaitingFiles old count before waits done → before file ≡ [] → after file ≡ deps → ((k : ℕ) → k ≢ file → after k ≡ before k)
    → missing ≡ undone done deps → AreWaitingFiles new count after waits done
unfolding file_count
waits_depends old new file missing deps lt many w m u count before after waits done is none now others counted = record {
  as_many = ap (λ (xs : List Bool). length xs) w ∙ is.as_many;
  waiting = λ k low. ap (λ xs. get_or xs k false) w ∙ is.waiting k low;
  missing = λ k low does. ap (λ xs. get_or xs k 0) m ∙ elim (cases_eq k file) [
    | inl e ↦ get_or-set_at old.missing.items file k missing 0 e (omega (arith, many)) ∙ counted ∙ ap (undone done) (sym (ap after e ∙ now))
    | inr ne ↦ get_or-set_other old.missing.items file k missing 0 ne ∙ is.missing k low does ∙ ap (undone done) (sym (others k ne))
  ];
  users = λ dep k below low does. elim (cases_eq k file) [
    | inl e ↦ used_here (file == k) _ _ (times dep deps) (times dep (before k)) (times dep (after k)) (u dep k) (eq-eqb file k (sym e)) (is.users dep k below low does)
        (ap (times dep) (ap before e ∙ none) ∙ times_none dep) (ap (times dep) (ap after e ∙ now))
    | inr ne ↦ used_other (file == k) _ _ (times dep deps) (u dep k) (ne_eqb file k (λ e. ne (sym e))) ∙ is.users dep k below low does ∙ ap (times dep) (sym (others k ne))
  ];
}

pub and_here : (a e : Bool) → e ≡ true → (a && not e) ≡ false
and_here true e is = ap not is
and_here false e is = refl

pub and_other : (a e : Bool) → e ≡ false → (a && not e) ≡ a
and_other true e fails = ap not fails
and_other false e fails = refl

-- one waits no more
pub waits_taken : (old new : ReadyFiles) (file : ℕ) → file < length old.waiting.items → new.waiting.items ≡ set old.waiting.items file false → new.missing.items ≡ old.missing.items → new.users.items ≡ old.users.items
    → (count : ℕ) (deps : ℕ → List ℕ) (before after done : ℕ → Bool) → AreWaitingFiles old count deps before done → ((k : ℕ) → after k ≡ (before k && not (file == k))) → AreWaitingFiles new count deps after done
unfolding file_count
waits_taken old new file lt w m u count deps before after done is less = record {
  as_many = ap (λ (xs : List Bool). length xs) w ∙ length-set old.waiting.items file false ∙ is.as_many;
  waiting = λ k low. ap (λ xs. get_or xs k false) w ∙ elim (cases_eq k file) [
    | inl e ↦ get_or-set_at old.waiting.items file k false false e lt ∙ sym (less k ∙ and_here (before k) (file == k) (eq-eqb file k (sym e)))
    | inr ne ↦ get_or-set_other old.waiting.items file k false false ne ∙ is.waiting k low ∙ sym (less k ∙ and_other (before k) (file == k) (ne_eqb file k (λ e. ne (sym e))))
  ];
  missing = λ k low does. ap (λ xs. get_or xs k 0) m ∙ is.missing k low (was k does);
  users = λ dep k below low does. ap (λ (xs : List (List ℕ)). times k (get_or xs dep [])) u ∙ is.users dep k below low (was k does);
}
  where
    was : (k : ℕ) → after k ≡ true → before k ≡ true
    was k does = (and_parts (before k) (not (file == k)) (sym (less k) ∙ does)).0

-- what files depend on counts only where they wait
pub waits_same : (files : ReadyFiles) (count : ℕ) (before after : ℕ → List ℕ) (waits done : ℕ → Bool) → ((k : ℕ) → k < count → waits k ≡ true → after k ≡ before k) → AreWaitingFiles files count before waits done → AreWaitingFiles files count after waits done
waits_same files count before after waits done same is = record {
  as_many = is.as_many;
  waiting = is.waiting;
  missing = λ k low does. is.missing k low does ∙ ap (undone done) (sym (same k low does));
  users = λ dep k below low does. is.users dep k below low does ∙ ap (times dep) (sym (same k low does));
}

-- and who waits, and is done, below the count alone; what is done counts of what those depend on that wait
pub waits_as : (files : ReadyFiles) (count : ℕ) (deps : ℕ → List ℕ) (waits same done : ℕ → Bool) → ((k : ℕ) → k < count → same k ≡ waits k) → AreWaitingFiles files count deps waits done → AreWaitingFiles files count deps same done
waits_as files count deps waits same done is_same is = record {
  as_many = is.as_many;
  waiting = λ k low. is.waiting k low ∙ sym (is_same k low);
  missing = λ k low does. is.missing k low (sym (is_same k low) ∙ does);
  users = λ dep k below low does. is.users dep k below low (sym (is_same k low) ∙ does);
}

-- one is done
pub waits_done : (old new : ReadyFiles) (file : ℕ) → file < length old.waiting.items → new.waiting.items ≡ old.waiting.items
    → ((k : ℕ) → get_or new.missing.items k 0 ≡ get_or old.missing.items k 0 - times k (get_or old.users.items file [])) → new.users.items ≡ old.users.items
    → (count : ℕ) (deps : ℕ → List ℕ) (waits before after : ℕ → Bool) → AreWaitingFiles old count deps waits before → before file ≡ false → ((k : ℕ) → after k ≡ (before k || (file == k)))
    → AreWaitingFiles new count deps waits after
unfolding file_count
waits_done old new file lt w m u count deps waits before after is fresh grown = record {
  as_many = ap (λ (xs : List Bool). length xs) w ∙ is.as_many;
  waiting = λ k low. ap (λ xs. get_or xs k false) w ∙ is.waiting k low;
  missing = λ k low does. omega (arith, m k, is.missing k low does, is.users file k (omega (arith, is.as_many)) low does, undone_more before after file fresh grown (deps k));
  users = λ dep k below low does. ap (λ (xs : List (List ℕ)). times k (get_or xs dep [])) u ∙ is.users dep k below low does;
}

-- a file is listed if and only if it is ready
pub listed_when : (files : ReadyFiles) → AreReady (has files.ready) files.waiting.items files.missing.items → (count : ℕ) (deps : ℕ → List ℕ) (waits done : ℕ → Bool) → AreWaitingFiles files count deps waits done
    → (file : ℕ) → file < count → is_listed files file ≡ is_ready deps waits done file
unfolding is_listed
listed_when files exact count deps waits done is file lt =
    exact file ∙ ap (λ b. b && (get_or files.missing.items file 0 == 0)) (is.waiting file lt)
    ∙ by_waits (waits file) (get_or files.missing.items file 0) (undone done (deps file)) (is.missing file lt) ∙ sym (ready_when deps waits done file)
  where
    by_waits : (w : Bool) (a b : ℕ) → (w ≡ true → a ≡ b) → (w && (a == 0)) ≡ (w && (b == 0))
    by_waits true a b same = ap (λ (n : ℕ). n == 0) (same refl)
    by_waits false a b same = refl

pub listed_is : (files : ReadyFiles) (count : ℕ) (deps : ℕ → List ℕ) (waits done : ℕ → Bool) → AreWaitingFiles files count deps waits done → (file : ℕ) → file < count → is_listed files file ≡ is_ready deps waits done file
listed_is files = listed_when files files.exact

-- and each is a file that waits
listed_waits : (files : ReadyFiles) → AreReady (has files.ready) files.waiting.items files.missing.items → (file : ℕ) → has files.ready file ≡ true → get_or files.waiting.items file false ≡ true
listed_waits files exact file ready = (and_parts (get_or files.waiting.items file false) (get_or files.missing.items file 0 == 0) (sym (exact file) ∙ ready)).0

pub listed_within : (files : ReadyFiles) → AreReady (has files.ready) files.waiting.items files.missing.items → (file : ℕ) → has files.ready file ≡ true → file < length files.waiting.items
listed_within files exact file ready = elim (cases_lt file (length files.waiting.items)) [
  | inl l ↦ l
  | inr l ↦ absurd (false≢true (sym (get_or_past files.waiting.items file false l) ∙ listed_waits files exact file ready))
]

pub listed_past : (files : ReadyFiles) → AreReady (has files.ready) files.waiting.items files.missing.items → (file : ℕ) → length files.waiting.items ≤ file → is_listed files file ≡ false
unfolding is_listed
listed_past files exact file le = exact file ∙ ap (λ b. b && (get_or files.missing.items file 0 == 0)) (get_or_past files.waiting.items file false le)

pub unlisted_past : (files : ReadyFiles) (file : ℕ) → file_count files ≤ file → is_listed files file ≡ false
unfolding file_count
unlisted_past files file le = listed_past files files.exact file le

pub next_within : (files : ReadyFiles) → AreReady (has files.ready) files.waiting.items files.missing.items → (o : Option ℕ) → IsNext (has files.ready) 0 o → IfSome o (λ file. file < length files.waiting.items)
next_within files exact None next = tt
next_within files exact (Some file) next = listed_within files exact file next.1

pub no_more_wait : (old new : ReadyFiles) (file : ℕ) → file < length old.waiting.items → new.waiting.items ≡ set old.waiting.items file false → wait_count new ≤ wait_count old
unfolding wait_count
no_more_wait old new file lt w =
    let count : count_by (λ waits. waits) new.waiting.items ≡ count_by (λ waits. waits) (set old.waiting.items file false) = ap (count_by (λ waits. waits)) w in
    omega (arith, sum_by-set (λ (waits : Bool). cond {A = ℕ} waits 1 0) old.waiting.items file false false lt)

pub fewer_wait : (old new : ReadyFiles) (file : ℕ) → file < length old.waiting.items → AreReady (has old.ready) old.waiting.items old.missing.items → new.waiting.items ≡ set old.waiting.items file false → is_listed old file ≡ true
    → wait_count new + 1 ≡ wait_count old
unfolding wait_count is_listed
fewer_wait old new file lt exact w ready =
    let count : count_by (λ waits. waits) new.waiting.items ≡ count_by (λ waits. waits) (set old.waiting.items file false) = ap (count_by (λ waits. waits)) w in
    let one : cond {A = ℕ} (get_or old.waiting.items file false) 1 0 ≡ 1 = cond-true (get_or old.waiting.items file false) 1 0 (listed_waits old exact file ready) in
    omega (arith, sum_by-set (λ (waits : Bool). cond {A = ℕ} waits 1 0) old.waiting.items file false false lt)
