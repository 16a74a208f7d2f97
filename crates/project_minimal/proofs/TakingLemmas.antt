-- Files that are taken one after the other.
use Rattle.std.proofs.Common.{◌≡◌, ◌≢◌, ℕ, zero, suc, ◌+◌, ◌<◌, ◌==◌, ◌≤◌, Bool, true, false, not, nat_lt, ◌&&◌, ◌||◌, List, [], ◌∷◌, ◌++◌, length, get_or, inl, inr, eqb, refl, sym, ◌∙◌, ap, subst, arith, append_assoc}
use Rattle.std.specs.List.{All, IsDistinct, list_any}
use Rattle.std.proofs.lemmas.Bool.{cases_eq, cases_lt, eq-eqb, eqb-true, le-ltb, lt-ltb, ne_eqb}
use Rattle.std.proofs.lemmas.Cmp.{nat_eq_equiv}
use Rattle.std.proofs.lemmas.List.{append-nil}
use Rattle.std.proofs.lemmas.List.Elements.{All-push}
use Rattle.std.proofs.lemmas.List.Folds.{list_any-append}
use Rattle.std.proofs.lemmas.Map.Keys.{IsDistinct-push}
use Rattle.vhdl_spec.proofs.SomeTests.{or_group, or_none}
use Rattle.project_minimal.specs.Taking.{AreTaken, GoesOn, Grows, Takes, is_taken}
use Rattle.project_minimal.specs.declared.taken.Taken.{Taken}
use Rattle.project_minimal.proofs.Tests.{or_within}

pub grows_none : (count : ℕ) (t : Taken) → AreTaken count t → Grows count t t
grows_none count t are = record { are = are; goes_on = record { more = []; is = sym (append-nil t.list.items) } }

pub goes_on_both : (a b c : List ℕ) → GoesOn a b → GoesOn b c → GoesOn a c
goes_on_both a b c one two = record { more = one.more ++ two.more; is = two.is ∙ ap (λ (xs : List ℕ). xs ++ two.more) one.is ∙ append_assoc a one.more two.more }

pub grows_on : (count : ℕ) (a b c : Taken) → Grows count a b → Grows count b c → Grows count a c
grows_on count a b c one two = record { are = two.are; goes_on = goes_on_both a.list.items b.list.items c.list.items one.goes_on two.goes_on }

pub takes_on : (p q r : ℕ → Bool) (a b c : Taken) → Takes p a b → Takes q b c → ((at : ℕ) → r at ≡ (p at || q at)) → Takes r a c
takes_on p q r a b c one two is at = two at ∙ ap (λ (x : Bool). x || q at) (one at) ∙ or_group (is_taken a at) (p at) (q at) ∙ ap (λ (x : Bool). is_taken a at || x) (sym (is at))

pub takes_within : (p : ℕ → Bool) (t : Taken) → ((at : ℕ) → p at ≡ true → is_taken t at ≡ true) → Takes p t t
takes_within p t within at = or_within (is_taken t at) (p at) (within at)

pub takes_none : (p : ℕ → Bool) (t : Taken) → ((at : ℕ) → p at ≡ false) → Takes p t t
takes_none p t none at = sym (or_none (is_taken t at)) ∙ ap (λ (x : Bool). is_taken t at || x) (sym (none at))

pub takes_same : (p q : ℕ → Bool) (a b : Taken) → Takes p a b → ((at : ℕ) → q at ≡ p at) → Takes q a b
takes_same p q a b one same at = one at ∙ ap (λ (x : Bool). is_taken a at || x) (sym (same at))

-- a file that was taken is taken once more
pub taken_already : (file : ℕ) (t : Taken) → is_taken t file ≡ true → Takes (λ at. file == at) t t
taken_already file t there = takes_within (λ at. file == at) t (λ at same. subst (λ (k : ℕ). is_taken t k ≡ true) (eqb-true file at same) there)

-- one more was taken
module _ (count file : ℕ) (old new : Taken) (are : AreTaken count old) (within : file < count) (lacks : is_taken old file ≡ false)
    (list : new.list.items ≡ old.list.items ++ file ∷ []) (here : is_taken new file ≡ true) (others : (other : ℕ) → other ≢ file → is_taken new other ≡ is_taken old other) (low : new.low ≡ old.low) where
  pub takes_file : Takes (λ at. file == at) old new
  takes_file at =
      elim (cases_eq file at) [
        | inl same ↦
            let passes : (file == at) ≡ true = eq-eqb file at same in
            subst (λ (k : ℕ). is_taken new k ≡ true) same here ∙ sym (ap (λ (b : Bool). is_taken old at || b) passes ∙ all_true (is_taken old at))
        | inr differ ↦
            let fails : (file == at) ≡ false = ne_eqb file at differ in
            others at (λ e. differ (sym e)) ∙ sym (ap (λ (b : Bool). is_taken old at || b) fails ∙ or_none (is_taken old at))
      ] where
        all_true : (a : Bool) → (a || true) ≡ true
        all_true true = refl
        all_true false = refl

  in_list : (at : ℕ) → is_taken new at ≡ list_any (λ other. at == other) new.list.items
  in_list at =
      takes_file at ∙ ap (λ (b : Bool). b || (file == at)) (are.each at)
      ∙ ap (λ (b : Bool). list_any (λ other. at == other) old.list.items || b) (turned file at)
      ∙ sym (ap (list_any (λ other. at == other)) list ∙ list_any-append (λ other. at == other) old.list.items (file ∷ [])) where
        turned : (a b : ℕ) → (a == b) ≡ ((b == a) || false)
        turned a b = nat_eq_equiv.symm a b ∙ sym (or_none (b == a))

  pub grows_file : Grows count old new
  grows_file = record {
    are = record {
      each = in_list;
      distinct = subst (IsDistinct eqb) (sym list) (IsDistinct-push nat_eq_equiv old.list.items file are.distinct (sym (are.each file) ∙ lacks));
      within = subst (All (λ at. at < count)) (sym list) (All-push (λ at. at < count) old.list.items file are.within within);
      low = λ at below. takes_file at ∙ ap (λ (b : Bool). b || (file == at)) (are.low at (subst (λ (n : ℕ). at < n) low below));
    };
    goes_on = record { more = file ∷ []; is = list };
  }

or_later : (a b : Bool) → b ≡ true → (a || b) ≡ true
or_later true b is = refl
or_later false b is = is

in_list_at : (xs : List ℕ) (i x : ℕ) → i < length xs → get_or xs i 0 ≡ x → list_any (λ other. x == other) xs ≡ true
in_list_at [] i x low is = absurd (omega arith)
in_list_at (y ∷ xs) zero x low is = ap (λ (b : Bool). b || list_any (λ other. x == other) xs) (eq-eqb x y (sym is))
in_list_at (y ∷ xs) (suc i) x low is = or_later (x == y) (list_any (λ other. x == other) xs) (in_list_at xs i x (omega arith) is)

-- a file that is in the list was taken
pub listed_taken : (count : ℕ) (t : Taken) (i : ℕ) → AreTaken count t → i < length t.list.items → is_taken t (get_or t.list.items i 0) ≡ true
listed_taken count t i are within = are.each (get_or t.list.items i 0) ∙ in_list_at t.list.items i (get_or t.list.items i 0) within refl

pub none_are : (count : ℕ) (t : Taken) → ((at : ℕ) → is_taken t at ≡ false) → t.list.items ≡ [] → t.low ≡ 0 → AreTaken count t
unfolding IsDistinct
none_are count t none list low = record {
  each = λ at. none at ∙ sym (ap (list_any (λ other. at == other)) list);
  distinct = subst (IsDistinct eqb) (sym list) tt;
  within = subst (All (λ at. at < count)) (sym list) (λ k d within. absurd (omega (arith, within)));
  low = λ at below. absurd (omega (arith, below, low));
}

-- a walk from a position on
pub from_more : (low file at : ℕ) → low ≤ file → (not (nat_lt at low) && nat_lt at (file + 1)) ≡ ((not (nat_lt at low) && nat_lt at file) || (file == at))
from_more low file at after = elim (cases_eq file at) [
  | inl same ↦
      let here : nat_lt at (file + 1) ≡ true = lt-ltb at (file + 1) (omega (arith, same)) in
      let high : nat_lt at low ≡ false = le-ltb at low (omega (arith, same, after)) in
      let is : (file == at) ≡ true = eq-eqb file at same in
      ap (λ (b : Bool). not b && nat_lt at (file + 1)) high ∙ here ∙ sym (ap (λ (b : Bool). (not (nat_lt at low) && nat_lt at file) || b) is ∙ or_true (not (nat_lt at low) && nat_lt at file))
  | inr differ ↦
      let is : (file == at) ≡ false = ne_eqb file at differ in
      ap (λ (b : Bool). not (nat_lt at low) && b) (lt_same at file differ) ∙ sym (ap (λ (b : Bool). (not (nat_lt at low) && nat_lt at file) || b) is ∙ or_none (not (nat_lt at low) && nat_lt at file))
] where
  or_true : (a : Bool) → (a || true) ≡ true
  or_true true = refl
  or_true false = refl

  lt_same : (a b : ℕ) → (b ≡ a → ⊥) → nat_lt a (b + 1) ≡ nat_lt a b
  lt_same a b differ = elim (cases_lt a b) [
    | inl low ↦ lt-ltb a (b + 1) (omega (arith, low)) ∙ sym (lt-ltb a b low)
    | inr high ↦ le-ltb a (b + 1) (omega (arith, high, differ)) ∙ sym (le-ltb a b high)
  ]

pub from_none : (low at : ℕ) → (not (nat_lt at low) && nat_lt at low) ≡ false
from_none low at = by (nat_lt at low) where
  by : (b : Bool) → (not b && b) ≡ false
  by true = refl
  by false = refl

-- what was taken before a position and from there on
pub from_all : (low end : ℕ) (old new : Taken) (count : ℕ) → AreTaken count old → low ≡ old.low → low ≤ end → Takes (λ at. not (nat_lt at low) && nat_lt at end) old new → Takes (λ at. nat_lt at end) old new
from_all low end old new count are is ordered takes at = takes at ∙ elim (cases_lt at low) [
  | inl below ↦
      let there : is_taken old at ≡ true = are.low at (omega (arith, below, is)) in
      ap (λ (b : Bool). b || (not (nat_lt at low) && nat_lt at end)) there ∙ sym (ap (λ (b : Bool). b || nat_lt at end) there)
  | inr above ↦ ap (λ (b : Bool). is_taken old at || (not b && nat_lt at end)) (le-ltb at low above)
]

-- all before a position are there, where they were taken
pub all_before : (end : ℕ) (old new : Taken) → Takes (λ at. nat_lt at end) old new → (at : ℕ) → at < end → is_taken new at ≡ true
all_before end old new takes at below = takes at ∙ ap (λ (b : Bool). is_taken old at || b) (lt-ltb at end below) ∙ or_true (is_taken old at) where
  or_true : (a : Bool) → (a || true) ≡ true
  or_true true = refl
  or_true false = refl

-- a file below an end is one below it
pub within_same : (file at count : ℕ) → file < count → (file == at && nat_lt at count) ≡ (file == at)
within_same file at count low = elim (cases_eq file at) [
  | inl same ↦
      let is : (file == at) ≡ true = eq-eqb file at same in
      ap (λ (b : Bool). b && nat_lt at count) is ∙ lt-ltb at count (omega (arith, same, low)) ∙ sym is
  | inr differ ↦
      let is : (file == at) ≡ false = ne_eqb file at differ in
      ap (λ (b : Bool). b && nat_lt at count) is ∙ sym is
]

-- one past it isn't
pub beyond : (file at count : ℕ) → count ≤ file → (file == at && nat_lt at count) ≡ false
beyond file at count past = elim (cases_eq file at) [
  | inl same ↦
      let is : (file == at) ≡ true = eq-eqb file at same in
      ap (λ (b : Bool). b && nat_lt at count) is ∙ le-ltb at count (omega (arith, same, past))
  | inr differ ↦ ap (λ (b : Bool). b && nat_lt at count) (ne_eqb file at differ)
]

pub or_and : (a b c : Bool) → ((a || b) && c) ≡ ((a && c) || (b && c))
or_and true true true = refl
or_and true true false = refl
or_and true false true = refl
or_and true false false = refl
or_and false b c = refl
