-- The first child with a ticket.
use Rattle.std.proofs.Common.{◌≡◌, ◌≢◌, ℕ, zero, suc, ◌<◌, ◌==◌, List, [], ◌∷◌, length, map, get_or, Some, refl, ap, ◌∙◌, arith}
use Rattle.std.specs.List.{remove}
use Rattle.std.specs.Prelude.{Contains}
use Rattle.std.proofs.lemmas.Bool.{eq-eqb, ne_eqb, cond-true, cond-false}
use Rattle.std.proofs.lemmas.List.{length-map, get_or-map}
use Rattle.outside.specs.Children.{without}
use Rattle.run_spec.specs.Moves.{position_of, without_child}
use Rattle.run_spec.specs.declared.child.Child.{Child}
use Rattle.run_spec.specs.Steps.{running_child}

abbrev pub IsFirst : List Child → ℕ → Child → ℕ → Type 0
IsFirst children ticket other i = (i < length children) × ((get_or children i other).ticket ≡ ticket) × ((k : ℕ) → k < i → (get_or children k other).ticket ≢ ticket)

later : (child : Child) (children : List Child) (ticket : ℕ) (other : Child) (i : ℕ) → IsFirst (child ∷ children) ticket other (suc i) → IsFirst children ticket other i
later child children ticket other i first = (omega (arith, first.0), first.1, λ k lt. first.2 (suc k) (omega arith))

pub first_position : (children : List Child) (ticket : ℕ) (other : Child) (i : ℕ) → IsFirst children ticket other i → position_of ticket (map running_child children) ≡ Some (get_or children i other).position
first_position [] ticket other i first = absurd (omega (arith, first.0))
first_position (child ∷ children) ticket other zero first = cond-true (child.ticket == ticket) (Some child.position) (position_of ticket (map running_child children)) (eq-eqb child.ticket ticket first.1)
first_position (child ∷ children) ticket other (suc i) first =
    cond-false (child.ticket == ticket) (Some child.position) (position_of ticket (map running_child children)) (ne_eqb child.ticket ticket (first.2 zero (omega arith)))
    ∙ first_position children ticket other i (later child children ticket other i first)

pub first_without : (children : List Child) (ticket : ℕ) (other : Child) (i : ℕ) → IsFirst children ticket other i
    → without_child ticket (map running_child children) ≡ map running_child (remove children i)
first_without [] ticket other i first = absurd (omega (arith, first.0))
first_without (child ∷ children) ticket other zero first =
    cond-true (child.ticket == ticket) (map running_child children) (running_child child ∷ without_child ticket (map running_child children)) (eq-eqb child.ticket ticket first.1)
first_without (child ∷ children) ticket other (suc i) first =
    cond-false (child.ticket == ticket) (map running_child children) (running_child child ∷ without_child ticket (map running_child children)) (ne_eqb child.ticket ticket (first.2 zero (omega arith)))
    ∙ ap (λ rest. running_child child ∷ rest) (first_without children ticket other i (later child children ticket other i first))

pub first_ticket : (children : List Child) (ticket : ℕ) (other : Child) (i : ℕ) → IsFirst children ticket other i
    → without ticket (map (λ child. child.ticket) children) ≡ map (λ child. child.ticket) (remove children i)
first_ticket [] ticket other i first = absurd (omega (arith, first.0))
first_ticket (child ∷ children) ticket other zero first =
    cond-true (child.ticket == ticket) (map (λ (c : Child). c.ticket) children) (child.ticket ∷ without ticket (map (λ (c : Child). c.ticket) children)) (eq-eqb child.ticket ticket first.1)
first_ticket (child ∷ children) ticket other (suc i) first =
    cond-false (child.ticket == ticket) (map (λ (c : Child). c.ticket) children) (child.ticket ∷ without ticket (map (λ (c : Child). c.ticket) children)) (ne_eqb child.ticket ticket (first.2 zero (omega arith)))
    ∙ ap (λ rest. child.ticket ∷ rest) (first_ticket children ticket other i (later child children ticket other i first))

-- a ticket among the tickets is that of some child
pub one_has : (children : List Child) (ticket : ℕ) → ((k : ℕ) (other : Child) → k < length children → (get_or children k other).ticket ≢ ticket) → (j : ℕ) → j < length (map (λ child. child.ticket) children)
    → get_or (map (λ child. child.ticket) children) j ticket ≢ ticket
one_has [] ticket none j lt is = absurd (omega arith)
one_has (child ∷ children) ticket none zero lt is = none zero child (omega arith) is
one_has (child ∷ children) ticket none (suc j) lt is = one_has children ticket (λ k other low. none (suc k) other (omega arith)) j (omega arith) is

-- the ticket of a child is among the tickets
pub has_one : (children : List Child) (ticket : ℕ) (at : ℕ) (other : Child) → at < length children → (get_or children at other).ticket ≡ ticket → Contains (map (λ child. child.ticket) children) ticket
has_one children ticket at other lt is =
    (at, omega (arith, length-map children (λ (child : Child). child.ticket)), get_or-map (λ (child : Child). child.ticket) children at other ticket lt ∙ is)

pub no_children : (children : List Child) → length children ≡ 0 → map (λ child. child.ticket) children ≡ []
no_children [] none = refl
no_children (child ∷ children) none = absurd (omega arith)
