-- The record of some bytes as a function of them is what reading finds, and the bytes of a record have that record.
use Rattle.std.proofs.Common.{◌≡◌, ℕ, Bool, true, false, cond, ◌&&◌, List, length, Some, None, refl}
use Rattle.std.specs.Prelude.{nat_le}
use Rattle.std.specs.Bool.{Decides}
use Rattle.std.proofs.lemmas.Bool.{leb-true, le-leb, false_from_ne_true}
use Rattle.std.proofs.lemmas.Bool.Decides.{Decides-like, Decides-and}
use Rattle.base.specs.declared.graph.Entry.{Entry}
use Rattle.tests_graphs.specs.Reading.{record_read_at}
use Rattle.tests_graphs.specs.Spelling.{IsRecord}
use Rattle.tests_graphs.specs.Reading.{record_in}
use Rattle.store_form_2.specs.Views.{is_view}
use Rattle.store_form_2.proofs.Deciding.{is_view-Decides}
use Rattle.base.specs.declared.limits.TheConstants.{ARTEFACT_LIMIT}

abbrev passes : List Entry → List ℕ → Bool
passes view artefact = is_view view && nat_le (length artefact) ARTEFACT_LIMIT

passes-Decides : (view : List Entry) (artefact : List ℕ) → Decides (passes view artefact) (IsRecord view artefact)
passes-Decides view artefact =
    Decides-like (passes view artefact) (λ h. record { graph = h.0.0; whole = h.0.1; small = h.1 }) (λ is. ((is.graph, is.whole), is.small))
    (Decides-and (is_view view) (nat_le (length artefact) ARTEFACT_LIMIT) (is_view-Decides view) (leb-true (length artefact) ARTEFACT_LIMIT, le-leb (length artefact) ARTEFACT_LIMIT))

-- what is found, by the answer of the tests
by_tests : (bytes : List ℕ) (view : List Entry) (artefact : List ℕ) (answer : Bool) → record_read_at bytes ≡ Some (view, artefact) → passes view artefact ≡ answer → record_in bytes ≡ cond answer (Some (view, artefact)) None
unfolding record_in
by_tests bytes view artefact answer read e = rw (read, e) refl

pub is_found : (bytes : List ℕ) (view : List Entry) (artefact : List ℕ) → record_read_at bytes ≡ Some (view, artefact) → IsRecord view artefact → record_in bytes ≡ Some (view, artefact)
is_found bytes view artefact read is = by_tests bytes view artefact true read ((passes-Decides view artefact).1 is)

pub not_found : (bytes : List ℕ) (view : List Entry) (artefact : List ℕ) → record_read_at bytes ≡ Some (view, artefact) → (IsRecord view artefact → ⊥) → record_in bytes ≡ None
not_found bytes view artefact read other = by_tests bytes view artefact false read (false_from_ne_true (passes view artefact) (λ t. other ((passes-Decides view artefact).0 t)))

pub none_found : (bytes : List ℕ) → record_read_at bytes ≡ None → record_in bytes ≡ None
unfolding record_in
none_found bytes none = rw none refl
