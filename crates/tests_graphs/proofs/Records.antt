-- The files and the artefact that are read are spelled so, and what is spelled so is read.
use Rattle.std.proofs.Common.{◌≡◌, ℕ, ◌^◌, ◌<◌, cond, eqb, List, [], ◌++◌, length, Some, None, refl, sym, ap, subst, ◌∙◌, append_assoc, arith}
use Rattle.std.specs.List.{flat_map, AllByRecursion}
use Rattle.std.specs.Int.{w32}
use Rattle.std.proofs.lemmas.List.{append-nil}
use Rattle.std.proofs.lemmas.Option.{same_Some}
use Rattle.base.specs.declared.graph.Entry.{Entry}
use Rattle.base.specs.Bytes.{number_bytes, text_bytes}
use Rattle.base.specs.Jobs.{name_bytes}
use Rattle.base_bytes.specs.Reading.{◌>>=◌, AreBytes, Takes, number_at, text_at, counted_at}
use Rattle.base_bytes.specs.Names.{name_at}
use Rattle.base_bytes.proofs.Fields.{bind_some, guard_ended, Takes-then, ends_there, u32_takes, u32_again, text_takes, text_again}
use Rattle.base_bytes.proofs.Many.{by_recursion, by_index, counted_take, counted_again}
use Rattle.base_bytes.proofs.NameFields.{name_takes, name_again}
use Rattle.tests_graphs.specs.Spelling.{words_bytes, positions_bytes, entry_bytes, record_bytes, HasSpelling, IsRecord}
use Rattle.tests_graphs.specs.Reading.{entry_at, record_read_at}
use Rattle.tests_graphs.proofs.Spelled.{has_spelling}

abbrev TextFits : List ℕ → Type 0
TextFits text = length text < 2 ^ 32

abbrev NumberFits : ℕ → Type 0
NumberFits n = n < 2 ^ 32

entry_takes : (bytes : List ℕ) (entry : Entry) (left : List ℕ) → AreBytes bytes → entry_at bytes ≡ Some (entry, left) → Takes bytes (entry_bytes entry) left × HasSpelling entry
unfolding entry_at entry_bytes words_bytes positions_bytes
entry_takes bytes entry left fits e =
    let a = bind_some (name_at bytes) (λ name. counted_at text_at name.1 >>= λ command. text_at command.1 >>= λ text. counted_at (number_at w32) text.1 >>= λ deps. Some (record { name = name.0; command = command.0; text = text.0; deps = deps.0 }, deps.1)) (entry, left) e in
    let b = bind_some (counted_at text_at a.0.1) (λ command. text_at command.1 >>= λ text. counted_at (number_at w32) text.1 >>= λ deps. Some (record { name = a.0.0; command = command.0; text = text.0; deps = deps.0 }, deps.1)) (entry, left) a.2 in
    let c = bind_some (text_at b.0.1) (λ text. counted_at (number_at w32) text.1 >>= λ deps. Some (record { name = a.0.0; command = b.0.0; text = text.0; deps = deps.0 }, deps.1)) (entry, left) b.2 in
    let d = bind_some (counted_at (number_at w32) c.0.1) (λ deps. Some (record { name = a.0.0; command = b.0.0; text = c.0.0; deps = deps.0 }, deps.1)) (entry, left) c.2 in
    let t0 = name_takes bytes a.0.0 a.0.1 fits a.1 in
    let t1 = counted_take text_at text_bytes TextFits text_takes a.0.1 b.0.0 b.0.1 t0.0.left_are_bytes b.1 in
    let t2 = text_takes b.0.1 c.0.0 c.0.1 t1.0.left_are_bytes c.1 in
    let t3 = counted_take (number_at w32) number_bytes NumberFits u32_takes c.0.1 d.0.0 d.0.1 t2.0.left_are_bytes d.1 in
    let e23 = Takes-then b.0.1 (text_bytes c.0.0) c.0.1 (positions_bytes d.0.0) d.0.1 t2.0 t3.0 in
    let e13 = Takes-then a.0.1 (words_bytes b.0.0) b.0.1 (text_bytes c.0.0 ++ positions_bytes d.0.0) d.0.1 t1.0 e23 in
    let e03 = Takes-then bytes (name_bytes a.0.0) a.0.1 (words_bytes b.0.0 ++ (text_bytes c.0.0 ++ positions_bytes d.0.0)) d.0.1 t0.0 e13 in
    let made : Entry × List ℕ = (record { name = a.0.0; command = b.0.0; text = c.0.0; deps = d.0.0 }, d.0.1) in
    subst (λ (y : Entry × List ℕ). Takes bytes (entry_bytes y.0) y.1 × HasSpelling y.0) (same_Some made (entry, left) d.2)
    (e03, record { library = t0.1.library; path = t0.1.path; count = t1.1; words = by_index TextFits b.0.0 t1.2; text = t2.1; few = t3.1; deps = by_index NumberFits d.0.0 t3.2 })

entry_again : (entry : Entry) (left : List ℕ) → HasSpelling entry → entry_at (entry_bytes entry ++ left) ≡ Some (entry, left)
unfolding entry_at entry_bytes words_bytes positions_bytes
entry_again entry left fits =
    let n : List ℕ = name_bytes entry.name in
    let w : List ℕ = words_bytes entry.command in
    let t : List ℕ = text_bytes entry.text in
    let p : List ℕ = positions_bytes entry.deps in
    let regrouped : entry_bytes entry ++ left ≡ n ++ (w ++ (t ++ (p ++ left))) =
    append_assoc n (w ++ (t ++ p)) left ∙ ap (λ (x : List ℕ). n ++ x) (append_assoc w (t ++ p) left ∙ ap (λ (x : List ℕ). w ++ x) (append_assoc t p left)) in
    ap entry_at regrouped
    ∙ rw (
      name_again entry.name (w ++ (t ++ (p ++ left))) (record { library = fits.library; path = fits.path }),
      counted_again text_at text_bytes TextFits text_again entry.command (t ++ (p ++ left)) fits.count (by_recursion TextFits entry.command fits.words),
      text_again entry.text (p ++ left) fits.text,
      counted_again (number_at w32) number_bytes NumberFits u32_again entry.deps left fits.few (by_recursion NumberFits entry.deps fits.deps),
    ) refl

pub record_takes : (bytes : List ℕ) (view : List Entry) (artefact : List ℕ) → AreBytes bytes → record_read_at bytes ≡ Some (view, artefact) → bytes ≡ record_bytes view artefact
unfolding record_read_at record_bytes
record_takes bytes view artefact fits e =
    let a = bind_some (counted_at entry_at bytes) (λ view. text_at view.1 >>= λ artefact. cond (eqb (length artefact.1) 0) (Some (view.0, artefact.0)) None) (view, artefact) e in
    let b = bind_some (text_at a.0.1) (λ artefact. cond (eqb (length artefact.1) 0) (Some (a.0.0, artefact.0)) None) (view, artefact) a.2 in
    let g = guard_ended (eqb (length b.0.1) 0) (a.0.0, b.0.0) (view, artefact) b.2 in
    let t0 = counted_take entry_at entry_bytes HasSpelling entry_takes bytes a.0.0 a.0.1 fits a.1 in
    let t1 = text_takes a.0.1 b.0.0 b.0.1 t0.0.left_are_bytes b.1 in
    let both = Takes-then bytes (number_bytes (length a.0.0) ++ flat_map entry_bytes a.0.0) a.0.1 (text_bytes b.0.0) b.0.1 t0.0 t1.0 in
    let whole : bytes ≡ number_bytes (length a.0.0) ++ (flat_map entry_bytes a.0.0 ++ text_bytes b.0.0) =
    ends_there bytes ((number_bytes (length a.0.0) ++ flat_map entry_bytes a.0.0) ++ text_bytes b.0.0) b.0.1 both g.0 ∙ append_assoc (number_bytes (length a.0.0)) (flat_map entry_bytes a.0.0) (text_bytes b.0.0) in
    subst (λ (r : List Entry × List ℕ). bytes ≡ record_bytes r.0 r.1) g.1 whole

pub record_again : (view : List Entry) (artefact : List ℕ) → IsRecord view artefact → record_read_at (record_bytes view artefact) ≡ Some (view, artefact)
unfolding record_read_at record_bytes
record_again view artefact is =
    let spelled : AllByRecursion HasSpelling view = by_recursion HasSpelling view (λ k d l. has_spelling view k d is.graph l) in
    let last : text_at (text_bytes artefact) ≡ Some (artefact, []) = ap text_at (sym (append-nil (text_bytes artefact))) ∙ text_again artefact [] (omega (arith, is.small)) in
    ap record_read_at (sym (append_assoc (number_bytes (length view)) (flat_map entry_bytes view) (text_bytes artefact)))
    ∙ rw (counted_again entry_at entry_bytes HasSpelling entry_again view (text_bytes artefact) (omega (arith, is.graph.few)) spelled, last) refl

-- bytes of a record are read as that record
pub is_read : (bytes : List ℕ) (view : List Entry) (artefact : List ℕ) → IsRecord view artefact → bytes ≡ record_bytes view artefact → record_read_at bytes ≡ Some (view, artefact)
is_read bytes view artefact is e = ap record_read_at e ∙ record_again view artefact is

pub not_read : (bytes : List ℕ) (view : List Entry) (artefact : List ℕ) → record_read_at bytes ≡ None → IsRecord view artefact → bytes ≡ record_bytes view artefact → ⊥
not_read bytes view artefact none is e = let both = sym none ∙ is_read bytes view artefact is e in cc

pub is_that : (bytes : List ℕ) (entries : List Entry) (other_artefact : List ℕ) (view : List Entry) (artefact : List ℕ) → record_read_at bytes ≡ Some (entries, other_artefact) → IsRecord view artefact → bytes ≡ record_bytes view artefact → (entries ≡ view) × (other_artefact ≡ artefact)
is_that bytes entries other_artefact view artefact read is e =
    let p = same_Some (entries, other_artefact) (view, artefact) (sym read ∙ is_read bytes view artefact is e) in
    (ap (λ (r : List Entry × List ℕ). r.0) p, ap (λ (r : List Entry × List ℕ). r.1) p)
