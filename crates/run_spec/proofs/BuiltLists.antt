-- What files have and what is built of them, where more of them have artefacts.
use Rattle.std.proofs.Common.{◌≡◌, ℕ, suc, zero, true, ◌&&◌, List, [], ◌∷◌, Option, Some, None, refl, ap, ap₂, ◌∙◌, arith, is_some, All, slice_get}
use Rattle.std.specs.List.{cons_option}
use Rattle.std.proofs.lemmas.Bool.{and_parts, and_from, false≢true}
use Rattle.base.specs.declared.graph.Entry.{Entry}
use Rattle.run_spec.specs.ChildJournal.{built_file, has_all, built_at}

-- each file keeps the artefact that it has
abbrev pub Keeps : (ℕ → Option (List ℕ)) → (ℕ → Option (List ℕ)) → Type 0
Keeps f g = (dep : ℕ) (artefact : List ℕ) → f dep ≡ Some artefact → g dep ≡ Some artefact

pub same_where : {A : Type 0} (o p : Option A) → ((x : A) → o ≡ Some x → p ≡ Some x) → is_some o ≡ true → p ≡ o
same_where None p h some = absurd (false≢true some)
same_where (Some x) p h some = h x refl

pub has_all_more : (f g : ℕ → Option (List ℕ)) → Keeps f g → (deps : List ℕ) → has_all f deps ≡ true → has_all g deps ≡ true
unfolding has_all
has_all_more f g keeps [] all = refl
has_all_more f g keeps (dep ∷ deps) all =
    let both : (is_some (f dep) ≡ true) × (has_all f deps ≡ true) = and_parts (is_some (f dep)) (has_all f deps) all in
    and_from (is_some (g dep)) (has_all g deps) (ap is_some (same_where (f dep) (g dep) (keeps dep) both.0) ∙ both.0) (has_all_more f g keeps deps both.1)

pub built_more : (graph : List Entry) (f g : ℕ → Option (List ℕ)) → Keeps f g → (deps : List ℕ) → has_all f deps ≡ true → built_at graph g deps ≡ built_at graph f deps
unfolding has_all built_at
built_more graph f g keeps [] all = refl
built_more graph f g keeps (dep ∷ deps) all =
    let both : (is_some (f dep) ≡ true) × (has_all f deps ≡ true) = and_parts (is_some (f dep)) (has_all f deps) all in
    ap₂ cons_option (ap (built_file (slice_get graph dep)) (same_where (f dep) (g dep) (keeps dep) both.0)) (built_more graph f g keeps deps both.1)

-- the same artefact at each
pub has_all_same : (f g : ℕ → Option (List ℕ)) (deps : List ℕ) → All (λ dep. f dep ≡ g dep) deps → has_all f deps ≡ has_all g deps
unfolding has_all
has_all_same f g [] same = refl
has_all_same f g (dep ∷ deps) same = ap₂ ◌&&◌ (ap is_some (same 0 0 (omega arith))) (has_all_same f g deps (λ k d l. same (suc k) d (omega arith)))

pub built_same : (graph : List Entry) (f g : ℕ → Option (List ℕ)) (deps : List ℕ) → All (λ dep. f dep ≡ g dep) deps → built_at graph f deps ≡ built_at graph g deps
unfolding built_at
built_same graph f g [] same = refl
built_same graph f g (dep ∷ deps) same = ap₂ cons_option (ap (built_file (slice_get graph dep)) (same 0 0 (omega arith))) (built_same graph f g deps (λ k d l. same (suc k) d (omega arith)))

-- each has one where all have
pub has_all_at : (f : ℕ → Option (List ℕ)) (deps : List ℕ) → has_all f deps ≡ true → All (λ dep. is_some (f dep) ≡ true) deps
unfolding has_all
has_all_at f [] all k d l = absurd (omega arith)
has_all_at f (dep ∷ deps) all zero d l = (and_parts (is_some (f dep)) (has_all f deps) all).0
has_all_at f (dep ∷ deps) all (suc k) d l = has_all_at f deps (and_parts (is_some (f dep)) (has_all f deps) all).1 k d (omega arith)
