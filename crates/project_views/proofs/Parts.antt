-- Files of a graph that depend on each other alone are a graph of their own, in which the same views are seen.
use Rattle.std.proofs.Common.{◌≡◌, ◌≢◌, ℕ, suc, ◌+◌, ◌<◌, ◌≤◌, List, [], ◌∷◌, length, map, get_or, refl, sym, ap, subst, ◌∙◌, arith}
use Rattle.std.specs.Prelude.{All, Contains, sum_by, slice_get}
use Rattle.std.specs.List.{filter_map}
use Rattle.std.proofs.lemmas.List.{length-map, get_or-map, get_or_default}
use Rattle.std.proofs.lemmas.List.Sums.{sum_by-cons}
use Rattle.std.proofs.lemmas.Option.{slice_get-get_or}
use Rattle.base.specs.declared.graph.Entry.{Entry}
use Rattle.base.specs.Graphs.{IsEntryAt, IsGraph}
use Rattle.base.specs.View.{rank_in, renumbered, part}
use Rattle.project_views.specs.Parts.{IsPart}
use Rattle.project_views.proofs.Numbering.{rank_of, rank_within, get_or-rank, rank_lower, sum_of_part}
use Rattle.project_views.proofs.Rising.{before_later, few}

pub no_entry : Entry
no_entry = record { name = record { library = []; path = [] }; command = []; text = []; deps = [] }

-- the files at the positions, where the graph has them
pub picked : (graph : List Entry) (d : Entry) (positions : List ℕ) → ((k : ℕ) → k < length positions → get_or positions k 0 < length graph) → filter_map (slice_get graph) positions ≡ map (λ p. get_or graph p d) positions
picked graph d [] within = refl
picked graph d (p ∷ ps) within =
    let found = slice_get-get_or graph p d (within 0 (omega arith)) in
    rw found (ap (λ (es : List Entry). get_or graph p d ∷ es) (picked graph d ps (λ k l. within (suc k) (omega arith))))

pub map_same : {X Y : Type 0} (f g : X → Y) (xs : List X) (d : X) → ((k : ℕ) → k < length xs → f (get_or xs k d) ≡ g (get_or xs k d)) → map f xs ≡ map g xs
map_same f g [] d h = refl
map_same {X} {Y} f g (x ∷ xs) d h = ap (λ (y : Y). y ∷ map f xs) (h 0 (omega arith)) ∙ ap (λ (ys : List Y). g x ∷ ys) (map_same f g xs d (λ k l. h (suc k) (omega arith)))

pub map_map : {X Y Z : Type 0} (f : Y → Z) (g : X → Y) (xs : List X) → map f (map g xs) ≡ map (λ x. f (g x)) xs
map_map f g [] = refl
map_map {X} {Y} {Z} f g (x ∷ xs) = ap (λ (zs : List Z). f (g x) ∷ zs) (map_map f g xs)

sum_same : {X Y : Type 0} (f : Y → ℕ) (g h : X → Y) (xs : List X) → ((x : X) → f (g x) ≡ f (h x)) → sum_by f (map g xs) ≡ sum_by f (map h xs)
sum_same f g h [] same = refl
sum_same f g h (x ∷ xs) same = rw (sum_by-cons f (g x) (map g xs), sum_by-cons f (h x) (map h xs)) (omega (arith, same x, sum_same f g h xs same))

pub part_is : (graph : List Entry) (positions : List ℕ) (d : Entry) → ((k : ℕ) → k < length positions → get_or positions k 0 < length graph) → part graph positions ≡ map (λ p. renumbered positions (get_or graph p d)) positions
unfolding part
part_is graph positions d within = ap (map (renumbered positions)) (picked graph d positions within) ∙ map_map (renumbered positions) (λ p. get_or graph p d) positions

module _ (graph : List Entry) (positions : List ℕ) (is : IsPart graph positions) where
  low : (k : ℕ) → k < length positions → get_or positions k 0 < length graph
  low k lt = is.within k 0 lt

  pub length-part : length (part graph positions) ≡ length positions
  length-part = ap length (part_is graph positions no_entry low) ∙ length-map positions (λ p. renumbered positions (get_or graph p no_entry))

  pub get_or-part : (k : ℕ) (d : Entry) → k < length positions → get_or (part graph positions) k d ≡ renumbered positions (get_or graph (get_or positions k 0) d)
  get_or-part k d lt = ap (λ (es : List Entry). get_or es k d) (part_is graph positions d low) ∙ get_or-map (λ p. renumbered positions (get_or graph p d)) positions k 0 d lt

  -- the file with the new number of a position
  pub at_rank : (p : ℕ) (d : Entry) → Contains positions p → get_or (part graph positions) (rank_in positions p) d ≡ renumbered positions (get_or graph p d)
  at_rank p d in_it = get_or-part (rank_in positions p) d (rank_within positions is.rising p in_it) ∙ ap (λ (n : ℕ). renumbered positions (get_or graph n d)) (get_or-rank positions is.rising p 0 in_it)

  in_positions : (k : ℕ) (d : Entry) → k < length positions → All (Contains positions) (get_or graph (get_or positions k 0) d).deps
  in_positions k d lt = is.closed k 0 lt d

  module _ (valid : IsGraph graph) where
    entry_at : (k : ℕ) (d : Entry) → k < length positions → IsEntryAt (part graph positions) k (renumbered positions (get_or graph (get_or positions k 0) d))
    entry_at k d lt =
        let p : ℕ = get_or positions k 0 in
        let old : IsEntryAt graph p (get_or graph p d) = valid.each p d (low k lt) in
        let deps : List ℕ = (get_or graph p d).deps in
        let count : length (map (rank_in positions) deps) ≡ length deps = length-map deps (rank_in positions) in
        record {
          rising = λ i l.
              let a : i < length deps = omega arith in
              let b : i + 1 < length deps = omega arith in
              rw (get_or-map (rank_in positions) deps i 0 0 a, get_or-map (rank_in positions) deps (i + 1) 0 0 b)
              (rank_lower positions is.rising (get_or deps i 0) (get_or deps (i + 1) 0) (in_positions k d lt i 0 a) (in_positions k d lt (i + 1) 0 b) (old.rising i b));
          before = λ i e l.
              let a : i < length deps = omega arith in
              let here : Contains positions p = (k, lt, get_or_default positions k p 0 lt) in
              let less : rank_in positions (get_or deps i 0) < rank_in positions p = rank_lower positions is.rising (get_or deps i 0) p (in_positions k d lt i 0 a) here (old.before i 0 a) in
              rw (get_or-map (rank_in positions) deps i 0 e a) (omega (arith, rank_of positions is.rising p here));
          closed = λ i e l other.
              let a : i < length deps = omega arith in
              let q : ℕ = get_or deps i 0 in
              let at : get_or (map (rank_in positions) deps) i e ≡ rank_in positions q = get_or-map (rank_in positions) deps i 0 e a in
              let inner : List ℕ = (get_or graph q other).deps in
              subst (λ (n : ℕ). All (Contains (map (rank_in positions) deps)) (get_or (part graph positions) n other).deps) (sym at)
              (subst (λ (entry : Entry). All (Contains (map (rank_in positions) deps)) entry.deps) (sym (at_rank q other (in_positions k d lt i 0 a)))
              (λ j c m.
              let b : j < length inner = omega (arith, length-map inner (rank_in positions)) in
              let holds : Contains deps (get_or inner j 0) = old.closed i 0 a other j 0 b in
              let here : get_or (map (rank_in positions) inner) j c ≡ rank_in positions (get_or inner j 0) = get_or-map (rank_in positions) inner j 0 c b in
              subst (Contains (map (rank_in positions) deps)) (sym here)
              (holds.0, omega (arith, holds.1, count), get_or-map (rank_in positions) deps holds.0 (get_or inner j 0) (rank_in positions (get_or inner j 0)) holds.1 ∙ ap (rank_in positions) holds.2)));
          name = old.name;
          command = old.command;
          text = old.text;
        }

    text_sum : sum_by (λ (e : Entry). length e.text) (part graph positions) ≤ sum_by (λ (e : Entry). length e.text) graph
    text_sum =
        let f = λ (e : Entry). length e.text in
        let same : sum_by f (part graph positions) ≡ sum_by f (map (λ p. get_or graph p no_entry) positions) =
        ap (sum_by f) (part_is graph positions no_entry low) ∙ sum_same f (λ p. renumbered positions (get_or graph p no_entry)) (λ p. get_or graph p no_entry) positions (λ p. refl) in
        omega (arith, same, sum_of_part f graph no_entry positions is.rising is.within)

    pub part_is_graph : IsGraph (part graph positions)
    part_is_graph = record {
      few = omega (arith, length-part, few positions is.rising (length graph) is.within, valid.few);
      distinct = λ i j d a b.
          let lj : j < length positions = omega (arith, length-part) in
          let li : i < length positions = omega (arith, length-part) in
          subst (λ (e : Entry). e.name ≢ (get_or (part graph positions) j d).name) (sym (get_or-part i d li))
          (subst (λ (e : Entry). (get_or graph (get_or positions i 0) d).name ≢ e.name) (sym (get_or-part j d lj))
          (valid.distinct (get_or positions i 0) (get_or positions j 0) d (before_later positions is.rising i j a lj) (low j lj)));
      each = λ i d lt. let l : i < length positions = omega (arith, length-part) in subst (IsEntryAt (part graph positions) i) (sym (get_or-part i d l)) (entry_at i d l);
      small = omega (arith, text_sum, valid.small);
    }
