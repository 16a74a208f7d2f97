-- The first files of a graph are a graph.
use Rattle.std.proofs.Common.{◌≡◌, ◌≢◌, ℕ, ◌+◌, ◌<◌, List, ◌++◌, length, get_or, subst, arith}
use Rattle.std.specs.Prelude.{All, Contains}
use Rattle.std.proofs.lemmas.List.{length-append, get_or_append_left}
use Rattle.std.proofs.lemmas.List.Sums.{sum_by-append}
use Rattle.base.specs.declared.graph.Entry.{Entry}
use Rattle.base.specs.Graphs.{IsEntryAt, IsGraph}

module _ (prefix back : List Entry) (graph : IsGraph (prefix ++ back)) where
  whole : length (prefix ++ back) ≡ length prefix + length back
  whole = length-append prefix back

  entry_at : (i : ℕ) (other : Entry) → i < length prefix → IsEntryAt prefix i (get_or prefix i other)
  entry_at i other lt =
      let at : IsEntryAt (prefix ++ back) i (get_or prefix i other) = subst (IsEntryAt (prefix ++ back) i) (get_or_append_left prefix back other i lt) (graph.each i other (omega (arith, whole))) in
      record {
        rising = at.rising;
        before = at.before;
        closed = λ k d l entry.
            let low : get_or (get_or prefix i other).deps k d < length prefix = omega (arith, at.before k d l) in
            subst (λ (e : Entry). All (Contains (get_or prefix i other).deps) e.deps) (get_or_append_left prefix back entry (get_or (get_or prefix i other).deps k d) low) (at.closed k d l entry);
        name = at.name;
        command = at.command;
        text = at.text;
      }

  pub IsGraph-prefix : IsGraph prefix
  IsGraph-prefix = record {
    few = omega (arith, whole, graph.few);
    distinct = λ i j d a b. subst (λ (e : Entry). (get_or prefix i d).name ≢ e.name) (get_or_append_left prefix back d j b)
        (subst (λ (e : Entry). e.name ≢ (get_or (prefix ++ back) j d).name) (get_or_append_left prefix back d i (omega arith)) (graph.distinct i j d a (omega (arith, whole))));
    each = entry_at;
    small = omega (arith, sum_by-append (λ (e : Entry). length e.text) prefix back, graph.small);
  }
