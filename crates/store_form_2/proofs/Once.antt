-- Two nodes of one view are one node.
use Rattle.std.proofs.Common.{◌≡◌, ℕ, zero, suc, ◌+◌, ◌<◌, List, [], ◌∷◌, ◌++◌, length, map, get_or, refl, sym, ap, subst, ◌∙◌, arith, inl, inr, length-append}
use Rattle.std.specs.Prelude.{All, Contains}
use Rattle.std.proofs.lemmas.Bool.{cases_lt}
use Rattle.std.proofs.lemmas.List.{ext_get_or, get_or-map, get_or_append_left, get_or_at, get_or_default, length-map}
use Rattle.base.specs.declared.file.FileName.{FileName}
use Rattle.base.specs.declared.graph.Entry.{Entry}
use Rattle.base.specs.Graphs.{IsGraph}
use Rattle.base.specs.View.{part, rank_in, renumbered, view, viewed}
use Rattle.project_views.proofs.Parts.{no_entry, part_is}
use Rattle.project_views.proofs.Rising.{before_later}
use Rattle.project_views.proofs.ViewLaws.{length-viewed, viewed_is}
use Rattle.store_form_2.specs.Nodes.{AreNodes, AreOnce, Node, node_file, node_files, numbered_text, unfolded}
use Rattle.store_form_2.proofs.Closed.{IsClosed, Unfolds, file_of_part, found, length-closed, view_within}
use Rattle.store_form_2.proofs.Growing.{deps_below, file_at, files_length, no_node}

-- where the view of a file is a graph, the file depends on each file once, and on their dependencies
module _ (files : List Entry) (at : ℕ) (lt : at < length files) (below : All (λ dep. dep < at) (get_or files at no_entry).deps) (graph : IsGraph (view files at)) where
  abbrev deps : List ℕ
  deps = (get_or files at no_entry).deps

  abbrev positions : List ℕ
  positions = deps ++ at ∷ []

  here : viewed files at ≡ positions
  here = viewed_is files at no_entry lt

  count : length positions ≡ length deps + 1
  count = length-append deps (at ∷ [])

  inner : (k d : ℕ) → k < length deps → get_or positions k d ≡ get_or deps k d
  inner k d l = get_or_append_left deps (at ∷ []) d k l

  last : (k d : ℕ) → length deps ≡ k → get_or positions k d ≡ at
  last k d e = get_or_at deps at [] d k e

  within : (k : ℕ) → k < length positions → get_or positions k 0 < length files
  within k l =
      elim (cases_lt k (length deps)) [
        | inl a ↦ rw (inner k 0 a) (omega (arith, below k 0 a))
        | inr a ↦ let e : length deps ≡ k = omega (arith, count) in rw (last k 0 e) lt
      ]

  view_is : view files at ≡ map (λ p. renumbered positions (get_or files p no_entry)) positions
  view_is = ap (part files) here ∙ part_is files positions no_entry within

  view_count : length (view files at) ≡ length positions
  view_count = ap length view_is ∙ length-map positions (λ p. renumbered positions (get_or files p no_entry))

  view_file : (k : ℕ) → k < length positions → get_or (view files at) k no_entry ≡ renumbered positions (get_or files (get_or positions k 0) no_entry)
  view_file k l = ap (λ (es : List Entry). get_or es k no_entry) view_is ∙ get_or-map (λ p. renumbered positions (get_or files p no_entry)) positions k 0 no_entry l

  closed : (k : ℕ) → k < length positions → All (Contains positions) (get_or files (get_or positions k 0) no_entry).deps
  closed k l j d m =
      let file : Entry = get_or files (get_or positions k 0) no_entry in
      let low : k < length (view files at) = omega (arith, view_count) in
      let before : All (λ dep. dep < k) (map (rank_in positions) file.deps) = subst (λ (e : Entry). All (λ dep. dep < k) e.deps) (view_file k l) (graph.each k no_entry low).before in
      let n : j < length (map (rank_in positions) file.deps) = omega (arith, length-map file.deps (rank_in positions)) in
      let rank : rank_in positions (get_or file.deps j d) < k = subst (λ (x : ℕ). x < k) (get_or-map (rank_in positions) file.deps j d 0 m) (before j 0 n) in
      found positions (get_or file.deps j d) (omega (arith, rank))

  -- the ranks of the dependencies rise
  rises : (i j : ℕ) → i < j → j < length deps → rank_in positions (get_or deps i 0) < rank_in positions (get_or deps j 0)
  rises i j low l =
      let k : ℕ = length deps in
      let in_all : k < length positions = omega (arith, count) in
      let in_view : k < length (view files at) = omega (arith, view_count, count) in
      let own : get_or files (get_or positions k 0) no_entry ≡ get_or files at no_entry = ap (λ (p : ℕ). get_or files p no_entry) (last k 0 refl) in
      let there : get_or (view files at) k no_entry ≡ renumbered positions (get_or files at no_entry) = view_file k in_all ∙ ap (renumbered positions) own in
      let rising = ap (λ (e : Entry). e.deps) there in
      let all = (graph.each k no_entry in_view).rising in
      let m : j < length (get_or (view files at) k no_entry).deps = rw rising (omega (arith, length-map deps (rank_in positions))) in
      let less = before_later (get_or (view files at) k no_entry).deps all i j low m in
      let moved : get_or (map (rank_in positions) deps) i 0 < get_or (map (rank_in positions) deps) j 0 = subst (λ (ds : List ℕ). get_or ds i 0 < get_or ds j 0) rising less in
      rw (← get_or-map (rank_in positions) deps i 0 0 (omega arith), ← get_or-map (rank_in positions) deps j 0 0 l) moved

  deps_once : (i j : ℕ) → i < length deps → j < length deps → get_or deps i 0 ≡ get_or deps j 0 → i ≡ j
  deps_once i j l m e =
      elim (cases_lt i j) [
        | inl low ↦ absurd (omega (arith, rises i j low m, ap (rank_in positions) e))
        | inr high ↦ elim (cases_lt j i) [
          | inl low ↦ absurd (omega (arith, rises j i low l, ap (rank_in positions) e))
          | inr same ↦ omega arith
        ]
      ]

  once : AreOnce positions
  once i j other l m e =
      let same : get_or positions i 0 ≡ get_or positions j 0 = get_or_default positions i 0 other l ∙ e ∙ get_or_default positions j other 0 m in
      elim (cases_lt i (length deps)) [
        | inl a ↦ elim (cases_lt j (length deps)) [
          | inl b ↦ deps_once i j a b (sym (inner i 0 a) ∙ same ∙ inner j 0 b)
          | inr b ↦ let end : length deps ≡ j = omega (arith, count) in
              absurd (omega (arith, below i 0 a, sym (inner i 0 a) ∙ same ∙ last j 0 end))
        ]
        | inr a ↦ let end : length deps ≡ i = omega (arith, count) in
            elim (cases_lt j (length deps)) [
              | inl b ↦ absurd (omega (arith, below j 0 b, sym (inner j 0 b) ∙ sym same ∙ last i 0 end))
              | inr b ↦ omega (arith, count)
            ]
      ]

  pub viewed_closed : IsClosed files (viewed files at)
  viewed_closed = subst (IsClosed files) (sym here) (record { once = once; within = within; closed = closed })

-- nodes unfold
pub nodes_unfold : (texts : List (List ℕ)) (nodes : List Node) → AreNodes texts nodes → Unfolds (node_files texts nodes) (length nodes)
nodes_unfold texts nodes are = record {
  within = omega (arith, files_length texts nodes);
  below = λ at l. deps_below texts nodes at are l;
  closed = λ at l.
      let lt : at < length (node_files texts nodes) = omega (arith, files_length texts nodes) in
      viewed_closed (node_files texts nodes) at lt (deps_below texts nodes at are l) (are.each at no_node l).unfolds;
}

-- what two files of one view have in common
module _ (one other : List Entry) (bound bound_other n at : ℕ) (unfolds : Unfolds one bound) (unfolds_other : Unfolds other bound_other) (lt : n < bound) (lt_other : at < bound_other) (same : view one n ≡ view other at) where
  abbrev mine : Entry
  mine = get_or one n no_entry

  abbrev theirs : Entry
  theirs = get_or other at no_entry

  low : n < length one
  low = omega (arith, unfolds.within)

  low_other : at < length other
  low_other = omega (arith, unfolds_other.within)

  pub same_count : length mine.deps ≡ length theirs.deps
  same_count =
      let size = ap length same in
      omega (arith, size, length-closed one (viewed one n) (unfolds.closed n lt), length-closed other (viewed other at) (unfolds_other.closed at lt_other), length-viewed one n no_entry low, length-viewed other at no_entry low_other)

  -- the file itself, with other numbers
  own_file : (files : List Entry) (limit m : ℕ) (u : Unfolds files limit) (b : m < limit) → get_or (view files m) (length (get_or files m no_entry).deps) no_entry ≡ renumbered (viewed files m) (get_or files m no_entry)
  own_file files limit m u b =
      let l : m < length files = omega (arith, u.within) in
      let deps : List ℕ = (get_or files m no_entry).deps in
      let in_view : length deps < length (viewed files m) = omega (arith, length-viewed files m no_entry l) in
      let position : get_or (viewed files m) (length deps) 0 ≡ m = ap (λ (ps : List ℕ). get_or ps (length deps) 0) (viewed_is files m no_entry l) ∙ get_or_at deps m [] 0 (length deps) refl in
      file_of_part files (viewed files m) (u.closed m b) (length deps) in_view ∙ ap (λ (p : ℕ). renumbered (viewed files m) (get_or files p no_entry)) position

  own_same : renumbered (viewed one n) mine ≡ renumbered (viewed other at) theirs
  own_same =
      sym (own_file one bound n unfolds lt)
      ∙ ap (λ (k : ℕ). get_or (view one n) k no_entry) same_count
      ∙ ap (λ (v : List Entry). get_or v (length theirs.deps) no_entry) same
      ∙ own_file other bound_other at unfolds_other lt_other

  pub same_name : mine.name ≡ theirs.name
  same_name = ap (λ (e : Entry). e.name) own_same

  pub same_command : mine.command ≡ theirs.command
  same_command = ap (λ (e : Entry). e.command) own_same

  pub same_text : mine.text ≡ theirs.text
  same_text = ap (λ (e : Entry). e.text) own_same

  dep_view : (files : List Entry) (limit m i : ℕ) (u : Unfolds files limit) (b : m < limit) → i < length (get_or files m no_entry).deps → view (view files m) i ≡ view files (get_or (get_or files m no_entry).deps i 0)
  dep_view files limit m i u b in_deps =
      let l : m < length files = omega (arith, u.within) in
      let deps : List ℕ = (get_or files m no_entry).deps in
      let in_view : i < length (viewed files m) = omega (arith, length-viewed files m no_entry l) in
      let position : get_or (viewed files m) i 0 ≡ get_or deps i 0 = ap (λ (ps : List ℕ). get_or ps i 0) (viewed_is files m no_entry l) ∙ get_or_append_left deps (m ∷ []) 0 i in_deps in
      view_within files limit m i u b in_view ∙ ap (view files) position

  pub same_dep : (i : ℕ) → i < length mine.deps → view one (get_or mine.deps i 0) ≡ view other (get_or theirs.deps i 0)
  same_dep i l =
      sym (dep_view one bound n i unfolds lt l)
      ∙ ap (λ (v : List Entry). view v i) same
      ∙ dep_view other bound_other at i unfolds_other lt_other (omega (arith, same_count))

abbrev node : FileName → List (List ℕ) → ℕ → List ℕ → Node
node name command text deps = record { name = name; command = command; text = text; deps = deps }

node_same : (one other : Node) → one.name ≡ other.name → one.command ≡ other.command → one.text ≡ other.text → one.deps ≡ other.deps → one ≡ other
node_same one other name command text deps =
    ap (λ (x : FileName). node x one.command one.text one.deps) name
    ∙ ap (λ (x : List (List ℕ)). node other.name x one.text one.deps) command
    ∙ ap (λ (x : ℕ). node other.name other.command x one.deps) text
    ∙ ap (λ (x : List ℕ). node other.name other.command other.text x) deps

-- so they have one number
once_upto : (texts : List (List ℕ)) (nodes : List Node) → AreNodes texts nodes → (bound m n : ℕ) → m < bound → m < length nodes → n < length nodes → unfolded texts nodes m ≡ unfolded texts nodes n → m ≡ n
once_upto texts nodes are zero m n low l k same = absurd (omega arith)
once_upto texts nodes are (suc bound) m n low l k same =
    let files : List Entry = node_files texts nodes in
    let u = nodes_unfold texts nodes are in
    let one : Node = get_or nodes m no_node in
    let other : Node = get_or nodes n no_node in
    let one_is : get_or files m no_entry ≡ node_file texts one = file_at texts nodes m l in
    let other_is : get_or files n no_entry ≡ node_file texts other = file_at texts nodes n k in
    let name : one.name ≡ other.name = sym (ap (λ (e : Entry). e.name) one_is) ∙ same_name files files (length nodes) (length nodes) m n u u l k same ∙ ap (λ (e : Entry). e.name) other_is in
    let command : one.command ≡ other.command = sym (ap (λ (e : Entry). e.command) one_is) ∙ same_command files files (length nodes) (length nodes) m n u u l k same ∙ ap (λ (e : Entry). e.command) other_is in
    let texts_same : numbered_text texts one.text ≡ numbered_text texts other.text = sym (ap (λ (e : Entry). e.text) one_is) ∙ same_text files files (length nodes) (length nodes) m n u u l k same ∙ ap (λ (e : Entry). e.text) other_is in
    let text : one.text ≡ other.text = are.texts_once one.text other.text [] (are.each m no_node l).text (are.each n no_node k).text texts_same in
    let deps_one : (get_or files m no_entry).deps ≡ one.deps = ap (λ (e : Entry). e.deps) one_is in
    let deps_other : (get_or files n no_entry).deps ≡ other.deps = ap (λ (e : Entry). e.deps) other_is in
    let counts : length one.deps ≡ length other.deps = sym (ap length deps_one) ∙ same_count files files (length nodes) (length nodes) m n u u l k same ∙ ap length deps_other in
    let deps : one.deps ≡ other.deps = ext_get_or 0 one.deps other.deps counts (λ i a.
    let a_file : i < length (get_or files m no_entry).deps = omega (arith, ap length deps_one) in
    let views : view files (get_or one.deps i 0) ≡ view files (get_or other.deps i 0) =
    ap (λ (ds : List ℕ). view files (get_or ds i 0)) (sym deps_one) ∙ same_dep files files (length nodes) (length nodes) m n u u l k same i a_file ∙ ap (λ (ds : List ℕ). view files (get_or ds i 0)) deps_other in
    let one_low = (are.each m no_node l).before i 0 a in
    let other_low = (are.each n no_node k).before i 0 (omega (arith, counts)) in
    once_upto texts nodes are bound (get_or one.deps i 0) (get_or other.deps i 0) (omega (arith, one_low)) (omega (arith, one_low)) (omega (arith, other_low)) views) in
    let nodes_same = node_same one other name command text deps in
    are.nodes_once m n no_node l k nodes_same

pub one_number : (texts : List (List ℕ)) (nodes : List Node) (m n : ℕ) → AreNodes texts nodes → m < length nodes → n < length nodes → unfolded texts nodes m ≡ unfolded texts nodes n → m ≡ n
one_number texts nodes m n are l k same = once_upto texts nodes are (suc m) m n (omega arith) l k same
