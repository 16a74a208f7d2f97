-- Views stay where texts and nodes are added.
use Rattle.std.proofs.Common.{◌≡◌, ℕ, ◌<◌, List, [], ◌∷◌, ◌++◌, length, get_or, refl, sym, ap, ◌∙◌, arith, inl, inr, length-append}
use Rattle.std.specs.Prelude.{All}
use Rattle.std.proofs.lemmas.Bool.{cases_lt}
use Rattle.std.proofs.lemmas.List.{get_or-map, get_or_append_left, get_or_at, length-map, map-append}
use Rattle.base.specs.declared.graph.Entry.{Entry}
use Rattle.base.specs.View.{part, renumbered, view, viewed}
use Rattle.project_views.proofs.Parts.{map_same, no_entry, part_is}
use Rattle.project_views.proofs.ViewLaws.{viewed_is}
use Rattle.store_form_2.specs.Nodes.{AreNodes, Node, node_file, node_files, unfolded}

pub no_node : Node
no_node = record { name = no_entry.name; command = []; text = 0; deps = [] }

-- dependencies of lower numbers
abbrev pub DepsBelow : List Entry → ℕ → Type 0
DepsBelow files at = All (λ dep. dep < at) (get_or files at no_entry).deps

within : (files : List Entry) (at : ℕ) → at < length files → DepsBelow files at → (k : ℕ) → k < length ((get_or files at no_entry).deps ++ at ∷ []) → get_or ((get_or files at no_entry).deps ++ at ∷ []) k 0 < length files
within files at lt below k l =
    let deps : List ℕ = (get_or files at no_entry).deps in
    elim (cases_lt k (length deps)) [
      | inl a ↦ rw (get_or_append_left deps (at ∷ []) 0 k a) (omega (arith, below k 0 a))
      | inr a ↦ let e : length deps ≡ k = omega (arith, length-append deps (at ∷ [])) in rw (get_or_at deps at [] 0 k e) lt
    ]

-- more files change no view so far
pub view_grown : (files more : List Entry) (at : ℕ) → at < length files → DepsBelow files at → view (files ++ more) at ≡ view files at
view_grown files more at lt below =
    let longer : at < length (files ++ more) = omega (arith, length-append files more) in
    let here : get_or (files ++ more) at no_entry ≡ get_or files at no_entry = get_or_append_left files more no_entry at lt in
    let positions : List ℕ = (get_or files at no_entry).deps ++ at ∷ [] in
    let old : viewed files at ≡ positions = viewed_is files at no_entry lt in
    let new : viewed (files ++ more) at ≡ positions = viewed_is (files ++ more) at no_entry longer ∙ ap (λ (e : Entry). e.deps ++ at ∷ []) here in
    let inside = within files at lt below in
    ap (part (files ++ more)) new
    ∙ part_is (files ++ more) positions no_entry (λ k l. omega (arith, inside k l, length-append files more))
    ∙ map_same (λ p. renumbered positions (get_or (files ++ more) p no_entry)) (λ p. renumbered positions (get_or files p no_entry)) positions 0 (λ k l. ap (renumbered positions) (get_or_append_left files more no_entry (get_or positions k 0) (inside k l)))
    ∙ sym (part_is files positions no_entry inside)
    ∙ ap (part files) (sym old)

-- nodes whose texts are there
abbrev pub TextsThere : List (List ℕ) → List Node → Type 0
TextsThere texts nodes = All (λ node. node.text < length texts) nodes

-- more texts change no file
pub files_grown : (texts more : List (List ℕ)) (nodes : List Node) → TextsThere texts nodes → node_files (texts ++ more) nodes ≡ node_files texts nodes
unfolding node_files
files_grown texts more nodes there =
    map_same (node_file (texts ++ more)) (node_file texts) nodes no_node
    (λ k l. let same : get_or (texts ++ more) (get_or nodes k no_node).text [] ≡ get_or texts (get_or nodes k no_node).text [] = get_or_append_left texts more [] (get_or nodes k no_node).text (there k no_node l) in rw same refl)

pub files_append : (texts : List (List ℕ)) (nodes more : List Node) → node_files texts (nodes ++ more) ≡ node_files texts nodes ++ node_files texts more
unfolding node_files
files_append texts nodes more = map-append (node_file texts) nodes more

pub files_length : (texts : List (List ℕ)) (nodes : List Node) → length (node_files texts nodes) ≡ length nodes
unfolding node_files
files_length texts nodes = length-map nodes (node_file texts)

pub file_at : (texts : List (List ℕ)) (nodes : List Node) (number : ℕ) → number < length nodes → get_or (node_files texts nodes) number no_entry ≡ node_file texts (get_or nodes number no_node)
unfolding node_files
file_at texts nodes number lt = get_or-map (node_file texts) nodes number no_node no_entry lt

-- each node has a text that exists
pub texts_there : (texts : List (List ℕ)) (nodes : List Node) → AreNodes texts nodes → TextsThere texts nodes
texts_there texts nodes are k d l = (are.each k d l).text

pub deps_below : (texts : List (List ℕ)) (nodes : List Node) (number : ℕ) → AreNodes texts nodes → number < length nodes → DepsBelow (node_files texts nodes) number
deps_below texts nodes number are lt = rw (file_at texts nodes number lt) ((are.each number no_node lt).before)

-- more texts and nodes change no view so far
pub unfolded_grown : (texts more_texts : List (List ℕ)) (nodes more : List Node) (number : ℕ) → AreNodes texts nodes → number < length nodes → unfolded (texts ++ more_texts) (nodes ++ more) number ≡ unfolded texts nodes number
unfolded_grown texts more_texts nodes more number are lt =
    let files : List Entry = node_files texts nodes in
    let others : List Entry = node_files (texts ++ more_texts) more in
    let all : node_files (texts ++ more_texts) (nodes ++ more) ≡ files ++ others = files_append (texts ++ more_texts) nodes more ∙ ap (λ (l : List Entry). l ++ others) (files_grown texts more_texts nodes (texts_there texts nodes are)) in
    ap (λ (l : List Entry). view l number) all ∙ view_grown files others number (omega (arith, files_length texts nodes, lt)) (deps_below texts nodes number are lt)
