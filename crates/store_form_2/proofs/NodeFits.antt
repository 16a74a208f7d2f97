-- The test of a new file, for nodes.
use Rattle.std.proofs.Common.{◌≡◌, ℕ, ◌<◌, true, false, nat_lt, List, [], ◌∷◌, ◌++◌, length, get_or, refl, sym, ap, subst, ◌∙◌, arith}
use Rattle.std.specs.Prelude.{All, Contains, ◌↔◌}
use Rattle.std.specs.List.{list_all, list_any}
use Rattle.std.proofs.lemmas.Bool.Decides.{nat_tests}
use Rattle.std.proofs.lemmas.List.{get_or_default}
use Rattle.std.proofs.lemmas.List.Elements.{All-head, All-tail}
use Rattle.base.specs.declared.graph.Entry.{Entry}
use Rattle.base.specs.Graphs.{IsGraph}
use Rattle.base.specs.View.{IsView, view}
use Rattle.project_views.proofs.Parts.{no_entry}
use Rattle.store_form_2.specs.Fitting.{FitsNew, IsListed}
use Rattle.store_form_2.specs.Nodes.{AreNodes, AreOnce, Node, node_file, node_files, unfolded}
use Rattle.store_form_2.specs.Views.{is_view}
use Rattle.store_form_2.proofs.Deciding.{is_view-Decides}
use Rattle.store_form_2.specs.Forms.{Draft}
use Rattle.store_form_2.specs.NodeContents.{Contents, draft_node, is_draft, is_same_node}
use Rattle.base_bytes.specs.TextRefs.{is_text_ref, with_text}
use Rattle.store_form_2.proofs.Closed.{Unfolds}
use Rattle.store_form_2.proofs.Fitting.{fits_graph, graph_fits, graph_whole, listed_through, sum_alike}
use Rattle.store_form_2.proofs.Growing.{file_at, files_append, files_grown, files_length, no_node, texts_there}
use Rattle.store_form_2.proofs.Once.{nodes_unfold}
use Rattle.store_form_2.proofs.TakingSteps.{is_new, more_of, source_more}

one_file : (texts : List (List ℕ)) (node : Node) → node_files texts (node ∷ []) ≡ node_file texts node ∷ []
unfolding node_files
one_file texts node = refl

-- the view of a new node is that of a file behind all files
new_same : (texts more : List (List ℕ)) (nodes : List Node) (node : Node) → AreNodes texts nodes → view (node_files texts nodes ++ node_file (texts ++ more) node ∷ []) (length (node_files texts nodes)) ≡ unfolded (texts ++ more) (nodes ++ node ∷ []) (length nodes)
new_same texts more nodes node are =
    let files : List Entry = node_files texts nodes in
    let new : Entry = node_file (texts ++ more) node in
    let all : node_files (texts ++ more) (nodes ++ node ∷ []) ≡ files ++ new ∷ [] =
    files_append (texts ++ more) nodes (node ∷ []) ∙ ap (λ (l : List Entry). l ++ node_files (texts ++ more) (node ∷ [])) (files_grown texts more nodes (texts_there texts nodes are)) ∙ ap (λ (l : List Entry). files ++ l) (one_file (texts ++ more) node) in
    ap (λ (l : List Entry). view l (length files)) (sym all) ∙ ap (view (node_files (texts ++ more) (nodes ++ node ∷ []))) (files_length texts nodes)

-- a graph of a new node is a view
pub new_whole : (texts more : List (List ℕ)) (nodes : List Node) (node : Node) → AreNodes texts nodes → All (λ dep. dep < length nodes) node.deps → IsGraph (unfolded (texts ++ more) (nodes ++ node ∷ []) (length nodes)) → IsView (unfolded (texts ++ more) (nodes ++ node ∷ []) (length nodes))
new_whole texts more nodes node are there valid =
    let files : List Entry = node_files texts nodes in
    let new : Entry = node_file (texts ++ more) node in
    let size : length files ≡ length nodes = files_length texts nodes in
    let u : Unfolds files (length files) = subst (Unfolds files) (sym size) (nodes_unfold texts nodes are) in
    let graphs : (p : ℕ) → p < length files → IsGraph (view files p) = λ p l. (are.each p no_node (omega (arith, size))).unfolds in
    let low : All (λ dep. dep < length files) node.deps = subst (λ (n : ℕ). All (λ dep. dep < n) node.deps) (sym size) there in
    let same = new_same texts more nodes node are in
    subst IsView same (graph_whole files new u graphs low (subst IsGraph (sym same) valid))

pub node_fits : (texts more : List (List ℕ)) (nodes : List Node) (node : Node) → AreNodes texts nodes → All (λ dep. dep < length nodes) node.deps → FitsNew (node_files texts nodes) (node_file (texts ++ more) node) no_entry ↔ IsGraph (unfolded (texts ++ more) (nodes ++ node ∷ []) (length nodes))
node_fits texts more nodes node are there =
    let files : List Entry = node_files texts nodes in
    let new : Entry = node_file (texts ++ more) node in
    let size : length files ≡ length nodes = files_length texts nodes in
    let all : node_files (texts ++ more) (nodes ++ node ∷ []) ≡ files ++ new ∷ [] =
    files_append (texts ++ more) nodes (node ∷ []) ∙ ap (λ (l : List Entry). l ++ node_files (texts ++ more) (node ∷ [])) (files_grown texts more nodes (texts_there texts nodes are)) ∙ ap (λ (l : List Entry). files ++ l) (one_file (texts ++ more) node) in
    let u : Unfolds files (length files) = subst (Unfolds files) (sym size) (nodes_unfold texts nodes are) in
    let graphs : (p : ℕ) → p < length files → IsGraph (view files p) = λ p l. (are.each p no_node (omega (arith, size))).unfolds in
    let low : All (λ dep. dep < length files) node.deps = subst (λ (n : ℕ). All (λ dep. dep < n) node.deps) (sym size) there in
    let same : view (files ++ new ∷ []) (length files) ≡ unfolded (texts ++ more) (nodes ++ node ∷ []) (length nodes) = ap (λ (l : List Entry). view l (length files)) (sym all) ∙ ap (view (node_files (texts ++ more) (nodes ++ node ∷ []))) size in (
      λ fits. subst IsGraph same (fits_graph files new u graphs low fits),
      λ valid. graph_fits files new u graphs low (subst IsGraph (sym same) valid),
    )

-- what is read past the end doesn't matter
fits_default : (files : List Entry) (entry a b : Entry) → All (λ dep. dep < length files) entry.deps → FitsNew files entry a → FitsNew files entry b
fits_default files entry a b there fits =
    let same : (i : ℕ) → i < length entry.deps → get_or files (get_or entry.deps i 0) b ≡ get_or files (get_or entry.deps i 0) a = λ i l. get_or_default files (get_or entry.deps i 0) b a (there i 0 l) in
    record {
      few = fits.few;
      names = λ i j low l e. fits.names i j low l (sym (ap (λ (x : Entry). x.name) (same i (omega arith))) ∙ e ∙ ap (λ (x : Entry). x.name) (same j l));
      own_name = λ i l e. fits.own_name i l (sym (ap (λ (x : Entry). x.name) (same i l)) ∙ e);
      listed = λ k l. rw (same k l) (fits.listed k l);
      name = fits.name;
      command = fits.command;
      text = fits.text;
      small = omega (arith, fits.small, sum_alike (λ p. length (get_or files p b).text) (λ p. length (get_or files p a).text) entry.deps (λ k l. ap (λ (x : Entry). length x.text) (same k l)));
    }

pub new_fits : (texts more : List (List ℕ)) (nodes : List Node) (node : Node) (other : Entry) → AreNodes texts nodes → All (λ dep. dep < length nodes) node.deps → FitsNew (node_files texts nodes) (node_file (texts ++ more) node) other ↔ IsGraph (unfolded (texts ++ more) (nodes ++ node ∷ []) (length nodes))
new_fits texts more nodes node other are there =
    let both = node_fits texts more nodes node are there in
    let low : All (λ dep. dep < length (node_files texts nodes)) node.deps = subst (λ (n : ℕ). All (λ dep. dep < n) node.deps) (sym (files_length texts nodes)) there in (
      λ fits. both.0 (fits_default (node_files texts nodes) (node_file (texts ++ more) node) other no_entry low fits),
      λ valid. fits_default (node_files texts nodes) (node_file (texts ++ more) node) no_entry other low (both.1 valid),
    )

-- a node and its file have the same dependencies
deps_same : (texts : List (List ℕ)) (nodes : List Node) (p : ℕ) (other : Node) → p < length nodes → (get_or nodes p other).deps ≡ (get_or (node_files texts nodes) p no_entry).deps
deps_same texts nodes p other lt = ap (λ (n : Node). n.deps) (get_or_default nodes p other no_node lt) ∙ sym (ap (λ (e : Entry). e.deps) (file_at texts nodes p lt))

pub node_listed : (texts : List (List ℕ)) (nodes : List Node) (deps : List ℕ) (other : Node) (k j : ℕ) → AreNodes texts nodes → All (λ dep. dep < length nodes) deps → AreOnce deps → k < length deps → j < length deps → IsListed deps j (get_or nodes (get_or deps j 0) other).deps → Contains (get_or nodes (get_or deps j 0) other).deps (get_or deps k 0) → IsListed deps k (get_or nodes (get_or deps k 0) other).deps
node_listed texts nodes deps other k j are there once lk lj listed in_it =
    let files : List Entry = node_files texts nodes in
    let size : length files ≡ length nodes = files_length texts nodes in
    let u : Unfolds files (length files) = subst (Unfolds files) (sym size) (nodes_unfold texts nodes are) in
    let graphs : (p : ℕ) → p < length files → IsGraph (view files p) = λ p l. (are.each p no_node (omega (arith, size))).unfolds in
    let low : All (λ dep. dep < length files) deps = subst (λ (n : ℕ). All (λ dep. dep < n) deps) (sym size) there in
    let at_j = deps_same texts nodes (get_or deps j 0) other (there j 0 lj) in
    let at_k = deps_same texts nodes (get_or deps k 0) other (there k 0 lk) in
    subst (IsListed deps k) (sym at_k)
    (listed_through files deps u graphs low once k j lj lk (subst (IsListed deps j) at_j listed) (subst (λ (ds : List ℕ). Contains ds (get_or deps k 0)) at_j in_it))

all_true : (n : ℕ) (xs : List ℕ) → All (λ x. x < n) xs → list_all (λ x. nat_lt x n) xs ≡ true
all_true n [] all = refl
all_true n (x ∷ xs) all =
    let here : nat_lt x n ≡ true = let low : x < n = All-head (λ x. x < n) x xs all in grind (arith, nat_tests) in
    rw (here, all_true n xs (All-tail (λ x. x < n) x xs all)) refl

-- A draft of a text that is there or new, whose node is new and whose dependencies are there, is one exactly where it fits them.
pub draft_fits : (contents : Contents) (draft : Draft) (other : Entry) → AreNodes contents.texts contents.nodes → is_text_ref contents.texts draft.source ≡ true → list_any (is_same_node (draft_node contents.texts draft)) contents.nodes ≡ false → All (λ dep. dep < length contents.nodes) draft.deps → (is_draft contents draft ≡ true) ↔ FitsNew (node_files contents.texts contents.nodes) (node_file (with_text contents.texts draft.source) (draft_node contents.texts draft)) other
unfolding is_draft
draft_fits contents draft other are source new there =
    let texts : List (List ℕ) = contents.texts in
    let nodes : List Node = contents.nodes in
    let node : Node = draft_node texts draft in
    let all : List (List ℕ) = with_text texts draft.source in
    let more : all ≡ texts ++ more_of draft.source = source_more texts draft.source in
    let view_of : List (List ℕ) → List Entry = λ ts. unfolded ts (nodes ++ node ∷ []) (length nodes) in
    let both = new_fits texts (more_of draft.source) nodes node other are there in
    let to : IsGraph (view_of (texts ++ more_of draft.source)) → is_draft contents draft ≡ true = λ graph.
    let whole : is_view (view_of all) ≡ true = (is_view-Decides (view_of all)).1 (subst (λ (ts : List (List ℕ)). IsGraph (view_of ts) × IsView (view_of ts)) (sym more) (graph, new_whole texts (more_of draft.source) nodes node are there graph)) in
    rw (source, new, all_true (length nodes) draft.deps there, whole) refl in (
      λ e. subst (λ (ts : List (List ℕ)). FitsNew (node_files texts nodes) (node_file ts node) other) (sym more) (both.1 (subst (λ (ts : List (List ℕ)). IsGraph (view_of ts)) more (is_new contents draft e).graph)),
      λ fits. to (both.0 (subst (λ (ts : List (List ℕ)). FitsNew (node_files texts nodes) (node_file ts node) other) more fits)),
    )
