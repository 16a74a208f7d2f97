-- A new row that passes the tests fits the nodes that it depends on.
use Rattle.std.proofs.Common.{◌≡◌, ◌≢◌, ℕ, ◌<◌, List, [], ◌++◌, length, map, get_or, sym, ap, subst, ◌∙◌, arith}
use Rattle.std.specs.Prelude.{◌↔◌, All, AllPairs, sum_by}
use Rattle.std.proofs.lemmas.List.{get_or-map, length-map}
use Rattle.base.specs.declared.graph.Entry.{Entry}
use Rattle.store_form_2.specs.Fitting.{FitsNew, IsListed}
use Rattle.store_form_2.specs.Nodes.{AreNodes, Node, node_file, node_files, numbered_text}
use Rattle.store_form_2.proofs.Fitting.{sum_alike}
use Rattle.store_form_2.specs.declared.rows.Row.{Row}
use Rattle.store_form_2.specs.Rows.{IsRowIn, IsTable, NodesByNumber, no_name, node_in}
use Rattle.store_form_2.proofs.Nodes.{one_location}
use Rattle.store_form_2.specs.Fits.{FitsRow, blank_node, blank_row, length_at, name_at}

module _ (lengths : List ℕ) (table : NodesByNumber) (row : Row) (own : ℕ) (is : IsTable table) (in_table : IsRowIn table.names table.commands row) (there : All (λ dep. dep < length table.nodes) row.deps) (texts more : List (List ℕ)) (other : Entry) (are : AreNodes texts table.nodes) (lengths_are : map length texts ≡ lengths) (own_is : length (numbered_text (texts ++ more) row.text) ≡ own) where
  abbrev nodes : List Node
  nodes = table.nodes

  abbrev deps : List ℕ
  deps = row.deps

  abbrev files : List Entry
  files = node_files texts nodes

  abbrev entry : Entry
  entry = node_file (texts ++ more) (node_in table row)

  as_many : length nodes ≡ length table.rows
  as_many = ap length is.nodes ∙ length-map table.rows (node_in table)

  file_is : (p : ℕ) → p < length nodes → get_or files p other ≡ node_file texts (get_or nodes p blank_node)
  unfolding node_files
  file_is p l = get_or-map (node_file texts) nodes p blank_node other l

  node_is : (p : ℕ) → p < length nodes → get_or nodes p blank_node ≡ node_in table (get_or table.rows p blank_row)
  node_is p l = ap (λ (ns : List Node). get_or ns p blank_node) is.nodes ∙ get_or-map (node_in table) table.rows p blank_row blank_node (omega (arith, as_many))

  name_is : (p : ℕ) → p < length nodes → (get_or files p other).name ≡ get_or table.names (name_at table.rows p) no_name
  name_is p l = ap (λ (e : Entry). e.name) (file_is p l) ∙ ap (λ (n : Node). n.name) (node_is p l)

  name_low : (p : ℕ) → p < length nodes → name_at table.rows p < length table.names
  name_low p l = (is.rows.rows_in p blank_row (omega (arith, as_many))).name

  abbrev numbers : List ℕ
  numbers = map (name_at table.rows) deps

  size : length numbers ≡ length deps
  size = length-map deps (name_at table.rows)

  number_at : (i d : ℕ) → i < length deps → get_or numbers i d ≡ name_at table.rows (get_or deps i 0)
  number_at i d l = get_or-map (name_at table.rows) deps i 0 d l

  low : (i : ℕ) → i < length deps → get_or deps i 0 < length nodes
  low i l = there i 0 l

  -- names are the same exactly where their numbers are
  same_names : (i j : ℕ) → i < length deps → j < length deps → (get_or files (get_or deps i 0) other).name ≡ (get_or files (get_or deps j 0) other).name → name_at table.rows (get_or deps i 0) ≡ name_at table.rows (get_or deps j 0)
  same_names i j l m e =
      one_location table.names (name_at table.rows (get_or deps i 0)) (name_at table.rows (get_or deps j 0)) no_name is.rows.names_once (name_low (get_or deps i 0) (low i l)) (name_low (get_or deps j 0) (low j m))
      (sym (name_is (get_or deps i 0) (low i l)) ∙ e ∙ name_is (get_or deps j 0) (low j m))

  names_same : (i j : ℕ) → i < length deps → j < length deps → name_at table.rows (get_or deps i 0) ≡ name_at table.rows (get_or deps j 0) → (get_or files (get_or deps i 0) other).name ≡ (get_or files (get_or deps j 0) other).name
  names_same i j l m e = name_is (get_or deps i 0) (low i l) ∙ ap (λ (n : ℕ). get_or table.names n no_name) e ∙ sym (name_is (get_or deps j 0) (low j m))

  deps_same : (p : ℕ) → p < length nodes → (get_or files p other).deps ≡ (get_or nodes p blank_node).deps
  deps_same p l = ap (λ (e : Entry). e.deps) (file_is p l)

  length_is : (p : ℕ) → p < length nodes → length (get_or files p other).text ≡ length_at nodes lengths p
  length_is p l =
      let t : ℕ = (get_or nodes p blank_node).text in
      let t_low : t < length texts = (are.each p blank_node l).text in
      ap (λ (e : Entry). length e.text) (file_is p l) ∙ sym (get_or-map length texts t [] 0 t_low) ∙ ap (λ (ns : List ℕ). get_or ns t 0) lengths_are

  sums : sum_by (λ dep. length (get_or files dep other).text) deps ≡ sum_by (length_at nodes lengths) deps
  sums = sum_alike (λ dep. length (get_or files dep other).text) (length_at nodes lengths) deps (λ k l. length_is (get_or deps k 0) (low k l))

  to_new : FitsRow lengths table row own → FitsNew files entry other
  to_new fits = record {
    few = fits.few;
    names = λ i j a l e. fits.names.0 i j 0 a (omega (arith, size)) (number_at i 0 (omega arith) ∙ same_names i j (omega arith) l e ∙ sym (number_at j 0 l));
    own_name = λ i l e.
        let same : name_at table.rows (get_or deps i 0) ≡ row.name =
        one_location table.names (name_at table.rows (get_or deps i 0)) row.name no_name is.rows.names_once (name_low (get_or deps i 0) (low i l)) in_table.name (sym (name_is (get_or deps i 0) (low i l)) ∙ e) in
        fits.names.1 (i, omega (arith, size), number_at i row.name l ∙ same);
    listed = λ k l. subst (IsListed deps k) (sym (deps_same (get_or deps k 0) (low k l))) (fits.listed k l);
    name = fits.sizes.0;
    command = fits.sizes.1.0;
    text = omega (arith, own_is, fits.sizes.1.1);
    small = omega (arith, sums, own_is, fits.small);
  }

  from_new : FitsNew files entry other → FitsRow lengths table row own
  from_new fits = record {
    few = fits.few;
    sizes = (fits.name, (fits.command, omega (arith, own_is, fits.text)));
    names = (
      λ i j d a l e.
          let m : j < length deps = omega (arith, size) in
          fits.names i j a m (names_same i j (omega arith) m (sym (number_at i d (omega arith)) ∙ e ∙ number_at j d m)),
      λ has.
          let l : has.0 < length deps = omega (arith, has.1, size) in
          fits.own_name has.0 l (name_is (get_or deps has.0 0) (low has.0 l) ∙ ap (λ (n : ℕ). get_or table.names n no_name) (sym (number_at has.0 row.name l) ∙ has.2)),
    );
    listed = λ k l. subst (IsListed deps k) (deps_same (get_or deps k 0) (low k l)) (fits.listed k l);
    small = omega (arith, sums, own_is, fits.small);
  }

  pub fits_new : FitsRow lengths table row own ↔ FitsNew files entry other
  fits_new = (to_new, from_new)

-- dependencies of different names differ
pub deps_once : (rows : List Row) (deps : List ℕ) → AllPairs (λ a b. a ≢ b) (map (name_at rows) deps) → AllPairs (λ a b. a ≢ b) deps
deps_once rows deps once i j d a l e =
    let size : length (map (name_at rows) deps) ≡ length deps = length-map deps (name_at rows) in
    let i_low : i < length deps = omega arith in
    once i j 0 a (omega (arith, size)) (get_or-map (name_at rows) deps i d 0 i_low ∙ ap (name_at rows) e ∙ sym (get_or-map (name_at rows) deps j d 0 l))
