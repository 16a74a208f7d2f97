-- The nodes of records, by their numbers.
use Rattle.std.proofs.Common.{◌≡◌, ℕ, ◌<◌, List, length, get_or, sym, ap, subst, ◌∙◌, arith}
use Rattle.std.specs.Prelude.{All}
use Rattle.std.proofs.lemmas.List.{get_or-map, get_or_default, length-map}
use Rattle.store_form_2.specs.ByNumber.{NodeRecord}
use Rattle.store_form_2.specs.NodeRows.{AreOfNodes, no_record}

module _ (numbers : List ℕ) (records : List NodeRecord) (of : AreOfNodes numbers records) where
  pub count_of : length records ≡ length numbers
  count_of = sym (length-map records (λ (kept : NodeRecord). kept.node)) ∙ ap length of

  pub node_at : (row : ℕ) → row < length numbers → (get_or records row no_record).node ≡ get_or numbers row 0
  node_at row l = sym (get_or-map (λ (kept : NodeRecord). kept.node) records row no_record 0 (omega (arith, l, count_of))) ∙ ap (λ (ns : List ℕ). get_or ns row 0) of

  -- what numbers are below, the nodes of records are below
  pub nodes_below : (limit : ℕ) → All (λ number. number < limit) numbers → All (λ kept. kept.node < limit) records
  nodes_below limit all row d l =
      let low : row < length numbers = omega (arith, l, count_of) in
      subst (λ (n : ℕ). n < limit) (sym (ap (λ (kept : NodeRecord). kept.node) (get_or_default records row d no_record l) ∙ node_at row low)) (all row 0 low)
