-- The edit of one package is an edit of the graph.
use Rattle.std.proofs.Common.{◌≡◌, ℕ, zero, suc, ◌+◌, ◌<◌, Some, List, refl, sym, ap, ◌∙◌, arith, inl, inr}
use Rattle.std.specs.Prelude.{slice_get, slice_index}
use Rattle.std.proofs.lemmas.Bool.{cases_lt, ne_eqb}
use Rattle.std.proofs.lemmas.Option.{slice_get_past}
use Rattle.order.specs.LinkedGraph.{closure_of}
use Rattle.generated_project.specs.Files.{package_text, unedited}
use Rattle.generated_sources.specs.NumberedFiles.{numbered_bytes, numbered_edges, numbered_graph}
use Rattle.generated_laws.specs.Edits.{IsEdit}
use Rattle.generated_laws.specs.NumberedGraphs.{AreInOrder, numbered_name, ordered_number}
use Rattle.generated_laws.proofs.Graphs.{entry_of, found_at, graph_count}
use Rattle.generated_laws.proofs.Uses.{one_position}

-- the text of a file that isn't edited
same_text : (edited number : ℕ) → (number ≡ edited → ⊥) → numbered_bytes edited number ≡ numbered_bytes unedited number
same_text edited zero other = refl
same_text edited (suc before) other =
    ap (package_text (suc before)) (ne_eqb (suc before) edited other ∙ sym (ne_eqb (suc before) unedited (λ same. omega (arith, same))))

module _ (count : ℕ) (command : List (List ℕ)) (numbers order : List ℕ) (are : AreInOrder count command numbers order) (edited position : ℕ) (within : position < count + 1) (is : ordered_number numbers order position ≡ edited) where
  others : (other : ℕ) → (other ≡ position → ⊥) → slice_get (numbered_graph command edited numbers order) other ≡ slice_get (numbered_graph command unedited numbers order) other
  others other apart = elim (cases_lt other (count + 1)) [
    | inl lt ↦
        let text = same_text edited (ordered_number numbers order other) (λ same. apart (one_position count command numbers order are other position lt within (same ∙ sym is))) in
        found_at count command numbers order are edited other lt
        ∙ (ap (λ (text : List ℕ). Some (record { name = numbered_name (ordered_number numbers order other); command = command; text = text; deps = closure_of (numbered_edges numbers) order (slice_index order other) })) text
        ∙ sym (found_at count command numbers order are unedited other lt))
    | inr past ↦
        slice_get_past (numbered_graph command edited numbers order) other (omega (arith, past, graph_count count command numbers order are edited))
        ∙ sym (slice_get_past (numbered_graph command unedited numbers order) other (omega (arith, past, graph_count count command numbers order are unedited)))
  ]

  pub is_edit : IsEdit position (numbered_graph command unedited numbers order) (numbered_graph command edited numbers order)
  is_edit = record {
    count = graph_count count command numbers order are edited ∙ sym (graph_count count command numbers order are unedited);
    entry = entry_of count command numbers order are unedited position;
    text = numbered_bytes edited (ordered_number numbers order position);
    is_entry = found_at count command numbers order are unedited position within;
    is_edited = found_at count command numbers order are edited position within;
    others = others;
  }
