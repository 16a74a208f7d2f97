-- Files with distinct names, one more at each step.
use Rattle.std.proofs.Common.{◌≡◌, ◌≢◌, ℕ, ◌+◌, ◌<◌, length, get_or, map, take, subst, arith, false, List, [], ◌∷◌, ◌++◌, sym, ap, ◌∙◌}
use Rattle.std.specs.Prelude.{AllPairs}
use Rattle.std.proofs.lemmas.Bool.{both_ways, false_from_ne_true}
use Rattle.std.proofs.lemmas.List.{take_more, length-map, length-take, get_or-map, get_or-take}
use Rattle.std.proofs.lemmas.List.Quantifiers.{all_pairs_push}
use Rattle.std.proofs.lemmas.List.Folds.{list_any_at, list_any_none}
use Rattle.base.specs.declared.graph.Entry.{Entry}
use Rattle.base.specs.Names.{is_same_name, has_name}
use Rattle.base_collections.proofs.SameNames.{same_names, names_same}

abbrev pub Distinct : List Entry → Type 0
Distinct entries = AllPairs (λ entry other. entry.name ≢ other.name) entries

-- a new name beside distinct ones
pub distinct_more : (entries : List Entry) (i : ℕ) (entry : Entry) → i < length entries → entry ≡ get_or entries i entry → Distinct (take i entries)
    → has_name (map (λ e. e.name) (take i entries)) entry.name ≡ false → Distinct (take (i + 1) entries)
distinct_more entries i entry lt is distinct none =
    subst Distinct (ap (λ (e : Entry). take i entries ++ e ∷ []) is ∙ sym (take_more entries i entry lt))
    (all_pairs_push (λ (e o : Entry). e.name ≢ o.name) (take i entries) entry distinct
    (λ k d l same.
    let low : k < length (map (λ (e : Entry). e.name) (take i entries)) = rw length-map l in
    both_ways (has_name (map (λ (e : Entry). e.name) (take i entries)) entry.name) none
    (list_any_at (λ other. is_same_name other entry.name) (map (λ (e : Entry). e.name) (take i entries)) k d.name low (same_names _ entry.name (get_or-map (λ (e : Entry). e.name) (take i entries) k d d.name l ∙ same)))))

-- no name of distinct files came before
pub none_before : (entries : List Entry) (i : ℕ) (entry : Entry) → i < length entries → entry ≡ get_or entries i entry → Distinct entries
    → has_name (map (λ e. e.name) (take i entries)) entry.name ≡ false
none_before entries i entry lt is distinct =
    list_any_none (λ other. is_same_name other entry.name) (map (λ (e : Entry). e.name) (take i entries))
    (λ k d l. false_from_ne_true _ (λ t.
    let l2 : k < length (take i entries) = rw length-map at l in
    let low : k < i = omega (arith, length-take i entries) in
    let here : get_or (map (λ (e : Entry). e.name) (take i entries)) k d ≡ (get_or entries k entry).name =
    get_or-map (λ (e : Entry). e.name) (take i entries) k entry d l2 ∙ ap (λ (e : Entry). e.name) (get_or-take i entries k entry low) in
    distinct k i entry low lt (sym here ∙ names_same _ entry.name t ∙ ap (λ (e : Entry). e.name) is)))
