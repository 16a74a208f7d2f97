use Rattle.std.proofs.Common.{◌≡◌, ◌≢◌, ℕ, ◌+◌, List, [], ◌∷◌, ◌++◌, Bool, take, get_or, sym, ap, subst, ◌∙◌, arith}
use Rattle.std.specs.Prelude.{AllPairs, Contains}
use Rattle.std.proofs.lemmas.List.Quantifiers.{all_pairs_push}
use Rattle.std.proofs.lemmas.List.{get_or_default}
use Rattle.std.proofs.lemmas.Option.{get_or_from_slice_get}
use Rattle.base_collections.specs.Numbers.{IsAdded, NumbersBelow}
use Rattle.store_table.specs.declared.products.ProductRow.{ProductRow}
use Rattle.store_table.specs.Checked.{dep_names}
use Rattle.store_table.specs.Located.{no_row}
use Rattle.store_table.proofs.Deps.{more_names, name_twice}
use Rattle.store_table.proofs.checking.are_apart.Goals as goal

pub returns-then-not-new : goal.returns-then-not-new
returns-then-not-new c =
    let rows = c.args.products.now.keys in
    let deps : List ℕ = c.args.deps.now in
    let row : ProductRow = c.key-row.result.now in
    let is : (get_or rows (get_or deps c.loop-k.k 0) no_row).name ≡ row.name = ap (λ (n : ℕ). (get_or rows n no_row).name) (sym c.get.ensures) ∙ ap (λ (r : ProductRow). r.name) (get_or_from_slice_get rows c.get.result row no_row c.key-row.ensures) in
    let added = subst (λ (b : Bool). IsAdded b row.name c.loop-k.set c.add-in-loop-k.new.self) c.if-not-new.true c.in_ok-new.ensures.ok in
    let has : Contains (c.args.name ∷ dep_names rows (take c.loop-k.k deps)) row.name = subst (λ (ns : List ℕ). Contains ns row.name) c.loop-k.invariant.numbers added.0 in
    (λ f. absurd cc, λ pairs. absurd (name_twice rows c.args.name deps c.loop-k.k row.name (omega (arith, c.loop-k-test.true, c.len-k-end.ensures)) is has pairs))

pub loop-k-preserved : goal.loop-k-preserved
loop-k-preserved c =
    let rows = c.args.products.now.keys in
    let deps : List ℕ = c.args.deps.now in
    let row : ProductRow = c.key-row.result.now in
    let k : ℕ = c.loop-k.k in
    let is : (get_or rows (get_or deps c.loop-k.k 0) no_row).name ≡ row.name = ap (λ (n : ℕ). (get_or rows n no_row).name) (sym c.get.ensures) ∙ ap (λ (r : ProductRow). r.name) (get_or_from_slice_get rows c.get.result row no_row c.key-row.ensures) in
    let added = subst (λ (b : Bool). IsAdded b row.name c.loop-k.set c.add-in-loop-k.new.self) c.if-not-new.false c.in_ok-new.ensures.ok in
    let so_far : List ℕ = c.args.name ∷ dep_names rows (take c.loop-k.k deps) in
    let grown : so_far ++ row.name ∷ [] ≡ c.args.name ∷ dep_names rows (take (c.loop-k.k + 1) deps) = ap (λ (n : ℕ). (c.args.name ∷ dep_names rows (take c.loop-k.k deps)) ++ n ∷ []) (sym is) ∙ more_names rows c.args.name deps c.loop-k.k (omega (arith, c.loop-k-test.true, c.len-k-end.ensures)) in
    let fresh : ¬ Contains so_far row.name = subst (λ (ns : List ℕ). ¬ Contains ns row.name) c.loop-k.invariant.numbers added.0 in
    record {
      size = ap (λ (s : NumbersBelow). s.size) added.1 ∙ c.loop-k.invariant.size;
      numbers = ap (λ (s : NumbersBelow). s.numbers) added.1 ∙ ap (λ (ns : List ℕ). ns ++ row.name ∷ []) c.loop-k.invariant.numbers ∙ grown;
      apart = subst (AllPairs (λ (a b : ℕ). a ≢ b)) grown (all_pairs_push (λ (a b : ℕ). a ≢ b) so_far row.name c.loop-k.invariant.apart (λ j d l same. fresh (j, l, get_or_default so_far j row.name d l ∙ same)));
    }
