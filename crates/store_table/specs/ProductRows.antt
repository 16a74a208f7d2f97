-- Products as rows of numbers.
use Rattle.std.specs.Prelude.{◌≡◌, ℕ, Bool, true, ◌&&◌, ◌==◌, List, ◌++◌}
use Rattle.std.proofs.Common.{ap, ◌∙◌}
use Rattle.std.specs.Bool.{Decides}
use Rattle.std.specs.Hash as fed
use Rattle.std.proofs.lemmas.Bool.Decides.{Decides-and, Decides-eqb}
use Rattle.store_table.specs.declared.products.ProductRow.{ProductRow}

-- the same numbers of the name and of the text
abbrev pub is_same_product_row : ProductRow → ProductRow → Bool
is_same_product_row a b = a.name == b.name && a.text == b.text

-- what is hashed of a row
abbrev pub product_sample : ProductRow → List (List ℕ)
product_sample row = fed.usize row.name ++ fed.usize row.text

-- the test of two rows is true exactly where they are equal
pub product_rows_decide : (a b : ProductRow) → Decides (is_same_product_row a b) (a ≡ b)
product_rows_decide a b =
    let all = Decides-and _ _ (Decides-eqb a.name b.name) (Decides-eqb a.text b.text) in (
      λ e.
          let same = all.0 e in
          ap (λ (n : ℕ). record { name = n; text = a.text }) same.0 ∙ ap (λ (n : ℕ). record { name = b.name; text = n }) same.1,
      λ e. all.1 (ap (λ (r : ProductRow). r.name) e, ap (λ (r : ProductRow). r.text) e),
    )

-- rows that the test finds the same give the hash the same input
pub product_alike : (a b : ProductRow) → is_same_product_row a b ≡ true → product_sample a ≡ product_sample b
product_alike a b e = ap product_sample ((product_rows_decide a b).0 e)
