-- Lists of built files as rows of numbers.
use Rattle.std.specs.Prelude.{◌≡◌, ℕ, Bool, true, List}
use Rattle.std.proofs.Common.{ap}
use Rattle.std.specs.Bool.{Decides}
use Rattle.std.specs.Cmp.{IsEquivalence, decided}
use Rattle.std.specs.Cmp.Lexicographic.{pointwise, pointwise_decides}
use Rattle.std.specs.Hash as fed
use Rattle.store_table.specs.declared.products.ProductRow.{ProductRow}
use Rattle.store_table.specs.ProductRows.{is_same_product_row, product_rows_decide}
use Rattle.passes_table.specs.declared.lists.ListRow.{ListRow}
use Rattle.passes_table.specs.Fingerprints.{rows_fingerprint}

-- the same rows, in the same order
abbrev pub is_same_list_row : ListRow → ListRow → Bool
is_same_list_row a b = pointwise is_same_product_row a.files b.files

-- what is hashed of a list
abbrev pub list_sample : ListRow → List (List ℕ)
list_sample list = fed.u64 (rows_fingerprint list.files)

-- the test of two lists is true exactly where they are equal
pub list_rows_decide : (a b : ListRow) → Decides (is_same_list_row a b) (a ≡ b)
list_rows_decide a b =
    let rows = pointwise_decides product_rows_decide a.files b.files in (
      λ e. ap (λ (files : List ProductRow). record { files = files }) (rows.0 e),
      λ e. rows.1 (ap (λ (list : ListRow). list.files) e),
    )

-- the laws of the test
pub list_rows_equal : IsEquivalence is_same_list_row
list_rows_equal = decided is_same_list_row list_rows_decide

-- lists that the test finds the same give the hash the same input
pub list_alike : (a b : ListRow) → is_same_list_row a b ≡ true → list_sample a ≡ list_sample b
list_alike a b e = ap list_sample ((list_rows_decide a b).0 e)
