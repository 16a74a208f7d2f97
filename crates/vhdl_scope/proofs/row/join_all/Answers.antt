-- The runs are merged, or there was no bit more.
use Rattle.std.proofs.Common.{◌≡◌, ◌<◌, ◌||◌, ℕ, List, Vec, Global, ap, subst, sym}
use Rattle.vhdl_scope.specs.declared.row.Run.{Run}
use Rattle.vhdl_scope.specs.Bits.{gap, row_has}
use Rattle.vhdl_scope.specs.Rows.{AreMergedTo, row_words}
use Rattle.vhdl_scope.proofs.RowLemmas.{merged_bits, merged_grows}
use Rattle.vhdl_scope.proofs.row.join_all.Goals as goal

pub returns-then-grown-clause-bits : goal.returns-then-grown-clause-bits
returns-then-grown-clause-bits c =
    let merged = subst (λ (some : List Run). AreMergedTo c.args.words some c.args.other.now c.merge.new.merged.items c.in_ok-grown.grown) c.as_slice.ensures.value c.in_ok-grown.ensures in
    let same : c.swap.new.x.items ≡ c.merge.new.merged.items = ap (λ (some : Vec Run Global). some.items) c.swap.ensures.x_after in
    subst (λ (some : List Run). (number : ℕ) → row_has (row_words c.args.words some) number ≡ (row_has (row_words c.args.words c.args.runs.now.items) number || row_has (row_words c.args.words c.args.other.now) number)) (sym same)
    (merged_bits c.args.words c.args.runs.now.items c.args.other.now c.merge.new.merged.items (λ at below. merged.runs.told 0 at below))

pub returns-then-grown-clause-grows : goal.returns-then-grown-clause-grows
returns-then-grown-clause-grows c grew =
    let merged = subst (λ (some : List Run). AreMergedTo c.args.words some c.args.other.now c.merge.new.merged.items c.in_ok-grown.grown) c.as_slice.ensures.value c.in_ok-grown.ensures in
    let same : c.swap.new.x.items ≡ c.merge.new.merged.items = ap (λ (some : Vec Run Global). some.items) c.swap.ensures.x_after in
    subst (λ (some : List Run). gap (row_words c.args.words some) < gap (row_words c.args.words c.args.runs.now.items)) (sym same)
    (merged_grows c.args.words c.args.runs.now.items c.args.other.now c.merge.new.merged.items merged.runs merged.fit (merged.more grew))

pub returns-else-grown-clause-bits : goal.returns-else-grown-clause-bits
returns-else-grown-clause-bits c =
    let merged = subst (λ (some : List Run). AreMergedTo c.args.words some c.args.other.now c.merge.new.merged.items c.in_ok-grown.grown) c.as_slice.ensures.value c.in_ok-grown.ensures in
    merged_bits c.args.words c.args.runs.now.items c.args.other.now c.args.runs.now.items (λ at below. sym (merged.same c.if-grown.false at below))
