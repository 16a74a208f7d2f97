use Rattle.std.proofs.Common.{◌≡◌, ◌+◌, ◌-◌, ◌∙◌, length, ap, sym, arith}
use Rattle.std.proofs.lemmas.Bool.{eqb-true}
use Rattle.base.specs.declared.graph.Entry.{Entry}
use Rattle.store_form_2.proofs.StandingRows.{is_whole}
use Rattle.tests_graphs.proofs.Standing.{whole_count}
use Rattle.tests_graphs.proofs.views.is_whole.Goals as goal

pub returns : goal.returns
returns c =
    let last : length c.args.entries.now - 1 + 1 ≡ length c.args.entries.now = omega (arith, c.requires.some) in
    let deps : c.as_slice.result.now ≡ c.index-entries-last.result.deps = c.as_slice.ensures ∙ ap (λ (e : Entry). e.deps) (sym c.index-entries-last.is) in (
      λ t. is_whole c.args.entries.now (length c.args.entries.now - 1) c.index-entries-last.result last c.index-entries-last.is c.requires.stand (sym (ap length deps) ∙ eqb-true _ _ t),
      λ view. let count = ap length deps ∙ whole_count c.args.entries.now (length c.args.entries.now - 1) c.index-entries-last.result last c.index-entries-last.is c.requires.stand view in rw count (grind arith),
    )
