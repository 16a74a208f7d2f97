use Rattle.std.proofs.Common.{◌≡◌, ◌∙◌, get_or, ap, sym, subst}
use Rattle.std.proofs.lemmas.List.{get_or_default}
use Rattle.base.specs.declared.graph.Entry.{Entry}
use Rattle.tests_graphs.specs.Validity.{HoldsAll}
use Rattle.tests_graphs.proofs.closed.is_closed.Goals as goal

pub returns : goal.returns
returns c =
    let same : (e : Entry) → get_or c.args.entries.now c.args.rank e ≡ c.index-entries-rank.result = λ e. get_or_default c.args.entries.now c.args.rank e c.index-entries-rank.result c.requires.rank ∙ sym c.index-entries-rank.is in (
      λ t e. subst (HoldsAll c.args.entries.now) (c.as_slice-deps.ensures ∙ ap (λ (x : Entry). x.deps) (same c.index-entries-rank.result ∙ sym (same e))) (c.all_cover.ensures.0 t),
      λ h. c.all_cover.ensures.1 (subst (HoldsAll c.args.entries.now) (sym c.as_slice-deps.ensures) (h c.index-entries-rank.result)),
    )
