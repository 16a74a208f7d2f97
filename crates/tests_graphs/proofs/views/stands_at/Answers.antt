use Rattle.std.proofs.Common.{◌↔◌, IsTrue, Bool}
use Rattle.std.proofs.lemmas.Result.{IfOk-weaker}
use Rattle.store_form_2.specs.Validity.{StandsAt}
use Rattle.tests_graphs.specs.Validity.{HasClosedDeps}
use Rattle.tests_graphs.proofs.Standing.{stands, is_closed}
use Rattle.tests_graphs.proofs.views.stands_at.Goals as goal

pub returns : goal.returns
returns c =
    let fits = c.fits_file.ensures.0 c.if-not-fits_file.false in
    let rising = c.rise_below.ensures.rising c.if-not-rise_below.false in
    let below = c.rise_below.ensures.below c.if-not-rise_below.false in
    IfOk-weaker c.is_closed.result (λ (is : Bool). IsTrue is ↔ HasClosedDeps c.args.entries.now c.args.rank) (λ (is : Bool). IsTrue is ↔ StandsAt c.args.entries.now c.args.rank)
    (λ is both. (
      λ t. stands c.args.entries.now c.args.rank c.index-entries-rank.result c.requires.rank c.index-entries-rank.is fits (rw c.as_slice.ensures at rising) (rw c.as_slice.ensures at below) (both.0 t),
      λ at. both.1 (is_closed c.args.entries.now c.args.rank at),
    ))
    c.is_closed.ensures
