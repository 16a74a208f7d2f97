-- If the base lists too many paths, the overlay does too.
use Rattle.std.proofs.Common.{sym, ◌∙◌}
use Rattle.session_texts.proofs.Listings.{still_too_many}
use Rattle.session_texts.proofs.overlay.OverlayTree.names.Goals as goal

pub returns-in-TooMany-clause-names : goal.returns-in-TooMany-clause-names
returns-in-TooMany-clause-names g c tells =
    still_too_many c.args.self.now.texts.now (g.T.Tree.listed c.args.self.now.base.now) c.args.limit (g.met.T.Tree.lists c.args.self.now.base.now).rising
    (sym c.in-TooMany.is ∙ c.in_ok-paths.ensures.names tells)
