-- The keys are ordered.
use Rattle.std.proofs.Common.{List, subst}
use Rattle.base.specs.declared.file.NamedText.{NamedText}
use Rattle.outside.specs.Trees.{IsRising}
use Rattle.memory_outside.specs.Trees.{paths_of}
use Rattle.session_texts.proofs.TextLemmas.{rising_entries}
use Rattle.session_texts.proofs.texts.Overlays.len.Goals as goal

pub returns-clause-rising : goal.returns-clause-rising
returns-clause-rising c =
    subst (λ (texts : List NamedText). IsRising (paths_of texts)) c.self.view_is (rising_entries c.self.inside.map.entries c.len.ensures.ordered)
