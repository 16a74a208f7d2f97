-- What the map has.
use Rattle.std.proofs.Common.{List, ap, ◌∙◌}
use Rattle.base.specs.declared.file.NamedText.{NamedText}
use Rattle.memory_outside.specs.Trees.{file_at}
use Rattle.session_texts.proofs.TextLemmas.{got_is}
use Rattle.session_texts.proofs.texts.Overlays.get.Goals as goal

pub returns : goal.returns
returns c = c.get.ensures.value ∙ (got_is c.self.inside.map.entries c.args.path.now ∙ ap (λ (texts : List NamedText). file_at texts c.args.path.now) c.self.view_is)
