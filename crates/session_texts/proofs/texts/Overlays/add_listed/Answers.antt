-- The keys are the paths.
use Rattle.std.proofs.Common.{ℕ, List, ◌++◌, Vec, Global, filter, map, ap, ◌∙◌}
use Rattle.outside.specs.Trees.{is_listed}
use Rattle.memory_outside.specs.Trees.{paths_of}
use Rattle.session_texts.proofs.TextLemmas.{key_paths}
use Rattle.session_texts.proofs.texts.Overlays.add_listed.Goals as goal

pub loop-path-init : goal.loop-path-init
loop-path-init c = (
  tt,
  tt,
  ap (λ (keys : List (Vec ℕ Global)). c.args.paths.now ++ filter is_listed (map (λ key. key.items) keys)) (c.into_iter-path-iterator.ensures.into_iter_gives ∙ c.keys-path-items.ensures.rest)
      ∙ ap (λ (paths : List (List ℕ)). c.args.paths.now ++ filter is_listed paths) (key_paths c.self.inside.map.entries ∙ ap paths_of c.self.view_is),
)
