-- The paths that a tree of these files lists are names.
use Rattle.std.proofs.Common.{List, ap, sym, subst, ◌∙◌}
use Rattle.std.specs.Prelude.{ℕ}
use Rattle.std.specs.List.{AllByRecursion}
use Rattle.outside.specs.Trees.{IsName, names_end}
use Rattle.memory_outside.specs.Trees.{rising_paths}
use Rattle.memory_outside.proofs.ListingLemmas.{each_name}
use Rattle.memory_outside.proofs.listing.listing.Goals as goal

pub rising_names-requires : goal.rising_names-requires
rising_names-requires c = subst (AllByRecursion IsName) (sym (c.from_vec.ensures ∙ c.in_ok-paths.ensures)) (each_name c.args.files.now c.requires)

pub returns-clause-names : goal.returns-clause-names
returns-clause-names c = c.rising_names.ensures.names ∙ ap (λ (paths : List (List ℕ)). names_end (rising_paths paths) c.args.limit) (c.from_vec.ensures ∙ c.in_ok-paths.ensures)
