-- The paths of both, in rising order.
use Rattle.std.proofs.Common.{ℕ, List, filter, sym, subst, ap, ◌∙◌}
use Rattle.std.specs.List.{AllByRecursion}
use Rattle.outside.specs.Trees.{IsName, is_listed, names_end}
use Rattle.memory_outside.specs.Trees.{paths_of, rising_paths}
use Rattle.session_texts.proofs.Listings.{both_names, rising_either_way}
use Rattle.session_texts.proofs.TextLemmas.{path_names}
use Rattle.session_texts.proofs.listing.merge.Goals as goal

pub rising_names-requires : goal.rising_names-requires
rising_names-requires c =
    subst (AllByRecursion IsName) (sym c.in_ok-add_listed.ensures) (both_names c.args.texts.now c.args.paths (path_names c.args.texts.now c.len-count.ensures.allowed.names) c.requires)

pub returns-clause-names : goal.returns-clause-names
returns-clause-names c =
    c.rising_names.ensures.names
    ∙ ap (λ (paths : List (List ℕ)). names_end paths c.args.limit) (ap rising_paths c.in_ok-add_listed.ensures ∙ rising_either_way c.args.paths (filter is_listed (paths_of c.args.texts.now)))
