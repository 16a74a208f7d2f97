-- Sorted paths without repeats are the listing.
use Rattle.std.proofs.Common.{◌≡◌, ◌<◌, ◌≤◌, List, length, sym, subst, ap, ◌∙◌, arith}
use Rattle.std.specs.Prelude.{ℕ, IsPermutation}
use Rattle.std.specs.List.{AllByRecursion}
use Rattle.outside.specs.Trees.{IsRising, IsName}
use Rattle.outside.specs.declared.tree.NamesEnd.TheVariants as names
use Rattle.memory_outside.specs.Trees.{rising_paths}
use Rattle.memory_outside.specs.TreeLaws.{rises, sorted_rising}
use Rattle.memory_outside.proofs.ListingLemmas.{listing_is, names_rise, all_names, too_many_names}
use Rattle.memory_outside.proofs.listing.rising_names.Goals as goal

pub returns-then-len-limit-clause-names : goal.returns-then-len-limit-clause-names
returns-then-len-limit-clause-names c =
    let moved : IsPermutation c.args.paths c.sort_paths.new.paths.items = rw c.into_vec-all.ensures at c.sort_paths.ensures.permutation in
    let is : c.drop_repeats.new.paths.items ≡ rising_paths c.args.paths = c.drop_repeats.ensures ∙ listing_is c.args.paths c.sort_paths.new.paths.items moved c.sort_paths.ensures.sorted in
    let many : c.args.limit < length c.drop_repeats.new.paths.items = omega arith in
    too_many_names (rising_paths c.args.paths) c.args.limit (subst (λ (l : List (List ℕ)). c.args.limit < length l) is many)

pub returns-clause-form : goal.returns-clause-form
returns-clause-form c =
    let moved : IsPermutation c.args.paths c.sort_paths.new.paths.items = rw c.into_vec-all.ensures at c.sort_paths.ensures.permutation in
    let is : c.from_vec.result ≡ rising_paths c.args.paths = c.from_vec.ensures ∙ c.drop_repeats.ensures ∙ listing_is c.args.paths c.sort_paths.new.paths.items moved c.sort_paths.ensures.sorted in
    let short : length c.from_vec.result ≤ c.args.limit = rw c.from_vec.ensures (omega arith) in (
      short,
      subst IsRising (sym is) (rises (rising_paths c.args.paths) (sorted_rising c.args.paths)),
      subst (AllByRecursion IsName) (sym is) (names_rise c.args.paths c.requires),
    )

pub returns-clause-names : goal.returns-clause-names
returns-clause-names c =
    let moved : IsPermutation c.args.paths c.sort_paths.new.paths.items = rw c.into_vec-all.ensures at c.sort_paths.ensures.permutation in
    let is : c.from_vec.result ≡ rising_paths c.args.paths = c.from_vec.ensures ∙ c.drop_repeats.ensures ∙ listing_is c.args.paths c.sort_paths.new.paths.items moved c.sort_paths.ensures.sorted in
    let short : length c.from_vec.result ≤ c.args.limit = rw c.from_vec.ensures (omega arith) in
    ap (λ (l : List (List ℕ)). names.Got l) is ∙ all_names (rising_paths c.args.paths) c.args.limit (subst (λ (l : List (List ℕ)). length l ≤ c.args.limit) is short)
