use Rattle.std.proofs.Common.{rules, nat_eq}
use Rattle.std.specs.Cmp.Lexicographic.{pointwise}
use Rattle.std.proofs.lemmas.Fn.{dedup_same}
use Rattle.memory_outside.proofs.listing.drop_repeats.Goals as goal

pub returns : goal.returns
returns c = dedup_same _ (pointwise nat_eq) _ (λ x y b f' x' y' k. search rules) _ _ c.dedup_by.ensures.filtered
