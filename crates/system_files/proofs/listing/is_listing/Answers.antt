use Rattle.std.proofs.Common.{◌≡◌, ◌+◌, ◌-◌, arith, add-one}
use Rattle.std.specs.Ordering.{nat_cmp}
use Rattle.std.specs.Cmp.Lexicographic.{slice_cmp}
use Rattle.std.specs.declared.cmp.Ordering.TheVariants.{Less}
use Rattle.std.proofs.Math.ListN.{get_or}
use Rattle.system_files.proofs.Listings.{next-is_greater}
use Rattle.system_files.proofs.listing.is_listing.Goals as goal

pub returns-then-not-is_less : goal.returns-then-not-is_less
returns-then-not-is_less c = (
  λ none. let nothing : ⊥ = cc in absurd nothing,
  λ both.
      let at = c.loop-at.at - 1 in
      let path = c.index-paths-at-then-at-paths.result in
      let next = c.index-paths-at-then-at-paths-2.result in
      let rising : slice_cmp nat_cmp (get_or c.args.paths.now at path) (get_or c.args.paths.now (at + 1) next) ≡ Less =
      rw add-one (next-is_greater c.args.paths.now at path next both.0 (omega (arith, c.if-at-paths.true))) in
      let less : slice_cmp nat_cmp c.bytes-then-at-paths.result.now c.bytes-then-at-paths-2.result.now ≡ Less = cc rising in
      c.if-not-is_less.ensures.1 less,
)
