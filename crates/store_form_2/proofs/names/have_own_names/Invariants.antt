use Rattle.std.proofs.Common.{◌≡◌, ◌≢◌, map, take}
use Rattle.std.specs.Prelude.{AllPairs}
use Rattle.store_form_2.specs.Fits.{name_at}
use Rattle.store_form_2.proofs.names.have_own_names.Given as goal

abbrev pub invariant-loop-dep : goal.invariant-loop-dep
invariant-loop-dep l = (l.names ≡ record { size = l.fn.names.size; numbers = take l.dep-index (map (name_at l.table.rows) l.deps) }) × AllPairs (λ a b. a ≢ b) (take l.dep-index (map (name_at l.table.rows) l.deps))
