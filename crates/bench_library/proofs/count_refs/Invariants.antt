-- The references of the units so far.
use Rattle.std.proofs.Common.{◌≡◌, ◌%◌, ◌^◌, length, take}
use Rattle.std.specs.List.{sum_by}
use Rattle.vhdl_spec.specs.References.{refs_of}
use Rattle.bench_library.proofs.count_refs.Given as goal

abbrev pub invariant-loop-unit : goal.invariant-loop-unit
invariant-loop-unit l = l.count ≡ sum_by (λ unit. length (refs_of l.text l.scan.tokens.list unit)) (take l.unit l.scan.units) % 2 ^ 64
