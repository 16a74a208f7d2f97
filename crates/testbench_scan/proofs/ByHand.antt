-- The definitions at small texts, worked out by hand.
use Rattle.std.proofs.Common.{◌≡◌, true, false, [], ◌∷◌, Some, None, codes, refl}
use Rattle.testbench_scan.specs.Benches.{bench_name, first_repeated, is_control}

-- the name that came before, in this bench or an earlier one
repeated : first_repeated (codes "l.e.a" ∷ []) (codes "l.e.b" ∷ codes "l.e.b" ∷ codes "l.e.a" ∷ []) ≡ Some (codes "l.e.b")
repeated = refl

none_repeated : first_repeated (codes "l.e.a" ∷ []) (codes "l.e.A" ∷ codes "l.e.b" ∷ []) ≡ None
none_repeated = refl

named : bench_name (codes "lib") (codes "t") ≡ codes "lib.t"
named = refl

escape : is_control 31 ≡ true
escape = refl

blank : is_control 32 ≡ false
blank = refl
