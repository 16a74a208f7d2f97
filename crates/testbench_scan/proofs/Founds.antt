-- The benches so far, one more, and the first fault.
use Rattle.std.proofs.Common.{◌≡◌, ℕ, ◌+◌, ◌<◌, zero, suc, Option, None, List, [], ◌∷◌, ◌++◌, append_assoc, append-nil, length, map, take, drop, get_or, refl, sym, ◌∙◌, ap, arith}
use Rattle.std.specs.Prelude.{Result, Ok, Err}
use Rattle.std.specs.List.{flat_map}
use Rattle.std.specs.Option.{option_map_or, option_or}
use Rattle.std.proofs.lemmas.List.{map-append}
use Rattle.std.proofs.lemmas.List.Concat.{flat_map-append}
use Rattle.base_outcomes.specs.declared.bench.Bench.{Bench}
use Rattle.base_outcomes.specs.declared.bench.TestFault.{TestFault}
use Rattle.base.specs.declared.memory.OrMemory.{OrMemory}
use Rattle.base.specs.declared.memory.OrMemory.TheVariants.{NoMemory, Fault}
use Rattle.base.specs.declared.refs.UnitId.{UnitId}
use Rattle.testbench_scan.specs.Benches.{GivesTests, ScannedFiles, bench_at, bench_fault, first_bench_fault, found_bench, names_of_found, tests_found}
use Rattle.testbench_scan.specs.Paths.{HoldsFullNames}
use Rattle.testbench_scan.specs.Results.{GivesBench, IsTestFault}
use Rattle.testbench_scan.specs.declared.names.Names.{Names}

abbrev FoundList : Type 0
FoundList = List (Result Bench TestFault)

-- a list is what comes before an element, the element, and what comes after it
pub split_here : {X : Type 0} (xs : List X) (i : ℕ) (d : X) → i < length xs → xs ≡ take i xs ++ get_or xs i d ∷ drop (i + 1) xs
split_here [] i d within = absurd (omega arith)
split_here (y ∷ ys) zero d within = refl
split_here {X} (y ∷ ys) (suc i) d within = let e : suc i + 1 ≡ suc (i + 1) = omega arith in rw e (ap (λ (zs : List X). y ∷ zs) (split_here ys i d (omega arith)))

pub mapped_split : {X Y : Type 0} (f : X → Y) (xs : List X) (i : ℕ) (d : X) → i < length xs → map f xs ≡ map f (take i xs) ++ f (get_or xs i d) ∷ map f (drop (i + 1) xs)
mapped_split f xs i d within = ap (map f) (split_here xs i d within) ∙ map-append f (take i xs) (get_or xs i d ∷ drop (i + 1) xs)

pub parts_push : {X Y : Type 0} (f : X → List Y) (xs : List X) (x : X) → flat_map f (xs ++ x ∷ []) ≡ flat_map f xs ++ f x
parts_push {X} {Y} f xs x = flat_map-append f xs (x ∷ []) ∙ ap (λ (ys : List Y). flat_map f xs ++ ys) (append-nil (f x))

-- no bench of a list has a fault: the first fault of a longer list is that of the benches that follow
abbrev pub NoneFails : FoundList → Type 0
NoneFails found = (rest : FoundList) → first_bench_fault [] (found ++ rest) ≡ first_bench_fault (flat_map names_of_found found) rest

pub none_fails_more : (found : FoundList) (one : Result Bench TestFault) → NoneFails found → bench_fault (flat_map names_of_found found) one ≡ None → NoneFails (found ++ one ∷ [])
none_fails_more found one none told rest =
    ap (first_bench_fault []) (append_assoc found (one ∷ []) rest) ∙ none (one ∷ rest)
    ∙ ap (λ (o : Option TestFault). option_or o (first_bench_fault (flat_map names_of_found found ++ names_of_found one) rest)) told
    ∙ ap (λ (names : List (List ℕ)). first_bench_fault names rest) (sym (parts_push names_of_found found one))

-- this is the first fault
pub fails_here : (found after all : FoundList) (one : Result Bench TestFault) (fault : OrMemory TestFault) → NoneFails found → all ≡ found ++ one ∷ after → IsTestFault (bench_fault (flat_map names_of_found found) one) fault → IsTestFault (first_bench_fault [] all) fault
fails_here found after all one NoMemory none is told = tt
fails_here found after all one (Fault fault) none is told = ap (first_bench_fault []) is ∙ none (one ∷ after) ∙ ap (λ (o : Option TestFault). option_or o (first_bench_fault (flat_map names_of_found found ++ names_of_found one) after)) told

-- the answer if a bench has a fault
pub gives_fault : (found : FoundList) (fault : OrMemory TestFault) → IsTestFault (first_bench_fault [] found) fault → GivesTests (tests_found found) (Err fault)
gives_fault found NoMemory is = tt
gives_fault found (Fault fault) is = ap (λ (o : Option TestFault). option_map_or (λ (f : TestFault). Err f) o (Ok (flat_map found_bench found))) is

-- the answer if no bench has a fault
pub gives_all : (found : FoundList) (tests : List Bench) → NoneFails found → tests ≡ flat_map found_bench found → GivesTests (tests_found found) (Ok tests)
gives_all found tests none is =
    let nothing : first_bench_fault [] found ≡ None = ap (first_bench_fault []) (sym (append-nil found)) ∙ none [] in
    ap (λ (o : Option TestFault). option_map_or (λ (f : TestFault). Err f) o (Ok (flat_map found_bench found))) nothing ∙ ap (λ (bs : List Bench). Ok bs) (sym is)

-- the fault of a bench that isn't found
pub found_fault : (before : List (List ℕ)) (found : Result Bench TestFault) (fault : OrMemory TestFault) → GivesBench found (Err fault) → IsTestFault (bench_fault before found) fault
found_fault before found NoMemory is = tt
found_fault before found (Fault fault) is = ap (bench_fault before) is

-- the benches of the entities before an index, without a fault
pub record AreSoFar (sources : ScannedFiles) (entities : List UnitId) (index : ℕ) (full_names : Names) (benches : List Bench) : Type 0 where
  pub names : HoldsFullNames full_names (flat_map names_of_found (map (bench_at sources) (take index entities)))
  pub tests : benches ≡ flat_map found_bench (map (bench_at sources) (take index entities))
  pub none : NoneFails (map (bench_at sources) (take index entities))
