-- The links of the files of numbers.
use Rattle.std.proofs.Common.{◌≡◌, zero, suc, ℕ, ◌/◌, ◌^◌, ◌<◌, ◌≤◌, true, List, [], map, ap, ◌∙◌, arith}
use Rattle.std.specs.Prelude.{◌==◌, Ok, Contains}
use Rattle.std.proofs.lemmas.Bool.Decides.{nat_tests}
use Rattle.std.proofs.lemmas.List.Elements.{recursion_from_All}
use Rattle.vhdl_spec.specs.Dependencies.{link_of, link_units}
use Rattle.vhdl_spec.specs.Scans.{Clean, Finding, IsScanner}
use Rattle.generated_sources.proofs.BenchFindings.{bench_found}
use Rattle.generated_sources.proofs.PackageFindings.{package_found}
use Rattle.generated_sources.specs.NumberedFiles.{AreAllNumbers, AreNumbers, numbered_edges, numbered_file, numbered_project, numbered_scan, numbered_bytes, uses_number}
use Rattle.generated_sources.proofs.Edges.{edges_are}
use Rattle.generated_sources.proofs.NoFaults.{all_linked}
use Rattle.generated_sources.proofs.Slots.{units_are}

pub links_are : (command simulator external : List (List ℕ)) (edited : ℕ) (numbers : List ℕ) → AreNumbers numbers →
    link_of (numbered_project command simulator external numbers) (link_units 0 (map (numbered_file command) numbers) (map (numbered_bytes edited) numbers) (map (numbered_scan edited) numbers)) ≡ Ok (record { edges = numbered_edges numbers; warnings = [] })
links_are command simulator external edited numbers are =
    ap (link_of (numbered_project command simulator external numbers)) (units_are command edited 0 numbers (recursion_from_All (λ n. n < 2 ^ 64) numbers are.small))
    ∙ all_linked command simulator external numbers are
    ∙ ap (λ (edges : List (List ℕ)). Ok (record { edges = edges; warnings = [] })) (edges_are command simulator external numbers are)

pub numbered_found : (scan : List ℕ → Finding) (edited number : ℕ) → IsScanner scan → number < 2 ^ 64 → scan (numbered_bytes edited number) ≡ Clean (numbered_scan edited number)
numbered_found scan edited zero scans small = bench_found scan scans
numbered_found scan edited (suc before) scans small = package_found scan (suc before) (suc before == edited) scans small

used_within : (count user used : ℕ) → 1 ≤ count → user ≤ count → uses_number user used ≡ true → used ≤ count
used_within count zero used some low uses = let one : used ≡ 1 = grind (arith, nat_tests) in omega (arith, some, one)
used_within count (suc before) used some low uses = let half : used ≡ suc before / 2 = grind (arith, nat_tests) in omega (arith, low, half)

pub all_numbers : (count : ℕ) (numbers : List ℕ) → 1 ≤ count → count < 2 ^ 64 → AreAllNumbers count numbers → AreNumbers numbers
all_numbers count numbers some small all = record {
  small = λ k d lt. let low = all.within k d lt in omega (arith, small, low);
  distinct = all.distinct;
  closed = λ user used has uses. all.every used (used_within count user used some (contained count numbers all user has) uses);
} where
  contained : (count : ℕ) (numbers : List ℕ) → AreAllNumbers count numbers → (user : ℕ) → Contains numbers user → user ≤ count
  contained count numbers all user has = let low = all.within has.0 user has.1 in omega (arith, low, has.2)
