-- The scan of the file of the bench.
use Rattle.generated_sources.proofs.BenchFindings.{architecture_linked, bench_found, bench_is_scan, entity_linked}
use Rattle.generated_sources.proofs.text_laws.laws_of_bench.Goals as goal

pub returns-clause-is_scan : goal.returns-clause-is_scan
returns-clause-is_scan c = bench_is_scan

pub returns-clause-found : goal.returns-clause-found
returns-clause-found c = bench_found

pub returns-clause-entity : goal.returns-clause-entity
returns-clause-entity c = entity_linked

pub returns-clause-architecture : goal.returns-clause-architecture
returns-clause-architecture c = architecture_linked
