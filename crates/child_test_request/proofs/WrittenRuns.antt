-- A request that was written file by file is the one of all its files.
use Rattle.std.proofs.Common.{◌≡◌, ℕ, ◌≤◌, List, ◌++◌, length, take, ap, ◌∙◌}
use Rattle.std.specs.Prelude.{codes}
use Rattle.std.specs.List.{flat_map}
use Rattle.std.proofs.lemmas.List.{append_assoc, take_all}
use Rattle.base.specs.declared.graph.BuiltFile.{BuiltFile}
use Rattle.base.specs.declared.child.Request.{Request}
use Rattle.base.specs.declared.child.MaybeText.{MaybeText}
use Rattle.base.specs.declared.child.MaybeText.TheVariants.{Given}
use Rattle.base.specs.Bytes.{number_bytes, text_bytes}
use Rattle.base.specs.Jobs.{built_bytes, all_built_bytes}
use Rattle.testbench_runs.specs.declared.runs.TestRun.{TestRun}
use Rattle.testbench_runs.specs.Runs.{results_path}
use Rattle.testbench_runs.specs.Configuration.{configuration}
use Rattle.testbench_runs.specs.BenchJobs.{bench_input, bench_job, bench_request, texts_bytes}
use Rattle.child_test_request.specs.Written.{WrittenRun, begun_run_input}

pub bench_input-is : (run : TestRun) (files : List BuiltFile) → begun_run_input run (length files) ++ flat_map built_bytes files ≡ bench_input (bench_job run files)
unfolding begun_run_input bench_input all_built_bytes
bench_input-is run files =
    let rest : List ℕ = flat_map built_bytes files in
    let count : List ℕ = number_bytes (length files) in
    let c : List ℕ = text_bytes (configuration run) in
    let r : List ℕ = text_bytes (results_path run) in
    let k : List ℕ = texts_bytes run.cases in
    let a : List ℕ = text_bytes run.architecture in
    let b : List ℕ = text_bytes run.bench in
    let l : List ℕ = text_bytes run.library in
    append_assoc (codes "VRB1") (l ++ (b ++ (a ++ (k ++ (c ++ (r ++ count)))))) rest
    ∙ ap (λ (x : List ℕ). codes "VRB1" ++ x) (append_assoc l (b ++ (a ++ (k ++ (c ++ (r ++ count))))) rest
    ∙ ap (λ (x : List ℕ). l ++ x) (append_assoc b (a ++ (k ++ (c ++ (r ++ count)))) rest
    ∙ ap (λ (x : List ℕ). b ++ x) (append_assoc a (k ++ (c ++ (r ++ count))) rest
    ∙ ap (λ (x : List ℕ). a ++ x) (append_assoc k (c ++ (r ++ count)) rest
    ∙ ap (λ (x : List ℕ). k ++ x) (append_assoc c (r ++ count) rest
    ∙ ap (λ (x : List ℕ). c ++ x) (append_assoc r count rest))))))

-- where all files are written, the request is that of the run over them
pub written_bench : (request : Request) (run : TestRun) (simulator : List (List ℕ)) (files all : List BuiltFile) (written : WrittenRun) (count : ℕ) → all ≡ files → length all ≤ count
    → request.command ≡ written.command → request.input ≡ written.input → request.results ≡ Given written.results → written.command ≡ simulator → written.results ≡ results_path run
    → written.input ≡ begun_run_input run (length all) ++ flat_map built_bytes (take count all) → request ≡ bench_request run simulator files
written_bench request run simulator files all written count same enough words input results command path bytes =
    let whole : take count all ≡ files = take_all count all enough ∙ same in
    let is_input : request.input ≡ bench_input (bench_job run files) =
    input ∙ bytes ∙ ap (λ (l : List BuiltFile). begun_run_input run (length all) ++ flat_map built_bytes l) whole
    ∙ ap (λ (l : List BuiltFile). begun_run_input run (length l) ++ flat_map built_bytes files) same ∙ bench_input-is run files in
    ap (λ (w : List (List ℕ)). record { command = w; input = request.input; results = request.results }) (words ∙ command)
    ∙ ap (λ (i : List ℕ). record { command = simulator; input = i; results = request.results }) is_input
    ∙ ap (λ (r : MaybeText). record { command = simulator; input = bench_input (bench_job run files); results = r }) (results ∙ ap Given path)
