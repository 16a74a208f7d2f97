-- Payloads of a small project, worked out by hand: the package counter_pkg, the entity counter and the bench tb_counter with its
-- cases `reset` and `count & wrap`, over the built-in simulator. A side has 19 bytes, and 5 for each payload beside its own.
use Rattle.std.proofs.Common.{◌≡◌, ℕ, ◌+◌, true, false, List, [], ◌∷◌, ◌++◌, length, codes, refl}
use Rattle.base.specs.declared.graph.BuiltFile.{BuiltFile}
use Rattle.base.specs.Bytes.{text_bytes}
use Rattle.base.specs.Jobs.{name_bytes}
use Rattle.base_bytes.specs.TextRefs.{TextRef, ref_by_number_at, ref_in_full_at, text_ref_at, text_ref_by}
use Rattle.base_bytes.specs.TextRefs.TextRef.{ByNumber, InFull}
use Rattle.base_bytes.specs.Reading.{counted_at, many_at, text_at}
use Rattle.base_bytes.specs.Names.{name_at}
use Rattle.store_codec.specs.Forms.{text_ref_bytes}
use Rattle.testbench_runs.specs.declared.runs.TestRun.{TestRun}
use Rattle.testbench_runs.specs.BenchJobs.{texts_bytes}
use Rattle.passes_spec.specs.Passes.{Pass, last_passes}
use Rattle.passes_codec.specs.Compaction.{compacted_passes, payloads_over, spelled_files}
use Rattle.passes_codec.specs.Forms.{FileDraft, ListRef, file_at, file_bytes, files_bytes, flag_at, known_list_at, list_ref_at, list_ref_by, list_ref_bytes, new_list_at, pass_bytes, pass_in, run_at, run_bytes}
use Rattle.passes_codec.specs.Forms.ListRef.{KnownList, NewList}
use Rattle.passes_codec.specs.PassTables.{after_pass_payload, are_listed_files, drafted_files, has_run_sizes, is_list_ref, is_valid_pass, pass_table_of, passes_among, with_list_texts}

-- a run of one case of the bench
abbrev run_of_case : List ℕ → TestRun
run_of_case name = record { library = codes "tb_lib"; bench = codes "tb_counter"; architecture = codes "sim"; cases = name ∷ []; whole = false; same_sim = false; path = codes "tb/tb_counter.vhd" }

-- its payload over a list, with no output
abbrev payload : List ℕ → ListRef → List ℕ
payload name list = pass_bytes (record { run = run_of_case name; simulator = codes "@self" ∷ codes "child-bench" ∷ []; list = list; output = [] })

abbrev package_file : TextRef → FileDraft
package_file artefact = record { name = record { library = codes "lib"; path = codes "src/counter_pkg.vhd" }; artefact = artefact }

abbrev counter_file : TextRef → FileDraft
counter_file artefact = record { name = record { library = codes "lib"; path = codes "src/counter.vhd" }; artefact = artefact }

abbrev bench_file : TextRef → FileDraft
bench_file artefact = record { name = record { library = codes "tb_lib"; path = codes "tb/tb_counter.vhd" }; artefact = artefact }

-- artefacts: 25, 53 and 59 bytes
abbrev of_package : List ℕ
of_package = codes "unit package counter_pkg" ++ 10 ∷ []

abbrev of_counter : List ℕ
of_counter = codes "unit entity counter" ++ (10 ∷ codes "unit architecture rtl of counter" ++ 10 ∷ [])

abbrev of_bench : List ℕ
of_bench = codes "unit entity tb_counter" ++ (10 ∷ codes "unit architecture sim of tb_counter" ++ 10 ∷ [])

-- the list of the first run, that after a note in counter.vhd, and that after a line in the bench that lets `reset` fail
abbrev first_list : ListRef
first_list = NewList (package_file (InFull of_package) ∷ counter_file (InFull of_counter) ∷ bench_file (InFull of_bench) ∷ [])

abbrev noted_list : ListRef
noted_list = NewList (package_file (ByNumber 0) ∷ counter_file (InFull (of_counter ++ (codes "script note 1" ++ 10 ∷ []))) ∷ bench_file (ByNumber 2) ∷ [])

abbrev failing_list : ListRef
failing_list = NewList (package_file (ByNumber 0) ∷ counter_file (ByNumber 1) ∷ bench_file (InFull (of_bench ++ (codes "script fail tb_lib.tb_counter.reset" ++ 10 ∷ []))) ∷ [])

-- the size of a side with these payloads
abbrev side_size : List (List ℕ) → ℕ
side_size [] = 19
side_size (bytes ∷ payloads) = 5 + length bytes + side_size payloads

abbrev first_run : List (List ℕ) → List (List ℕ)
first_run more = payload (codes "reset") first_list ∷ payload (codes "count & wrap") (KnownList 0) ∷ more

abbrev after_note : List (List ℕ) → List (List ℕ)
after_note more = first_run (payload (codes "reset") noted_list ∷ payload (codes "count & wrap") (KnownList 1) ∷ more)

-- a first run: 367 bytes after its first end, and 487 after its second
pub first_end : side_size (payload (codes "reset") first_list ∷ []) ≡ 367
unfolding pass_bytes run_bytes file_bytes files_bytes list_ref_bytes text_ref_bytes texts_bytes text_bytes name_bytes
first_end = refl

pub both_ends : side_size (first_run []) ≡ 487
unfolding pass_bytes run_bytes file_bytes files_bytes list_ref_bytes text_ref_bytes texts_bytes text_bytes name_bytes
both_ends = refl

-- after the note both run over a new list with two numbers and one new text; after it is taken out again, over the first list
pub noted : side_size (after_note []) ≡ 893
unfolding pass_bytes run_bytes file_bytes files_bytes list_ref_bytes text_ref_bytes texts_bytes text_bytes name_bytes
noted = refl

pub taken_out : side_size (after_note (payload (codes "reset") (KnownList 0) ∷ payload (codes "count & wrap") (KnownList 0) ∷ [])) ≡ 1126
unfolding pass_bytes run_bytes file_bytes files_bytes list_ref_bytes text_ref_bytes texts_bytes text_bytes name_bytes
taken_out = refl

-- where `reset` fails, the other case alone is recorded; without the line it runs over the first list again
pub failing : side_size (first_run (payload (codes "count & wrap") failing_list ∷ [])) ≡ 808
unfolding pass_bytes run_bytes file_bytes files_bytes list_ref_bytes text_ref_bytes texts_bytes text_bytes name_bytes
failing = refl

pub mended : side_size (first_run (payload (codes "count & wrap") failing_list ∷ payload (codes "count & wrap") (KnownList 0) ∷ [])) ≡ 928
unfolding pass_bytes run_bytes file_bytes files_bytes list_ref_bytes text_ref_bytes texts_bytes text_bytes name_bytes
mended = refl

-- ## What small payloads stand for

-- a pass without texts in its run, over a list, with the output `o`
abbrev small : ListRef → List ℕ
small list = pass_bytes (record { run = record { library = []; bench = []; architecture = []; cases = []; whole = true; same_sim = false; path = [] }; simulator = codes "s" ∷ []; list = list; output = codes "o" })

abbrev one_file : TextRef → FileDraft
one_file artefact = record { name = record { library = codes "l"; path = codes "p" }; artefact = artefact }

-- 00000000 00000000 00000000 00000000 00000000 01 00 01000000 01000000 73 00 0000000000000000 01000000 6f
pub spelled : small (KnownList 0) ≡ 0 ∷ 0 ∷ 0 ∷ 0 ∷ 0 ∷ 0 ∷ 0 ∷ 0 ∷ 0 ∷ 0 ∷ 0 ∷ 0 ∷ 0 ∷ 0 ∷ 0 ∷ 0 ∷ 0 ∷ 0 ∷ 0 ∷ 0 ∷ 1 ∷ 0 ∷ 1 ∷ 0 ∷ 0 ∷ 0 ∷ 1 ∷ 0 ∷ 0 ∷ 0 ∷ 115 ∷ 0 ∷ 0 ∷ 0 ∷ 0 ∷ 0 ∷ 0 ∷ 0 ∷ 0 ∷ 0 ∷ 1 ∷ 0 ∷ 0 ∷ 0 ∷ 111 ∷ []
unfolding pass_bytes run_bytes file_bytes files_bytes list_ref_bytes text_ref_bytes texts_bytes text_bytes name_bytes
spelled = refl

-- how many passes payloads stand for
abbrev count : List (List ℕ) → ℕ
count payloads = length (passes_among payloads)

-- a new list counts once, and then by its number, as its text does; a number of no list, and a list that is there, add nothing
pub counted : count (small (NewList (one_file (InFull (codes "a")) ∷ [])) ∷ small (KnownList 0) ∷ small (KnownList 1) ∷ small (NewList (one_file (ByNumber 0) ∷ [])) ∷ small (NewList (one_file (InFull (codes "a")) ∷ [])) ∷ []) ≡ 2
unfolding pass_table_of after_pass_payload is_valid_pass has_run_sizes is_list_ref are_listed_files drafted_files with_list_texts pass_in run_at flag_at list_ref_at list_ref_by known_list_at new_list_at file_at text_ref_at text_ref_by ref_by_number_at ref_in_full_at name_at text_at counted_at many_at pass_bytes run_bytes file_bytes files_bytes list_ref_bytes text_ref_bytes texts_bytes text_bytes name_bytes
counted = refl

-- a file may have the number of a new text before it in its list, and not repeat this text
pub within_list : count (small (NewList (one_file (InFull (codes "a")) ∷ one_file (ByNumber 0) ∷ [])) ∷ []) ≡ 1
unfolding pass_table_of after_pass_payload is_valid_pass has_run_sizes is_list_ref are_listed_files drafted_files with_list_texts pass_in run_at flag_at list_ref_at list_ref_by known_list_at new_list_at file_at text_ref_at text_ref_by ref_by_number_at ref_in_full_at name_at text_at counted_at many_at pass_bytes run_bytes file_bytes files_bytes list_ref_bytes text_ref_bytes texts_bytes text_bytes name_bytes
within_list = refl

pub repeated : count (small (NewList (one_file (InFull (codes "a")) ∷ one_file (InFull (codes "a")) ∷ [])) ∷ []) ≡ 0
unfolding pass_table_of after_pass_payload is_valid_pass has_run_sizes is_list_ref are_listed_files drafted_files with_list_texts pass_in run_at flag_at list_ref_at list_ref_by known_list_at new_list_at file_at text_ref_at text_ref_by ref_by_number_at ref_in_full_at name_at text_at counted_at many_at pass_bytes run_bytes file_bytes files_bytes list_ref_bytes text_ref_bytes texts_bytes text_bytes name_bytes
repeated = refl

-- ## What compaction keeps

-- a pass of tests that the simulator's word tells apart, over files with these artefacts
abbrev small_pass : List ℕ → List BuiltFile → Pass
small_pass word built = record { run = record { library = []; bench = []; architecture = []; cases = []; whole = true; same_sim = false; path = [] }; simulator = word ∷ []; built = built; output = codes "o" }

abbrev built_file : List ℕ → List ℕ → BuiltFile
built_file path artefact = record { name = record { library = codes "l"; path = path }; artefact = artefact }

abbrev file_of : List ℕ → TextRef → FileDraft
file_of path artefact = record { name = record { library = codes "l"; path = path }; artefact = artefact }

abbrev two_files : List BuiltFile
two_files = built_file (codes "p") (codes "a") ∷ built_file (codes "q") (codes "a") ∷ []

-- the last pass of the same tests is kept, with its list, in which the second file has the number of its artefact; the next pass has the
-- number of this list
pub compacted : compacted_passes (small_pass (codes "s") (built_file (codes "p") (codes "b") ∷ []) ∷ small_pass (codes "s") two_files ∷ small_pass (codes "t") two_files ∷ [])
    ≡ small (NewList (file_of (codes "p") (InFull (codes "a")) ∷ file_of (codes "q") (ByNumber 0) ∷ []))
    ∷ pass_bytes (record { run = (small_pass [] []).run; simulator = codes "t" ∷ []; list = KnownList 0; output = codes "o" })
    ∷ []
unfolding last_passes compacted_passes payloads_over spelled_files drafted_files with_list_texts pass_bytes run_bytes file_bytes files_bytes list_ref_bytes text_ref_bytes texts_bytes text_bytes name_bytes
compacted = refl
