-- The test of a draft of a pass decides what a valid one has.
use Rattle.std.proofs.Common.{◌≡◌, ℕ, Bool, true, false, not, ◌∙◌, List, length, refl, ap}
use Rattle.std.specs.Prelude.{sum_by}
use Rattle.std.specs.Bool.{Decides}
use Rattle.std.specs.List.{list_any}
use Rattle.std.specs.Cmp.Lexicographic.{pointwise_decides}
use Rattle.std.proofs.lemmas.Bool.Decides.{Decides-like, Decides-and, Decides-ltb}
use Rattle.std.proofs.lemmas.Slice.Eq.{bytes_eq-Decides}
use Rattle.base.specs.declared.file.FileName.{FileName}
use Rattle.base.specs.declared.graph.BuiltFile.{BuiltFile}
use Rattle.base.specs.declared.limits.TheConstants.{CASE_LIMIT, FILE_LIMIT, PATH_LIMIT, TEXT_LIMIT}
use Rattle.base_bytes.proofs.Sized.{command_sizes-Decides, nat_le-Decides, same_name-Decides}
use Rattle.testbench_runs.specs.declared.runs.TestRun.{TestRun}
use Rattle.testbench_runs.specs.declared.ends.TheConstants.{SHOWN_LIMIT}
use Rattle.testbench_runs.specs.Runs.{FitsRun}
use Rattle.passes_spec.specs.KnownRuns.{is_same_file}
use Rattle.passes_codec.specs.Forms.{ListRef, PassDraft}
use Rattle.passes_codec.specs.Forms.ListRef.{KnownList, NewList}
use Rattle.passes_codec.specs.PassTables.{IsListRef, IsValidPass, PassTable, are_listed_files, drafted_files, has_run_sizes, is_list_ref, is_same_list, is_valid_pass}

same_file-Decides : (a b : BuiltFile) → Decides (is_same_file a b) (a ≡ b)
same_file-Decides a b =
    Decides-like (is_same_file a b)
    (λ h. ap (λ (name : FileName). record { name = name; artefact = a.artefact }) h.0 ∙ ap (λ (artefact : List ℕ). record { name = b.name; artefact = artefact }) h.1)
    (λ e. (ap (λ (f : BuiltFile). f.name) e, ap (λ (f : BuiltFile). f.artefact) e))
    (Decides-and _ _ (same_name-Decides a.name b.name) (bytes_eq-Decides a.artefact b.artefact))

pub same_list-Decides : (a b : List BuiltFile) → Decides (is_same_list a b) (a ≡ b)
same_list-Decides = pointwise_decides same_file-Decides

-- a test as what it says
itself : (b : Bool) → Decides b (b ≡ true)
itself b = (λ e. e, λ e. e)

not_itself : (b : Bool) → Decides (not b) (b ≡ false)
not_itself true = (λ e. absurd cc, λ e. absurd cc)
not_itself false = (λ e. refl, λ e. refl)

run_sizes-Decides : (run : TestRun) → Decides (has_run_sizes run) (FitsRun run)
unfolding has_run_sizes
run_sizes-Decides run =
    Decides-like (has_run_sizes run)
    (λ h. record { library = h.0; bench = h.1.0; architecture = h.1.1.0; few = h.1.1.1.0; cases = h.1.1.1.1.0; path = h.1.1.1.1.1 })
    (λ is. (is.library, (is.bench, (is.architecture, (is.few, (is.cases, is.path))))))
    (Decides-and _ _ (nat_le-Decides (length run.library) TEXT_LIMIT)
    (Decides-and _ _ (nat_le-Decides (length run.bench) TEXT_LIMIT)
    (Decides-and _ _ (nat_le-Decides (length run.architecture) TEXT_LIMIT)
    (Decides-and _ _ (nat_le-Decides (length run.cases) CASE_LIMIT)
    (Decides-and _ _ (nat_le-Decides (sum_by (λ name. length name) run.cases) TEXT_LIMIT) (nat_le-Decides (length run.path) PATH_LIMIT))))))

list_ref-Decides : (table : PassTable) (list : ListRef) → Decides (is_list_ref table list) (IsListRef table list)
unfolding is_list_ref
list_ref-Decides table (KnownList number) = Decides-ltb number (length table.lists)
list_ref-Decides table (NewList files) =
    Decides-like (is_list_ref table (NewList files))
    (λ h. (h.0, h.1.0, h.1.1))
    (λ is. (is.0, (is.1, is.2)))
    (Decides-and _ _ (nat_le-Decides (length files) FILE_LIMIT)
    (Decides-and _ _ (itself (are_listed_files table.texts files)) (not_itself (list_any (is_same_list (drafted_files table.texts files)) table.lists))))

pub valid_pass-Decides : (table : PassTable) (draft : PassDraft) → Decides (is_valid_pass table draft) (IsValidPass table draft)
unfolding is_valid_pass
valid_pass-Decides table draft =
    Decides-like (is_valid_pass table draft)
    (λ h. record { run = h.0; simulator = h.1.0; list = h.1.1.0; output = h.1.1.1 })
    (λ is. (is.run, (is.simulator, (is.list, is.output))))
    (Decides-and _ _ (run_sizes-Decides draft.run)
    (Decides-and _ _ (command_sizes-Decides draft.simulator)
    (Decides-and _ _ (list_ref-Decides table draft.list) (nat_le-Decides (length draft.output) SHOWN_LIMIT))))
