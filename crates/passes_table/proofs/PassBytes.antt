-- The sizes of payloads of passes, that they can be spelled, and their frames.
use Rattle.std.proofs.Common.{◌≡◌, ℕ, zero, suc, ◌+◌, ◌*◌, ◌^◌, ◌<◌, ◌≤◌, nat_lt, Bool, true, false, List, [], ◌∷◌, ◌++◌, length, get_or, Option, Some, None, refl, ap, ◌∙◌, arith, append_assoc, length-append}
use Rattle.std.specs.Prelude.{All, sum_by}
use Rattle.std.specs.List.{flat_map, position}
use Rattle.std.specs.Str.{bytes_eq}
use Rattle.std.proofs.lemmas.List.Elements.{All-head, All-tail}
use Rattle.std.proofs.lemmas.List.Sums.{sum_by-cons, sum_by-le}
use Rattle.base.specs.declared.file.FileName.{FileName}
use Rattle.base.specs.declared.graph.BuiltFile.{BuiltFile}
use Rattle.base.specs.Bytes.{number_bytes, text_bytes}
use Rattle.base.specs.Jobs.{name_bytes}
use Rattle.base.specs.Names.{FitsCommand}
use Rattle.store_codec.specs.Compaction.{with_compacted_text}
use Rattle.store_codec.specs.Forms.{HasRefSpelling, text_ref_bytes}
use Rattle.store_codec.specs.Writing.{ref_or}
use Rattle.store_codec.proofs.Sized.{length-long, length-short, length-text}
use Rattle.store_journal.specs.Payloads.{block}
use Rattle.store_table.specs.Located.{IsProductRow, row_product, row_products}
use Rattle.store_table.specs.declared.products.ProductRow.{ProductRow}
use Rattle.testbench_runs.specs.declared.runs.TestRun.{TestRun}
use Rattle.testbench_runs.specs.declared.ends.TheConstants.{SHOWN_LIMIT}
use Rattle.testbench_runs.specs.BenchJobs.{texts_bytes}
use Rattle.testbench_runs.specs.Runs.{FitsRun}
use Rattle.passes_codec.specs.Forms.{FileDraft, HasFileSpelling, HasListSpelling, HasPassSpelling, ListRef, file_bytes, files_bytes, flag_byte, list_ref_bytes, pass_bytes, run_bytes}
use Rattle.passes_codec.specs.Forms.ListRef.{KnownList, NewList}
use Rattle.passes_table.specs.declared.writing.TheConstants.{FILE_SIZE, HEAD_SIZE}
use Rattle.passes_spec.specs.Passes.{Pass}
use Rattle.passes_codec.specs.Compaction.{FitsBuilt, FitsPass, list_or, spelled_files, spelled_pass}
use Rattle.passes_codec.specs.PassTables.{PassTable, is_same_list}
use Rattle.passes_codec.proofs.SpelledPasses.{run_spelled}
use Rattle.passes_table.specs.Pending.{known_after, row_drafts, row_ref}

texts_size : (texts : List (List ℕ)) → length (flat_map text_bytes texts) ≡ sum_by (λ text. length text) texts + 4 * length texts
texts_size [] = refl
texts_size (t ∷ ts) = omega (arith, length-append (text_bytes t) (flat_map text_bytes ts), length-text t, texts_size ts, sum_by-cons (λ (text : List ℕ). length text) t ts)

listed_size : (texts : List (List ℕ)) → length (texts_bytes texts) ≡ sum_by (λ text. length text) texts + 4 * length texts + 4
unfolding texts_bytes
listed_size texts = omega (arith, length-append (number_bytes (length texts)) (flat_map text_bytes texts), length-short (length texts), texts_size texts)

run_size : (run : TestRun) → FitsRun run → length (run_bytes run) ≤ 17041000
unfolding run_bytes
run_size run fits =
    let l : List ℕ = text_bytes run.library in
    let b : List ℕ = text_bytes run.bench in
    let a : List ℕ = text_bytes run.architecture in
    let p : List ℕ = text_bytes run.path in
    let c : List ℕ = texts_bytes run.cases in
    let f : List ℕ = flag_byte run.whole ∷ flag_byte run.same_sim ∷ [] in
    omega (
      arith,
      length-append l (b ++ (a ++ (p ++ (c ++ f)))),
      length-append b (a ++ (p ++ (c ++ f))),
      length-append a (p ++ (c ++ f)),
      length-append p (c ++ f),
      length-append c f,
      length-text run.library,
      length-text run.bench,
      length-text run.architecture,
      length-text run.path,
      listed_size run.cases,
      fits.library,
      fits.bench,
      fits.architecture,
      fits.few,
      fits.cases,
      fits.path,
    )

words_size : (words : List (List ℕ)) → FitsCommand words → length (texts_bytes words) ≤ 65796
words_size words fits = omega (arith, listed_size words, sum_by-le (λ (word : List ℕ). length word) 1024 words fits.words, fits.count.at_most)

pub head_size : (run : TestRun) (simulator : List (List ℕ)) → FitsRun run → FitsCommand simulator → length (run_bytes run ++ texts_bytes simulator) ≤ HEAD_SIZE
head_size run simulator fits command = omega (arith, length-append (run_bytes run) (texts_bytes simulator), run_size run fits, words_size simulator command)

-- ## Frames

regroup : (n r s c f o : List ℕ) → (((n ++ (r ++ s)) ++ 1 ∷ c) ++ f) ++ o ≡ n ++ (r ++ (s ++ ((1 ∷ (c ++ f)) ++ o)))
regroup n r s c f o = simp append_assoc

-- the frame of a pass over a new list
pub new_frame : (frame : List ℕ) (size count : ℕ) (run : TestRun) (simulator : List (List ℕ)) (files : List FileDraft) (output : List ℕ) → count ≡ length files → frame ≡ (((number_bytes size ++ (run_bytes run ++ texts_bytes simulator)) ++ 1 ∷ number_bytes count) ++ flat_map file_bytes files) ++ text_bytes output → frame ≡ number_bytes size ++ pass_bytes (record { run = run; simulator = simulator; list = NewList files; output = output })
unfolding pass_bytes list_ref_bytes files_bytes
new_frame frame size count run simulator files output as_many e =
    e
    ∙ ap (λ (n : ℕ). (((number_bytes size ++ (run_bytes run ++ texts_bytes simulator)) ++ 1 ∷ number_bytes n) ++ flat_map file_bytes files) ++ text_bytes output) as_many
    ∙ regroup (number_bytes size) (run_bytes run) (texts_bytes simulator) (number_bytes (length files)) (flat_map file_bytes files) (text_bytes output)

-- the bytes of a payload on a side
pub block_size : (payload : List ℕ) → length (block payload) ≡ length payload + 5
unfolding block
block_size payload = omega (arith, length-text payload)

-- the bytes of a pass
pub pass_size : (run : TestRun) (simulator : List (List ℕ)) (list : ListRef) (output : List ℕ) → length (pass_bytes (record { run = run; simulator = simulator; list = list; output = output })) ≡ length (run_bytes run ++ texts_bytes simulator) + length (list_ref_bytes list) + 4 + length output
unfolding pass_bytes
pass_size run simulator list output =
    let l : List ℕ = list_ref_bytes list in
    omega (
      arith,
      length-append (run_bytes run) (texts_bytes simulator ++ (l ++ text_bytes output)),
      length-append (texts_bytes simulator) (l ++ text_bytes output),
      length-append l (text_bytes output),
      length-text output,
      length-append (run_bytes run) (texts_bytes simulator),
    )

-- the bytes of a list by its number, and of a new list
pub known_list_size : (number : ℕ) → length (list_ref_bytes (KnownList number)) ≡ 9
unfolding list_ref_bytes
known_list_size number = omega (arith, length-long number)

pub new_list_size : (files : List FileDraft) → length (list_ref_bytes (NewList files)) ≡ 5 + length (flat_map file_bytes files)
unfolding list_ref_bytes files_bytes
new_list_size files = omega (arith, length-append (number_bytes (length files)) (flat_map file_bytes files), length-short (length files))

pub new_length : (run : TestRun) (simulator : List (List ℕ)) (files : List FileDraft) (output : List ℕ) → length (pass_bytes (record { run = run; simulator = simulator; list = NewList files; output = output })) ≡ length (run_bytes run ++ texts_bytes simulator) + 5 + length (flat_map file_bytes files) + 4 + length output
new_length run simulator files output = omega (arith, pass_size run simulator (NewList files) output, new_list_size files)

pub known_small : (run : TestRun) (simulator : List (List ℕ)) (number : ℕ) (output : List ℕ) → FitsRun run → FitsCommand simulator → length output ≤ SHOWN_LIMIT → length (pass_bytes (record { run = run; simulator = simulator; list = KnownList number; output = output })) < 2 ^ 32
known_small run simulator number output fits command small = omega (arith, pass_size run simulator (KnownList number) output, known_list_size number, head_size run simulator fits command, small)

-- ## Passes over a table

-- the bytes of a text, by its number or in full
abbrev pub ref_counted : Option ℕ → List ℕ → ℕ
ref_counted (Some number) text = 9
ref_counted None text = length text + 5

ref_size : (known : Option ℕ) (text : List ℕ) → length (text_ref_bytes (ref_or known text)) ≡ ref_counted known text
unfolding text_ref_bytes
ref_size None text = omega (arith, length-text text)
ref_size (Some number) text = omega (arith, length-long number)

-- the bytes of a file of a list
pub file_size : (name : FileName) (text : List ℕ) (known : Option ℕ) → length (file_bytes (record { name = name; artefact = ref_or known text })) ≡ 8 + length name.library + length name.path + ref_counted known text
unfolding file_bytes name_bytes
file_size name text known =
    let n : List ℕ = text_bytes name.library ++ text_bytes name.path in
    omega (
      arith,
      length-append n (text_ref_bytes (ref_or known text)),
      length-append (text_bytes name.library) (text_bytes name.path),
      length-text name.library,
      length-text name.path,
      ref_size known text,
    )

file_small : (file : BuiltFile) (known : Option ℕ) → FitsBuilt file → length (file_bytes (record { name = file.name; artefact = ref_or known file.artefact })) ≤ FILE_SIZE
file_small file None fits = omega (arith, file_size file.name file.artefact None, fits.name.library.at_most, fits.name.path.at_most, fits.artefact)
file_small file (Some number) fits = omega (arith, file_size file.name file.artefact (Some number), fits.name.library.at_most, fits.name.path.at_most)

files_small : (texts : List (List ℕ)) (files : List BuiltFile) → All FitsBuilt files → length (flat_map file_bytes (spelled_files texts files)) ≤ length files * FILE_SIZE
unfolding spelled_files
files_small texts [] fits = omega arith
files_small texts (file ∷ files) fits =
    let known : Option ℕ = position (λ other. bytes_eq other file.artefact) texts in
    let one : List ℕ = file_bytes (record { name = file.name; artefact = ref_or known file.artefact }) in
    let after : List (List ℕ) = with_compacted_text texts file.artefact in
    omega (
      arith,
      length-append one (flat_map file_bytes (spelled_files after files)),
      file_small file known (All-head FitsBuilt file files fits),
      files_small after files (All-tail FitsBuilt file files fits),
    )

-- the payload of a pass within the limits has fewer than 2^32 bytes
pub spelled_small : (table : PassTable) (pass : Pass) → FitsPass pass → length (pass_bytes (spelled_pass table pass)) < 2 ^ 32
spelled_small table pass fits = by (position (λ other. is_same_list other pass.built) table.lists)
  where
    by : (known : Option ℕ) → length (pass_bytes (record { run = pass.run; simulator = pass.simulator; list = list_or known (spelled_files table.texts pass.built); output = pass.output })) < 2 ^ 32
    by None = omega (
      arith,
      new_length pass.run pass.simulator (spelled_files table.texts pass.built) pass.output,
      head_size pass.run pass.simulator fits.run fits.simulator,
      files_small table.texts pass.built fits.files,
      fits.few,
      fits.output,
    )
    by (Some number) = known_small pass.run pass.simulator number pass.output fits.run fits.simulator fits.output

-- ## What can be spelled

pub pass_spelled : (run : TestRun) (simulator : List (List ℕ)) (list : ListRef) (output : List ℕ) → FitsRun run → FitsCommand simulator → HasListSpelling list → length output ≤ SHOWN_LIMIT → HasPassSpelling (record { run = run; simulator = simulator; list = list; output = output })
pass_spelled run simulator list output fits command is small = record {
  run = run_spelled run fits;
  count = omega (arith, command.count.at_most);
  words = λ k d l. omega (arith, command.words k d l);
  list = is;
  output = omega (arith, small);
}

ref_spelled : (all : List (List ℕ)) (known : ℕ) (row : ProductRow) → row.text < length all → length all < 2 ^ 64 → length (get_or all row.text []) < 2 ^ 32 → HasRefSpelling (row_ref all known row)
ref_spelled all known row there few small = by (nat_lt row.text known) refl
  where
    by : (b : Bool) → nat_lt row.text known ≡ b → HasRefSpelling (row_ref all known row)
    by true e = rw (e) (omega (arith, there, few))
    by false e = rw (e) small

pub drafts_spelled : (names : List FileName) (all : List (List ℕ)) (known : ℕ) (rows : List ProductRow) → length all < 2 ^ 64 → All (IsProductRow names all) rows → All FitsBuilt (row_products names all rows) → All HasFileSpelling (row_drafts names all known rows)
unfolding row_drafts
drafts_spelled names all known [] few are fits k d l = absurd (omega (arith, l))
drafts_spelled names all known (row ∷ rows) few are fits zero d l =
    let one : IsProductRow names all row = are 0 row (omega arith) in
    let fit : FitsBuilt (row_product names all row) = fits 0 (row_product names all row) (omega arith) in
    record {
      name = record { library = omega (arith, fit.name.library.at_most); path = omega (arith, fit.name.path.at_most) };
      artefact = ref_spelled all known row one.text few (omega (arith, fit.artefact));
    }
drafts_spelled names all known (row ∷ rows) few are fits (suc k) d l =
    drafts_spelled names all (known_after known row) rows few (λ i e m. are (suc i) e (omega arith)) (λ i e m. fits (suc i) e (omega arith)) k d (omega arith)
