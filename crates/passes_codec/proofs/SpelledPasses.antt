-- What the payloads of some passes stand for: these passes, one after the other.
use Rattle.std.proofs.Common.{◌≡◌, ℕ, suc, ◌+◌, ◌<◌, ◌≤◌, ◌^◌, Bool, true, false, not, List, [], ◌∷◌, ◌++◌, length, get_or, Option, Some, None, refl, sym, ap, subst, ◌∙◌, append_assoc, arith, length-append}
use Rattle.std.specs.Prelude.{All, Contains, sum_by}
use Rattle.std.specs.List.{fold, list_any, position}
use Rattle.std.specs.Str.{bytes_eq}
use Rattle.std.proofs.lemmas.Bool.Decides.{nat_tests, Decides-and}
use Rattle.std.proofs.lemmas.List.{append-nil}
use Rattle.std.proofs.lemmas.List.Elements.{All-cons, All-head, All-nil, All-tail}
use Rattle.std.proofs.lemmas.List.Sums.{get_or-le-sum_by}
use Rattle.std.proofs.lemmas.Slice.Eq.{bytes_eq-Decides}
use Rattle.base.specs.Names.{FitsCommand}
use Rattle.base.specs.declared.graph.BuiltFile.{BuiltFile}
use Rattle.base.specs.declared.limits.TheConstants.{ARTEFACT_LIMIT, FILE_LIMIT, TEXT_LIMIT}
use Rattle.base_bytes.specs.Names.{HasNameSpelling}
use Rattle.base_bytes.specs.Sizes.{has_name_sizes}
use Rattle.base_bytes.specs.TextRefs.{is_text_ref, told_text, with_text}
use Rattle.base_bytes.proofs.Sized.{name_sizes-Decides, nat_le-Decides}
use Rattle.store_codec.specs.Compaction.{compacted_ref, with_compacted_text}
use Rattle.store_codec.specs.Forms.{HasRefSpelling}
use Rattle.store_codec.specs.Writing.{ref_or}
use Rattle.testbench_runs.specs.declared.runs.TestRun.{TestRun}
use Rattle.testbench_runs.specs.Runs.{FitsRun}
use Rattle.passes_spec.specs.Passes.{Pass, last_passes}
use Rattle.passes_spec.proofs.SameTests.{All-last_passes, last_passes_again}
use Rattle.passes_codec.specs.Forms.{FileDraft, HasFileSpelling, HasListSpelling, HasPassSpelling, HasRunSpelling, ListRef, PassDraft, pass_bytes}
use Rattle.passes_codec.specs.Forms.ListRef.{KnownList, NewList}
use Rattle.passes_codec.specs.PassTables.{IsListRef, IsValidPass, PassTable, after_pass_payload, are_listed_files, bare_table, drafted_files, drafted_pass, is_listed_file, is_same_list, pass_table_of, told_list, with_list, with_list_texts, with_pass, with_texts_of}
use Rattle.passes_codec.specs.Compaction.{FitsBuilt, FitsPass, IsNumberable, compacted_passes, compacted_table, list_or, payloads_over, spelled_files, spelled_list, spelled_pass, with_passes}
use Rattle.passes_codec.proofs.Deciding.{same_list-Decides}
use Rattle.passes_codec.proofs.Numbers.{at_number, none_there}
use Rattle.passes_codec.proofs.Once.{adds_pass}

-- ## Texts

not_there : (b : Bool) → b ≡ false → not b ≡ true
not_there true e = absurd cc
not_there false e = refl

module _ (texts : List (List ℕ)) (text : List ℕ) where
  abbrev number : Option ℕ
  number = position (λ other. bytes_eq other text) texts

  ref_there : (known : Option ℕ) → number ≡ known → is_text_ref texts (ref_or known text) ≡ true
  ref_there None e = not_there _ (none_there bytes_eq bytes_eq-Decides texts text e)
  ref_there (Some n) e = (let low : n < length texts = (at_number bytes_eq bytes_eq-Decides texts text n [] e).0 in grind (arith, nat_tests, low))

  ref_tells : (known : Option ℕ) → number ≡ known → told_text texts (ref_or known text) ≡ text
  ref_tells None e = refl
  ref_tells (Some n) e = (at_number bytes_eq bytes_eq-Decides texts text n [] e).1

  ref_spelled : (known : Option ℕ) → number ≡ known → length texts ≤ 2 ^ 64 → length text < 2 ^ 32 → HasRefSpelling (ref_or known text)
  ref_spelled None e few small = small
  ref_spelled (Some n) e few small = (let low : n < length texts = (at_number bytes_eq bytes_eq-Decides texts text n [] e).0 in omega (arith, low, few))

  ref_grows : (known : Option ℕ) → length texts ≤ length (with_text texts (ref_or known text))
  ref_grows None = omega (arith, length-append texts (text ∷ []))
  ref_grows (Some n) = omega arith

  pub text_there : is_text_ref texts (compacted_ref texts text) ≡ true
  text_there = ref_there number refl

  pub text_told : told_text texts (compacted_ref texts text) ≡ text
  text_told = ref_tells number refl

  pub text_spelled : length texts ≤ 2 ^ 64 → length text < 2 ^ 32 → HasRefSpelling (compacted_ref texts text)
  text_spelled = ref_spelled number refl

  pub text_grows : length texts ≤ length (with_compacted_text texts text)
  text_grows = ref_grows number

-- ## Files

pub files_counted : (texts : List (List ℕ)) (files : List BuiltFile) → length (spelled_files texts files) ≡ length files
unfolding spelled_files
files_counted texts [] = refl
files_counted texts (file ∷ files) = ap (λ (n : ℕ). suc n) (files_counted (with_compacted_text texts file.artefact) files)

pub files_told : (texts : List (List ℕ)) (files : List BuiltFile) → drafted_files texts (spelled_files texts files) ≡ files
unfolding drafted_files spelled_files
files_told texts [] = refl
files_told texts (file ∷ files) =
    let after : List (List ℕ) = with_compacted_text texts file.artefact in
    let rest : List BuiltFile = drafted_files after (spelled_files after files) in
    let told : told_text texts (compacted_ref texts file.artefact) ≡ file.artefact = text_told texts file.artefact in
    let first : BuiltFile = record { name = file.name; artefact = told_text texts (compacted_ref texts file.artefact) } in
    let same : first ≡ file = ap (λ (a : List ℕ). record { name = file.name; artefact = a }) told in
    ap (λ (f : BuiltFile). f ∷ rest) same ∙ ap (λ (fs : List BuiltFile). file ∷ fs) (files_told after files)

file_listed : (texts : List (List ℕ)) (file : BuiltFile) → FitsBuilt file → is_listed_file texts (record { name = file.name; artefact = compacted_ref texts file.artefact }) ≡ true
file_listed texts file fits =
    let short : length (told_text texts (compacted_ref texts file.artefact)) ≤ ARTEFACT_LIMIT = subst (λ (a : List ℕ). length a ≤ ARTEFACT_LIMIT) (sym (text_told texts file.artefact)) fits.artefact in
    rw ((name_sizes-Decides file.name).1 fits.name, text_there texts file.artefact) ((nat_le-Decides (length (told_text texts (compacted_ref texts file.artefact))) ARTEFACT_LIMIT).1 short)

files_listed : (texts : List (List ℕ)) (files : List BuiltFile) → All FitsBuilt files → are_listed_files texts (spelled_files texts files) ≡ true
unfolding are_listed_files spelled_files
files_listed texts [] fits = refl
files_listed texts (file ∷ files) fits =
    rw (file_listed texts file (All-head FitsBuilt file files fits)) (files_listed (with_compacted_text texts file.artefact) files (All-tail FitsBuilt file files fits))

texts_grow : (texts : List (List ℕ)) (files : List BuiltFile) → length texts ≤ length (with_list_texts texts (spelled_files texts files))
unfolding with_list_texts spelled_files
texts_grow texts [] = omega arith
texts_grow texts (file ∷ files) =
    let after : List (List ℕ) = with_compacted_text texts file.artefact in
    omega (arith, text_grows texts file.artefact, texts_grow after files)

name_spelled : (file : BuiltFile) → FitsBuilt file → HasNameSpelling file.name
name_spelled file fits = record { library = omega (arith, fits.name.library.at_most); path = omega (arith, fits.name.path.at_most) }

files_spelled : (texts : List (List ℕ)) (files : List BuiltFile) → All FitsBuilt files → length (with_list_texts texts (spelled_files texts files)) ≤ 2 ^ 64 → All HasFileSpelling (spelled_files texts files)
unfolding with_list_texts spelled_files
files_spelled texts [] fits few = All-nil HasFileSpelling
files_spelled texts (file ∷ files) fits few =
    let after : List (List ℕ) = with_compacted_text texts file.artefact in
    let one = All-head FitsBuilt file files fits in
    let grow = texts_grow after files in
    All-cons HasFileSpelling (record { name = file.name; artefact = compacted_ref texts file.artefact }) (spelled_files after files)
    (record { name = name_spelled file one; artefact = text_spelled texts file.artefact (omega (arith, text_grows texts file.artefact, grow, few)) (omega (arith, one.artefact)) })
    (files_spelled after files (All-tail FitsBuilt file files fits) few)

-- ## Lists

module _ (table : PassTable) (built : List BuiltFile) where
  abbrev list_number : Option ℕ
  list_number = position (λ other. is_same_list other built) table.lists

  abbrev ref : Option ℕ → ListRef
  ref known = list_or known (spelled_files table.texts built)

  list_by : (known : Option ℕ) → list_number ≡ known → length built ≤ FILE_LIMIT → All FitsBuilt built → IsListRef table (ref known)
  list_by None e few fits =
      (subst (λ (n : ℕ). n ≤ FILE_LIMIT) (sym (files_counted table.texts built)) few, files_listed table.texts built fits, ap (λ (fs : List BuiltFile). list_any (is_same_list fs) table.lists) (files_told table.texts built) ∙ none_there is_same_list same_list-Decides table.lists built e)
  list_by (Some n) e few fits = (at_number is_same_list same_list-Decides table.lists built n [] e).0

  told_by : (known : Option ℕ) → list_number ≡ known → told_list table (ref known) ≡ built
  told_by None e = files_told table.texts built
  told_by (Some n) e = (at_number is_same_list same_list-Decides table.lists built n [] e).1

  spelled_by : (known : Option ℕ) → list_number ≡ known → length built ≤ FILE_LIMIT → All FitsBuilt built → length (with_texts_of table.texts (ref known)) ≤ 2 ^ 64 → length table.lists ≤ 2 ^ 64 → HasListSpelling (ref known)
  spelled_by None e few fits texts lists = (subst (λ (n : ℕ). n < 2 ^ 32) (sym (files_counted table.texts built)) (omega (arith, few)), files_spelled table.texts built fits texts)
  spelled_by (Some n) e few fits texts lists = (let low : n < length table.lists = (at_number is_same_list same_list-Decides table.lists built n [] e).0 in omega (arith, low, lists))

  grows_by : (known : Option ℕ) → (length table.texts ≤ length (with_texts_of table.texts (ref known))) × (length table.lists ≤ length (with_list table (ref known)))
  grows_by None = (texts_grow table.texts built, omega (arith, length-append table.lists (drafted_files table.texts (spelled_files table.texts built) ∷ [])))
  grows_by (Some n) = (omega arith, omega arith)

-- ## Passes

short_names : (names : List (List ℕ)) → sum_by (λ name. length name) names ≤ TEXT_LIMIT → All (λ name. length name < 2 ^ 32) names
short_names names short k d low = omega (arith, get_or-le-sum_by (λ (name : List ℕ). length name) names k d low, short)

pub run_spelled : (run : TestRun) → FitsRun run → HasRunSpelling run
run_spelled run fits = record {
  library = omega (arith, fits.library);
  bench = omega (arith, fits.bench);
  architecture = omega (arith, fits.architecture);
  path = omega (arith, fits.path);
  few = omega (arith, fits.few);
  cases = short_names run.cases fits.cases;
}

module _ (table : PassTable) (pass : Pass) where
  abbrev after : PassTable
  after = with_pass table (spelled_pass table pass)

  pub pass_valid : FitsPass pass → IsValidPass table (spelled_pass table pass)
  pass_valid fits = record { run = fits.run; simulator = fits.simulator; list = list_by table pass.built (list_number table pass.built) refl fits.few fits.files; output = fits.output }

  pub pass_spelled : FitsPass pass → length after.texts ≤ 2 ^ 64 → length table.lists ≤ 2 ^ 64 → HasPassSpelling (spelled_pass table pass)
  pass_spelled fits texts lists = record {
    run = run_spelled pass.run fits.run;
    count = omega (arith, fits.simulator.count.at_most);
    words = λ k d low. omega (arith, fits.simulator.words k d low);
    list = spelled_by table pass.built (list_number table pass.built) refl fits.few fits.files texts lists;
    output = omega (arith, fits.output);
  }

  pub pass_told : drafted_pass table (spelled_pass table pass) ≡ pass
  pass_told = ap (λ (built : List BuiltFile). record { run = pass.run; simulator = pass.simulator; built = built; output = pass.output }) (told_by table pass.built (list_number table pass.built) refl)

  pub pass_grows : (length table.texts ≤ length after.texts) × (length table.lists ≤ length after.lists)
  pass_grows = grows_by table pass.built (list_number table pass.built)

  pub pass_added : after.passes ≡ table.passes ++ pass ∷ []
  pass_added = ap (λ (p : Pass). table.passes ++ p ∷ []) pass_told

passes_grow : (table : PassTable) (passes : List Pass) → (length table.texts ≤ length (with_passes table passes).texts) × (length table.lists ≤ length (with_passes table passes).lists)
unfolding with_passes
passes_grow table [] = (omega arith, omega arith)
passes_grow table (pass ∷ passes) =
    let one = pass_grows table pass in
    let rest = passes_grow (with_pass table (spelled_pass table pass)) passes in
    (omega (arith, one.0, rest.0), omega (arith, one.1, rest.1))

-- the payloads of passes over a table add these passes
pub payloads_add : (table : PassTable) (passes : List Pass) → All FitsPass passes → IsNumberable (with_passes table passes) → fold after_pass_payload table (payloads_over table passes) ≡ with_passes table passes
unfolding with_passes payloads_over
payloads_add table [] fits few = refl
payloads_add table (pass ∷ passes) fits few =
    let next : PassTable = with_pass table (spelled_pass table pass) in
    let one = All-head FitsPass pass passes fits in
    let grow = passes_grow next passes in
    let before = pass_grows table pass in
    let spelled = pass_spelled table pass one (omega (arith, grow.0, few.texts)) (omega (arith, before.1, grow.1, few.lists)) in
    ap (λ (t : PassTable). fold after_pass_payload t (payloads_over next passes)) (adds_pass table (spelled_pass table pass) (pass_valid table pass one) spelled)
    ∙ payloads_add next passes (All-tail FitsPass pass passes fits) few

pub passes_added : (table : PassTable) (passes : List Pass) → (with_passes table passes).passes ≡ table.passes ++ passes
unfolding with_passes
passes_added table [] = sym (append-nil table.passes)
passes_added table (pass ∷ passes) =
    passes_added (with_pass table (spelled_pass table pass)) passes
    ∙ ap (λ (ps : List Pass). ps ++ passes) (pass_added table pass)
    ∙ append_assoc table.passes (pass ∷ []) passes

pub one_each : (table : PassTable) (passes : List Pass) → length (payloads_over table passes) ≡ length passes
unfolding payloads_over
one_each table [] = refl
one_each table (pass ∷ passes) = ap (λ (n : ℕ). suc n) (one_each (with_pass table (spelled_pass table pass)) passes)

pub compacted_stand : (passes : List Pass) → All FitsPass passes → IsNumberable (compacted_table passes) → pass_table_of (compacted_passes passes) ≡ compacted_table passes
unfolding pass_table_of compacted_passes
compacted_stand passes fits few = payloads_add bare_table (last_passes passes) (All-last_passes FitsPass passes fits) few

pub compacted_each : (passes : List Pass) → length (compacted_passes passes) ≡ length (last_passes passes)
unfolding compacted_passes
compacted_each passes = one_each bare_table (last_passes passes)

pub compacted_are : (passes : List Pass) → (compacted_table passes).passes ≡ last_passes passes
compacted_are passes = passes_added bare_table (last_passes passes)

-- compaction of the last passes gives the same payloads
pub compacted_again : (passes : List Pass) → compacted_passes (last_passes passes) ≡ compacted_passes passes
unfolding compacted_passes
compacted_again passes = ap (payloads_over bare_table) (last_passes_again passes)
