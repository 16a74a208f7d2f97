-- The dependencies of a project whose files are too many to be kept, and the whole project.
use Rattle.std.proofs.Common.{◌≡◌, ℕ, ◌+◌, ◌<◌, ◌≤◌, Bool, true, false, cond, List, [], ◌∷◌, length, drop, get_or, map, Option, Some, None, Ok, Err, Result, refl, sym, ap, ◌∙◌}
use Rattle.std.specs.Prelude.{codes, nat_le}
use Rattle.std.proofs.lemmas.List.{drop_more, drop_all}
use Rattle.toml.specs.Data.{Members, as_table}
use Rattle.base.specs.declared.file.FileName.{FileName}
use Rattle.base.specs.declared.memory.OrMemory.{OrMemory}
use Rattle.base.specs.declared.project.Pair.{Pair}
use Rattle.base.specs.declared.project.Project.{Project}
use Rattle.base.specs.declared.project.ProjectFile.{ProjectFile}
use Rattle.base.specs.declared.project.ProjectFault.{ProjectFault}
use Rattle.base.specs.declared.limits.TheConstants.{FILE_LIMIT}
use Rattle.project_file.specs.Csv.{then_read}
use Rattle.project_file.specs.Steps.{ReadsStep}
use Rattle.project_file.specs.Toml.{array_of, linked_project, named_file, optional, pair_of, pairs_of, index_of_file}
use Rattle.project_file.specs.Few.{few_files, few_of, few_said, faults_of, checked_links, checked_pair}
use Rattle.project_file.proofs.LibrarySum.{fault_ends, fault_before, reads_same}
use Rattle.project_file.proofs.TomlNames.{ok_same, then_ok}

pub checked_pair_is : (files : List ProjectFile) (table : Members) → checked_pair files table ≡ faults_of (pair_of files table)
unfolding pair_of
checked_pair_is files table = first (named_file (codes "library") (codes "path") table) (named_file (codes "on_library") (codes "on_path") table)
  where
    last : (user used : Result ℕ ProjectFault) → then_read (faults_of user) (λ known. faults_of used) ≡ faults_of {T = Pair} (then_read user (λ user. then_read used (λ used. Ok (record { user = user; used = used }))))
    last (Ok user) (Ok used) = refl
    last (Ok user) (Err fault) = refl
    last (Err fault) used = refl

    first : (user used : Result FileName ProjectFault)
        → then_read user (λ user. then_read used (λ used. then_read (faults_of (index_of_file files user)) (λ known. faults_of (index_of_file files used)))) ≡ faults_of {T = Pair} (then_read user (λ user. then_read used (λ used. then_read (index_of_file files user) (λ user. then_read (index_of_file files used) (λ used. Ok (record { user = user; used = used }))))))
    first (Ok user) (Ok used) = last (index_of_file files user) (index_of_file files used)
    first (Ok user) (Err fault) = refl
    first (Err fault) used = refl

-- the check of a dependency whose two files are named: both must be files of the project
pub pair_named : (files : List ProjectFile) (table : Members) (user used : FileName) → named_file (codes "library") (codes "path") table ≡ Ok user → named_file (codes "on_library") (codes "on_path") table ≡ Ok used → checked_pair files table ≡ then_read (faults_of (index_of_file files user)) (λ known. faults_of (index_of_file files used))
pair_named files table user used first second =
    ap (λ (s : Result FileName ProjectFault). then_read s (λ user. then_read (named_file (codes "on_library") (codes "on_path") table) (λ used. then_read (faults_of (index_of_file files user)) (λ known. faults_of (index_of_file files used))))) first
    ∙ ap (λ (s : Result FileName ProjectFault). then_read s (λ used. then_read (faults_of (index_of_file files user)) (λ known. faults_of (index_of_file files used)))) second

pub pair_fails : (files : List ProjectFile) (table : Members) (user used : FileName) (fault : OrMemory ProjectFault) → named_file (codes "library") (codes "path") table ≡ Ok user → named_file (codes "on_library") (codes "on_path") table ≡ Ok used → ReadsStep (faults_of (index_of_file files user)) (Err fault) → ReadsStep (checked_pair files table) (Err fault)
pair_fails files table user used fault first second is = reads_same _ _ (Err fault) (sym (pair_named files table user used first second)) (fault_ends _ (λ known. faults_of (index_of_file files used)) fault is)

pub pair_goes_on : (files : List ProjectFile) (table : Members) (user used : FileName) (result : Result (Unit {0}) (OrMemory ProjectFault)) → named_file (codes "library") (codes "path") table ≡ Ok user → named_file (codes "on_library") (codes "on_path") table ≡ Ok used → faults_of (index_of_file files user) ≡ Ok tt → ReadsStep (faults_of (index_of_file files used)) result → ReadsStep (checked_pair files table) result
pair_goes_on files table user used result first second known is =
    reads_same _ _ result (sym (pair_named files table user used first second ∙ ap (λ s. then_read s (λ known. faults_of (index_of_file files used))) known)) is

-- a dependency more
module _ {V : Type 0} (see : V → Members) (files : List ProjectFile) (tables : List V) (i : ℕ) (table : V) (low : i < length tables) (at : table ≡ get_or tables i table) (whole : Result (Unit {0}) ProjectFault)
    (kept : faults_of (pairs_of files (map see (drop i tables))) ≡ whole) where
  here : faults_of (pairs_of files (map see (drop i tables))) ≡ then_read (faults_of (pair_of files (see table))) (λ done. faults_of (pairs_of files (map see (drop (i + 1) tables))))
  unfolding pairs_of
  here = ap (λ ts. faults_of (pairs_of files (map see ts))) (drop_more tables i table low ∙ ap (λ t. t ∷ drop (i + 1) tables) (sym at)) ∙ by (pair_of files (see table)) (pairs_of files (map see (drop (i + 1) tables)))
    where
      by : (pair : Result Pair ProjectFault) (others : Result (List Pair) ProjectFault) → faults_of {T = List Pair} (then_read pair (λ pair. then_read others (λ pairs. Ok (pair ∷ pairs)))) ≡ then_read (faults_of pair) (λ done. faults_of others)
      by (Ok pair) (Ok others) = refl
      by (Ok pair) (Err fault) = refl
      by (Err fault) others = refl

  pub link_more : checked_pair files (see table) ≡ Ok tt → faults_of (pairs_of files (map see (drop (i + 1) tables))) ≡ whole
  link_more is = ap (λ s. then_read s (λ done. faults_of (pairs_of files (map see (drop (i + 1) tables))))) (sym (sym (checked_pair_is files (see table)) ∙ is)) ∙ sym here ∙ kept

  pub link_fails : (fault : OrMemory ProjectFault) → ReadsStep (checked_pair files (see table)) (Err fault) → ReadsStep whole (Err fault)
  link_fails fault is = reads_same _ _ (Err fault) (sym here ∙ kept) (fault_ends _ _ fault (reads_same _ _ (Err fault) (checked_pair_is files (see table)) is))

pub links_all : {V : Type 0} (see : V → Members) (files : List ProjectFile) (tables : List V) (i : ℕ) (whole : Result (Unit {0}) ProjectFault) → length tables ≤ i → faults_of (pairs_of files (map see (drop i tables))) ≡ whole → whole ≡ Ok tt
unfolding pairs_of
links_all see files tables i whole past kept = sym kept ∙ ap (λ ts. faults_of (pairs_of files (map see ts))) (drop_all i tables past)

-- ## The project

pub checked_links_is : (files : List ProjectFile) (simulator external : List (List ℕ)) (bodies : Bool) (table : Members) → checked_links files table ≡ faults_of (linked_project files simulator external bodies table)
unfolding linked_project
checked_links_is files simulator external bodies table = by (optional (array_of as_table) [] [] (codes "depends") table)
  where
    last : (pairs : Result (List Pair) ProjectFault) → faults_of pairs ≡ faults_of {T = Project} (then_read pairs (λ depends. Ok (record { files = files; simulator = simulator; external = external; bodies = bodies; depends = depends; listed = false })))
    last (Ok pairs) = refl
    last (Err fault) = refl

    by : (tables : Result (List Members) ProjectFault) → then_read tables (λ tables. faults_of (pairs_of files tables)) ≡ faults_of {T = Project} (then_read tables (λ tables. then_read (pairs_of files tables) (λ depends. Ok (record { files = files; simulator = simulator; external = external; bodies = bodies; depends = depends; listed = false }))))
    by (Ok tables) = last (pairs_of files tables)
    by (Err fault) = refl

linked_files : (files : List ProjectFile) (simulator external : List (List ℕ)) (bodies : Bool) (table : Members) (project : Project) → linked_project files simulator external bodies table ≡ Ok project → project.files ≡ files
unfolding linked_project
linked_files files simulator external bodies table project h =
    let tables = then_ok (optional (array_of as_table) [] [] (codes "depends") table) _ project h in
    let depends = then_ok (pairs_of files tables.0) _ project tables.2 in
    ap (λ (p : Project). p.files) (sym (ok_same (record { files = files; simulator = simulator; external = external; bodies = bodies; depends = depends.0; listed = false }) project depends.2))

-- files are kept just where they are few
few_kept : (files kept : List ProjectFile) → few_files files ≡ Some kept → (files ≡ kept) × (nat_le (length kept) FILE_LIMIT ≡ true)
few_kept files kept is = by (nat_le (length files) FILE_LIMIT) refl is
  where
    by : (b : Bool) → nat_le (length files) FILE_LIMIT ≡ b → cond b (Some files) None ≡ Some kept → (files ≡ kept) × (nat_le (length kept) FILE_LIMIT ≡ true)
    by true few same = let files_same : files ≡ kept = cc in (files_same, ap (λ fs. nat_le (length fs) FILE_LIMIT) (sym files_same) ∙ few)
    by false few same = absurd cc

few_over : (files : List ProjectFile) → few_files files ≡ None → nat_le (length files) FILE_LIMIT ≡ false
few_over files is = by (nat_le (length files) FILE_LIMIT) is
  where
    by : (b : Bool) → cond b (Some files) None ≡ None → b ≡ false
    by true same = absurd cc
    by false same = refl

module _ (said : Result (List ProjectFile) ProjectFault) (simulator external : List (List ℕ)) (bodies : Bool) (table : Members) where
  -- the project of the files that are said
  abbrev pub said_project : Result Project ProjectFault
  said_project = then_read said (λ files. linked_project files simulator external bodies table)

  module _ (kept : List ProjectFile) (is : then_read said (λ files. Ok (few_files files)) ≡ Ok (Some kept)) where
    pub kept_said : (said ≡ Ok kept) × (nat_le (length kept) FILE_LIMIT ≡ true)
    kept_said =
        let files = then_ok said (λ files. Ok (few_files files)) (Some kept) is in
        let few = few_kept files.0 kept (ok_same (few_files files.0) (Some kept) files.2) in
        (files.1 ∙ ap Ok few.0, few.1)

    said_is : said_project ≡ linked_project kept simulator external bodies table
    said_is = ap (λ s. then_read s (λ files. linked_project files simulator external bodies table)) kept_said.0

    pub few_is : (project : Project) → linked_project kept simulator external bodies table ≡ Ok project → few_said said_project ≡ Ok (Some project)
    few_is project linked =
        ap few_said (said_is ∙ linked) ∙ ap (λ (b : Bool). Ok (cond b (Some project) None)) (ap (λ fs. nat_le (length fs) FILE_LIMIT) (linked_files kept simulator external bodies table project linked) ∙ kept_said.1)

    pub few_fails : (fault : OrMemory ProjectFault) → ReadsStep (linked_project kept simulator external bodies table) (Err fault) → ReadsStep (few_said said_project) (Err fault)
    few_fails fault linked = fault_ends _ _ fault (reads_same _ _ (Err fault) (sym said_is) linked)

  module _ (is : then_read said (λ files. Ok (few_files files)) ≡ Ok None) where
    over_said : (files : List ProjectFile) × (said ≡ Ok files) × (nat_le (length files) FILE_LIMIT ≡ false)
    over_said =
        let files = then_ok said (λ files. Ok (few_files files)) None is in
        (files.0, files.1, few_over files.0 (ok_same (few_files files.0) None files.2))

    over_is : said_project ≡ linked_project over_said.0 simulator external bodies table
    over_is = ap (λ s. then_read s (λ files. linked_project files simulator external bodies table)) over_said.1

    pub many_is : ((files : List ProjectFile) → said ≡ Ok files → checked_links files table ≡ Ok tt) → few_said said_project ≡ Ok None
    many_is none =
        let project = then_ok (linked_project over_said.0 simulator external bodies table) (λ project. Ok tt) tt (sym (checked_links_is over_said.0 simulator external bodies table) ∙ none over_said.0 over_said.1) in
        ap few_said (over_is ∙ project.1) ∙ ap (λ (b : Bool). Ok (cond b (Some project.0) None)) (ap (λ fs. nat_le (length fs) FILE_LIMIT) (linked_files over_said.0 simulator external bodies table project.0 project.1) ∙ over_said.2)

    pub many_fails : (fault : OrMemory ProjectFault) → ((files : List ProjectFile) → said ≡ Ok files → ReadsStep (checked_links files table) (Err fault)) → ReadsStep (few_said said_project) (Err fault)
    many_fails fault fails = fault_ends _ _ fault (reads_same _ _ (Err fault) (sym over_is) (fault_before _ (λ project. tt) fault (reads_same _ _ (Err fault) (checked_links_is over_said.0 simulator external bodies table) (fails over_said.0 over_said.1))))

-- if a project is kept, it is the project that the file gives
pub few_project_is : (said : Result Project ProjectFault) (project : Project) → few_said said ≡ Ok (Some project) → said ≡ Ok project
few_project_is (Ok other) project is = by (nat_le (length other.files) FILE_LIMIT) (ok_same (few_of other) (Some project) is)
  where
    by : (b : Bool) → cond b (Some other) None ≡ Some project → ◌≡◌ {A = Result Project ProjectFault} (Ok other) (Ok project)
    by true same = let projects : other ≡ project = cc in ap Ok projects
    by false same = absurd cc
few_project_is (Err fault) project is = let no : ◌≡◌ {A = Result (Option Project) ProjectFault} (Err fault) (Ok (Some project)) = is in absurd cc
