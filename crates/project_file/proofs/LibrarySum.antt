-- The files of libraries, library after library.
use Rattle.std.proofs.Common.{◌≡◌, ℕ, ◌+◌, ◌<◌, ◌≤◌, List, [], ◌∷◌, ◌++◌, length, take, drop, get_or, map, Option, Ok, Err, Result, refl, sym, ap, subst, ◌∙◌}
use Rattle.std.proofs.lemmas.List.{drop_more, drop_all, map_push, take_more, take_all}
use Rattle.toml.specs.Data.{Members}
use Rattle.base.specs.declared.file.FileName.{FileName}
use Rattle.base.specs.declared.memory.OrMemory.{OrMemory}
use Rattle.base.specs.declared.memory.OrMemory.TheVariants as memory
use Rattle.base.specs.declared.project.ProjectFile.{ProjectFile}
use Rattle.base.specs.declared.project.ProjectFault.{ProjectFault}
use Rattle.project_file.specs.Csv.{then_read}
use Rattle.project_file.specs.Steps.{ReadsStep}
use Rattle.project_file.specs.Toml.{library_after, library_files, files_of}
use Rattle.project_file.specs.Libraries.{alone, libraries_of, AddsLibrary, FailsTable}
use Rattle.project_file.specs.Few.{few_with, library_name, AddsTable, AreLibraries}
use Rattle.project_file.proofs.FewSteps.{few_again, then_more}
use Rattle.project_file.proofs.TomlNames.{named_is, ok_same}

-- a fault of the first step is the fault of both steps
pub fault_ends : {S T : Type 0} (said : Result S ProjectFault) (next : S → Result T ProjectFault) (fault : OrMemory ProjectFault) → ReadsStep said (Err fault) → ReadsStep (then_read said next) (Err fault)
fault_ends said next memory.NoMemory is = tt
fault_ends said next (memory.Fault fault) is = ap (λ s. then_read s next) is

-- what follows may be replaced by what is the same
pub reads_same : {T : Type 0} (said other : Result T ProjectFault) (result : Result T (OrMemory ProjectFault)) → said ≡ other → ReadsStep said result → ReadsStep other result
reads_same said other result same is = subst (λ s. ReadsStep s result) same is

-- the fault of a library's name, or of what is added, as a step
pub library_fault : (old new : List FileName) (said : Result (List ℕ) ProjectFault) (fault : OrMemory ProjectFault) → AddsLibrary old new said (Err fault) → ReadsStep said (Err fault)
library_fault old new said memory.NoMemory is = is
library_fault old new said (memory.Fault fault) is = is

-- keys of libraries alone, with one more
alone_more : (keys new : List FileName) (library : List ℕ) → keys ≡ map alone (libraries_of keys) → new ≡ keys ++ alone library ∷ [] → new ≡ map alone (libraries_of new)
alone_more keys new library are grown =
    grown ∙ ap (λ ks. ks ++ alone library ∷ []) are ∙ sym (map_push alone (libraries_of keys) library) ∙ ap (map alone) (sym (ap libraries_of grown ∙ map_push (λ (key : FileName). key.library) keys (alone library)))

made : {S T : Type 0} (said : Result S ProjectFault) (make : S → T) (fault : ProjectFault) → then_read said (λ read. Ok (make read)) ≡ Err fault → said ≡ Err fault
made {S} {T} (Ok read) make fault is = let no : ◌≡◌ {A = Result T ProjectFault} (Ok (make read)) (Err fault) = is in absurd cc
made {S} {T} (Err other) make fault is = let same : ◌≡◌ {A = Result T ProjectFault} (Err other) (Err fault) = is in let faults : other ≡ fault = cc in ap Err faults

-- a fault of what something is made of is a fault of that
pub fault_before : {S T : Type 0} (said : Result S ProjectFault) (make : S → T) (fault : OrMemory ProjectFault) → ReadsStep (then_read said (λ read. Ok (make read))) (Err fault) → ReadsStep said (Err fault)
fault_before said make memory.NoMemory is = tt
fault_before said make (memory.Fault fault) is = made said make fault is

module _ (names compiler : List (List ℕ)) (table : Members) (files : Option (List ProjectFile)) (keys : List FileName) where
  -- the files of the tables that follow, or their first fault
  abbrev rest_of : List Members → List ℕ → Result (List ProjectFile) ProjectFault
  rest_of rest library = files_of names compiler (libraries_of keys ++ library ∷ []) rest

  here : (rest : List Members) → files_of names compiler (libraries_of keys) (table ∷ rest) ≡ then_read (library_after (libraries_of keys) table) (λ library. then_read (library_files names compiler library table) (λ more. then_read (rest_of rest library) (λ others. Ok (more ++ others))))
  unfolding files_of
  here rest = refl

  -- the library has a fault
  pub no_library : (fault : OrMemory ProjectFault) → ReadsStep (library_after (libraries_of keys) table) (Err fault) → FailsTable names compiler table keys fault
  no_library fault is rest = reads_same _ _ (Err fault) (sym (here rest)) (fault_ends _ _ fault is)

  module _ (library : List ℕ) (named : library_after (libraries_of keys) table ≡ Ok library) where
    after : (rest : List Members) → files_of names compiler (libraries_of keys) (table ∷ rest) ≡ then_read (library_files names compiler library table) (λ more. then_read (rest_of rest library) (λ others. Ok (more ++ others)))
    after rest = here rest ∙ ap (λ said. then_read said (λ library. then_read (library_files names compiler library table) (λ more. then_read (rest_of rest library) (λ others. Ok (more ++ others))))) named

    -- its files have a fault
    pub no_files : (fault : OrMemory ProjectFault) → ReadsStep (then_read (library_files names compiler library table) (λ more. Ok (few_with files more))) (Err fault) → FailsTable names compiler table keys fault
    no_files fault is rest = reads_same _ _ (Err fault) (sym (after rest)) (fault_ends _ _ fault (fault_before _ (λ more. few_with files more) fault is))

    -- its files are added
    pub files_more : (new_keys : List FileName) (new_files : Option (List ProjectFile)) → keys ≡ map alone (libraries_of keys) → new_keys ≡ keys ++ alone library ∷ [] → then_read (library_files names compiler library table) (λ more. Ok (few_with files more)) ≡ Ok new_files
        → AddsTable names compiler table keys new_keys files new_files
    files_more new_keys new_files are grown added = by (library_files names compiler library table) refl
      where
        by : (said : Result (List ProjectFile) ProjectFault) → library_files names compiler library table ≡ said → AddsTable names compiler table keys new_keys files new_files
        by (Err fault) is = let no : ◌≡◌ {A = Result (Option (List ProjectFile)) ProjectFault} (Err fault) (Ok new_files) = sym (ap (λ s. then_read s (λ more. Ok (few_with files more))) is) ∙ added in absurd cc
        by (Ok more) is =
            let now_files : ◌≡◌ {A = Result (Option (List ProjectFile)) ProjectFault} (Ok (few_with files more)) (Ok new_files) = sym (ap (λ s. then_read s (λ others. Ok (few_with files others))) is) ∙ added in
            let same_files : few_with files more ≡ new_files = ok_same (few_with files more) new_files now_files in
            let same_keys : libraries_of new_keys ≡ libraries_of keys ++ library ∷ [] = ap libraries_of grown ∙ map_push (λ (key : FileName). key.library) keys (alone library) in
            record {
              keys = alone_more keys new_keys library are grown;
              named = ap (map (λ (key : FileName). Ok key.library)) grown ∙ map_push (λ (key : FileName). Ok key.library) keys (alone library) ∙ ap (λ name. map (λ (key : FileName). Ok key.library) keys ++ name ∷ []) (sym (named_is (libraries_of keys) table library named));
              few = subst (λ kept. few_with kept [] ≡ kept) same_files (few_again files more);
              files = λ rest.
                  ap (λ s. then_read s (λ others. Ok (few_with files others))) (after rest ∙ ap (λ s. then_read s (λ found. then_read (rest_of rest library) (λ others. Ok (found ++ others)))) is) ∙ then_more files more (rest_of rest library)
                  ∙ ap (λ kept. then_read (rest_of rest library) (λ others. Ok (few_with kept others))) same_files ∙ ap (λ ks. then_read (files_of names compiler ks rest) (λ others. Ok (few_with new_files others))) (sym same_keys);
            }

-- table after table
module _ {V : Type 0} (see : V → Members) (names compiler : List (List ℕ)) (tables : List V) (i : ℕ) (table : V) (low : i < length tables) (at : table ≡ get_or tables i table) (files : Option (List ProjectFile)) (keys : List FileName) (whole : Result (Option (List ProjectFile)) ProjectFault)
    (kept : then_read (files_of names compiler (libraries_of keys) (map see (drop i tables))) (λ more. Ok (few_with files more)) ≡ whole) where
  cut : map see (drop i tables) ≡ see table ∷ map see (drop (i + 1) tables)
  cut = ap (map see) (drop_more tables i table low ∙ ap (λ t. t ∷ drop (i + 1) tables) (sym at))

  pub table_more : (new_keys : List FileName) (new_files : Option (List ProjectFile)) → AddsTable names compiler (see table) keys new_keys files new_files → then_read (files_of names compiler (libraries_of new_keys) (map see (drop (i + 1) tables))) (λ more. Ok (few_with new_files more)) ≡ whole
  table_more new_keys new_files is = sym (is.files (map see (drop (i + 1) tables))) ∙ ap (λ ts. then_read (files_of names compiler (libraries_of keys) ts) (λ more. Ok (few_with files more))) (sym cut) ∙ kept

  pub table_fails : (fault : OrMemory ProjectFault) → FailsTable names compiler (see table) keys fault → ReadsStep whole (Err fault)
  table_fails fault is =
      reads_same _ _ (Err fault) (ap (λ ts. then_read (files_of names compiler (libraries_of keys) ts) (λ more. Ok (few_with files more))) (sym cut) ∙ kept) (fault_ends _ (λ more. Ok (few_with files more)) fault (is (map see (drop (i + 1) tables))))

-- a library more
pub named_more : {V : Type 0} (see : V → Members) (tables : List V) (i : ℕ) (table : V) (keys new_keys : List FileName) → i < length tables → table ≡ get_or tables i table → map (λ (key : FileName). Ok key.library) keys ≡ map library_name (map see (take i tables))
    → map (λ (key : FileName). Ok key.library) new_keys ≡ map (λ (key : FileName). Ok key.library) keys ++ library_name (see table) ∷ [] → map (λ (key : FileName). Ok key.library) new_keys ≡ map library_name (map see (take (i + 1) tables))
named_more see tables i table keys new_keys low at before grown =
    grown ∙ ap (λ names. names ++ library_name (see table) ∷ []) before ∙ sym (map_push library_name (map see (take i tables)) (see table)) ∙ ap (map library_name) (sym (map_push see (take i tables) table))
    ∙ ap (λ ts. map library_name (map see ts)) (sym (take_more tables i table low ∙ ap (λ t. take i tables ++ t ∷ []) (sym at)))

pub named_all : {V : Type 0} (see : V → Members) (tables : List V) (i : ℕ) (keys : List FileName) → length tables ≤ i → keys ≡ map alone (libraries_of keys) → map (λ (key : FileName). Ok key.library) keys ≡ map library_name (map see (take i tables)) → AreLibraries (map see tables) keys
named_all see tables i keys past are named = record { plain = are; named = named ∙ ap (λ ts. map library_name (map see ts)) (take_all i tables past) }

-- no table is left
pub files_all : {V : Type 0} (see : V → Members) (names compiler : List (List ℕ)) (tables : List V) (i : ℕ) (files : Option (List ProjectFile)) (keys : List FileName) (whole : Result (Option (List ProjectFile)) ProjectFault) → length tables ≤ i → few_with files [] ≡ files
    → then_read (files_of names compiler (libraries_of keys) (map see (drop i tables))) (λ more. Ok (few_with files more)) ≡ whole → whole ≡ Ok files
unfolding files_of
files_all see names compiler tables i files keys whole past few kept =
    sym kept ∙ ap (λ ts. then_read (files_of names compiler (libraries_of keys) (map see ts)) (λ more. Ok (few_with files more))) (drop_all i tables past) ∙ ap Ok few
