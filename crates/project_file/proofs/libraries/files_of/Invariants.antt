-- The invariant of the loop of `files_of`: the files so far and those of the remaining tables are the files of all tables,
-- with the same fault if there is one.
use Rattle.std.proofs.Common.{◌≡◌, ◌≤◌, [], Ok, take, drop, map, length}
use Rattle.toml.specs.View.{table_view}
use Rattle.base.specs.declared.file.FileName.{FileName}
use Rattle.project_file.specs.Csv.{then_read}
use Rattle.project_file.specs.Toml.{files_of}
use Rattle.project_file.specs.Libraries.{alone, libraries_of}
use Rattle.project_file.specs.Few.{few_files, few_with, library_name}
use Rattle.project_file.proofs.libraries.files_of.Given as goal

abbrev pub invariant-loop-i : goal.invariant-loop-i
invariant-loop-i l = record {
  size : length l.names ≤ l.found.size;
  keys : l.libraries.keys ≡ map alone (libraries_of l.libraries.keys);
  named : map (λ (key : FileName). Ok key.library) l.libraries.keys ≡ map library_name (map (λ t. table_view t.now) (take l.i l.tables));
  few : few_with l.files [] ≡ l.files;
  files : then_read (files_of l.names l.compiler (libraries_of l.libraries.keys) (map (λ t. table_view t.now) (drop l.i l.tables))) (λ more. Ok (few_with l.files more)) ≡ then_read (files_of l.names l.compiler [] (map (λ t. table_view t.now) l.tables)) (λ files. Ok (few_files files));
}
