-- What the lists of files that wait for others stand for.
use Rattle.std.specs.Prelude.{◌≡◌, ℕ, ◌<◌, Bool, true, false, List, [], length, count_by, slice_index_or}
use Rattle.base_collections.specs.Positions.{has}
use Rattle.order.specs.Counts.{times, undone}
use Rattle.order.specs.declared.files.ReadyFiles.{ReadyFiles}

-- how many files there are
unfoldable pub file_count : ReadyFiles → ℕ
file_count files = length files.waiting.items

-- how many of the files wait
unfoldable pub wait_count : ReadyFiles → ℕ
wait_count files = count_by (λ waits. waits) files.waiting.items

-- a file is listed as ready
unfoldable pub is_listed : ReadyFiles → ℕ → Bool
is_listed files file = has files.ready file

-- The lists of `count` files with these dependencies: which files wait, how many dependencies of each waiting file aren't
-- done, and which waiting files use a file. Example: c depends on a and b, and no file is done. Then a and b are ready,
-- and 2 dependencies of c aren't done. After both are done, c is ready.
pub record AreWaitingFiles (files : ReadyFiles) (count : ℕ) (deps : ℕ → List ℕ) (waits done : ℕ → Bool) : Type 0 where
  pub as_many : file_count files ≡ count
  pub waiting : (file : ℕ) → file < count → slice_index_or files.waiting.items file false ≡ waits file
  pub missing : (file : ℕ) → file < count → waits file ≡ true → slice_index_or files.missing.items file 0 ≡ undone done (deps file)
  pub users : (dep file : ℕ) → dep < count → file < count → waits file ≡ true → times file (slice_index_or files.users.items dep []) ≡ times dep (deps file)
