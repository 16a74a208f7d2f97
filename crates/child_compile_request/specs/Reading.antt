-- Reading a job from start to end, each part with its sizes.
use Rattle.std.specs.Prelude.{ℕ, nat_le, Bool, ◌==◌, List, length, codes, Option, Some, None, if◌then◌else◌}
use Rattle.std.specs.Int.{w32}
use Rattle.std.specs.Str.{bytes_eq}
use Rattle.base.specs.declared.file.FileName.{FileName}
use Rattle.base.specs.declared.graph.BuiltFile.{BuiltFile}
use Rattle.base_bytes.specs.Reading.{◌>>=◌, number_at, taken_at, text_at, many_at}
use Rattle.base_bytes.specs.Names.{name_at}
use Rattle.base_bytes.specs.Sizes.{has_name_sizes}
use Rattle.child_compile_request.specs.declared.reading.CompileJob.{CompileJob}
use Rattle.base.specs.declared.limits.TheConstants.{ARTEFACT_LIMIT, FILE_LIMIT, TEXT_LIMIT}

-- whatever is read, if it passes a test
abbrev pub tested_at : {X : Type 0} → (X → Bool) → (List ℕ → Option (X × List ℕ)) → List ℕ → Option (X × List ℕ)
tested_at test read bytes = do
  x ← read bytes
  if test x.0 then Some x else None

-- a library of 1 to 64 bytes and a path of 1 to 1,024; and the bytes after them
abbrev pub fitting_name_at : List ℕ → Option (FileName × List ℕ)
fitting_name_at bytes = tested_at has_name_sizes name_at bytes

-- a text of at most `limit` bytes, and the bytes after it
abbrev pub short_text_at : ℕ → List ℕ → Option (List ℕ × List ℕ)
short_text_at limit bytes = tested_at (λ text. nat_le (length text) limit) text_at bytes

-- a file that was built
unfoldable pub built_at : List ℕ → Option (BuiltFile × List ℕ)
built_at bytes = do
  name ← fitting_name_at bytes
  artefact ← short_text_at ARTEFACT_LIMIT name.1
  Some (record { name = name.0; artefact = artefact.0 }, artefact.1)

-- at most 4,096 files that were built, after their number
unfoldable pub all_built_at : List ℕ → Option (List BuiltFile × List ℕ)
all_built_at bytes = do
  count ← tested_at (λ n. nat_le n FILE_LIMIT) (number_at w32) bytes
  many_at built_at count.0 count.1

-- a name, a text and the files that were built, with no byte after them
unfoldable pub fields_at : List ℕ → Option CompileJob
fields_at bytes = do
  name ← fitting_name_at bytes
  text ← short_text_at TEXT_LIMIT name.1
  deps ← all_built_at text.1
  if length deps.1 == 0 then Some (record { name = name.0; text = text.0; deps = deps.0 }) else None

-- the bytes after a magic, where they begin with it
unfoldable pub after_magic_at : List ℕ → List ℕ → Option (List ℕ)
after_magic_at magic bytes = do
  taken ← taken_at (length magic) bytes
  if bytes_eq taken.0 magic then Some taken.1 else None

-- what is read of the bytes after a magic
abbrev pub behind : {X : Type 0} → List ℕ → (List ℕ → Option X) → List ℕ → Option X
behind magic read bytes = do
  rest ← after_magic_at magic bytes
  read rest

-- all of the bytes: the magic of a job, and its fields
unfoldable pub job_at : List ℕ → Option CompileJob
job_at bytes = behind (codes "VRC1") fields_at bytes
