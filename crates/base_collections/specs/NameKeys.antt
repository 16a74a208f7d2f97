-- The keys of a set of names.
use Rattle.std.specs.Ordering.{ordering_then, nat_cmp}
use Rattle.std.specs.Cmp.Lexicographic.{slice_cmp}
use Rattle.std.specs.declared.cmp.Ordering.{Ordering}
use Rattle.base.specs.declared.file.FileName.{FileName}
use Rattle.base_collections.specs.declared.names.Key.{Key}

-- the file name that a key stands for
abbrev pub name_of_key : Key → FileName
name_of_key key = record { library = key.library.items; path = key.path.items }

-- by library, and then by path
abbrev pub key_cmp : Key → Key → Ordering
key_cmp a b = ordering_then (slice_cmp nat_cmp a.library.items b.library.items) (slice_cmp nat_cmp a.path.items b.path.items)
