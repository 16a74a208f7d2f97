-- What compaction keeps of a table, by old numbers of lists and texts in the order of their new numbers.
use Rattle.std.specs.Prelude.{◌≡◌, ℕ, ◌+◌, ◌-◌, ◌^◌, ◌++◌, min, List, [], length, map, slice_index_or}
use Rattle.std.specs.List.{flat_map}
use Rattle.base.specs.declared.graph.BuiltFile.{BuiltFile}
use Rattle.base_collections.specs.Numbers.{NumbersBelow}
use Rattle.store_journal.specs.Payloads.{block}
use Rattle.store_table.specs.NumberSets.{AreNumbers}
use Rattle.passes_spec.specs.Passes.{Pass, last_passes}
use Rattle.passes_codec.specs.Compaction.{payloads_over, spelled_list}
use Rattle.passes_codec.specs.PassTables.{PassTable, with_list, with_texts_of}
use Rattle.passes_table.specs.declared.compacting.KeptNumbers.{KeptNumbers}
use Rattle.passes_table.specs.declared.compacting.KeptPasses.{KeptPasses}
use Rattle.passes_table.specs.declared.counting.CountedPasses.{CountedPasses}

-- the texts of these numbers, in order
abbrev pub numbered_texts : List (List ℕ) → List ℕ → List (List ℕ)
numbered_texts texts numbers = map (λ number. slice_index_or texts number []) numbers

-- the lists of these numbers, in order
abbrev pub numbered_lists : List (List BuiltFile) → List ℕ → List (List BuiltFile)
numbered_lists lists numbers = map (λ number. slice_index_or lists number []) numbers

-- the texts and lists of a table that have these old numbers, without a pass
abbrev pub kept_table : PassTable → NumbersBelow → NumbersBelow → PassTable
kept_table table lists texts = record { texts = numbered_texts table.texts texts.numbers; lists = numbered_lists table.lists lists.numbers; passes = [] }

-- Old numbers are those of lists and texts of a table.
pub record AreOldNumbers (table : PassTable) (kept : KeptNumbers) : Type 0 where
  pub lists : AreNumbers (length table.lists) kept.lists
  pub texts : AreNumbers (length table.texts) kept.texts

-- What is kept has one list of built files more, and the artefacts of that list, if these are new.
pub record IsAfterList (table : PassTable) (built : List BuiltFile) (old new : KeptNumbers) : Type 0 where
  pub texts : numbered_texts table.texts new.texts.numbers ≡ with_texts_of (numbered_texts table.texts old.texts.numbers) (spelled_list (kept_table table old.lists old.texts) built)
  pub lists : numbered_lists table.lists new.lists.numbers ≡ with_list (kept_table table old.lists old.texts) (spelled_list (kept_table table old.lists old.texts) built)

-- the payloads that are kept, and then those of the last of some passes that follow
abbrev pub kept_on : PassTable → KeptPasses → List Pass → List (List ℕ)
kept_on table kept passes = kept.payloads ++ payloads_over (kept_table table kept.numbers.lists kept.numbers.texts) (last_passes passes)

-- The bytes on a side that are counted so far, and then those of the last of some passes that follow, up to the greatest number of 64
-- bits.
abbrev pub counted_on : PassTable → CountedPasses → List Pass → ℕ
counted_on table counted passes = min (2 ^ 64 - 1) (counted.bytes + length (flat_map block (payloads_over (kept_table table counted.numbers.lists counted.numbers.texts) (last_passes passes))))
