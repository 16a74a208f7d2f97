-- What is kept after one list more.
use Rattle.std.proofs.Common.{◌≡◌, ◌≢◌, ◌<◌, ℕ, Bool, List, [], ◌∷◌, ◌++◌, length, get_or, Option, Some, None, refl, sym, ap, subst, ◌∙◌, arith}
use Rattle.std.specs.Prelude.{AllPairs}
use Rattle.std.specs.List.{position}
use Rattle.std.proofs.lemmas.List.{length-map, map_push}
use Rattle.base.specs.declared.graph.BuiltFile.{BuiltFile}
use Rattle.base_collections.specs.Numbers.{IsAdded, IsIndexOf, NumbersBelow}
use Rattle.store_table.specs.Located.{located_texts}
use Rattle.store_table.specs.NumberSets.{AreNumbers}
use Rattle.passes_codec.specs.Compaction.{list_or, spelled_files, spelled_list}
use Rattle.passes_codec.specs.Forms.{ListRef}
use Rattle.passes_codec.specs.PassTables.{PassTable, is_same_list, pass_table_of, with_list, with_list_texts, with_texts_of}
use Rattle.passes_codec.proofs.Once.{once_in_all}
use Rattle.passes_codec.proofs.SpelledPasses.{files_told}
use Rattle.passes_table.specs.declared.compacting.KeptNumbers.{KeptNumbers}
use Rattle.passes_table.specs.declared.table.LocatedPasses.{LocatedPasses}
use Rattle.passes_table.specs.Located.{listed_files, located_passes}
use Rattle.passes_table.proofs.Kept.{kept_list, numbers_added, numbers_new}
use Rattle.passes_table.specs.Kept.{IsAfterList, kept_table, numbered_lists, numbered_texts}

module _ (table : PassTable) (old new : KeptNumbers) (built : List BuiltFile) where
  abbrev before : PassTable
  before = kept_table table old.lists old.texts

  abbrev number : Option ℕ
  number = position (λ other. is_same_list other built) before.lists

  abbrev ref : Option ℕ → ListRef
  ref known = list_or known (spelled_files before.texts built)

  -- the list by its number, or as a new one
  pub ref_as : (known : Option ℕ) → number ≡ known → ref known ≡ spelled_list before built
  ref_as known is = ap (λ (o : Option ℕ). ref o) (sym is)

  after_by : (known : Option ℕ) → number ≡ known → numbered_texts table.texts new.texts.numbers ≡ with_texts_of before.texts (ref known) → numbered_lists table.lists new.lists.numbers ≡ with_list before (ref known) → IsAfterList table built old new
  after_by known is texts lists = record {
    texts = texts ∙ ap (λ (o : Option ℕ). with_texts_of before.texts (ref o)) (sym is);
    lists = lists ∙ ap (λ (o : Option ℕ). with_list before (ref o)) (sym is);
  }

  -- a list that has a number adds nothing
  pub after_known : (n : ℕ) → number ≡ Some n → new.texts ≡ old.texts → new.lists ≡ old.lists → IsAfterList table built old new
  after_known n is texts lists =
      after_by (Some n) is (ap (λ (s : NumbersBelow). numbered_texts table.texts s.numbers) texts) (ap (λ (s : NumbersBelow). numbered_lists table.lists s.numbers) lists)

  -- a new list is added, and its artefacts that have no number
  pub after_new : (list : ℕ) → number ≡ None → built ≡ get_or table.lists list [] → new.lists.numbers ≡ old.lists.numbers ++ list ∷ [] → numbered_texts table.texts new.texts.numbers ≡ with_list_texts before.texts (spelled_files before.texts built) → IsAfterList table built old new
  after_new list is here lists texts =
      after_by None is texts
      (ap (λ (ns : List ℕ). numbered_lists table.lists ns) lists
      ∙ map_push (λ (n : ℕ). get_or table.lists n []) old.lists.numbers list
      ∙ ap (λ (b : List BuiltFile). before.lists ++ b ∷ []) (sym here ∙ sym (files_told before.texts built)))

-- the list of a number of a table, among the lists that are kept
module _ (segments : List (List ℕ)) (table : LocatedPasses) (held : located_passes segments table ≡ pass_table_of segments) (old : KeptNumbers) (lists : AreNumbers (length (located_passes segments table).lists) old.lists) (list : ℕ) (low : list < length table.lists.keys) where
  abbrev there : PassTable
  there = located_passes segments table

  abbrev list_there : List BuiltFile
  list_there = get_or there.lists list []

  list_low : list < length there.lists
  list_low = omega (arith, low, length-map table.lists.keys (listed_files table.names.keys (located_texts segments table.texts)))

  known_there : (known : Option ℕ) → IsIndexOf old.lists.numbers list known → position (λ other. is_same_list other list_there) (numbered_lists there.lists old.lists.numbers) ≡ known
  known_there known is =
      let once = subst (λ (t : PassTable). AllPairs (λ (a b : List BuiltFile). a ≢ b) t.lists) (sym held) (once_in_all segments).lists in
      kept_list there.lists once old.lists list known lists list_low is

  pub ref_there : (known : Option ℕ) → IsIndexOf old.lists.numbers list known → list_or known (spelled_files (kept_table there old.lists old.texts).texts list_there) ≡ spelled_list (kept_table there old.lists old.texts) list_there
  ref_there known is = ref_as there old old list_there known (known_there known is)

  pub known_after : (n : ℕ) → IsIndexOf old.lists.numbers list (Some n) → IsAfterList there list_there old old
  known_after n is = after_known there old old list_there n (known_there (Some n) is) refl refl

  pub list_after : (is_new : Bool) (new : KeptNumbers) → IsIndexOf old.lists.numbers list None → IsAdded is_new list old.lists new.lists → numbered_texts there.texts new.texts.numbers ≡ with_list_texts (kept_table there old.lists old.texts).texts (spelled_files (kept_table there old.lists old.texts).texts list_there) → IsAfterList there list_there old new
  list_after is_new new absent added texts = after_new there old new list_there list (known_there None absent) refl (numbers_new is_new old.lists new.lists list absent added) texts

  pub numbers_after : (is_new : Bool) (new : NumbersBelow) → IsAdded is_new list old.lists new → AreNumbers (length there.lists) new
  numbers_after is_new new added = numbers_added (length there.lists) is_new old.lists new list lists list_low added
