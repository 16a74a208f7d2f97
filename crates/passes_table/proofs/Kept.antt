-- What compaction keeps, by numbers of texts and lists.
use Rattle.std.proofs.Common.{◌≡◌, ◌≢◌, ℕ, ◌<◌, Bool, true, false, List, [], ◌∷◌, ◌++◌, length, map, get_or, Option, Some, None, refl, sym, ap, subst, ◌∙◌, arith}
use Rattle.std.specs.Prelude.{AllPairs, Contains}
use Rattle.std.specs.List.{position}
use Rattle.std.specs.Str.{bytes_eq}
use Rattle.std.proofs.lemmas.List.{get_or_default, map_push}
use Rattle.std.proofs.lemmas.Option.{get_or_from_slice_get, slice_get_within}
use Rattle.std.proofs.lemmas.Slice.Eq.{bytes_eq-Decides}
use Rattle.base.specs.declared.graph.BuiltFile.{BuiltFile}
use Rattle.base_bytes.specs.TextRefs.{TextRef, with_text}
use Rattle.base_collections.specs.declared.splits.Split.{Split}
use Rattle.base_collections.specs.Splits.{AreSplit}
use Rattle.base_collections.specs.Numbers.{IsAdded, IsIndexOf, NumbersBelow}
use Rattle.store_codec.specs.Compaction.{compacted_ref, with_compacted_text}
use Rattle.store_codec.specs.Writing.{ref_or}
use Rattle.store_table.specs.NumberSets.{AreNumbers}
use Rattle.store_table.proofs.Finding.{once_at, texts_once}
use Rattle.store_table.proofs.Numbered.{numbers_more, thing_index, things_once}
use Rattle.store_table.proofs.Placing.{index_known}
use Rattle.passes_spec.specs.Passes.{Pass}
use Rattle.passes_codec.specs.Compaction.{payloads_over, spelled_list, spelled_pass}
use Rattle.passes_codec.specs.Forms.{pass_bytes}
use Rattle.passes_codec.specs.PassTables.{PassTable, is_same_list, with_list, with_pass, with_texts_of}
use Rattle.passes_codec.proofs.Deciding.{same_list-Decides}
use Rattle.passes_table.specs.Kept.{numbered_lists, numbered_texts}

-- the index of a number that is added is none if it is new
index_none : (set : NumbersBelow) (number : ℕ) (known : Option ℕ) → IsIndexOf set.numbers number known → (¬ Contains set.numbers number) → known ≡ None
index_none set number None is new = refl
index_none set number (Some n) is new = absurd (new (n, slice_get_within set.numbers n number is, get_or_from_slice_get set.numbers n number number is))

index_some : (set : NumbersBelow) (number : ℕ) (known : Option ℕ) → IsIndexOf set.numbers number known → Contains set.numbers number → (n : ℕ) × (known ≡ Some n)
index_some set number None is has = absurd (is has)
index_some set number (Some n) is has = (n, refl)

pub numbers_added : (size : ℕ) (is_new : Bool) (old new : NumbersBelow) (number : ℕ) → AreNumbers size old → number < size → IsAdded is_new number old new → AreNumbers size new
numbers_added size true old new number are low added = numbers_more size old new number are low added.0 added.1
numbers_added size false old new number are low added = subst (AreNumbers size) (sym added.1) are

-- a number that is new is added
pub numbers_new : (is_new : Bool) (old new : NumbersBelow) (number : ℕ) → (¬ Contains old.numbers number) → IsAdded is_new number old new → new.numbers ≡ old.numbers ++ number ∷ []
numbers_new true old new number never added = ap (λ (s : NumbersBelow). s.numbers) added.1
numbers_new false old new number never added = absurd (never added.0)

-- ## Texts

-- no text that is located is there twice
pub once_texts : (texts : List (List ℕ)) (splits : List Split) → AreSplit texts splits → AllPairs (λ (a b : List ℕ). a ≢ b) texts
once_texts texts splits are i j d l m e =
    let low : i < length texts = omega (arith, l, m) in
    let same : i ≡ j = texts_once texts splits are i j low m (get_or_default texts i [] d low ∙ e ∙ get_or_default texts j d [] m) in
    absurd (omega (arith, same, l))

module _ (texts : List (List ℕ)) (once : AllPairs (λ (a b : List ℕ). a ≢ b) texts) where
  abbrev at : ℕ → List ℕ
  at n = get_or texts n []

  apart : (a b : ℕ) → a < length texts → b < length texts → at a ≡ at b → a ≡ b
  apart a b l m e = once_at texts [] once a b l m e

  -- a text is spelled by its new number, if it has one
  pub kept_ref : (set : NumbersBelow) (text : ℕ) (known : Option ℕ) → AreNumbers (length texts) set → text < length texts → IsIndexOf set.numbers text known → compacted_ref (numbered_texts texts set.numbers) (at text) ≡ ref_or known (at text)
  kept_ref set text known are low is =
      ap (λ (o : Option ℕ). ref_or o (at text))
      (index_known bytes_eq bytes_eq-Decides (map at set.numbers) (at text) known (things_once at (length texts) apart set.numbers are.below are.once) (thing_index at (length texts) apart set.numbers are.below text known low is))

  text_added : (is_new : Bool) (set new : NumbersBelow) (text : ℕ) (known : Option ℕ) → IsIndexOf set.numbers text known → IsAdded is_new text set new → numbered_texts texts new.numbers ≡ with_text (numbered_texts texts set.numbers) (ref_or known (at text))
  text_added true set new text known is added =
      ap (λ (s : NumbersBelow). map at s.numbers) added.1 ∙ map_push at set.numbers text
      ∙ ap (λ (o : Option ℕ). with_text (numbered_texts texts set.numbers) (ref_or o (at text))) (sym (index_none set text known is added.0))
  text_added false set new text known is added =
      let some = index_some set text known is added.0 in
      ap (λ (s : NumbersBelow). map at s.numbers) added.1
      ∙ ap (λ (o : Option ℕ). with_text (numbered_texts texts set.numbers) (ref_or o (at text))) (sym some.1)

  -- and it has a new number from then on
  pub kept_text : (is_new : Bool) (set new : NumbersBelow) (text : ℕ) (known : Option ℕ) → AreNumbers (length texts) set → text < length texts → IsIndexOf set.numbers text known → IsAdded is_new text set new → numbered_texts texts new.numbers ≡ with_compacted_text (numbered_texts texts set.numbers) (at text)
  kept_text is_new set new text known are low is added =
      text_added is_new set new text known is added
      ∙ ap (λ (r : TextRef). with_text (numbered_texts texts set.numbers) r) (sym (kept_ref set text known are low is))

-- ## Lists

module _ (lists : List (List BuiltFile)) (once : AllPairs (λ (a b : List BuiltFile). a ≢ b) lists) where
  abbrev list_at : ℕ → List BuiltFile
  list_at n = get_or lists n []

  lists_apart : (a b : ℕ) → a < length lists → b < length lists → list_at a ≡ list_at b → a ≡ b
  lists_apart a b l m e = once_at lists [] once a b l m e

  -- a list is spelled by its new number, if it has one
  pub kept_list : (set : NumbersBelow) (list : ℕ) (known : Option ℕ) → AreNumbers (length lists) set → list < length lists → IsIndexOf set.numbers list known → position (λ other. is_same_list other (list_at list)) (numbered_lists lists set.numbers) ≡ known
  kept_list set list known are low is =
      index_known is_same_list same_list-Decides (map list_at set.numbers) (list_at list) known (things_once list_at (length lists) lists_apart set.numbers are.below are.once) (thing_index list_at (length lists) lists_apart set.numbers are.below list known low is)

-- ## Passes

-- which payloads passes have goes by texts and lists alone
pub payloads_by : (table other : PassTable) (passes : List Pass) → table.texts ≡ other.texts → table.lists ≡ other.lists → payloads_over table passes ≡ payloads_over other passes
unfolding payloads_over
payloads_by table other [] texts lists = refl
payloads_by table other (pass ∷ passes) texts lists =
    let one : PassTable = with_pass table (spelled_pass table pass) in
    let two : PassTable = with_pass other (spelled_pass other pass) in
    let bytes : pass_bytes (spelled_pass table pass) ≡ pass_bytes (spelled_pass other pass) =
    ap (λ (t : List (List ℕ)). pass_bytes (spelled_pass (record { texts = t; lists = table.lists; passes = [] }) pass)) texts
    ∙ ap (λ (l : List (List BuiltFile)). pass_bytes (spelled_pass (record { texts = other.texts; lists = l; passes = [] }) pass)) lists in
    let same_texts : one.texts ≡ two.texts =
    ap (λ (t : List (List ℕ)). with_texts_of t (spelled_list (record { texts = t; lists = table.lists; passes = [] }) pass.built)) texts
    ∙ ap (λ (l : List (List BuiltFile)). with_texts_of other.texts (spelled_list (record { texts = other.texts; lists = l; passes = [] }) pass.built)) lists in
    let same_lists : one.lists ≡ two.lists =
    ap (λ (t : List (List ℕ)). with_list (record { texts = t; lists = table.lists; passes = [] }) (spelled_list (record { texts = t; lists = table.lists; passes = [] }) pass.built)) texts
    ∙ ap (λ (l : List (List BuiltFile)). with_list (record { texts = other.texts; lists = l; passes = [] }) (spelled_list (record { texts = other.texts; lists = l; passes = [] }) pass.built)) lists in
    ap (λ (b : List ℕ). b ∷ payloads_over one passes) bytes
    ∙ ap (λ (ps : List (List ℕ)). pass_bytes (spelled_pass other pass) ∷ ps) (payloads_by one two passes same_texts same_lists)
