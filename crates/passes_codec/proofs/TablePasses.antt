-- The passes of a table of payloads are within their limits, and compaction of these needs no more numbers than they did.
use Rattle.std.proofs.Common.{◌≡◌, ℕ, suc, ◌<◌, ◌≤◌, ◌^◌, Bool, true, List, [], ◌∷◌, ◌++◌, length, get_or, Option, Some, None, refl, sym, ap, subst, ◌∙◌, arith}
use Rattle.std.specs.Prelude.{All, AllPairs, Contains}
use Rattle.std.specs.List.{position}
use Rattle.std.specs.Str.{bytes_eq}
use Rattle.std.proofs.lemmas.Bool.{and_parts}
use Rattle.std.proofs.lemmas.Bool.Decides.{nat_tests}
use Rattle.std.proofs.lemmas.List.Elements.{All-append, All-cons, All-head, All-nil, All-tail, Contains-append_left, Contains-get_or, Contains-push}
use Rattle.base.specs.declared.graph.BuiltFile.{BuiltFile}
use Rattle.base.specs.declared.limits.TheConstants.{ARTEFACT_LIMIT, FILE_LIMIT}
use Rattle.base_bytes.specs.TextRefs.{TextRef, is_text_ref, told_text, with_text}
use Rattle.base_bytes.specs.TextRefs.TextRef.{ByNumber, InFull}
use Rattle.base_bytes.proofs.Sized.{name_sizes-Decides, nat_le-Decides}
use Rattle.store_codec.specs.Compaction.{compacted_ref, with_compacted_text}
use Rattle.store_codec.specs.Writing.{ref_or}
use Rattle.passes_spec.specs.Passes.{Pass, last_passes}
use Rattle.passes_spec.proofs.SameTests.{All-last_passes}
use Rattle.passes_codec.specs.Forms.{FileDraft, ListRef, PassDraft}
use Rattle.passes_codec.specs.Forms.ListRef.{KnownList, NewList}
use Rattle.passes_codec.specs.PassTables.{AreNumberedOnce, IsListRef, IsValidPass, PassTable, are_listed_files, bare_table, drafted_files, drafted_pass, is_same_list, pass_table_of, passes_among, told_list, with_list, with_list_texts, with_pass, with_texts_of}
use Rattle.passes_codec.specs.Compaction.{FitsBuilt, FitsPass, IsNumberable, compacted_table, list_or, spelled_files, spelled_pass, with_passes}
use Rattle.passes_codec.proofs.Numbers.{no_more}
use Rattle.passes_codec.proofs.Once.{by_payloads, once_with_pass}
use Rattle.passes_codec.proofs.SpelledPasses.{files_told, pass_valid}

-- ## Passes of a table

-- a list is within the limits
abbrev pub FitsList : List BuiltFile → Type 0
FitsList list = (length list ≤ FILE_LIMIT) × All FitsBuilt list

-- the artefacts of a list are among texts
abbrev HasTexts : List (List ℕ) → List BuiltFile → Type 0
HasTexts texts list = All (λ file. Contains texts file.artefact) list

-- What a table has: passes within the limits over lists that it has, and lists within the limits of texts that it has.
record IsWhole (table : PassTable) : Type 0 where
  passes : All FitsPass table.passes
  built : All (λ pass. Contains table.lists pass.built) table.passes
  lists : All FitsList table.lists
  artefacts : All (HasTexts table.texts) table.lists

push : {X : Type 0} (P : X → Type 0) (xs : List X) (x : X) → All P xs → P x → All P (xs ++ x ∷ [])
push P xs x all one = All-append P xs (x ∷ []) all (All-cons P x [] one (All-nil P))

weaker : {X : Type 0} (P Q : X → Type 0) → ((x : X) → P x → Q x) → (xs : List X) → All P xs → All Q xs
weaker P Q each xs all k d low = each (get_or xs k d) (all k d low)

-- what was among texts stays among these and a new one, and the text that is meant is among these
text_stays : (texts : List (List ℕ)) (ref : TextRef) (text : List ℕ) → Contains texts text → Contains (with_text texts ref) text
text_stays texts (ByNumber number) text has = has
text_stays texts (InFull new) text has = Contains-append_left texts (new ∷ []) text has

text_in : (texts : List (List ℕ)) (ref : TextRef) → is_text_ref texts ref ≡ true → Contains (with_text texts ref) (told_text texts ref)
text_in texts (ByNumber number) is = (let low : number < length texts = grind (arith, nat_tests) in Contains-get_or texts number [] low)
text_in texts (InFull new) is = Contains-push texts new

texts_stay : (texts : List (List ℕ)) (files : List FileDraft) (text : List ℕ) → Contains texts text → Contains (with_list_texts texts files) text
unfolding with_list_texts
texts_stay texts [] text has = has
texts_stay texts (file ∷ files) text has = texts_stay (with_text texts file.artefact) files text (text_stays texts file.artefact text has)

drafted_count : (texts : List (List ℕ)) (files : List FileDraft) → length (drafted_files texts files) ≡ length files
unfolding drafted_files
drafted_count texts [] = refl
drafted_count texts (file ∷ files) = ap (λ (n : ℕ). suc n) (drafted_count (with_text texts file.artefact) files)

drafted_fit : (texts : List (List ℕ)) (files : List FileDraft) → are_listed_files texts files ≡ true → All FitsBuilt (drafted_files texts files)
unfolding drafted_files are_listed_files
drafted_fit texts [] listed = All-nil FitsBuilt
drafted_fit texts (file ∷ files) listed =
    let parts = and_parts _ _ listed in
    let one = and_parts _ _ parts.0 in
    let two = and_parts _ _ one.1 in
    let after : List (List ℕ) = with_text texts file.artefact in
    All-cons FitsBuilt (record { name = file.name; artefact = told_text texts file.artefact }) (drafted_files after files)
    (record { name = (name_sizes-Decides file.name).0 one.0; artefact = (nat_le-Decides (length (told_text texts file.artefact)) ARTEFACT_LIMIT).0 two.1 })
    (drafted_fit after files parts.1)

drafted_in : (texts : List (List ℕ)) (files : List FileDraft) → are_listed_files texts files ≡ true → HasTexts (with_list_texts texts files) (drafted_files texts files)
unfolding drafted_files are_listed_files with_list_texts
drafted_in texts [] listed = All-nil (λ (file : BuiltFile). Contains texts file.artefact)
drafted_in texts (file ∷ files) listed =
    let parts = and_parts _ _ listed in
    let one = and_parts _ _ parts.0 in
    let two = and_parts _ _ one.1 in
    let after : List (List ℕ) = with_text texts file.artefact in
    All-cons (λ (f : BuiltFile). Contains (with_list_texts after files) f.artefact) (record { name = file.name; artefact = told_text texts file.artefact }) (drafted_files after files)
    (texts_stay after files (told_text texts file.artefact) (text_in texts file.artefact two.0))
    (drafted_in after files parts.1)

module _ (table : PassTable) (whole : IsWhole table) where
  list_in : (list : ListRef) → IsListRef table list → Contains (with_list table list) (told_list table list)
  list_in (KnownList number) is = Contains-get_or table.lists number [] is
  list_in (NewList files) is = Contains-push table.lists (drafted_files table.texts files)

  list_stays : (list : ListRef) (built : List BuiltFile) → Contains table.lists built → Contains (with_list table list) built
  list_stays (KnownList number) built has = has
  list_stays (NewList files) built has = Contains-append_left table.lists (drafted_files table.texts files ∷ []) built has

  list_fits : (list : ListRef) → IsListRef table list → FitsList (told_list table list)
  list_fits (KnownList number) is = whole.lists number [] is
  list_fits (NewList files) is = (subst (λ (n : ℕ). n ≤ FILE_LIMIT) (sym (drafted_count table.texts files)) is.0, drafted_fit table.texts files is.1)

  lists_fit : (list : ListRef) → IsListRef table list → All FitsList (with_list table list)
  lists_fit (KnownList number) is = whole.lists
  lists_fit (NewList files) is = push FitsList table.lists (drafted_files table.texts files) whole.lists (list_fits (NewList files) is)

  lists_in : (list : ListRef) → IsListRef table list → All (HasTexts (with_texts_of table.texts list)) (with_list table list)
  lists_in (KnownList number) is = whole.artefacts
  lists_in (NewList files) is =
      let after : List (List ℕ) = with_list_texts table.texts files in
      push (HasTexts after) table.lists (drafted_files table.texts files)
      (weaker (HasTexts table.texts) (HasTexts after) (λ built. weaker (λ (f : BuiltFile). Contains table.texts f.artefact) (λ (f : BuiltFile). Contains after f.artefact) (λ f. texts_stay table.texts files f.artefact) built) table.lists whole.artefacts)
      (drafted_in table.texts files is.1)

  whole_with : (draft : PassDraft) → IsValidPass table draft → IsWhole (with_pass table draft)
  whole_with draft is =
      let fits = list_fits draft.list is.list in
      record {
        passes = push FitsPass table.passes (drafted_pass table draft) whole.passes (record { run = is.run; simulator = is.simulator; few = fits.0; files = fits.1; output = is.output });
        built = push (λ (pass : Pass). Contains (with_list table draft.list) pass.built) table.passes (drafted_pass table draft)
            (weaker (λ (pass : Pass). Contains table.lists pass.built) (λ (pass : Pass). Contains (with_list table draft.list) pass.built) (λ pass. list_stays draft.list pass.built) table.passes whole.built)
            (list_in draft.list is.list);
        lists = lists_fit draft.list is.list;
        artefacts = lists_in draft.list is.list;
      }

whole_bare : IsWhole bare_table
whole_bare = record { passes = All-nil FitsPass; built = All-nil (λ (pass : Pass). Contains [] pass.built); lists = All-nil FitsList; artefacts = All-nil (HasTexts []) }

whole_of : (payloads : List (List ℕ)) → IsWhole (pass_table_of payloads)
whole_of = by_payloads IsWhole (λ table draft whole is. whole_with table whole draft is) whole_bare

-- the passes of a table are within their limits
pub passes_fit : (payloads : List (List ℕ)) → All FitsPass (passes_among payloads)
passes_fit payloads = (whole_of payloads).passes

-- and the lists of the table are too
pub all_lists_fit : (payloads : List (List ℕ)) → All FitsList (pass_table_of payloads).lists
all_lists_fit payloads = (whole_of payloads).lists

-- ## Numbers of a compacted table

module _ (texts : List (List ℕ)) (lists : List (List BuiltFile)) where
  -- A table has no text and no list twice, and only some that are given.
  record IsWithin (table : PassTable) : Type 0 where
    texts_in : All (Contains texts) table.texts
    lists_in : All (Contains lists) table.lists
    once : AreNumberedOnce table

  -- a pass over a list that is given, of texts that are given
  record IsOver (pass : Pass) : Type 0 where
    fits : FitsPass pass
    built : Contains lists pass.built
    artefacts : HasTexts texts pass.built

  ref_within : (now : List (List ℕ)) (text : List ℕ) (known : Option ℕ) → All (Contains texts) now → Contains texts text → All (Contains texts) (with_text now (ref_or known text))
  ref_within now text None all has = push (Contains texts) now text all has
  ref_within now text (Some number) all has = all

  files_within : (now : List (List ℕ)) (files : List BuiltFile) → All (Contains texts) now → HasTexts texts files → All (Contains texts) (with_list_texts now (spelled_files now files))
  unfolding with_list_texts spelled_files
  files_within now [] all has = all
  files_within now (file ∷ files) all has =
      files_within (with_compacted_text now file.artefact) files
      (ref_within now file.artefact (position (λ other. bytes_eq other file.artefact) now) all (All-head (λ (f : BuiltFile). Contains texts f.artefact) file files has))
      (All-tail (λ (f : BuiltFile). Contains texts f.artefact) file files has)

  texts_within : (table : PassTable) (built : List BuiltFile) (known : Option ℕ) → All (Contains texts) table.texts → HasTexts texts built → All (Contains texts) (with_texts_of table.texts (list_or known (spelled_files table.texts built)))
  texts_within table built None all has = files_within table.texts built all has
  texts_within table built (Some number) all has = all

  lists_within : (table : PassTable) (built : List BuiltFile) (known : Option ℕ) → All (Contains lists) table.lists → Contains lists built → All (Contains lists) (with_list table (list_or known (spelled_files table.texts built)))
  lists_within table built None all has =
      push (Contains lists) table.lists (drafted_files table.texts (spelled_files table.texts built)) all (subst (Contains lists) (sym (files_told table.texts built)) has)
  lists_within table built (Some number) all has = all

  pass_within : (table : PassTable) (pass : Pass) → IsWithin table → IsOver pass → IsWithin (with_pass table (spelled_pass table pass))
  pass_within table pass is over =
      let known : Option ℕ = position (λ other. is_same_list other pass.built) table.lists in
      record {
        texts_in = texts_within table pass.built known is.texts_in over.artefacts;
        lists_in = lists_within table pass.built known is.lists_in over.built;
        once = once_with_pass table (spelled_pass table pass) is.once (pass_valid table pass over.fits);
      }

  passes_within : (table : PassTable) (passes : List Pass) → IsWithin table → All IsOver passes → IsWithin (with_passes table passes)
  unfolding with_passes
  passes_within table [] is over = is
  passes_within table (pass ∷ passes) is over =
      passes_within (with_pass table (spelled_pass table pass)) passes (pass_within table pass is (All-head IsOver pass passes over)) (All-tail IsOver pass passes over)

bare_within : (texts : List (List ℕ)) (lists : List (List BuiltFile)) → IsWithin texts lists bare_table
bare_within texts lists = record {
  texts_in = All-nil (Contains texts);
  lists_in = All-nil (Contains lists);
  once = record { texts = λ i j d a b. absurd (omega (arith, b)); lists = λ i j d a b. absurd (omega (arith, b)) };
}

over_own : (table : PassTable) → IsWhole table → All (IsOver table.texts table.lists) table.passes
over_own table whole k d low =
    let pass : Pass = get_or table.passes k d in
    let has : Contains table.lists pass.built = whole.built k d low in
    record {
      fits = whole.passes k d low;
      built = has;
      artefacts = subst (HasTexts table.texts) has.2 (whole.artefacts has.0 pass.built has.1);
    }

pub compacted_numberable : (payloads : List (List ℕ)) → IsNumberable (pass_table_of payloads) → IsNumberable (compacted_table (passes_among payloads))
compacted_numberable payloads few =
    let table : PassTable = pass_table_of payloads in
    let over = All-last_passes (IsOver table.texts table.lists) table.passes (over_own table (whole_of payloads)) in
    let within = passes_within table.texts table.lists bare_table (last_passes table.passes) (bare_within table.texts table.lists) over in
    let made : PassTable = with_passes bare_table (last_passes table.passes) in
    record {
      texts = omega (arith, no_more made.texts table.texts within.once.texts within.texts_in, few.texts);
      lists = omega (arith, no_more made.lists table.lists within.once.lists within.lists_in, few.lists);
    }
