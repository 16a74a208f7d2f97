-- Texts after a put and after a drop, and how many bytes they have.
use Rattle.std.proofs.Common.{ℕ, ◌≡◌, ◌+◌, ◌-◌, ◌<◌, ◌≤◌, Bool, true, false, cond, List, [], ◌∷◌, length, map, nat_eq, Vec, Global, refl, sym, ap, subst, ◌∙◌, arith}
use Rattle.std.specs.Prelude.{Option, Some, None, nat_le, ◌&&◌}
use Rattle.std.specs.Option.{option_map_or}
use Rattle.std.specs.List.{AllByRecursion}
use Rattle.std.specs.List.Sorted.{IsStrictlySortedBy}
use Rattle.std.specs.Map.{keys_of, lookup, remove_entry}
use Rattle.std.specs.BTreeMap.{insert_entry, is_at}
use Rattle.std.specs.Ordering.{nat_cmp, is_eq, match_ordering}
use Rattle.std.specs.declared.cmp.Ordering.{Ordering}
use Rattle.std.specs.declared.cmp.Ordering.TheVariants.{Less, Equal, Greater}
use Rattle.std.specs.Cmp.Lexicographic.{pointwise, slice_cmp}
use Rattle.std.proofs.lemmas.Bool.{le-leb, lt-leb}
use Rattle.std.proofs.lemmas.Cmp.{nat_list_cmp_total, nat_list_eq_equiv}
use Rattle.std.proofs.lemmas.Map.Text.{is_eq-slice_cmp}
use Rattle.base.specs.declared.file.NamedText.{NamedText}
use Rattle.base.specs.declared.limits.TheConstants.{TEXT_LIMIT, GRAPH_TEXT_LIMIT}
use Rattle.outside.specs.Trees.{IsName, IsRising}
use Rattle.memory_outside.specs.Trees.{file_at, paths_of}
use Rattle.memory_outside.specs.TreeLaws.{rises}
use Rattle.session_texts.specs.Texts.{AreAllowedTexts, is_within_limits, length_at, named_text, text_sum, with_text, without_text}
use Rattle.session_texts.specs.Entries.{texts_of}
use Rattle.session_texts.specs.OverlayTreeLaws.{sorted}

-- an entry of the map
abbrev pub Entry : Type 0
Entry = Vec ℕ Global × List ℕ

-- the order of the keys
abbrev pub path_cmp : Vec ℕ Global → Vec ℕ Global → Ordering
path_cmp x y = slice_cmp nat_cmp x.items y.items

-- how a path compares to a key
abbrev pub to_key : List ℕ → Vec ℕ Global → Ordering
to_key path key = slice_cmp nat_cmp path key.items

-- the texts of entries with one more entry
pub put_is : (entries : List Entry) (key : Vec ℕ Global) (text : List ℕ) → texts_of (insert_entry path_cmp entries key text) ≡ with_text key.items text (texts_of entries)
put_is [] key text = refl
put_is (e ∷ es) key text =
    elim (slice_cmp nat_cmp key.items e.0.items) as (λ r. texts_of (match_ordering r ((key, text) ∷ e ∷ es) ((e.0, text) ∷ es) (e ∷ insert_entry path_cmp es key text)) ≡ match_ordering r (named_text key.items text ∷ texts_of (e ∷ es)) (named_text e.0.items text ∷ texts_of es) (named_text e.0.items e.1 ∷ with_text key.items text (texts_of es))) [
      | Less ↦ refl
      | Equal ↦ refl
      | Greater ↦ ap (λ (ts : List NamedText). named_text e.0.items e.1 ∷ ts) (put_is es key text)
    ]

-- a key is at a path where both have the same bytes
pub at_path : (path key : List ℕ) → is_eq (slice_cmp nat_cmp path key) ≡ pointwise nat_eq key path
at_path path key = is_eq-slice_cmp path key ∙ nat_list_eq_equiv.symm path key

-- the texts of entries without an entry
pub dropped_is : (entries : List Entry) (path : List ℕ) → texts_of (remove_entry (is_at (to_key path)) entries) ≡ without_text path (texts_of entries)
dropped_is [] path = refl
dropped_is (e ∷ es) path =
    subst (λ (b : Bool). texts_of (cond b es (e ∷ remove_entry (is_at (to_key path)) es)) ≡ without_text path (texts_of (e ∷ es))) (sym (at_path path e.0.items))
    (elim (pointwise nat_eq e.0.items path) as (λ b. texts_of (cond b es (e ∷ remove_entry (is_at (to_key path)) es)) ≡ cond b (texts_of es) (named_text e.0.items e.1 ∷ without_text path (texts_of es))) [
      | true ↦ refl
      | false ↦ ap (λ (ts : List NamedText). named_text e.0.items e.1 ∷ ts) (dropped_is es path)
    ])

-- the map has at a path the text of that path
pub got_is : (entries : List Entry) (path : List ℕ) → lookup (is_at (to_key path)) entries ≡ file_at (texts_of entries) path
got_is [] path = refl
got_is (e ∷ es) path =
    subst (λ (b : Bool). cond b (Some e.1) (lookup (is_at (to_key path)) es) ≡ file_at (texts_of (e ∷ es)) path) (sym (at_path path e.0.items))
    (ap (λ (found : Option (List ℕ)). cond (pointwise nat_eq e.0.items path) (Some e.1) found) (got_is es path))

-- keys above a key are paths above its path
all_above : (key : Vec ℕ Global) (entries : List Entry) → AllByRecursion (λ other. path_cmp key other ≡ Less) (keys_of entries) → AllByRecursion (λ other. slice_cmp nat_cmp key.items other ≡ Less) (paths_of (texts_of entries))
all_above key [] all = tt
all_above key (e ∷ es) all = (all.0, all_above key es all.1)

-- ordered keys are sorted paths
pub sorted_paths : (entries : List Entry) → IsStrictlySortedBy path_cmp (keys_of entries) → IsStrictlySortedBy (slice_cmp nat_cmp) (paths_of (texts_of entries))
unfolding IsStrictlySortedBy
sorted_paths [] ordered = tt
sorted_paths (e ∷ es) ordered = (all_above e.0 es ordered.0, sorted_paths es ordered.1)

pub rising_entries : (entries : List Entry) → IsStrictlySortedBy path_cmp (keys_of entries) → IsRising (paths_of (texts_of entries))
rising_entries entries ordered = rises (paths_of (texts_of entries)) (sorted_paths entries ordered)

-- a path below all others has no text
pub none_below : (path : List ℕ) (texts : List NamedText) → AllByRecursion (λ other. slice_cmp nat_cmp path other ≡ Less) (paths_of texts) → file_at texts path ≡ None
none_below path [] all = refl
none_below path (first ∷ rest) all =
    let differs : pointwise nat_eq first.path path ≡ false = sym (at_path path first.path) ∙ ap is_eq all.0 in
    rw differs (none_below path rest all.1)

-- a path below another is below each above that
below_each : (path other : List ℕ) (paths : List (List ℕ)) → slice_cmp nat_cmp path other ≡ Less → AllByRecursion (λ y. slice_cmp nat_cmp other y ≡ Less) paths → AllByRecursion (λ y. slice_cmp nat_cmp path y ≡ Less) paths
below_each path other [] less all = tt
below_each path other (y ∷ ys) less all = (nat_list_cmp_total.trans path other y less all.0, below_each path other ys less all.1)

-- the bytes after a put: those of the earlier text are gone
pub sum_put : (path text : List ℕ) (texts : List NamedText) → IsStrictlySortedBy (slice_cmp nat_cmp) (paths_of texts) → text_sum (with_text path text texts) + length_at texts path ≡ text_sum texts + length text
unfolding IsStrictlySortedBy
sum_put path text [] sorted = omega arith
sum_put path text (first ∷ rest) sorted =
    (elim (slice_cmp nat_cmp path first.path) as (λ r. slice_cmp nat_cmp path first.path ≡ r → text_sum (match_ordering r (named_text path text ∷ first ∷ rest) (named_text first.path text ∷ rest) (first ∷ with_text path text rest)) + length_at (first ∷ rest) path ≡ text_sum (first ∷ rest) + length text) [
      | Less ↦ λ is.
          let none : length_at (first ∷ rest) path ≡ 0 = ap (λ (found : Option (List ℕ)). option_map_or (λ t. length t) found 0) (none_below path (first ∷ rest) (is, below_each path first.path (paths_of rest) is sorted.0)) in
          omega (arith, none)
      | Equal ↦ λ is.
          let same : pointwise nat_eq first.path path ≡ true = sym (at_path path first.path) ∙ ap is_eq is in
          let here : length_at (first ∷ rest) path ≡ length first.bytes = rw same refl in
          omega (arith, here)
      | Greater ↦ λ is.
          let differs : pointwise nat_eq first.path path ≡ false = sym (at_path path first.path) ∙ ap is_eq is in
          let later : length_at (first ∷ rest) path ≡ length_at rest path = rw differs refl in
          let more = sum_put path text rest sorted.1 in
          omega (arith, later, more)
    ]) refl

-- the bytes after a drop
pub sum_dropped : (path : List ℕ) (texts : List NamedText) → text_sum (without_text path texts) + length_at texts path ≡ text_sum texts
sum_dropped path [] = refl
sum_dropped path (first ∷ rest) =
    let more = sum_dropped path rest in
    elim (pointwise nat_eq first.path path) as (λ b. text_sum (cond b rest (first ∷ without_text path rest)) + option_map_or (λ t. length t) (cond b (Some first.bytes) (file_at rest path)) 0 ≡ length first.bytes + text_sum rest) [
      | true ↦ omega arith
      | false ↦ omega (arith, more)
    ]

-- what holds of each text and of a new one holds after a put
pub all_put : (P : NamedText → Type 0) (path text : List ℕ) (texts : List NamedText) → P (named_text path text) → ((other : NamedText) → P other → P (named_text other.path text)) → AllByRecursion P texts → AllByRecursion P (with_text path text texts)
all_put P path text [] new over all = (new, tt)
all_put P path text (first ∷ rest) new over all =
    elim (slice_cmp nat_cmp path first.path) as (λ r. AllByRecursion P (match_ordering r (named_text path text ∷ first ∷ rest) (named_text first.path text ∷ rest) (first ∷ with_text path text rest))) [
      | Less ↦ (new, all)
      | Equal ↦ (over first all.0, all.1)
      | Greater ↦ (all.0, all_put P path text rest new over all.1)
    ]

pub all_dropped : (P : NamedText → Type 0) (path : List ℕ) (texts : List NamedText) → AllByRecursion P texts → AllByRecursion P (without_text path texts)
all_dropped P path [] all = tt
all_dropped P path (first ∷ rest) all =
    elim (pointwise nat_eq first.path path) as (λ b. AllByRecursion P (cond b rest (first ∷ without_text path rest))) [
      | true ↦ all.1
      | false ↦ (all.0, all_dropped P path rest all.1)
    ]

-- a put within the limits
pub allowed_put : (path text : List ℕ) (texts : List NamedText) → AreAllowedTexts texts → IsName path → length text ≤ TEXT_LIMIT → text_sum (with_text path text texts) ≤ GRAPH_TEXT_LIMIT → AreAllowedTexts (with_text path text texts)
allowed_put path text texts are name short sum = record {
  names = all_put (λ some. IsName some.path) path text texts name (λ other is. is) are.names;
  short = all_put (λ some. length some.bytes ≤ TEXT_LIMIT) path text texts short (λ other is. short) are.short;
  all = sum;
}

-- after a drop
pub allowed_drop : (path : List ℕ) (texts : List NamedText) → AreAllowedTexts texts → AreAllowedTexts (without_text path texts)
allowed_drop path texts are =
    let sum = sum_dropped path texts in
    let all = are.all in
    record {
      names = all_dropped (λ some. IsName some.path) path texts are.names;
      short = all_dropped (λ some. length some.bytes ≤ TEXT_LIMIT) path texts are.short;
      all = omega (arith, sum, all);
    }

-- the paths are names
pub path_names : (texts : List NamedText) → AllByRecursion (λ text. IsName text.path) texts → AllByRecursion IsName (paths_of texts)
path_names [] all = tt
path_names (first ∷ rest) all = (all.0, path_names rest all.1)

-- the keys are the paths
pub key_paths : (entries : List Entry) → map (λ (key : Vec ℕ Global). key.items) (keys_of entries) ≡ paths_of (texts_of entries)
key_paths [] = refl
key_paths (e ∷ es) = ap (λ (paths : List (List ℕ)). e.0.items ∷ paths) (key_paths es)

-- the bytes after an entry with this text is removed
pub sum_removed : (entries : List Entry) (path text : List ℕ) → Some text ≡ lookup (is_at (to_key path)) entries → text_sum (texts_of (remove_entry (is_at (to_key path)) entries)) + length text ≡ text_sum (texts_of entries)
sum_removed entries path text had =
    let long : length_at (texts_of entries) path ≡ length text = ap (λ (found : Option (List ℕ)). option_map_or (λ t. length t) found 0) (sym (had ∙ got_is entries path)) in
    let is : text_sum (texts_of (remove_entry (is_at (to_key path)) entries)) ≡ text_sum (without_text path (texts_of entries)) = ap text_sum (dropped_is entries path) in
    let sum = sum_dropped path (texts_of entries) in
    omega (arith, long, is, sum)

-- the text of a path has no more bytes than all texts
pub no_longer : (path : List ℕ) (texts : List NamedText) → length_at texts path ≤ text_sum texts
no_longer path texts = let sum = sum_dropped path texts in omega (arith, sum)

-- the bytes after a put, from those before
pub total_put : (path text : List ℕ) (texts : List NamedText) (total earlier : ℕ) → IsRising (paths_of texts) → total ≡ text_sum texts → earlier ≡ length_at texts path → total - earlier + length text ≡ text_sum (with_text path text texts)
total_put path text texts total earlier rising all here =
    let sum = sum_put path text texts (sorted (paths_of texts) rising) in
    let low = no_longer path texts in
    omega (arith, sum, low, all, here)

-- a put that makes all texts exceed their limit is not within the limits
pub over_sum : (texts : List NamedText) (path text : List ℕ) → GRAPH_TEXT_LIMIT < text_sum (with_text path text texts) → false ≡ is_within_limits texts path text
over_sum texts path text over =
    rw (lt-leb (text_sum (with_text path text texts)) GRAPH_TEXT_LIMIT over) (elim (nat_le (length text) TEXT_LIMIT) as (λ b. false ≡ (b && false)) [ true ↦ refl | false ↦ refl ])

pub within : (texts : List NamedText) (path text : List ℕ) → length text ≤ TEXT_LIMIT → text_sum (with_text path text texts) ≤ GRAPH_TEXT_LIMIT → true ≡ is_within_limits texts path text
within texts path text short few = rw (le-leb (length text) TEXT_LIMIT short) (rw (le-leb (text_sum (with_text path text texts)) GRAPH_TEXT_LIMIT few) refl)
