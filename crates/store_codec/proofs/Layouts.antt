-- Where the parts of a payload stand that is written.
use Rattle.std.proofs.Common.{◌≡◌, ℕ, ◌+◌, ◌*◌, ◌^◌, ◌<◌, List, [], ◌∷◌, ◌++◌, length, take, drop, get_or, Option, refl, sym, ap, ◌∙◌, append_assoc, arith, length-append}
use Rattle.std.specs.Int.{w64, to_le_bytes}
use Rattle.std.specs.List.{flat_map}
use Rattle.std.specs.Option.{option_map_or}
use Rattle.std.proofs.lemmas.List.{append-nil, drop-drop, drop_at, take_at}
use Rattle.base.specs.Bytes.{number_bytes, text_bytes}
use Rattle.base.specs.Jobs.{name_bytes}
use Rattle.base_bytes.specs.Reading.{counted_at, number_at, text_at}
use Rattle.base_bytes.proofs.Fields.{text_again, u64_again}
use Rattle.base_bytes.proofs.Many.{by_recursion, counted_again}
use Rattle.base_bytes.specs.declared.ranges.ByteRange.{ByteRange}
use Rattle.base_bytes.specs.declared.text_refs.TextRange.{TextRange}
use Rattle.base_bytes.specs.Ranges.{counted_numbers, counted_words, ranged}
use Rattle.base_bytes.specs.TextRefs.{TextRef, ref_in_range}
use Rattle.store_codec.specs.declared.layout.RequestLayout.{RequestLayout}
use Rattle.store_codec.specs.Forms.{HasRequestSpelling, RequestDraft, command_bytes, product_numbers_bytes, request_draft_bytes, request_payload_bytes, text_ref_bytes}
use Rattle.store_codec.specs.Layouts.{IsLayout}
use Rattle.store_codec.proofs.Sized.{length-long, length-short, length-text}

-- what stands after a part
after : (bytes part rest : List ℕ) (at next : ℕ) → drop at bytes ≡ part ++ rest → next ≡ at + length part → drop next bytes ≡ rest
after bytes part rest at next e is = ap (λ (k : ℕ). drop k bytes) is ∙ sym (drop-drop (length part) at bytes) ∙ ap (drop (length part)) e ∙ drop_at part rest (length part) refl

-- the bytes at a range
here : (bytes text rest : List ℕ) (range : ByteRange) → drop range.start bytes ≡ text ++ rest → range.count ≡ length text → ranged bytes range ≡ text
here bytes text rest range e is = ap (take range.count) e ∙ take_at text rest range.count (sym is)

-- the bytes of a text stand after its length
text_here : (bytes text rest : List ℕ) (at start : ℕ) → drop at bytes ≡ text_bytes text ++ rest → start ≡ at + 4 → drop start bytes ≡ text ++ rest
unfolding text_bytes
text_here bytes text rest at start e is = after bytes (number_bytes (length text)) (text ++ rest) at start (e ∙ append_assoc (number_bytes (length text)) text rest) is

-- a new text stands after its tag and its length
pub new_text_here : (bytes text rest : List ℕ) (at start : ℕ) → drop at bytes ≡ text_ref_bytes (TextRef.InFull text) ++ rest → start ≡ at + 5 → drop start bytes ≡ text ++ rest
unfolding text_ref_bytes
new_text_here bytes text rest at start e is =
    text_here bytes text rest (at + 1) start (after bytes (1 ∷ []) (text_bytes text ++ rest) at (at + 1) e refl) (omega (arith, is))

pub range_here : (bytes text rest : List ℕ) (range : ByteRange) → drop range.start bytes ≡ text ++ rest → range.count ≡ length text → ranged bytes range ≡ text
range_here = here

words_here : (bytes rest : List ℕ) (command : List (List ℕ)) (range : ByteRange) → length command < 2 ^ 32 → ((k : ℕ) (d : List ℕ) → k < length command → length (get_or command k d) < 2 ^ 32) → drop range.start bytes ≡ command_bytes command ++ rest → counted_words bytes range ≡ command
unfolding command_bytes
words_here bytes rest command range few short e =
    ap (λ (bs : List ℕ). option_map_or (λ (r : List (List ℕ) × List ℕ). r.0) (counted_at text_at bs) []) e
    ∙ ap (λ (o : Option (List (List ℕ) × List ℕ)). option_map_or (λ (r : List (List ℕ) × List ℕ). r.0) o []) (counted_again text_at text_bytes (λ (t : List ℕ). length t < 2 ^ 32) text_again command rest few (by_recursion (λ (t : List ℕ). length t < 2 ^ 32) command short))

numbers_here : (bytes rest numbers : List ℕ) (range : ByteRange) → length numbers < 2 ^ 32 → ((k : ℕ) (d : ℕ) → k < length numbers → get_or numbers k d < 2 ^ 64) → drop range.start bytes ≡ product_numbers_bytes numbers ++ rest → counted_numbers bytes range ≡ numbers
unfolding product_numbers_bytes
numbers_here bytes rest numbers range few fit e =
    ap (λ (bs : List ℕ). option_map_or (λ (r : List ℕ × List ℕ). r.0) (counted_at (number_at w64) bs) []) e
    ∙ ap (λ (o : Option (List ℕ × List ℕ)). option_map_or (λ (r : List ℕ × List ℕ). r.0) o []) (counted_again (number_at w64) (to_le_bytes w64) (λ (n : ℕ). n < 2 ^ 64) u64_again numbers rest few (by_recursion (λ (n : ℕ). n < 2 ^ 64) numbers fit))

flat_longs : (numbers : List ℕ) → length (flat_map (to_le_bytes w64) numbers) ≡ 8 * length numbers
flat_longs [] = refl
flat_longs (first ∷ rest) = omega (arith, length-append (to_le_bytes w64 first) (flat_map (to_le_bytes w64) rest), length-long first, flat_longs rest)

length-numbers : (numbers : List ℕ) → length (product_numbers_bytes numbers) ≡ 4 + 8 * length numbers
unfolding product_numbers_bytes
length-numbers numbers = omega (arith, length-append (number_bytes (length numbers)) (flat_map (to_le_bytes w64) numbers), length-short (length numbers), flat_longs numbers)

-- a range at which a text stands that is written at an offset
abbrev pub HoldsRef : ℕ → TextRef → TextRange → Type 0
HoldsRef at source range = (bytes rest : List ℕ) → drop at bytes ≡ text_ref_bytes source ++ rest → ref_in_range bytes range ≡ source

-- The ranges of a record, one after the other.
pub record AreInRow (draft : RequestDraft) (layout : RequestLayout) : Type 0 where
  pub library : layout.ranges.library.start ≡ 5
  pub library_count : layout.ranges.library.count ≡ length draft.name.library
  pub path : layout.ranges.path.start ≡ length draft.name.library + 9
  pub path_count : layout.ranges.path.count ≡ length draft.name.path
  pub words : layout.ranges.words.start ≡ length draft.name.library + 9 + length draft.name.path
  pub source : HoldsRef (length draft.name.library + 9 + length draft.name.path + length (command_bytes draft.command)) draft.source layout.ranges.source
  pub deps : layout.ranges.deps.start ≡ length draft.name.library + 9 + length draft.name.path + length (command_bytes draft.command) + length (text_ref_bytes draft.source)
  pub artefact : HoldsRef (length draft.name.library + 9 + length draft.name.path + length (command_bytes draft.command) + length (text_ref_bytes draft.source) + (4 + 8 * length draft.deps)) draft.artefact layout.ranges.artefact
  pub size : layout.size ≡ length draft.name.library + 9 + length draft.name.path + length (command_bytes draft.command) + length (text_ref_bytes draft.source) + (4 + 8 * length draft.deps) + length (text_ref_bytes draft.artefact)

pub is_layout : (draft : RequestDraft) (layout : RequestLayout) → HasRequestSpelling draft → AreInRow draft layout → IsLayout draft layout
unfolding request_payload_bytes request_draft_bytes name_bytes
is_layout draft layout fits row =
    let library : List ℕ = draft.name.library in
    let path : List ℕ = draft.name.path in
    let name : List ℕ = text_bytes library ++ text_bytes path in
    let words : List ℕ = command_bytes draft.command in
    let source : List ℕ = text_ref_bytes draft.source in
    let deps : List ℕ = product_numbers_bytes draft.deps in
    let artefact : List ℕ = text_ref_bytes draft.artefact in
    let last3 : List ℕ = source ++ (deps ++ artefact) in
    let bytes : List ℕ = 1 ∷ (name ++ (words ++ last3)) in
    let at1 : drop 1 bytes ≡ text_bytes library ++ (text_bytes path ++ (words ++ last3)) = append_assoc (text_bytes library) (text_bytes path) (words ++ last3) in
    let at_path : drop (length library + 5) bytes ≡ text_bytes path ++ (words ++ last3) = after bytes (text_bytes library) (text_bytes path ++ (words ++ last3)) 1 (length library + 5) at1 (omega (arith, length-text library)) in
    let at_words : drop (length library + 9 + length path) bytes ≡ words ++ last3 = after bytes (text_bytes path) (words ++ last3) (length library + 5) (length library + 9 + length path) at_path (omega (arith, length-text path)) in
    let at_source : drop (length library + 9 + length path + length words) bytes ≡ source ++ (deps ++ artefact) = after bytes words last3 (length library + 9 + length path) (length library + 9 + length path + length words) at_words refl in
    let at_deps : drop (length library + 9 + length path + length words + length source) bytes ≡ deps ++ artefact = after bytes source (deps ++ artefact) (length library + 9 + length path + length words) (length library + 9 + length path + length words + length source) at_source refl in
    let at_artefact : drop (length library + 9 + length path + length words + length source + (4 + 8 * length draft.deps)) bytes ≡ artefact = after bytes deps artefact (length library + 9 + length path + length words + length source) (length library + 9 + length path + length words + length source + (4 + 8 * length draft.deps)) at_deps (omega (arith, length-numbers draft.deps)) in
    record {
      size = omega (
        arith,
        row.size,
        length-append name (words ++ last3),
        length-append (text_bytes library) (text_bytes path),
        length-text library,
        length-text path,
        length-append words last3,
        length-append source (deps ++ artefact),
        length-append deps artefact,
        length-numbers draft.deps,
      );
      parts = rw (
        here bytes library (text_bytes path ++ (words ++ last3)) layout.ranges.library (ap (λ (k : ℕ). drop k bytes) row.library ∙ text_here bytes library (text_bytes path ++ (words ++ last3)) 1 5 at1 refl) row.library_count,
        here bytes path (words ++ last3) layout.ranges.path (text_here bytes path (words ++ last3) (length library + 5) layout.ranges.path.start at_path (omega (arith, row.path))) row.path_count,
        words_here bytes last3 draft.command layout.ranges.words fits.count fits.words (ap (λ (k : ℕ). drop k bytes) row.words ∙ at_words),
        row.source bytes (deps ++ artefact) at_source,
        numbers_here bytes artefact draft.deps layout.ranges.deps fits.few fits.deps (ap (λ (k : ℕ). drop k bytes) row.deps ∙ at_deps),
        row.artefact bytes [] (at_artefact ∙ sym (append-nil artefact)),
      ) refl;
    }
