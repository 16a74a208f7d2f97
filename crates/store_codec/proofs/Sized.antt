-- Payloads have fewer than 2 ^ 32 bytes.
use Rattle.std.proofs.Common.{◌≡◌, ℕ, ◌+◌, ◌^◌, ◌<◌, ◌≤◌, List, ◌∷◌, ◌++◌, length, get_or, Option, Some, None, refl, arith, length-append}
use Rattle.std.specs.Int.{w64, to_le_bytes}
use Rattle.std.specs.List.{flat_map}
use Rattle.std.specs.Prelude.{All}
use Rattle.std.proofs.lemmas.List.Concat.{length-flat_map}
use Rattle.std.proofs.lemmas.List.Sums.{sum_by-le}
use Rattle.base.specs.declared.file.FileName.{FileName}
use Rattle.base.specs.declared.limits.TheConstants.{FILE_LIMIT, TEXT_LIMIT}
use Rattle.base.specs.Bytes.{number_bytes, text_bytes}
use Rattle.base.specs.Jobs.{name_bytes}
use Rattle.base.specs.Names.{FitsCommand, FitsName}
use Rattle.store_codec.specs.Forms.{command_bytes, product_draft_bytes, product_numbers_bytes, request_payload_bytes, text_ref_bytes}
use Rattle.store_codec.specs.Forms.RequestPayload.{OfProduct}
use Rattle.store_codec.specs.Writing.{ref_or}

pub length-long : (n : ℕ) → length (to_le_bytes w64 n) ≡ 8
length-long n = refl

pub length-short : (n : ℕ) → length (number_bytes n) ≡ 4
length-short n = refl

pub length-text : (text : List ℕ) → length (text_bytes text) ≡ length text + 4
unfolding text_bytes
length-text text = omega (arith, length-append (number_bytes (length text)) text, length-short (length text))

name_small : (name : FileName) → FitsName name → length (name_bytes name) ≤ 1096
unfolding name_bytes
name_small name fits = omega (arith, length-append (text_bytes name.library) (text_bytes name.path), length-text name.library, length-text name.path, fits.library.at_most, fits.path.at_most)

pub words_small : (words : List (List ℕ)) → FitsCommand words → length (command_bytes words) ≤ 65796
unfolding command_bytes
words_small words fits =
    let each : All (λ word. length (text_bytes word) ≤ 1028) words = λ k d l. omega (arith, length-text (get_or words k d), fits.words k d l) in
    omega (
      arith,
      length-append (number_bytes (length words)) (flat_map text_bytes words),
      length-short (length words),
      length-flat_map text_bytes words,
      sum_by-le (λ word. length (text_bytes word)) 1028 words each,
      fits.count.at_most,
    )

numbers_small : (numbers : List ℕ) → length numbers < FILE_LIMIT → length (product_numbers_bytes numbers) ≤ 32772
unfolding product_numbers_bytes
numbers_small numbers few =
    omega (
      arith,
      length-append (number_bytes (length numbers)) (flat_map (to_le_bytes w64) numbers),
      length-short (length numbers),
      length-flat_map (to_le_bytes w64) numbers,
      sum_by-le (λ number. length (to_le_bytes w64 number)) 8 numbers (λ k d l. omega (arith, length-long (get_or numbers k d))),
      few,
    )

pub ref_small : (known : Option ℕ) (text : List ℕ) → length text ≤ TEXT_LIMIT → length (text_ref_bytes (ref_or known text)) ≤ 13 + TEXT_LIMIT
unfolding text_ref_bytes
ref_small (Some number) text few = omega (arith, length-long number)
ref_small None text few = omega (arith, length-text text, few)

pub product_small : (name : FileName) (known : Option ℕ) (artefact : List ℕ) → FitsName name → length artefact ≤ TEXT_LIMIT → length (request_payload_bytes (OfProduct (record { name = name; artefact = ref_or known artefact }))) < 2 ^ 32
unfolding request_payload_bytes product_draft_bytes
product_small name known artefact fits small =
    omega (arith, length-append (name_bytes name) (text_ref_bytes (ref_or known artefact)), name_small name fits, ref_small known artefact small)

pub request_small : (name : FileName) (words : List ℕ) (source : Option ℕ) (text : List ℕ) (deps : List ℕ) (known : Option ℕ) (artefact : List ℕ) → FitsName name → length words ≤ 65796 → length text ≤ TEXT_LIMIT → length deps < FILE_LIMIT → length artefact ≤ TEXT_LIMIT → length (1 ∷ (name_bytes name ++ (words ++ (text_ref_bytes (ref_or source text) ++ (product_numbers_bytes deps ++ text_ref_bytes (ref_or known artefact)))))) < 2 ^ 32
request_small name words source text deps known artefact fits words_few text_few few small =
    let s : List ℕ = text_ref_bytes (ref_or source text) in
    let r : List ℕ = text_ref_bytes (ref_or known artefact) in
    omega (
      arith,
      length-append (name_bytes name) (words ++ (s ++ (product_numbers_bytes deps ++ r))),
      length-append words (s ++ (product_numbers_bytes deps ++ r)),
      length-append s (product_numbers_bytes deps ++ r),
      length-append (product_numbers_bytes deps) r,
      name_small name fits,
      words_few,
      ref_small source text text_few,
      numbers_small deps few,
      ref_small known artefact small,
    )
