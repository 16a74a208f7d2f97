-- The payloads of spelled bytes.
use Rattle.std.proofs.Common.{◌≡◌, ◌≢◌, ℕ, zero, suc, ◌+◌, ◌≤◌, ◌<◌, ◌^◌, false, List, [], ◌∷◌, ◌++◌, length, drop, Some, None, refl, ap, ◌∙◌, append_assoc, arith, length-append}
use Rattle.std.specs.Prelude.{◌==◌, All}
use Rattle.std.specs.List.{flat_map}
use Rattle.std.specs.Option.{option_and_then}
use Rattle.std.proofs.lemmas.Bool.Decides.{nat_tests}
use Rattle.std.proofs.lemmas.List.{drop_at}
use Rattle.std.proofs.lemmas.List.Concat.{flat_map-cons}
use Rattle.std.proofs.lemmas.List.Elements.{All-head, All-tail}
use Rattle.base_bytes.proofs.Fields.{text_again}
use Rattle.store_journal.specs.Payloads.{block, gated, payload_at, payloads_in, payloads_upto}
use Rattle.store_journal.specs.Journals.{EndsAt, HasClosedCommitByteAt}

abbrev Small : List ℕ → Type 0
Small payload = length payload < 2 ^ 32

-- after a commit byte that isn't open no payload follows
pub closed_commit_byte : (commit_byte : ℕ) (rest : List ℕ) → commit_byte ≢ 1 → payload_at (commit_byte ∷ rest) ≡ None
unfolding payload_at
closed_commit_byte commit_byte rest closed = grind (arith, nat_tests)

-- a block is read, where at least a commit byte follows
pub block_again : (payload rest : List ℕ) → Small payload → 0 < length rest → payload_at (block payload ++ rest) ≡ Some (payload, rest)
unfolding payload_at block
block_again payload rest small more =
    let long : (length rest == 0) ≡ false = grind (arith, nat_tests) in
    ap (option_and_then gated) (text_again payload rest small) ∙ rw long refl

-- the blocks of payloads, and those of the first of them before the rest
pub blocks-cons : (payload : List ℕ) (payloads : List (List ℕ)) (tail : List ℕ) → flat_map block (payload ∷ payloads) ++ tail ≡ block payload ++ (flat_map block payloads ++ tail)
blocks-cons payload payloads tail = ap (λ (bs : List ℕ). bs ++ tail) (flat_map-cons block payload payloads) ∙ append_assoc (block payload) (flat_map block payloads) tail

-- each block has a commit byte at least
pub blocks_long : (payloads : List (List ℕ)) → length payloads ≤ length (flat_map block payloads)
unfolding block
blocks_long [] = omega arith
blocks_long (payload ∷ payloads) =
    let size : length (flat_map block (payload ∷ payloads)) ≡ length (block payload) + length (flat_map block payloads) = ap length (flat_map-cons block payload payloads) ∙ length-append (block payload) (flat_map block payloads) in
    omega (arith, size, blocks_long payloads)

-- what is read of the blocks of payloads after which none follows
pub blocks_again : (n : ℕ) (payloads : List (List ℕ)) (tail : List ℕ) → length payloads ≤ n → All Small payloads → 0 < length tail → payload_at tail ≡ None → payloads_upto n (flat_map block payloads ++ tail) ≡ payloads
unfolding payloads_upto
blocks_again zero [] tail room small more none = refl
blocks_again zero (payload ∷ payloads) tail room small more none = absurd (omega arith)
blocks_again (suc n) [] tail room small more none = rw none refl
blocks_again (suc n) (payload ∷ payloads) tail room small more none =
    let rest : List ℕ = flat_map block payloads ++ tail in
    let first : payload_at (block payload ++ rest) ≡ Some (payload, rest) = block_again payload rest (All-head Small payload payloads small) (omega (arith, length-append (flat_map block payloads) tail)) in
    let others : payloads_upto n rest ≡ payloads = blocks_again n payloads tail (omega arith) (All-tail Small payload payloads small) more none in
    rw (blocks-cons payload payloads tail, first, others) refl

pub closed_ends : (count : ℕ) (ps : List (List ℕ)) (bytes : List ℕ) → HasClosedCommitByteAt count ps bytes → EndsAt count ps bytes
closed_ends count ps bytes closed = record { spelled = closed.spelled; none = closed_commit_byte closed.spelled.commit_byte closed.spelled.rest closed.closed }

pub spelled_payloads : (count : ℕ) (ps : List (List ℕ)) (bytes : List ℕ) → EndsAt count ps bytes → payloads_in bytes ≡ ps
unfolding payloads_in
spelled_payloads count ps bytes ends =
    let tail : List ℕ = ends.spelled.commit_byte ∷ ends.spelled.rest in
    let after : drop 18 bytes ≡ flat_map block ps ++ tail = ap (drop 18) ends.spelled.parts ∙ drop_at ends.spelled.head (flat_map block ps ++ tail) 18 ends.spelled.header in
    let size : length bytes ≡ length ends.spelled.head + length (flat_map block ps ++ tail) = ap length ends.spelled.parts ∙ length-append ends.spelled.head (flat_map block ps ++ tail) in
    let room : length ps ≤ length bytes = omega (arith, size, length-append (flat_map block ps) tail, blocks_long ps) in
    ap (payloads_upto (length bytes)) after ∙ blocks_again (length bytes) ps tail room ends.spelled.small (omega arith) ends.none
