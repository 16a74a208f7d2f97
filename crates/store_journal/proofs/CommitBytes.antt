-- Where the closed commit byte stands, and what opens it.
use Rattle.std.proofs.Common.{◌≡◌, ◌≢◌, ℕ, ◌+◌, ◌-◌, ◌≤◌, ◌<◌, ◌^◌, List, [], ◌∷◌, ◌++◌, length, get_or, take, drop, sym, ap, ◌∙◌, append_assoc, arith, length-append}
use Rattle.std.specs.List.{flat_map}
use Rattle.std.proofs.lemmas.List.{append-nil, drop_more, get_or_at, take_at, take-append-drop}
use Rattle.std.proofs.lemmas.List.Concat.{flat_map-append, flat_map-cons}
use Rattle.std.proofs.lemmas.List.Elements.{All-push}
use Rattle.base.specs.Bytes.{text_bytes}
use Rattle.store_journal.specs.Payloads.{block}
use Rattle.store_journal.specs.Journals.{IsSpelled, HasClosedCommitByteAt}
use Rattle.store_journal.proofs.Torn.{IsTorn, torn_prefix, torn_after}

abbrev pub Small : List ℕ → Type 0
Small payload = length payload < 2 ^ 32

-- the prefix, the commit byte and what follows
pub prefix_parts : (count : ℕ) (payloads : List (List ℕ)) (bytes : List ℕ) (spelled : IsSpelled count payloads bytes) → bytes ≡ (spelled.head ++ flat_map block payloads) ++ spelled.commit_byte ∷ spelled.rest
prefix_parts count payloads bytes spelled = spelled.parts ∙ sym (append_assoc spelled.head (flat_map block payloads) (spelled.commit_byte ∷ spelled.rest))

pub prefix_length : (count : ℕ) (payloads : List (List ℕ)) (bytes : List ℕ) (spelled : IsSpelled count payloads bytes) → length (spelled.head ++ flat_map block payloads) ≡ count - 1
prefix_length count payloads bytes spelled = omega (arith, length-append spelled.head (flat_map block payloads), spelled.header, spelled.count_is)

prefix_is : (count : ℕ) (payloads : List (List ℕ)) (bytes : List ℕ) (spelled : IsSpelled count payloads bytes) → take (count - 1) bytes ≡ spelled.head ++ flat_map block payloads
prefix_is count payloads bytes spelled =
    ap (take (count - 1)) (prefix_parts count payloads bytes spelled)
    ∙ take_at (spelled.head ++ flat_map block payloads) (spelled.commit_byte ∷ spelled.rest) (count - 1) (prefix_length count payloads bytes spelled)

-- where the commit byte stands
pub commit_byte_is : (count : ℕ) (payloads : List (List ℕ)) (bytes : List ℕ) (spelled : IsSpelled count payloads bytes) → get_or bytes (count - 1) 0 ≡ spelled.commit_byte
commit_byte_is count payloads bytes spelled =
    ap (λ (l : List ℕ). get_or l (count - 1) 0) (prefix_parts count payloads bytes spelled)
    ∙ get_or_at (spelled.head ++ flat_map block payloads) spelled.commit_byte spelled.rest 0 (count - 1) (prefix_length count payloads bytes spelled)

-- the bytes reach up to the commit byte, which comes after the header
pub commit_byte_there : (count : ℕ) (payloads : List (List ℕ)) (bytes : List ℕ) → IsSpelled count payloads bytes → (19 ≤ count) × (count ≤ length bytes)
commit_byte_there count payloads bytes spelled =
    let prefix = prefix_length count payloads bytes spelled in
    let size : length bytes ≡ length (spelled.head ++ flat_map block payloads) + length (spelled.commit_byte ∷ spelled.rest) = ap length (prefix_parts count payloads bytes spelled) ∙ length-append (spelled.head ++ flat_map block payloads) (spelled.commit_byte ∷ spelled.rest) in
    (omega (arith, spelled.count_is), omega (arith, spelled.count_is))

-- bytes of the same prefix are spelled like them
pub new_parts : (count : ℕ) (payloads : List (List ℕ)) (old new : List ℕ) (spelled : IsSpelled count payloads old) (after : List ℕ) → take (count - 1) new ≡ take (count - 1) old → drop (count - 1) new ≡ after → new ≡ spelled.head ++ (flat_map block payloads ++ after)
new_parts count payloads old new spelled after prefix is =
    let same : take (count - 1) new ≡ spelled.head ++ flat_map block payloads = prefix ∙ prefix_is count payloads old spelled in
    sym (take-append-drop (count - 1) new)
    ∙ ap (λ (l : List ℕ). l ++ drop (count - 1) new) same
    ∙ ap (λ (l : List ℕ). (spelled.head ++ flat_map block payloads) ++ l) is
    ∙ append_assoc spelled.head (flat_map block payloads) after

-- the same prefix, and a commit byte that isn't open
pub closed_again : (count : ℕ) (payloads : List (List ℕ)) (old new : List ℕ) (commit_byte : ℕ) (rest : List ℕ) → IsSpelled count payloads old → take (count - 1) new ≡ take (count - 1) old → drop (count - 1) new ≡ commit_byte ∷ rest → commit_byte ≢ 1 → HasClosedCommitByteAt count payloads new
closed_again count payloads old new commit_byte rest spelled prefix is closed = record {
  spelled = record {
    head = spelled.head;
    commit_byte = commit_byte;
    rest = rest;
    parts = new_parts count payloads old new spelled (commit_byte ∷ rest) prefix is;
    header = spelled.header;
    count_is = spelled.count_is;
    small = spelled.small;
  };
  closed = closed;
}

more_blocks : (payloads : List (List ℕ)) (payload : List ℕ) → flat_map block (payloads ++ payload ∷ []) ≡ flat_map block payloads ++ block payload
more_blocks payloads payload =
    flat_map-append block payloads (payload ∷ [])
    ∙ ap (λ (l : List ℕ). flat_map block payloads ++ l) (flat_map-cons block payload [] ∙ append-nil (block payload))

-- the same prefix, and after it an open commit byte, a payload and a closed commit byte
pub closed_with : (count : ℕ) (payloads : List (List ℕ)) (payload old new rest : List ℕ) → IsSpelled count payloads old → Small payload → take (count - 1) new ≡ take (count - 1) old → drop (count - 1) new ≡ 1 ∷ (text_bytes payload ++ 0 ∷ rest) → HasClosedCommitByteAt (count + length (text_bytes payload ++ 0 ∷ [])) (payloads ++ payload ∷ []) new
unfolding block
closed_with count payloads payload old new rest spelled small prefix is =
    let blocks = more_blocks payloads payload in
    let size : length (flat_map block (payloads ++ payload ∷ [])) ≡ length (flat_map block payloads) + length (block payload) = ap length blocks ∙ length-append (flat_map block payloads) (block payload) in
    let more : flat_map block payloads ++ (block payload ++ 0 ∷ rest) ≡ flat_map block (payloads ++ payload ∷ []) ++ 0 ∷ rest =
    sym (append_assoc (flat_map block payloads) (block payload) (0 ∷ rest)) ∙ ap (λ (l : List ℕ). l ++ 0 ∷ rest) (sym blocks) in
    record {
      spelled = record {
        head = spelled.head;
        commit_byte = 0;
        rest = rest;
        parts = new_parts count payloads old new spelled (block payload ++ 0 ∷ rest) prefix is ∙ ap (λ (l : List ℕ). spelled.head ++ l) more;
        header = spelled.header;
        count_is = omega (arith, spelled.count_is, size, length-append (text_bytes payload) (0 ∷ []));
        small = All-push Small payloads payload spelled.small small;
      };
      closed = λ e. absurd cc;
    }

-- a torn write after the closed commit byte leaves it closed
pub after_closed : (count n : ℕ) (payloads : List (List ℕ)) (old new : List ℕ) → HasClosedCommitByteAt count payloads old → IsTorn count n old new → HasClosedCommitByteAt count payloads new
after_closed count n payloads old new closed torn =
    let there = commit_byte_there count payloads old closed.spelled in
    let prefix : take (count - 1) new ≡ take (count - 1) old = torn_prefix (count - 1) count n old new torn (omega arith) (omega (arith, there.1)) in
    let commit_byte : get_or new (count - 1) 0 ≡ closed.spelled.commit_byte = torn.before (count - 1) (omega (arith, there.0)) (omega (arith, there.0, there.1)) ∙ commit_byte_is count payloads old closed.spelled in
    closed_again count payloads old new (get_or new (count - 1) 0) (drop (count - 1 + 1) new) closed.spelled prefix (drop_more new (count - 1) 0 (omega (arith, torn.no_shorter, there.0, there.1))) (λ one. closed.closed (sym commit_byte ∙ one))

-- a torn write of the commit byte alone that doesn't open it
pub commit_byte_shut : (count : ℕ) (payloads : List (List ℕ)) (old new : List ℕ) → HasClosedCommitByteAt count payloads old → IsTorn (count - 1) 1 old new → get_or new (count - 1) 0 ≢ 1 → HasClosedCommitByteAt count payloads new
commit_byte_shut count payloads old new closed torn shut =
    let there = commit_byte_there count payloads old closed.spelled in
    let prefix : take (count - 1) new ≡ take (count - 1) old = torn_prefix (count - 1) (count - 1) 1 old new torn (omega arith) (omega (arith, there.1)) in
    closed_again count payloads old new (get_or new (count - 1) 0) (drop (count - 1 + 1) new) closed.spelled prefix (drop_more new (count - 1) 0 (omega (arith, torn.no_shorter, there.0, there.1))) shut

-- a torn write of the commit byte alone that opens it, before a payload and a closed commit byte
pub commit_byte_open : (count : ℕ) (payloads : List (List ℕ)) (payload old new rest : List ℕ) → HasClosedCommitByteAt count payloads old → Small payload → drop count old ≡ text_bytes payload ++ 0 ∷ rest → IsTorn (count - 1) 1 old new → get_or new (count - 1) 0 ≡ 1 → HasClosedCommitByteAt (count + length (text_bytes payload ++ 0 ∷ [])) (payloads ++ payload ∷ []) new
commit_byte_open count payloads payload old new rest closed small after torn one =
    let there = commit_byte_there count payloads old closed.spelled in
    let next : count - 1 + 1 ≡ count = omega (arith, there.0) in
    let prefix : take (count - 1) new ≡ take (count - 1) old = torn_prefix (count - 1) (count - 1) 1 old new torn (omega arith) (omega (arith, there.1)) in
    let after : drop (count - 1 + 1) new ≡ text_bytes payload ++ 0 ∷ rest = ap (λ (n : ℕ). drop n new) next ∙ torn_after count (count - 1) 1 old new torn (omega arith) there.1 ∙ after in
    let parts : drop (count - 1) new ≡ 1 ∷ (text_bytes payload ++ 0 ∷ rest) =
    drop_more new (count - 1) 0 (omega (arith, torn.no_shorter, there.0, there.1))
    ∙ ap (λ (g : ℕ). g ∷ drop (count - 1 + 1) new) one
    ∙ ap (λ (l : List ℕ). 1 ∷ l) after in
    closed_with count payloads payload old new rest closed.spelled small prefix parts
