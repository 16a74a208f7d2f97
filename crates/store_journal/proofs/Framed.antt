-- A payload between its length and a commit byte.
use Rattle.std.proofs.Common.{◌≡◌, ◌≤◌, ◌-◌, List, ℕ, [], ◌∷◌, ◌++◌, length, take, drop, refl, sym, ap, ◌∙◌, append_assoc, arith, length-append}
use Rattle.std.proofs.lemmas.List.{take_at, drop_at}
use Rattle.base.specs.Bytes.{number_bytes, text_bytes}
use Rattle.store_journal.specs.Journals.{payload_within}

-- a payload with its length and a commit byte, taken out again
pub within : (payload : List ℕ) → payload_within (text_bytes payload ++ 0 ∷ []) ≡ payload
unfolding text_bytes
within payload =
    let size : length ((number_bytes (length payload) ++ payload) ++ 0 ∷ []) - 5 ≡ length payload = omega (arith, length-append (number_bytes (length payload) ++ payload) (0 ∷ []), length-append (number_bytes (length payload)) payload) in
    let after : drop 4 ((number_bytes (length payload) ++ payload) ++ 0 ∷ []) ≡ payload ++ 0 ∷ [] =
    ap (drop 4) (append_assoc (number_bytes (length payload)) payload (0 ∷ [])) ∙ drop_at (number_bytes (length payload)) (payload ++ 0 ∷ []) 4 refl in
    ap (λ (n : ℕ). take n (drop 4 ((number_bytes (length payload) ++ payload) ++ 0 ∷ []))) size ∙ ap (take (length payload)) after ∙ take_at payload (0 ∷ []) (length payload) refl

-- what stands after its own length is taken out again
pub unframed : (frame payload : List ℕ) (size : ℕ) → frame ≡ number_bytes size ++ payload → drop 4 frame ≡ payload
unframed frame payload size e = ap (drop 4) e ∙ drop_at (number_bytes size) payload 4 refl

-- a payload after its length is a text
pub framed : (frame payload : List ℕ) (size : ℕ) → frame ≡ number_bytes size ++ payload → length payload ≡ size → frame ≡ text_bytes (drop 4 frame)
unfolding text_bytes
framed frame payload size e is =
    e ∙ ap (λ (n : ℕ). number_bytes n ++ payload) (sym is) ∙ ap (λ (p : List ℕ). number_bytes (length p) ++ p) (sym (unframed frame payload size e))

pub framed_length : (payload : List ℕ) → 5 ≤ length (text_bytes payload ++ 0 ∷ [])
unfolding text_bytes
framed_length payload = omega (arith, length-append (number_bytes (length payload) ++ payload) (0 ∷ []), length-append (number_bytes (length payload)) payload)
