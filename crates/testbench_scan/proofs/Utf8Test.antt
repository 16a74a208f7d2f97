-- A test for UTF-8 by what reading a text answers.
use Rattle.std.proofs.Common.{◌≡◌, ℕ, List, Result, Ok, Err, sym}
use Rattle.std.specs.Prelude.{MatchResult, is_ok}
use Rattle.std.specs.Str.{is_utf8, IsUtf8}
use Rattle.std.proofs.lemmas.Bool.{false_from_ne_true}
use Rattle.std.proofs.lemmas.Str.{is_utf8-from_IsUtf8, IsUtf8-from_is_utf8}

pub is_utf8-from_result : {X E : Type 0} (r : Result X E) (bytes : List ℕ) (P : X → Type 0) (Q : E → Type 0) → ((x : X) → P x → IsUtf8 bytes) → ((e : E) → Q e → IsUtf8 bytes → ⊥) → MatchResult r P Q → is_ok r ≡ is_utf8 bytes
is_utf8-from_result (Ok x) bytes P Q f g h = sym (is_utf8-from_IsUtf8 bytes (f x h))
is_utf8-from_result (Err e) bytes P Q f g h = sym (false_from_ne_true (is_utf8 bytes) (λ t. g e h (IsUtf8-from_is_utf8 bytes t)))
