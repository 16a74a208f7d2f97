-- The kept prefix of a reader's bytes after a read that passes the limit.
use Rattle.std.specs.Prelude.{◌≡◌, ℕ, ◌+◌, ◌<◌, ◌≤◌, true, List, ◌++◌, length, take, drop, Option, Some, None}
use Rattle.std.specs.Io.KnownBytes.{Consumes}
use Rattle.std.proofs.Common.{arith, sym, ap, ◌∙◌}
use Rattle.std.proofs.lemmas.List.{take-append-le, take-append-drop, length-take-le, length-append}
use Rattle.std.proofs.lemmas.Bool.{lt-ltb}
use Rattle.std.proofs.Math.Seq.{take-append-add}
use Rattle.system_files.specs.Prefixes.{IsPrefix}

-- a prefix of a longer prefix
pub take-of_prefix : (room count : ℕ) (bytes : List ℕ) → room ≤ count → count ≤ length bytes → take room (take count bytes) ≡ take room bytes
take-of_prefix room count bytes shorter within =
    sym (take-append-le room (take count bytes) (drop count bytes) (omega (arith, length-take-le count bytes within)))
    ∙ ap (take room) (take-append-drop count bytes)

-- the kept bytes and the read's first ones are a prefix of all
pub prefix-cut : (kept read rest : List ℕ) (room count : ℕ) → room ≤ count → count ≤ length read
    → kept ++ take room read ≡ take (length kept + room) (kept ++ (take count read ++ rest))
prefix-cut kept read rest room count shorter within =
    sym (take-append-add kept (take count read ++ rest) room
    ∙ ap (λ l. kept ++ l) (take-append-le room (take count read) rest (omega (arith, length-take-le count read within)) ∙ take-of_prefix room count read shorter within))

-- more than the limit was there
pub longer-than_prefix : (kept read rest : List ℕ) (room count : ℕ) → room < count → count ≤ length read
    → length kept + room < length (kept ++ (take count read ++ rest))
longer-than_prefix kept read rest room count shorter within =
    omega (arith, length-append kept (take count read ++ rest), length-append (take count read) rest, length-take-le count read within)

-- if a read passes the limit, the kept bytes are the first ones up to the limit, and there is more
pub IsPrefix-cut : (old before after : Option (List ℕ)) (kept read new : List ℕ) (limit room count : ℕ)
    → Consumes old before kept → Consumes before after (take count read)
    → length kept + room ≡ limit → room < count → count ≤ length read → new ≡ kept ++ take room read
    → IsPrefix limit old new true
IsPrefix-cut None before after kept read new limit room count a b l s w e = tt
IsPrefix-cut (Some xs) None after kept read new limit room count a b l s w e = absurd a
IsPrefix-cut (Some xs) (Some ys) None kept read new limit room count a b l s w e = absurd b
IsPrefix-cut (Some xs) (Some ys) (Some zs) kept read new limit room count a b l s w e =
    let whole : xs ≡ kept ++ (take count read ++ zs) = a ∙ ap (λ rest. kept ++ rest) b in
    let cut = prefix-cut kept read zs room count (omega arith) w in
    let longer = longer-than_prefix kept read zs room count s w in
    rw (whole, ← l) (e ∙ cut, sym (lt-ltb _ _ longer))
