-- The kept prefix of a text that grows at its end.
use Rattle.std.specs.Prelude.{◌≡◌, ℕ, zero, suc, ◌+◌, ◌-◌, ◌<◌, ◌≤◌, Bool, true, false, nat_lt, List, [], ◌∷◌, ◌++◌, length, take, refl, Some}
use Rattle.std.proofs.Common.{arith, sym, ap, ◌∙◌}
use Rattle.std.proofs.lemmas.List.{length-append, length-take, take_all}
use Rattle.std.proofs.lemmas.Bool.{lt-ltb, le-ltb, ltb-true, ltb-false}
use Rattle.system_files.specs.Prefixes.{IsPrefix}

-- a prefix of two texts is one of the first and one of the second
take-both : (n : ℕ) (xs ys : List ℕ) → take n (xs ++ ys) ≡ take n xs ++ take (n - length xs) ys
take-both zero xs ys =
    let none : zero - length xs ≡ zero = omega arith in rw (none) refl
take-both (suc n) [] ys =
    let all : suc n - zero ≡ suc n = omega arith in rw (all) refl
take-both (suc n) (x ∷ xs) ys =
    let less : suc n - suc (length xs) ≡ n - length xs = omega arith in rw (less) (ap (λ l. x ∷ l) (take-both n xs ys))

-- the kept prefix leaves as much room below the limit as the whole text
room-of_kept : (limit : ℕ) (xs : List ℕ) → limit - length (take limit xs) ≡ limit - length xs
room-of_kept limit xs = omega (arith, length-take limit xs)

-- a text that fits into the room is longer than the limit where the one before it was
more_by : (limit n m : ℕ) (b : Bool) → nat_lt limit n ≡ b → m ≤ limit - n → (limit < n → m ≡ 0) → b ≡ nat_lt limit (n + m)
more_by limit n m true h fits none = sym (lt-ltb limit (n + m) (omega (arith, ltb-true limit n h)))
more_by limit n m false h fits none = sym (le-ltb limit (n + m) (omega (arith, ltb-false limit n h)))

-- all of a text is kept
pub grows_whole : (limit : ℕ) (before bytes kept new : List ℕ) (more : Bool) → length bytes ≤ limit - length kept
    → new ≡ kept ++ bytes → IsPrefix limit (Some before) kept more → IsPrefix limit (Some (before ++ bytes)) new more
grows_whole limit before bytes kept new more fits is p =
    let room : limit - length kept ≡ limit - length before = ap (λ l. limit - length l) p.0 ∙ room-of_kept limit before in
    let all : take (limit - length before) bytes ≡ bytes = take_all (limit - length before) bytes (omega (arith, room)) in
    let whole : new ≡ take limit (before ++ bytes) = is ∙ ap (λ l. l ++ bytes) p.0 ∙ ap (λ l. take limit before ++ l) (sym all) ∙ sym (take-both limit before bytes) in
    let long : nat_lt limit (length before) ≡ nat_lt limit (length before + length bytes) = more_by limit (length before) (length bytes) (nat_lt limit (length before)) refl (omega (arith, room)) (λ past. omega (arith, room, past)) in
    (whole, p.1 ∙ long ∙ ap (nat_lt limit) (sym (length-append before bytes)))

-- a text is cut at the limit
pub grows_cut : (limit : ℕ) (before bytes kept new : List ℕ) (more : Bool) → limit - length kept < length bytes
    → new ≡ kept ++ take (limit - length kept) bytes → IsPrefix limit (Some before) kept more → IsPrefix limit (Some (before ++ bytes)) new true
grows_cut limit before bytes kept new more past is p =
    let room : limit - length kept ≡ limit - length before = ap (λ l. limit - length l) p.0 ∙ room-of_kept limit before in
    let whole : new ≡ take limit (before ++ bytes) = is ∙ ap (λ l. l ++ take (limit - length kept) bytes) p.0 ∙ ap (λ n. take limit before ++ take n bytes) room ∙ sym (take-both limit before bytes) in
    (whole, sym (lt-ltb limit (length (before ++ bytes)) (omega (arith, room, length-append before bytes))))
