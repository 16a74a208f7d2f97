-- What is read is spelled so, and what is spelled so is read.
use Rattle.std.proofs.Common.{◌≡◌, ℕ, ◌+◌, ◌^◌, ◌<◌, ◌≤◌, Bool, true, false, cond, eqb, ltb, List, ◌++◌, length, take, drop, Option, Some, None, refl, sym, ap, subst, ◌∙◌, append_assoc, arith, inl, inr}
use Rattle.std.specs.Int.{Width, w32, w64, byte_len, from_le_bytes, to_le_bytes}
use Rattle.std.proofs.lemmas.Bool.{cases_lt, eqb-true, ltb-false, le-ltb}
use Rattle.std.proofs.lemmas.List.{append-nil, nil_from_length, take_at, drop_at, take-append-drop, length-append, length-take, get_or-drop, get_or-take, get_or_past}
use Rattle.std.proofs.lemmas.Nat.{le_bytes_4, le_bytes_8, from_le_bytes-to_le_bytes_4, from_le_bytes-to_le_bytes_8}
use Rattle.base.specs.Bytes.{number_bytes, text_bytes}
use Rattle.base_bytes.specs.Reading.{◌>>=◌, AreBytes, Takes, number_at, taken_at, text_at}

AreBytes-drop : (n : ℕ) (bytes : List ℕ) → AreBytes bytes → AreBytes (drop n bytes)
AreBytes-drop n bytes h i = rw get_or-drop (h (n + i))

AreBytes-take : (n : ℕ) (bytes : List ℕ) → AreBytes bytes → AreBytes (take n bytes)
AreBytes-take n bytes h i =
    elim (cases_lt i n) [
      | inl lt ↦ rw (get_or-take n bytes i 0 lt) (h i)
      | inr le ↦ rw (get_or_past (take n bytes) i 0 (omega (arith, length-take n bytes))) (omega arith)
    ]

-- the value of a step that gave one
pub bind_some : {A B : Type 0} (r : Option A) (f : A → Option B) (y : B) → (r >>= f) ≡ Some y → (x : A) × (r ≡ Some x) × (f x ≡ Some y)
bind_some (Some x) f y e = (x, refl, e)
bind_some None f y e = absurd cc

-- a test that let the value pass
pub guard_some : {A : Type 0} (b : Bool) (x y : A) → cond b None (Some x) ≡ Some y → (b ≡ false) × (x ≡ y)
guard_some true x y e = absurd cc
guard_some false x y e = (refl, cc)

pub guard_then : {A : Type 0} (b : Bool) (r : Option A) (y : A) → cond b None r ≡ Some y → (b ≡ false) × (r ≡ Some y)
guard_then true r y e = absurd cc
guard_then false r y e = (refl, e)

-- a test that has to pass
pub guard_ended : {A : Type 0} (b : Bool) (x y : A) → cond b (Some x) None ≡ Some y → (b ≡ true) × (x ≡ y)
guard_ended true x y e = (refl, cc)
guard_ended false x y e = absurd cc

pub guard_first : {A : Type 0} (b : Bool) (r : Option A) (y : A) → cond b r None ≡ Some y → (b ≡ true) × (r ≡ Some y)
guard_first true r y e = (refl, e)
guard_first false r y e = absurd cc

pub Takes-then : (a x b y c : List ℕ) → Takes a x b → Takes b y c → Takes a (x ++ y) c
Takes-then a x b y c p q = record { parts = p.parts ∙ ap (λ (t : List ℕ). x ++ t) q.parts ∙ sym (append_assoc x y c); left_are_bytes = q.left_are_bytes }

-- if no byte remains, the spelling that was read is all the bytes
pub ends_there : (bytes spelling left : List ℕ) → Takes bytes spelling left → eqb (length left) 0 ≡ true → bytes ≡ spelling
ends_there bytes spelling left t e = t.parts ∙ ap (λ (r : List ℕ). spelling ++ r) (nil_from_length left (eqb-true _ _ e)) ∙ append-nil spelling

record IsWide (w : Width) (limit : ℕ) : Type 0 where
  len : (n : ℕ) → length (to_le_bytes w n) ≡ byte_len w
  back : (bytes : List ℕ) → length bytes ≡ byte_len w → AreBytes bytes → to_le_bytes w (from_le_bytes w bytes) ≡ bytes
  again : (n : ℕ) → n < limit → from_le_bytes w (to_le_bytes w n) ≡ n
  below : (bytes : List ℕ) → AreBytes bytes → from_le_bytes w bytes < limit

wide32 : IsWide w32 (2 ^ 32)
wide32 = record {
  len = λ n. refl;
  back = λ bytes len fits. le_bytes_4 bytes _ len fits refl;
  again = λ n lt. from_le_bytes-to_le_bytes_4 n lt;
  below = λ bytes fits. omega (arith, fits 0, fits 1, fits 2, fits 3);
}

wide64 : IsWide w64 (2 ^ 64)
wide64 = record {
  len = λ n. refl;
  back = λ bytes len fits. le_bytes_8 bytes _ len fits refl;
  again = λ n lt. from_le_bytes-to_le_bytes_8 n lt;
  below = λ bytes fits. omega (arith, fits 0, fits 1, fits 2, fits 3, fits 4, fits 5, fits 6, fits 7);
}

pub taken_takes : (count : ℕ) (bytes text left : List ℕ) → AreBytes bytes → taken_at count bytes ≡ Some (text, left) → Takes bytes text left × (length text ≡ count)
taken_takes count bytes text left fits e =
    let g = guard_some (ltb (length bytes) count) (take count bytes, drop count bytes) (text, left) e in
    let long : count ≤ length bytes = ltb-false _ _ g.0 in
    let text-is : take count bytes ≡ text = ap (λ (p : List ℕ × List ℕ). p.0) g.1 in
    let left-is : drop count bytes ≡ left = ap (λ (p : List ℕ × List ℕ). p.1) g.1 in
    (record { parts = rw (← text-is, ← left-is) (sym (take-append-drop count bytes)); left_are_bytes = rw (← left-is) (AreBytes-drop count bytes fits) }, ap length (sym text-is) ∙ omega (arith, length-take count bytes))

pub taken_again : (text left : List ℕ) → taken_at (length text) (text ++ left) ≡ Some (text, left)
taken_again text left =
    let long : ltb (length (text ++ left)) (length text) ≡ false = le-ltb _ _ (omega (arith, length-append text left)) in
    rw (long, take_at text left (length text) refl, drop_at text left (length text) refl) refl

number_takes : (w : Width) (limit : ℕ) (wide : IsWide w limit) (bytes : List ℕ) (n : ℕ) (left : List ℕ) → AreBytes bytes → number_at w bytes ≡ Some (n, left) → Takes bytes (to_le_bytes w n) left × (n < limit)
number_takes w limit wide bytes n left fits e =
    let g = guard_some (ltb (length bytes) (byte_len w)) (from_le_bytes w (take (byte_len w) bytes), drop (byte_len w) bytes) (n, left) e in
    let long : byte_len w ≤ length bytes = ltb-false _ _ g.0 in
    let n-is : from_le_bytes w (take (byte_len w) bytes) ≡ n = ap (λ (p : ℕ × List ℕ). p.0) g.1 in
    let left-is : drop (byte_len w) bytes ≡ left = ap (λ (p : ℕ × List ℕ). p.1) g.1 in
    let prefix : to_le_bytes w n ≡ take (byte_len w) bytes = rw (← n-is) (wide.back (take (byte_len w) bytes) (omega (arith, length-take (byte_len w) bytes)) (AreBytes-take (byte_len w) bytes fits)) in
    (record { parts = rw (prefix, ← left-is) (sym (take-append-drop (byte_len w) bytes)); left_are_bytes = rw (← left-is) (AreBytes-drop (byte_len w) bytes fits) }, rw (← n-is) (wide.below (take (byte_len w) bytes) (AreBytes-take (byte_len w) bytes fits)))

number_again : (w : Width) (limit : ℕ) (wide : IsWide w limit) (n : ℕ) (left : List ℕ) → n < limit → number_at w (to_le_bytes w n ++ left) ≡ Some (n, left)
number_again w limit wide n left lt =
    let len = wide.len n in
    let long : ltb (length (to_le_bytes w n ++ left)) (byte_len w) ≡ false = le-ltb _ _ (omega (arith, length-append (to_le_bytes w n) left)) in
    rw (long, take_at (to_le_bytes w n) left (byte_len w) len, drop_at (to_le_bytes w n) left (byte_len w) len, wide.again n lt) refl

pub u32_takes : (bytes : List ℕ) (n : ℕ) (left : List ℕ) → AreBytes bytes → number_at w32 bytes ≡ Some (n, left) → Takes bytes (number_bytes n) left × (n < 2 ^ 32)
u32_takes = number_takes w32 (2 ^ 32) wide32

pub u32_again : (n : ℕ) (left : List ℕ) → n < 2 ^ 32 → number_at w32 (number_bytes n ++ left) ≡ Some (n, left)
u32_again = number_again w32 (2 ^ 32) wide32

pub u64_takes : (bytes : List ℕ) (n : ℕ) (left : List ℕ) → AreBytes bytes → number_at w64 bytes ≡ Some (n, left) → Takes bytes (to_le_bytes w64 n) left × (n < 2 ^ 64)
u64_takes = number_takes w64 (2 ^ 64) wide64

pub u64_again : (n : ℕ) (left : List ℕ) → n < 2 ^ 64 → number_at w64 (to_le_bytes w64 n ++ left) ≡ Some (n, left)
u64_again = number_again w64 (2 ^ 64) wide64

pub text_takes : (bytes text left : List ℕ) → AreBytes bytes → text_at bytes ≡ Some (text, left) → Takes bytes (text_bytes text) left × (length text < 2 ^ 32)
unfolding text_at text_bytes
text_takes bytes text left fits e =
    let a = bind_some (number_at w32 bytes) (λ n. taken_at n.0 n.1) (text, left) e in
    let prefix = u32_takes bytes a.0.0 a.0.1 fits a.1 in
    let back = taken_takes a.0.0 a.0.1 text left prefix.0.left_are_bytes a.2 in
    (subst (λ (n : ℕ). Takes bytes (number_bytes n ++ text) left) (sym back.1) (Takes-then bytes (number_bytes a.0.0) a.0.1 text left prefix.0 back.0), omega (arith, prefix.1, back.1))

pub text_again : (text left : List ℕ) → length text < 2 ^ 32 → text_at (text_bytes text ++ left) ≡ Some (text, left)
unfolding text_at text_bytes
text_again text left lt =
    ap text_at (append_assoc (number_bytes (length text)) text left) ∙ rw (u32_again (length text) (text ++ left) lt, taken_again text left) refl
