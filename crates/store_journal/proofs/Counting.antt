-- Which side counts, where one side changes.
use Rattle.std.proofs.Common.{◌≡◌, ◌≢◌, ℕ, ◌<◌, ◌≤◌, Bool, true, false, nat_le, nat_lt, ◌&&◌, List, [], ◌∷◌, length, get_or, take, Option, Some, None, bytes_eq, if◌then◌else◌, refl, sym, ap, ◌∙◌, arith, length-take}
use Rattle.std.proofs.lemmas.Bool.{and_parts}
use Rattle.std.proofs.lemmas.Bool.Decides.{nat_tests}
use Rattle.std.proofs.lemmas.List.{take-take}
use Rattle.std.proofs.lemmas.Slice.Eq.{bytes_eq-Decides}
use Rattle.outside.specs.declared.disk.Side.{Side}
use Rattle.outside.specs.declared.disk.Side.TheVariants.{A, B}
use Rattle.outside.specs.Disks.{Image, image_side}
use Rattle.store_journal.specs.Payloads.{magic, is_live, generation_of, counting, payloads, payloads_in}
use Rattle.store_journal.specs.Journals.{other_side}
use Rattle.store_journal.proofs.Kept.{SameHeader, generation_still, live_long, live_still, payloads_of_side}

-- an image by one of its sides and the other
abbrev pub paired : Side → (one other : List ℕ) → Image
paired A one other = record { a = one; b = other }
paired B one other = record { a = other; b = one }

pub paired_again : (side : Side) (image : Image) → image ≡ paired side (image_side side image) (image_side (other_side side) image)
paired_again A image = refl
paired_again B image = refl

pub paired_one : (side : Side) (one other : List ℕ) → image_side side (paired side one other) ≡ one
paired_one A one other = refl
paired_one B one other = refl

pub paired_other : (side : Side) (one other : List ℕ) → image_side (other_side side) (paired side one other) ≡ other
paired_other A one other = refl
paired_other B one other = refl

pub other_again : (side : Side) → other_side (other_side side) ≡ side
other_again A = refl
other_again B = refl

-- what counts, by which sides are live and whether the second has the higher generation
abbrev picked : (one two higher : Bool) → Option Side
picked one two higher = if one then (if two && higher then Some B else Some A) else (if two then Some B else None)

-- it picks the side that counts
counting_is : (form : ℕ) (image : Image) → counting form image ≡ picked (is_live form image.a) (is_live form image.b) (nat_lt (generation_of image.a) (generation_of image.b))
unfolding counting
counting_is form image = refl

-- the picked side is live
picked_live : (one two higher : Bool) (side : Side) (l : Side → Bool) → l A ≡ one → l B ≡ two → picked one two higher ≡ Some side → l side ≡ true
picked_live true true true A l a b e = a
picked_live true true true B l a b e = b
picked_live true true false A l a b e = a
picked_live true true false B l a b e = absurd cc
picked_live true false higher A l a b e = a
picked_live true false higher B l a b e = absurd cc
picked_live false true higher A l a b e = absurd cc
picked_live false true higher B l a b e = b
picked_live false false higher side l a b e = absurd cc

-- the side that counts is live
pub counting_live : (form : ℕ) (image : Image) (side : Side) → counting form image ≡ Some side → is_live form (image_side side image) ≡ true
counting_live form image side counts =
    picked_live (is_live form image.a) (is_live form image.b) (nat_lt (generation_of image.a) (generation_of image.b)) side (λ (s : Side). is_live form (image_side s image)) refl refl (sym (counting_is form image) ∙ counts)

-- if the given side isn't live and the other one is, the other side counts
pub other_counts : (form : ℕ) (side : Side) (one other : List ℕ) → is_live form one ≡ false → is_live form other ≡ true → counting form (paired side one other) ≡ Some (other_side side)
other_counts form A one other dead live = counting_is form (record { a = one; b = other }) ∙ rw (dead, live) refl
other_counts form B one other dead live = counting_is form (record { a = other; b = one }) ∙ rw (dead, live) refl

-- if the given side is live and the other one isn't, the given side counts
pub only_counts : (form : ℕ) (side : Side) (one other : List ℕ) → is_live form one ≡ true → is_live form other ≡ false → counting form (paired side one other) ≡ Some side
only_counts form A one other live dead = counting_is form (record { a = one; b = other }) ∙ rw (dead, live) refl
only_counts form B one other live dead = counting_is form (record { a = other; b = one }) ∙ rw (dead, live) refl

-- where none is live, none counts
pub none_counts : (form : ℕ) (side : Side) (one other : List ℕ) → is_live form one ≡ false → is_live form other ≡ false → counting form (paired side one other) ≡ None
none_counts form A one other dead gone = counting_is form (record { a = one; b = other }) ∙ rw (dead, gone) refl
none_counts form B one other dead gone = counting_is form (record { a = other; b = one }) ∙ rw (dead, gone) refl

-- of two live sides the one of the higher generation counts
pub higher_counts : (form : ℕ) (side : Side) (one other : List ℕ) → is_live form one ≡ true → is_live form other ≡ true → generation_of other < generation_of one → counting form (paired side one other) ≡ Some side
higher_counts form A one other live alive higher =
    let not_lower : nat_lt (generation_of one) (generation_of other) ≡ false = grind (arith, nat_tests) in
    counting_is form (record { a = one; b = other }) ∙ rw (live, alive, not_lower) refl
higher_counts form B one other live alive higher =
    let lower : nat_lt (generation_of other) (generation_of one) ≡ true = grind (arith, nat_tests) in
    counting_is form (record { a = other; b = one }) ∙ rw (live, alive, lower) refl

-- a side that changes neither whether it is live nor its generation leaves which side counts
same_counts : (form : ℕ) (side : Side) (one changed other : List ℕ) → is_live form changed ≡ is_live form one → generation_of changed ≡ generation_of one → counting form (paired side changed other) ≡ counting form (paired side one other)
same_counts form A one changed other live generation = counting_is form (record { a = changed; b = other }) ∙ rw (live, generation) refl ∙ sym (counting_is form (record { a = one; b = other }))
same_counts form B one changed other live generation = counting_is form (record { a = other; b = changed }) ∙ rw (live, generation) refl ∙ sym (counting_is form (record { a = other; b = one }))

-- where none is picked, neither is live
none_picked : (one two higher : Bool) → picked one two higher ≡ None → (one ≡ false) × (two ≡ false)
none_picked true true true e = absurd cc
none_picked true true false e = absurd cc
none_picked true false higher e = absurd cc
none_picked false true higher e = absurd cc
none_picked false false higher e = (refl, refl)

-- where none counts, neither side is live
pub counting_none : (form : ℕ) (side : Side) (one other : List ℕ) → counting form (paired side one other) ≡ None → (is_live form one ≡ false) × (is_live form other ≡ false)
counting_none form A one other none = none_picked (is_live form one) (is_live form other) _ (sym (counting_is form (record { a = one; b = other })) ∙ none)
counting_none form B one other none =
    let both = none_picked (is_live form other) (is_live form one) _ (sym (counting_is form (record { a = other; b = one })) ∙ none) in
    (both.1, both.0)

-- where no side counts there are no payloads
pub payloads_none : (form : ℕ) (image : Image) → counting form image ≡ None → payloads form image ≡ []
unfolding payloads
payloads_none form image none = rw none refl

-- a prefix that is live keeps the header
prefix_header : (form k : ℕ) (bytes : List ℕ) → is_live form (take k bytes) ≡ true → SameHeader bytes (take k bytes)
prefix_header form k bytes live =
    let stays = live_long form (take k bytes) live in
    record {
      there = omega (arith, stays, length-take k bytes);
      stays = stays;
      same = take-take 18 k bytes (omega (arith, stays, length-take k bytes));
    }

-- bytes that are too short aren't live
pub short_dead : (form : ℕ) (bytes : List ℕ) → length bytes ≤ 18 → is_live form bytes ≡ false
unfolding is_live
short_dead form bytes short =
    let no : nat_le 19 (length bytes) ≡ false = grind (arith, nat_tests) in
    rw no refl

-- live bytes begin with a 1
live_first : (form first : ℕ) (rest : List ℕ) → is_live form (first ∷ rest) ≡ true → first ≡ 1
unfolding is_live
live_first form first rest live =
    let parts = and_parts (nat_le 19 (length (first ∷ rest))) (bytes_eq (take 10 (first ∷ rest)) (magic form)) live in
    let same : take 10 (first ∷ rest) ≡ magic form = (bytes_eq-Decides (take 10 (first ∷ rest)) (magic form)).0 parts.1 in
    ap (λ (l : List ℕ). get_or l 0 0) same

-- no bytes aren't live
pub none_dead : (form : ℕ) → is_live form [] ≡ false
none_dead form = short_dead form [] (omega arith)

not_true : (b : Bool) → (b ≡ true → ⊥) → b ≡ false
not_true true never = absurd (never refl)
not_true false never = refl

-- bytes that begin otherwise aren't live
pub first_dead : (form first : ℕ) (rest : List ℕ) → first ≢ 1 → is_live form (first ∷ rest) ≡ false
first_dead form first rest differs = not_true (is_live form (first ∷ rest)) (λ live. differs (live_first form first rest live))

pub zero_dead : (form : ℕ) (rest : List ℕ) → is_live form (0 ∷ rest) ≡ false
zero_dead form rest = first_dead form 0 rest (λ e. omega (arith, e))

-- so what is live is a 1 and a rest
pub live_starts : (form : ℕ) (bytes : List ℕ) → is_live form bytes ≡ true → (rest : List ℕ) × (bytes ≡ 1 ∷ rest)
live_starts form [] live =
    let dead = none_dead form in
    let nothing : ⊥ = cc in
    absurd nothing
live_starts form (first ∷ rest) live = (rest, ap (λ (n : ℕ). n ∷ rest) (live_first form first rest live))

-- A side that can be torn without harm: the payloads stay where it becomes a prefix of itself, or isn't live.
pub record Leaves (form : ℕ) (side : Side) (one other : List ℕ) (held : List (List ℕ)) : Type 0 where
  pub prefix : (k : ℕ) → payloads form (paired side (take k one) other) ≡ held
  pub dead : (bytes : List ℕ) → is_live form bytes ≡ false → payloads form (paired side bytes other) ≡ held

-- the payloads are the other side's where it counts
payloads_of_other : (form : ℕ) (side : Side) (one other : List ℕ) → counting form (paired side one other) ≡ Some (other_side side) → payloads form (paired side one other) ≡ payloads_in other
payloads_of_other form side one other counts = payloads_of_side form (other_side side) (paired side one other) counts ∙ ap payloads_in (paired_other side one other)

-- a prefix of a side that doesn't count doesn't count
prefix_counts : (form : ℕ) (side : Side) (one other : List ℕ) (k : ℕ) (live : Bool) → is_live form (take k one) ≡ live → is_live form other ≡ true → counting form (paired side one other) ≡ Some (other_side side) → counting form (paired side (take k one) other) ≡ Some (other_side side)
prefix_counts form side one other k false is alive counts = other_counts form side (take k one) other is alive
prefix_counts form side one other k true is alive counts =
    let header = prefix_header form k one is in
    same_counts form side one (take k one) other (live_still form one (take k one) header) (generation_still one (take k one) header) ∙ counts

-- so it is where the other side counts
pub leaves_other : (form : ℕ) (side : Side) (one other : List ℕ) → counting form (paired side one other) ≡ Some (other_side side) → Leaves form side one other (payloads form (paired side one other))
leaves_other form side one other counts =
    let alive : is_live form other ≡ true = ap (is_live form) (sym (paired_other side one other)) ∙ counting_live form (paired side one other) (other_side side) counts in
    let held = payloads_of_other form side one other counts in
    record {
      prefix = λ k. payloads_of_other form side (take k one) other (prefix_counts form side one other k (is_live form (take k one)) refl alive counts) ∙ sym held;
      dead = λ bytes is. payloads_of_other form side bytes other (other_counts form side bytes other is alive) ∙ sym held;
    }

-- a prefix of a side that isn't live isn't live
pub dead_prefix : (form k : ℕ) (bytes : List ℕ) → is_live form bytes ≡ false → is_live form (take k bytes) ≡ false
dead_prefix form k bytes dead = not_true (is_live form (take k bytes)) (λ live.
    let whole = live_still form bytes (take k bytes) (prefix_header form k bytes live) in
    let nothing : ⊥ = cc in
    nothing)

-- and where none counts
pub leaves_none : (form : ℕ) (side : Side) (one other : List ℕ) → is_live form one ≡ false → is_live form other ≡ false → Leaves form side one other []
leaves_none form side one other dead gone = record {
  prefix = λ k. payloads_none form (paired side (take k one) other) (none_counts form side (take k one) other (dead_prefix form k one dead) gone);
  dead = λ bytes is. payloads_none form (paired side bytes other) (none_counts form side bytes other is gone);
}
