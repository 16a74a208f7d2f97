-- What one call more makes of a log and its moments.
use Rattle.std.proofs.Common.{◌≡◌, ℕ, ◌+◌, ◌<◌, ◌^◌, Bool, true, false, cond, List, [], ◌∷◌, ◌++◌, length, get_or, drop, refl, sym, ap, subst, ◌∙◌, arith}
use Rattle.std.specs.Prelude.{nat_lt, ◌==◌}
use Rattle.std.proofs.lemmas.List.{append-nil, drop_more}
use Rattle.std.proofs.lemmas.Bool.{eq-eqb, lt-ltb}
use Rattle.std.proofs.lemmas.Bool.Decides.{nat_tests}
use Rattle.outside.specs.declared.disk.Side.{Side}
use Rattle.outside.specs.declared.disk.Side.TheVariants.{A, B}
use Rattle.outside.specs.Disks.{SideState, DiskState, Image, Moments, all_of, on_side, writing, IsSideImage, IsSoundSide, IsSound, IsImage, IsWithin, Goes}
use Rattle.outside.proofs.ImageLaws.{within_touching, within_written, within_cutting, within_shortened, within_synced}
use Rattle.memory_outside.specs.declared.logged.Act.{Act}
use Rattle.memory_outside.specs.declared.logged.Act.TheVariants as act
use Rattle.memory_outside.specs.declared.logged.LoggedCall.{LoggedCall}
use Rattle.memory_outside.specs.Disks.{Log, is_allowed, write_inside, write_after, side_inside, side_after, disk_inside, disk_after, past_of, now_of, state_at, start_of, moments_of}
use Rattle.memory_outside.specs.DiskLaws.{disk_inside_sound, disk_after_sound, now_sound}

pub now_of-push : (kept : List LoggedCall) (call : LoggedCall) (disk : DiskState) → now_of (kept ++ call ∷ []) disk ≡ disk_after call (now_of kept disk)
now_of-push [] call disk = refl
now_of-push (first ∷ kept) call disk = now_of-push kept call (disk_after first disk)

all_of-push : (kept : List LoggedCall) (call : LoggedCall) (disk : DiskState) → past_of (kept ++ call ∷ []) disk ++ now_of (kept ++ call ∷ []) disk ∷ [] ≡ (past_of kept disk ++ now_of kept disk ∷ []) ++ (disk_inside call (now_of kept disk) ∷ disk_after call (now_of kept disk) ∷ [])
all_of-push [] call disk = refl
all_of-push (first ∷ kept) call disk = ap (λ (l : List DiskState). disk ∷ disk_inside first disk ∷ l) (all_of-push kept call (disk_after first disk))

either_within : (test : Bool) (more less other : SideState) (image : List ℕ) → (IsSideImage less image → IsSideImage more image) → IsSideImage (cond test less other) image → IsSideImage (cond test more other) image
either_within true more less other image within is = within is
either_within false more less other image within is = is

write_within : (done : Bool) (at : ℕ) (bytes : List ℕ) (side : SideState) (image : List ℕ) → IsSideImage (write_after done at bytes side) image → IsSideImage (write_inside at bytes side) image
write_within true at bytes side image is = either_within (is_allowed at (length bytes) side.reads) _ _ side image (within_written at bytes side image) is
write_within false at bytes side image is = is

-- after a call there are images from inside of it
side_within : (done : Bool) (call : Act) (side : SideState) (image : List ℕ) → IsSoundSide side → IsSideImage (side_after done call side) image → IsSideImage (side_inside call side) image
side_within done (act.Write at bytes) side image sound is = write_within done at bytes side image is
side_within true act.Cut side image sound is = within_shortened side image is
side_within false act.Cut side image sound is = is
side_within true act.Sync side image sound is = within_synced side image sound is
side_within false act.Sync side image sound is = is

on_side_within : (side : Side) (more less : SideState → SideState) (disk : DiskState) → ((s : SideState) (image : List ℕ) → IsSoundSide s → IsSideImage (less s) image → IsSideImage (more s) image) → IsSound disk → IsWithin (on_side side more disk) (on_side side less disk)
on_side_within A more less disk within sound image is = record { a = within disk.a image.a sound.a is.a; b = is.b }
on_side_within B more less disk within sound image is = record { a = is.a; b = within disk.b image.b sound.b is.b }

pub disk_within : (kept : LoggedCall) (disk : DiskState) → IsSound disk → IsWithin (disk_inside kept disk) (disk_after kept disk)
disk_within kept disk sound = on_side_within kept.side (side_inside kept.act) (side_after kept.done kept.act) disk (side_within kept.done kept.act) sound

reads_image : (disk : DiskState) → IsSound disk → IsImage disk (record { a = disk.a.reads; b = disk.b.reads })
reads_image disk sound = record { a = sound.a.image; b = sound.b.image }

-- a log with one call more goes through it
goes_through : (first : Image) (kept : List LoggedCall) (call : LoggedCall) → Goes (disk_inside call (now_of kept (start_of first))) (moments_of (record { first = first; kept = kept })) (moments_of (record { first = first; kept = kept ++ call ∷ [] }))
goes_through first kept call =
    let now = now_of kept (start_of first) in
    let sound : IsSound now = now_sound (record { first = first; kept = kept }) in
    let fewer : IsWithin (disk_inside call now) (disk_after call now) = disk_within call now sound in
    record {
      inside = disk_inside call now ∷ disk_after call now ∷ [];
      added = all_of-push kept call (start_of first);
      shrinks = ((λ image is. is), reads_image (disk_inside call now) (disk_inside_sound call now sound), (fewer, reads_image (disk_after call now) (disk_after_sound call now sound), tt));
      within = subst (IsWithin (disk_inside call now)) (sym (now_of-push kept call (start_of first))) fewer;
    }

pub kept_goes : (old new : Log) (call : LoggedCall) → new.first ≡ old.first → new.kept ≡ old.kept ++ call ∷ [] → Goes (disk_inside call (moments_of old).now) (moments_of old) (moments_of new)
kept_goes old new call first kept =
    let same : record { first = old.first; kept = old.kept ++ call ∷ [] } ≡ new = λ i. record { first = sym first i; kept = sym kept i } in
    subst (λ (log : Log). Goes (disk_inside call (moments_of old).now) (moments_of old) (moments_of log)) same (goes_through old.first old.kept call)

-- an unchanged log went through a call of which nothing was done
pub unchanged_goes : (during : DiskState) (moments : Moments) → IsWithin during moments.now → Goes during moments moments
unchanged_goes during moments within = record { inside = []; added = sym (append-nil (all_of moments)); shrinks = tt; within = within }

-- what remains of a log's calls, past one before the moment
pub next_state : (kept : List LoggedCall) (i : ℕ) (call : LoggedCall) (moment : ℕ) (disk : DiskState) → i < length kept → call ≡ get_or kept i call → call.number < moment → state_at (drop i kept) moment disk ≡ state_at (drop (i + 1) kept) moment (disk_after call disk)
next_state kept i call moment disk below is before =
    let left : drop i kept ≡ call ∷ drop (i + 1) kept = drop_more kept i call below ∙ ap (λ (k : LoggedCall). k ∷ drop (i + 1) kept) (sym is) in
    let step : state_at (call ∷ drop (i + 1) kept) moment disk ≡ state_at (drop (i + 1) kept) moment (disk_after call disk) = ap (λ (b : Bool). cond b (state_at (drop (i + 1) kept) moment (disk_after call disk)) (cond (call.number == moment) (disk_inside call disk) disk)) (lt-ltb call.number moment before) in
    ap (λ (l : List LoggedCall). state_at l moment disk) left ∙ step

-- and at the moment
pub state_here : (kept : List LoggedCall) (i : ℕ) (call : LoggedCall) (moment : ℕ) (disk : DiskState) → i < length kept → call ≡ get_or kept i call → call.number ≡ moment → state_at (drop i kept) moment disk ≡ disk_inside call disk
state_here kept i call moment disk below is here =
    let left : drop i kept ≡ call ∷ drop (i + 1) kept = drop_more kept i call below ∙ ap (λ (k : LoggedCall). k ∷ drop (i + 1) kept) (sym is) in
    let later : nat_lt call.number moment ≡ false = grind (arith, nat_tests) in
    let same : (call.number == moment) ≡ true = eq-eqb call.number moment here in
    ap (λ (l : List LoggedCall). state_at l moment disk) left
    ∙ ap (λ (b : Bool). cond b (state_at (drop (i + 1) kept) moment (disk_after call disk)) (cond (call.number == moment) (disk_inside call disk) disk)) later
    ∙ ap (λ (b : Bool). cond b (disk_inside call disk) disk) same

either_is_unchanged : (test : Bool) (more side : SideState) (image : List ℕ) → (IsSideImage side image → IsSideImage more image) → IsSideImage side image → IsSideImage (cond test more side) image
either_is_unchanged true more side image within is = within is
either_is_unchanged false more side image within is = is

-- an image before a call is one inside it
side_is_unchanged : (call : Act) (side : SideState) (image : List ℕ) → IsSideImage side image → IsSideImage (side_inside call side) image
side_is_unchanged (act.Write at bytes) side image is = either_is_unchanged (is_allowed at (length bytes) side.reads) _ side image (within_touching at (length bytes) side image) is
side_is_unchanged act.Cut side image is = within_cutting side image is
side_is_unchanged act.Sync side image is = is

on_side_is_unchanged : (side : Side) (more : SideState → SideState) (disk : DiskState) → ((s : SideState) (image : List ℕ) → IsSideImage s image → IsSideImage (more s) image) → IsWithin (on_side side more disk) disk
on_side_is_unchanged A more disk in_step image is = record { a = in_step disk.a image.a is.a; b = is.b }
on_side_is_unchanged B more disk in_step image is = record { a = is.a; b = in_step disk.b image.b is.b }

-- a log that no call was added to
pub kept_is_unchanged : (old new : Log) (call : LoggedCall) → new ≡ old → Goes (disk_inside call (moments_of old).now) (moments_of old) (moments_of new)
kept_is_unchanged old new call same =
    subst (λ (log : Log). Goes (disk_inside call (moments_of old).now) (moments_of old) (moments_of log)) (sym same)
    (unchanged_goes (disk_inside call (moments_of old).now) (moments_of old) (on_side_is_unchanged call.side (side_inside call.act) (moments_of old).now (side_is_unchanged call.act)))

-- the same of a write that found no memory
pub write_is_unchanged : (side : Side) (at count : ℕ) (old new : Log) → new ≡ old → Goes (on_side side (writing at count) (moments_of old).now) (moments_of old) (moments_of new)
write_is_unchanged side at count old new same =
    subst (λ (log : Log). Goes (on_side side (writing at count) (moments_of old).now) (moments_of old) (moments_of log)) (sym same)
    (unchanged_goes (on_side side (writing at count) (moments_of old).now) (moments_of old)
    (on_side_is_unchanged side (writing at count) (moments_of old).now (λ s image is. either_is_unchanged (nat_lt (at + count) (2 ^ 63)) _ s image (within_touching at count s image) is)))
