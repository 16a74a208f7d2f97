-- What a stop of a disk in memory leaves, as any number of runs want it.
use Rattle.std.proofs.Common.{◌≡◌, ℕ, zero, suc, ◌<◌, List, [], ◌∷◌, ◌++◌, length, sym, ap, subst, ◌∙◌, arith, inl, inr}
use Rattle.std.specs.Prelude.{Contains, slice_index_or}
use Rattle.outside.specs.Disks.{DiskState, Image, IsImage, Moments, Follows, added_since, all_of, settled_disk}
use Rattle.run_laws.proofs.Moments.{left_by_power}
use Rattle.headline.specs.Promise.{LeavesDisk}

-- the moments before one and after it
parts : (states : List DiskState) (k : ℕ) (moment : DiskState) → k < length states → slice_index_or states k moment ≡ moment → (before : List DiskState) × (after : List DiskState) × (states ≡ before ++ moment ∷ after)
parts [] k moment inside is = absurd (omega (arith, inside))
parts (first ∷ states) zero moment inside is = ([], states, ap (λ (state : DiskState). state ∷ states) is)
parts (first ∷ states) (suc k) moment inside is =
    let rest = parts states k moment (omega (arith, inside)) is in
    (first ∷ rest.0, rest.1, ap (λ (l : List DiskState). first ∷ l) rest.2)

-- A loss of power at a moment of a disk leaves one of the images of that moment. The disk has been told since its first moment.
pub stop_leaves : (begun old : Moments) → begun.past ≡ [] → Follows begun old → (moment : DiskState) → Contains (all_of old) moment → (image : Image) → IsImage moment image → LeavesDisk begun old (settled_disk image)
stop_leaves begun old first follows moment there image is =
    let all : all_of old ≡ begun.now ∷ added_since begun old = follows ∙ ap (λ (past : List DiskState). (past ++ begun.now ∷ []) ++ added_since begun old) first in
    let here : Contains (begun.now ∷ added_since begun old) moment = subst (λ (states : List DiskState). Contains states moment) all there in
    let split = parts (begun.now ∷ added_since begun old) here.0 moment here.1 here.2 in
    inr (moment, record { before = split.0; after = split.1; parts = split.2 }, left_by_power moment image is)
