-- What a compaction leaves, from what it leaves of the journal.
use Rattle.std.proofs.Common.{◌≡◌, ℕ, ◌+◌, ◌-◌, ◌<◌, ◌≤◌, ◌^◌, min, false, List, [], length, map, Option, Some, None, refl, sym, ap, subst, ◌∙◌, arith}
use Rattle.std.specs.Prelude.{Result, Err}
use Rattle.std.specs.List.{flat_map}
use Rattle.std.specs.Option.{option_map_or}
use Rattle.base.specs.declared.file.FileName.{FileName}
use Rattle.outside.specs.Counts.{Counted, StoreCounts}
use Rattle.outside.specs.Disks.{AtAnyMoment, DiskState, Image, IsEither, Moments, NeverLoses, image_side, reads_of}
use Rattle.outside.specs.declared.disk.Side.{Side}
use Rattle.outside.specs.declared.records.StoreFault.{StoreFault}
use Rattle.outside.specs.declared.records.StoreFault.TheVariants as fault
use Rattle.store_journal.specs.DeadBytes.{AsksAt, HasManyDead, capped_length, closed_length, dead_limit}
use Rattle.store_journal.specs.Forms.{has_form}
use Rattle.store_journal.specs.Payloads.{block, counting, generation_of, payloads}
use Rattle.store_journal.proofs.Forms.{no_form_payloads}
use Rattle.store_journal.specs.Journals.{IsHealthy, IsInStep, JournalState, OpensAt}
use Rattle.store_codec.specs.Compaction.{CompactedSoFar, compacted_from, compacted_requests, none_compacted}
use Rattle.store_codec.specs.Forms.{request_payload_bytes}
use Rattle.outside.specs.Records.{Record as RequestRecord, latest as latest_request, latest_alone as latest_requests}
use Rattle.store_codec.specs.RecordTables.{record_table_of, requests_among}
use Rattle.store.specs.Held.{latest_held}
use Rattle.store.specs.Stored.{AreAllOrLatest, AsksCompaction, HasCompactedOver, ImageAsksCompaction, IsRequestStoreInStep, IsResting, RequestStoreState, live_length, opened_generation, own_requests, requests_in}
use Rattle.store.specs.StoreLaws.{in_step_live, live_requests}
use Rattle.store.proofs.LatestRequests.{compacted-latest_requests, latest_request-latest_requests}
use Rattle.store.proofs.RequestMoments.{compact_leaves}
use Rattle.store.specs.declared.plan.CompactionPlan.{CompactionPlan}
use Rattle.store.specs.Plans.{KeepsLatestRequests, blocks_length}

-- the bytes of a plan are those of the payloads that keep the latest records
pub counted_latest : (payloads : List (List ℕ)) (plan : CompactionPlan) → KeepsLatestRequests payloads plan → plan.len ≡ min (2 ^ 64 - 1) (length (flat_map block (map request_payload_bytes (compacted_from none_compacted (latest_requests (record_table_of payloads).records)).payloads)))
counted_latest payloads plan keeps = keeps.counted ∙ ap (λ (so_far : CompactedSoFar). min (2 ^ 64 - 1) (blocks_length so_far.payloads)) keeps.kept_over

-- the latest record of each name stays
pub latest_still : (old made : List (List ℕ)) (name : FileName) → requests_among made ≡ latest_requests (requests_among old) → latest_held made name ≡ latest_held old name
latest_still old made name records = ap (latest_request name) records ∙ latest_request-latest_requests name (requests_among old)

-- compaction would keep all of what it left
all_live : (before : List RequestRecord) (side : List (List ℕ)) → side ≡ compacted_requests before → requests_among side ≡ latest_requests before → side ≡ compacted_requests (requests_among side)
all_live before side is records = is ∙ sym (compacted-latest_requests before) ∙ ap compacted_requests (sym records)

-- and so it isn't asked for
none_asked : (generation : ℕ) (side : List (List ℕ)) → side ≡ compacted_requests (requests_among side) → ¬ AsksCompaction generation side
none_asked generation side live asks =
    let same : closed_length side ≡ live_length side = ap closed_length live in
    omega (arith, asks.dead.many, same)

-- the generation of an image that a journal is in step with
in_step_generation : (store : RequestStoreState) (disk : DiskState) → IsRequestStoreInStep store disk → opened_generation (reads_of disk) ≡ store.journal.generation
in_step_generation store disk in_step =
    let counts : counting 3 (reads_of disk) ≡ Some store.journal.live = subst (λ (f : ℕ). counting f (reads_of disk) ≡ Some store.journal.live) in_step.form in_step.journal_in_step.counts in
    ap (λ (o : Option Side). option_map_or (λ side. generation_of (image_side side (reads_of disk))) o 1) counts ∙ in_step.journal_in_step.generation

in_step_healthy : (store : RequestStoreState) (disk : DiskState) → IsRequestStoreInStep store disk → IsHealthy 3 (reads_of disk)
in_step_healthy store disk in_step = subst (λ (f : ℕ). IsHealthy f (reads_of disk)) in_step.form (record { live = store.journal.live; counts = in_step.journal_in_step.counts; count = store.journal.len; closed = in_step.journal_in_step.closed })

-- a disk that a store is in step with, which doesn't ask for compaction
pub unasked_rests : (store : RequestStoreState) (disk : DiskState) → IsRequestStoreInStep store disk → ¬ AsksCompaction store.journal.generation store.held.payloads → IsResting (reads_of disk)
unasked_rests store disk in_step unasked = record {
  healthy = in_step_healthy store disk in_step;
  unasked = λ asks. unasked (subst (λ (g : ℕ). AsksCompaction g store.held.payloads) (in_step_generation store disk in_step) (subst (λ (ps : List (List ℕ)). AsksCompaction (opened_generation (reads_of disk)) ps) (sym in_step.payloads_are) asks));
}

-- a disk after compaction
pub compacted_rests : (store : RequestStoreState) (before : List RequestRecord) (disk : DiskState) → IsRequestStoreInStep store disk → HasCompactedOver before (reads_of disk) → IsResting (reads_of disk)
compacted_rests store before disk in_step done = record {
  healthy = in_step_healthy store disk in_step;
  unasked = none_asked (opened_generation (reads_of disk)) (payloads 3 (reads_of disk)) (done.live ∙ ap compacted_requests (live_requests (reads_of disk) (in_step_live store.journal disk in_step.journal_in_step in_step.form)));
}

module _ (old new : Moments) (store : RequestStoreState) (made side : List (List ℕ)) (in_step : IsRequestStoreInStep store old.now) (records : requests_among made ≡ latest_requests (requests_among store.held.payloads)) (is : made ≡ compacted_requests (requests_among store.held.payloads)) (written : side ≡ made) where
  abbrev reads : Image
  reads = reads_of old.now

  records_now : requests_among side ≡ latest_requests (own_requests reads)
  records_now = ap requests_among written ∙ records ∙ ap (λ (ps : List (List ℕ)). latest_requests (requests_among ps)) in_step.payloads_are

  is_now : side ≡ compacted_requests (own_requests reads)
  is_now = written ∙ is ∙ ap (λ (ps : List (List ℕ)). compacted_requests (requests_among ps)) in_step.payloads_are

  pub compaction_leaves : AtAnyMoment old new (λ image. IsEither (payloads store.journal.form image) (payloads store.journal.form reads) side) → AtAnyMoment old new (λ image. AreAllOrLatest (own_requests reads) (own_requests image))
  compaction_leaves moments = compact_leaves old new reads side records_now (subst (λ (f : ℕ). AtAnyMoment old new (λ image. IsEither (payloads f image) (payloads f reads) side)) in_step.form moments)

  pub compaction_keeps : NeverLoses old new (λ image. payloads store.journal.form image ≡ side) → NeverLoses old new (λ image. payloads 3 image ≡ compacted_requests (own_requests reads))
  compaction_keeps never =
      subst (λ (ps : List (List ℕ)). NeverLoses old new (λ image. payloads 3 image ≡ ps)) is_now
      (subst (λ (f : ℕ). NeverLoses old new (λ image. payloads f image ≡ side)) in_step.form never)

  module _ (journal : JournalState) (step : IsInStep journal new.now) (formed : journal.form ≡ 3) (replaced : payloads store.journal.form (reads_of new.now) ≡ side) where
    side_now : payloads 3 (reads_of new.now) ≡ side
    side_now = subst (λ (f : ℕ). payloads f (reads_of new.now) ≡ side) in_step.form replaced

    all_now : requests_in (reads_of new.now) ≡ own_requests (reads_of new.now)
    all_now = live_requests (reads_of new.now) (in_step_live journal new.now step formed)

    own_now : own_requests (reads_of new.now) ≡ latest_requests (own_requests reads)
    own_now = ap requests_among side_now ∙ records_now

    -- what compaction has done
    pub has_compacted : HasCompactedOver (own_requests reads) (reads_of new.now)
    has_compacted = record {
      side = side_now ∙ is_now;
      records = all_now ∙ own_now;
      live = all_live (own_requests reads) (payloads 3 (reads_of new.now)) (side_now ∙ is_now) own_now ∙ ap compacted_requests (sym all_now);
    }

    pub compaction_held : made ≡ payloads 3 (reads_of new.now)
    compaction_held = sym written ∙ sym side_now

-- an opened store asks where the image does
pub store_asks : (image : Image) (generation : ℕ) (held : List (List ℕ)) → generation ≡ opened_generation image → held ≡ payloads 3 image → ImageAsksCompaction image → AsksCompaction generation held
store_asks image generation held is are asks = subst (λ (g : ℕ). AsksCompaction g held) (sym is) (subst (λ (ps : List (List ℕ)). AsksCompaction (opened_generation image) ps) (sym are) asks)

pub image_asks : (image : Image) (generation : ℕ) (held : List (List ℕ)) → generation ≡ opened_generation image → held ≡ payloads 3 image → AsksCompaction generation held → ImageAsksCompaction image
image_asks image generation held is are asks = subst (λ (ps : List (List ℕ)). AsksCompaction (opened_generation image) ps) are (subst (λ (g : ℕ). AsksCompaction g held) is asks)

-- the live bytes, where those of their payloads are counted up to the most that can be
capped : (len live blocks counted : ℕ) → len < 2 ^ 64 → live ≡ 19 + blocks → counted ≡ min (2 ^ 64 - 1) blocks → HasManyDead len (capped_length counted) → HasManyDead len live
capped len live blocks counted fits is counts many = record { many = omega (arith, many.many, is, counts, fits); most = omega (arith, many.most, is, counts, fits) }

uncapped : (len live blocks counted : ℕ) → len < 2 ^ 64 → live ≡ 19 + blocks → counted ≡ min (2 ^ 64 - 1) blocks → HasManyDead len live → HasManyDead len (capped_length counted)
uncapped len live blocks counted fits is counts many = record { many = omega (arith, many.many, is, counts, fits); most = omega (arith, many.most, is, counts, fits) }

-- what the payloads that compaction would leave take
abbrev live_blocks : List (List ℕ) → ℕ
live_blocks payloads = length (flat_map block (map request_payload_bytes (compacted_from none_compacted (latest_requests (requests_among payloads))).payloads))

live_is : (payloads : List (List ℕ)) → live_length payloads ≡ 19 + live_blocks payloads
unfolding compacted_requests
live_is payloads = refl

pub asked_by : (payloads : List (List ℕ)) (generation len counted : ℕ) → counted ≡ min (2 ^ 64 - 1) (live_blocks payloads) → len < 2 ^ 64 → len ≡ closed_length payloads → AsksAt generation len (capped_length counted) → AsksCompaction generation payloads
asked_by payloads generation len counted counts fits is asks = record { next = asks.next; dead = subst (λ (n : ℕ). HasManyDead n (live_length payloads)) is (capped len (live_length payloads) (live_blocks payloads) counted fits (live_is payloads) counts asks.dead) }

pub asks_by : (payloads : List (List ℕ)) (generation len counted : ℕ) → counted ≡ min (2 ^ 64 - 1) (live_blocks payloads) → len < 2 ^ 64 → len ≡ closed_length payloads → AsksCompaction generation payloads → AsksAt generation len (capped_length counted)
asks_by payloads generation len counted counts fits is asks = record { next = asks.next; dead = uncapped len (live_length payloads) (live_blocks payloads) counted fits (live_is payloads) counts (subst (λ (n : ℕ). HasManyDead n (live_length payloads)) (sym is) asks.dead) }

-- the length of a journal is that of its payloads
pub length_is : (store : RequestStoreState) (disk : DiskState) → IsRequestStoreInStep store disk → store.journal.len ≡ closed_length store.held.payloads
length_is store disk in_step =
    in_step.journal_in_step.closed.spelled.count_is
    ∙ ap (λ (f : ℕ). closed_length (payloads f (reads_of disk))) in_step.form ∙ ap closed_length (sym in_step.payloads_are)

-- a side of no more bytes than the limit asks for nothing
pub short_unasked : (payloads : List (List ℕ)) (generation len : ℕ) → len ≡ closed_length payloads → len ≤ dead_limit → ¬ AsksCompaction generation payloads
short_unasked payloads generation len is short asks = omega (arith, is, short, asks.dead.many)

-- the generation of an opened journal
pub generation_is : (image : Image) (journal : JournalState) (o : Option Side) → OpensAt image o journal → journal.generation ≡ option_map_or (λ side. generation_of (image_side side image)) o 1
generation_is image journal None is = is.generation_is
generation_is image journal (Some side) is = is.generation_is

-- a fault is counted where nothing was counted before
pub counts_on : {T U : Type 0} (first : Result T StoreFault) (second : Result U StoreFault) (failed : StoreFault) (before middle after : ℕ) → first ≡ Err failed → second ≡ Err failed → middle ≡ before → StoreCounts first middle after → StoreCounts second before after
counts_on {T = T} {U = U} first second failed before middle after is_first is_second same counts =
    subst (λ r. StoreCounts r before after) (sym is_second) (by failed (subst (λ r. StoreCounts r middle after) is_first counts))
  where
    by : (f : StoreFault) → StoreCounts {T = T} (Err f) middle after → StoreCounts {T = U} (Err f) before after
    by fault.NoMemory c = c ∙ same
    by fault.DiskFailed c = subst (λ (n : ℕ). Counted n after) same c

-- the generation of a journal that was found, where that of form 3 is
pub found_generation : (image : Image) (journal : JournalState) (form : ℕ) → form ≡ 3 → OpensAt image (counting form image) journal → journal.generation ≡ opened_generation image
found_generation image journal form is opens =
    generation_is image journal (counting 3 image) (subst (λ (f : ℕ). OpensAt image (counting f image) journal) is opens)

-- An image without form 3 asks for compaction if these payloads do. In fact neither asks for it: the image has no payloads of
-- form 3, and compaction would keep all of these payloads.
pub taken_asks : (image : Image) (generation : ℕ) (held : List (List ℕ)) → has_form 3 image ≡ false → held ≡ compacted_requests (requests_among held) → AsksCompaction generation held → ImageAsksCompaction image
taken_asks image generation held none live asks = absurd (none_asked generation held live asks)

pub none_unasked : (image : Image) → has_form 3 image ≡ false → ¬ ImageAsksCompaction image
none_unasked image none asks =
    let empty : payloads 3 image ≡ [] = no_form_payloads 3 image none in
    omega (arith, asks.dead.many, ap closed_length empty)
