-- What a compaction leaves, from what it leaves of the journal.
use Rattle.std.proofs.Common.{◌≡◌, ℕ, ◌<◌, ◌≤◌, ◌^◌, List, length, Option, Some, None, sym, ap, subst, ◌∙◌, arith}
use Rattle.std.specs.List.{flat_map}
use Rattle.std.specs.Option.{option_map_or}
use Rattle.outside.specs.Disks.{AtAnyMoment, DiskState, Image, IsEither, Moments, image_side, reads_of}
use Rattle.outside.specs.declared.disk.Side.{Side}
use Rattle.store_journal.specs.DeadBytes.{AsksAt, capped_length, closed_length, dead_limit}
use Rattle.store_journal.specs.Journals.{IsHealthy, IsInStep, JournalState, OpensAt, OpensAs}
use Rattle.store_journal.specs.Payloads.{block, counting, generation_of, payloads}
use Rattle.passes_spec.specs.Passes.{IsAllOrLast, Pass, last_passes}
use Rattle.passes_codec.specs.Compaction.{compacted_passes}
use Rattle.passes_codec.specs.PassTables.{passes_among}
use Rattle.passes_codec.proofs.SpelledPasses.{compacted_again}
use Rattle.passes_table.specs.States.{PassesState}
use Rattle.passes.specs.Stored.{AsksCompaction, HasCompacted, ImageAsksCompaction, IsPassStoreInStep, IsResting, PassStoreState, live_length, opened_generation, passes_in, store_of}
use Rattle.passes.proofs.PassMoments.{compact_leaves}

-- compaction would keep all of what it left
all_live : (before : List Pass) (side : List (List ℕ)) → side ≡ compacted_passes before → passes_among side ≡ last_passes before → side ≡ compacted_passes (passes_among side)
all_live before side is passes = is ∙ sym (compacted_again before) ∙ ap compacted_passes (sym passes)

-- and so it isn't needed
none_asked : (generation : ℕ) (side : List (List ℕ)) → side ≡ compacted_passes (passes_among side) → ¬ AsksCompaction generation side
none_asked generation side live asks =
    let same : closed_length side ≡ live_length side = ap closed_length live in
    omega (arith, asks.dead.many, same)

module _ (store : PassStoreState) (disk : DiskState) (in_step : IsPassStoreInStep store disk) where
  -- the generation of an image that a journal is in step with
  in_step_generation : opened_generation (reads_of disk) ≡ store.journal.generation
  in_step_generation =
      let counts : counting 5 (reads_of disk) ≡ Some store.journal.live = subst (λ (f : ℕ). counting f (reads_of disk) ≡ Some store.journal.live) in_step.form in_step.journal_in_step.counts in
      ap (λ (o : Option Side). option_map_or (λ side. generation_of (image_side side (reads_of disk))) o 1) counts ∙ in_step.journal_in_step.generation

  in_step_healthy : IsHealthy 5 (reads_of disk)
  in_step_healthy = subst (λ (f : ℕ). IsHealthy f (reads_of disk)) in_step.form (record { live = store.journal.live; counts = in_step.journal_in_step.counts; count = store.journal.len; closed = in_step.journal_in_step.closed })

  -- a disk that needs no compaction
  pub unasked_rests : ¬ AsksCompaction store.journal.generation store.held.payloads → IsResting (reads_of disk)
  unasked_rests unasked = record {
    healthy = in_step_healthy;
    unasked = λ asks. unasked (subst (λ (g : ℕ). AsksCompaction g store.held.payloads) in_step_generation (subst (λ (ps : List (List ℕ)). AsksCompaction (opened_generation (reads_of disk)) ps) (sym in_step.payloads_are) asks));
  }

  -- a disk after compaction
  pub compacted_rests : (before : List Pass) → HasCompacted before (reads_of disk) → IsResting (reads_of disk)
  compacted_rests before done = record { healthy = in_step_healthy; unasked = none_asked (opened_generation (reads_of disk)) (payloads 5 (reads_of disk)) done.live }

  -- the length of a journal is that of its payloads
  pub length_is : store.journal.len ≡ closed_length store.held.payloads
  length_is =
      in_step.journal_in_step.closed.spelled.count_is
      ∙ ap (λ (f : ℕ). closed_length (payloads f (reads_of disk))) in_step.form ∙ ap closed_length (sym in_step.payloads_are)

module _ (old new : Moments) (store : PassStoreState) (made side : List (List ℕ)) (in_step : IsPassStoreInStep store old.now) (is : made ≡ compacted_passes (passes_among store.held.payloads)) (passes : passes_among made ≡ last_passes (passes_among store.held.payloads)) (written : side ≡ made) where
  abbrev reads : Image
  reads = reads_of old.now

  abbrev JournalLeft : ℕ → Type 0
  JournalLeft form = AtAnyMoment old new (λ image. IsEither (payloads form image) (payloads form reads) side)

  passes_now : passes_among side ≡ last_passes (passes_in reads)
  passes_now = ap passes_among written ∙ passes ∙ ap (λ (ps : List (List ℕ)). last_passes (passes_among ps)) in_step.payloads_are

  is_now : side ≡ compacted_passes (passes_in reads)
  is_now = written ∙ is ∙ ap (λ (ps : List (List ℕ)). compacted_passes (passes_among ps)) in_step.payloads_are

  pub compaction_leaves : JournalLeft store.journal.form → AtAnyMoment old new (λ image. IsAllOrLast (passes_in reads) (passes_in image))
  compaction_leaves moments = compact_leaves old new reads side passes_now (subst JournalLeft in_step.form moments)

  module _ (replaced : payloads store.journal.form (reads_of new.now) ≡ side) where
    side_now : payloads 5 (reads_of new.now) ≡ side
    side_now = subst (λ (f : ℕ). payloads f (reads_of new.now) ≡ side) in_step.form replaced

    last_now : passes_in (reads_of new.now) ≡ last_passes (passes_in reads)
    last_now = ap passes_among side_now ∙ passes_now

    -- what compaction has done
    pub has_compacted : HasCompacted (passes_in reads) (reads_of new.now)
    has_compacted = record {
      side = side_now ∙ is_now;
      passes = last_now;
      live = all_live (passes_in reads) (payloads 5 (reads_of new.now)) (side_now ∙ is_now) last_now;
    }

    -- and the store that holds what was made is in step
    pub compacted_in_step : (journal : JournalState) (held : PassesState) → IsInStep journal new.now → journal.form ≡ store.journal.form → held.payloads ≡ made → IsPassStoreInStep (store_of journal held) new.now
    compacted_in_step journal held step formed holds = record { journal_in_step = step; form = formed ∙ in_step.form; payloads_are = holds ∙ sym written ∙ sym side_now }

-- ## When compaction is needed

module _ (held : List (List ℕ)) (generation len counted : ℕ) (fits : len < 2 ^ 64) (is : len ≡ closed_length held) (counts : counted ≡ capped_length (length (flat_map block (compacted_passes (passes_among held))))) where
  -- as the code asks
  pub asked_by : AsksAt generation len counted → AsksCompaction generation held
  asked_by asks = record {
    next = asks.next;
    dead = record { many = omega (arith, asks.dead.many, fits, is, counts); most = omega (arith, asks.dead.most, fits, is, counts) };
  }

  -- and as is needed
  pub asks_by : AsksCompaction generation held → AsksAt generation len counted
  asks_by asks = record {
    next = asks.next;
    dead = record { many = omega (arith, asks.dead.many, fits, is, counts); most = omega (arith, asks.dead.most, fits, is, counts) };
  }

-- a side of no more bytes than the limit needs none
pub short_unasked : (held : List (List ℕ)) (generation len : ℕ) → len ≡ closed_length held → len ≤ dead_limit → ¬ AsksCompaction generation held
short_unasked held generation len is short asks = omega (arith, is, short, asks.dead.many)

-- the generation of an opened journal
generation_at : (image : Image) (journal : JournalState) (o : Option Side) → OpensAt image o journal → journal.generation ≡ option_map_or (λ side. generation_of (image_side side image)) o 1
generation_at image journal None is = is.generation_is
generation_at image journal (Some side) is = is.generation_is

module _ (image : Image) (journal : JournalState) (held : List (List ℕ)) (opens : OpensAs 5 image journal) (are : held ≡ payloads 5 image) where
  generation_is : journal.generation ≡ opened_generation image
  generation_is = generation_at image journal (counting 5 image) opens

  -- an opened store needs compaction exactly if the image does
  pub store_asks : ImageAsksCompaction image → AsksCompaction journal.generation held
  store_asks asks = subst (λ (g : ℕ). AsksCompaction g held) (sym generation_is) (subst (λ (ps : List (List ℕ)). AsksCompaction (opened_generation image) ps) (sym are) asks)

  pub image_asks : AsksCompaction journal.generation held → ImageAsksCompaction image
  image_asks asks = subst (λ (ps : List (List ℕ)). AsksCompaction (opened_generation image) ps) are (subst (λ (g : ℕ). AsksCompaction g held) generation_is asks)
