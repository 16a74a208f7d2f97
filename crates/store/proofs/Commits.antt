-- What a commit leaves, from what it leaves of the journal.
use Rattle.std.proofs.Common.{◌≡◌, ℕ, ◌<◌, true, List, [], ◌∷◌, ◌++◌, length, get_or, sym, ap, subst, ◌∙◌}
use Rattle.std.proofs.lemmas.Option.{slice_get-get_or}
use Rattle.base.specs.declared.file.FileName.{FileName}
use Rattle.base.specs.declared.graph.Entry.{Entry}
use Rattle.outside.specs.Disks.{AtAnyMoment, Image, IsEither, Moments, NeverLoses, reads_of}
use Rattle.store_journal.specs.Forms.{has_form}
use Rattle.store_journal.specs.Payloads.{payloads}
use Rattle.store_journal.specs.Journals.{IsInStep, JournalState}
use Rattle.outside.specs.Records.{Record as RequestRecord}
use Rattle.store_codec.specs.RecordTables.{RecordTable, requests_among}
use Rattle.store.specs.Additions.{AddsAsked, no_entry}
use Rattle.store.specs.Held.{HeldState, latest_held}
use Rattle.store.specs.Stored.{IsPreparedAt, IsRequestReady, IsRequestStoreInStep, PreparedState, RequestStoreState, own_requests, prepared_record, requests_in, store_of, with_newer}
use Rattle.store.specs.StoreLaws.{in_step_live, live_requests}
use Rattle.store.proofs.Kept.{losing_of, moments_of}
use Rattle.store.proofs.RequestsAdded.{latest_added, one_more}
use Rattle.store.proofs.RequestMoments.{commit_keeps, commit_leaves}

-- what was prepared for a file has its name
pub prepared_at : (table : RecordTable) (graph : List Entry) (at : ℕ) (artefact : List ℕ) (prepared : PreparedState) → at < length graph → prepared.addition.at ≡ at → AddsAsked table graph at artefact prepared.payload prepared.addition → IsPreparedAt graph at prepared
prepared_at table graph at artefact prepared low is adds = record {
  at_is = is;
  named = sym (ap (λ (r : RequestRecord). r.asked.name) (adds (get_or graph at no_entry) (slice_get-get_or graph at no_entry low)));
}

-- the latest records after a commit
pub committed_latest : (store before : RequestStoreState) (inner prepared : PreparedState) (more : List (List ℕ)) (name : FileName) → store ≡ before → inner ≡ prepared → IsRequestReady before.held prepared → more ≡ store.held.payloads ++ inner.payload ∷ [] → latest_held more name ≡ with_newer (prepared_record before.held.payloads prepared) (latest_held before.held.payloads) name
committed_latest store before inner prepared more name same is ready added =
    latest_added before.held.payloads more prepared.payload (prepared_record before.held.payloads prepared) name
    (added ∙ ap (λ (s : RequestStoreState). s.held.payloads ++ inner.payload ∷ []) same ∙ ap (λ (p : PreparedState). before.held.payloads ++ p.payload ∷ []) is)
    (one_more before.held prepared ready)

module _ (old new : Moments) (store before : RequestStoreState) (inner prepared : PreparedState) (same : store ≡ before) (is : inner ≡ prepared) (in_step : IsRequestStoreInStep before old.now) (ready : IsRequestReady before.held prepared) where
  abbrev reads : Image
  reads = reads_of old.now

  abbrev kept : RequestRecord
  kept = prepared_record before.held.payloads prepared

  form : store.journal.form ≡ 3
  form = ap (λ (s : RequestStoreState). s.journal.form) same ∙ in_step.form

  more : requests_among (payloads 3 reads ++ prepared.payload ∷ []) ≡ own_requests reads ++ kept ∷ []
  more = subst (λ (ps : List (List ℕ)). requests_among (ps ++ prepared.payload ∷ []) ≡ requests_among ps ++ prepared_record before.held.payloads prepared ∷ []) in_step.payloads_are (one_more before.held prepared ready)

  left : AtAnyMoment old new (λ image. IsEither (payloads store.journal.form image) (payloads store.journal.form reads) (payloads store.journal.form reads ++ inner.payload ∷ [])) → AtAnyMoment old new (λ image. IsEither (payloads 3 image) (payloads 3 reads) (payloads 3 reads ++ prepared.payload ∷ []))
  left moments =
      subst (λ (p : PreparedState). AtAnyMoment old new (λ image. IsEither (payloads 3 image) (payloads 3 reads) (payloads 3 reads ++ p.payload ∷ []))) is
      (subst (λ (f : ℕ). AtAnyMoment old new (λ image. IsEither (payloads f image) (payloads f reads) (payloads f reads ++ inner.payload ∷ []))) form moments)

  -- the records from before, with the new one or without
  own_leaves : AtAnyMoment old new (λ image. IsEither (payloads store.journal.form image) (payloads store.journal.form reads) (payloads store.journal.form reads ++ inner.payload ∷ [])) → AtAnyMoment old new (λ image. IsEither (own_requests image) (own_requests reads) (own_requests reads ++ kept ∷ []))
  own_leaves moments = commit_leaves old new reads prepared.payload kept more (left moments)

  -- once each image has the new one, each has it
  own_keeps : AtAnyMoment old new (λ image. IsEither (payloads store.journal.form image) (payloads store.journal.form reads) (payloads store.journal.form reads ++ inner.payload ∷ [])) → NeverLoses old new (λ image. payloads store.journal.form image ≡ payloads store.journal.form reads ++ inner.payload ∷ []) → NeverLoses old new (λ image. own_requests image ≡ own_requests reads ++ kept ∷ [])
  own_keeps moments never =
      commit_keeps old new reads prepared.payload kept more (left moments)
      (subst (λ (p : PreparedState). NeverLoses old new (λ image. payloads 3 image ≡ payloads 3 reads ++ p.payload ∷ [])) is
      (subst (λ (f : ℕ). NeverLoses old new (λ image. payloads f image ≡ payloads f reads ++ inner.payload ∷ [])) form never))

  added_one : payloads store.journal.form (reads_of new.now) ≡ payloads store.journal.form reads ++ inner.payload ∷ [] → payloads 3 (reads_of new.now) ≡ payloads 3 reads ++ prepared.payload ∷ []
  added_one added =
      subst (λ (p : PreparedState). payloads 3 (reads_of new.now) ≡ payloads 3 reads ++ p.payload ∷ []) is
      (subst (λ (f : ℕ). payloads f (reads_of new.now) ≡ payloads f reads ++ inner.payload ∷ []) form added)

  -- one record more
  own_adds : payloads store.journal.form (reads_of new.now) ≡ payloads store.journal.form reads ++ inner.payload ∷ [] → own_requests (reads_of new.now) ≡ own_requests reads ++ kept ∷ []
  own_adds added = ap requests_among (added_one added) ∙ more

  -- and the store is in step
  pub committed_in_step : (journal : JournalState) (held : HeldState) → IsInStep journal new.now → journal.form ≡ store.journal.form → held.payloads ≡ store.held.payloads ++ inner.payload ∷ [] → payloads store.journal.form (reads_of new.now) ≡ payloads store.journal.form reads ++ inner.payload ∷ [] → IsRequestStoreInStep (store_of journal held) new.now
  committed_in_step journal held step formed put added = record {
    journal_in_step = step;
    form = formed ∙ form;
    payloads_are = put ∙ ap (λ (s : RequestStoreState). s.held.payloads ++ inner.payload ∷ []) same ∙ ap (λ (p : PreparedState). before.held.payloads ++ p.payload ∷ []) is ∙ ap (λ (ps : List (List ℕ)). ps ++ prepared.payload ∷ []) in_step.payloads_are ∙ sym (added_one added);
  }

  -- the same of all records, since form 3 is live
  kept_before : requests_in reads ≡ own_requests reads
  kept_before = live_requests reads (in_step_live before.journal old.now in_step.journal_in_step in_step.form)

  live_in : AtAnyMoment old new (λ image. has_form store.journal.form image ≡ true) → AtAnyMoment old new (λ image. has_form 3 image ≡ true)
  live_in live = subst (λ (f : ℕ). AtAnyMoment old new (λ image. has_form f image ≡ true)) form live

  pub committed_leaves : AtAnyMoment old new (λ image. has_form store.journal.form image ≡ true) → AtAnyMoment old new (λ image. IsEither (payloads store.journal.form image) (payloads store.journal.form reads) (payloads store.journal.form reads ++ inner.payload ∷ [])) → AtAnyMoment old new (λ image. IsEither (requests_in image) (requests_in reads) (requests_in reads ++ kept ∷ []))
  committed_leaves live moments =
      subst (λ (rs : List RequestRecord). AtAnyMoment old new (λ image. IsEither (requests_in image) rs (rs ++ kept ∷ []))) (sym kept_before)
      (moments_of old new (live_in live) (λ rs. IsEither rs (own_requests reads) (own_requests reads ++ kept ∷ [])) (own_leaves moments))

  pub committed_keeps : AtAnyMoment old new (λ image. has_form store.journal.form image ≡ true) → AtAnyMoment old new (λ image. IsEither (payloads store.journal.form image) (payloads store.journal.form reads) (payloads store.journal.form reads ++ inner.payload ∷ [])) → NeverLoses old new (λ image. payloads store.journal.form image ≡ payloads store.journal.form reads ++ inner.payload ∷ []) → NeverLoses old new (λ image. requests_in image ≡ requests_in reads ++ kept ∷ [])
  committed_keeps live moments never =
      subst (λ (rs : List RequestRecord). NeverLoses old new (λ image. requests_in image ≡ rs ++ kept ∷ [])) (sym kept_before)
      (losing_of old new (live_in live) (λ rs. rs ≡ own_requests reads ++ kept ∷ []) (own_keeps moments never))

  pub committed_adds : (journal : JournalState) → IsInStep journal new.now → journal.form ≡ store.journal.form → payloads store.journal.form (reads_of new.now) ≡ payloads store.journal.form reads ++ inner.payload ∷ [] → requests_in (reads_of new.now) ≡ requests_in reads ++ kept ∷ []
  committed_adds journal step formed added =
      live_requests (reads_of new.now) (in_step_live journal new.now step (formed ∙ form)) ∙ own_adds added ∙ ap (λ (rs : List RequestRecord). rs ++ kept ∷ []) (sym kept_before)
