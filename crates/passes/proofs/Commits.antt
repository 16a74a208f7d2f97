-- What a commit leaves, from what it leaves of the journal.
use Rattle.std.proofs.Common.{◌≡◌, ℕ, true, List, [], ◌∷◌, ◌++◌, refl, sym, ap, subst, ◌∙◌}
use Rattle.std.proofs.lemmas.List.Sums.{fold_push}
use Rattle.outside.specs.Disks.{AtAnyMoment, Image, IsEither, Moments, NeverLoses, reads_of}
use Rattle.store_journal.specs.Journals.{IsInStep, JournalState}
use Rattle.store_journal.specs.Payloads.{payloads}
use Rattle.passes_spec.specs.Passes.{Pass}
use Rattle.passes_codec.specs.Forms.{PassDraft}
use Rattle.passes_codec.specs.PassTables.{PassTable, after_pass_payload, bare_table, is_valid_pass, pass_table_of, passes_among, with_pass}
use Rattle.passes_codec.specs.Ranges.{pass_in_ranges}
use Rattle.passes_codec.proofs.Deciding.{valid_pass-Decides}
use Rattle.passes_table.specs.declared.additions.PassAddition.{PassAddition}
use Rattle.passes_table.specs.States.{AddsPass, PassesState, added_pass}
use Rattle.passes.specs.Stored.{IsPassStoreInStep, PassStoreState, passes_in, store_of}
use Rattle.passes.proofs.PassMoments.{commit_keeps, commit_leaves}

-- a payload that was prepared adds its pass
pub adds_one : (state : PassesState) (segment : List ℕ) (addition : PassAddition) → AddsPass state segment addition → passes_among (state.payloads ++ segment ∷ []) ≡ passes_among state.payloads ++ added_pass state.payloads segment addition ∷ []
unfolding pass_table_of after_pass_payload
adds_one state segment addition adds =
    let table : PassTable = pass_table_of state.payloads in
    let draft : PassDraft = pass_in_ranges segment addition.draft in
    let valid : is_valid_pass table draft ≡ true = (valid_pass-Decides table draft).1 adds.is.valid in
    let one : after_pass_payload table segment ≡ with_pass table draft = rw (adds.read, valid) refl in
    ap (λ (t : PassTable). t.passes) (fold_push after_pass_payload bare_table state.payloads segment ∙ one)

module _ (old new : Moments) (store : PassStoreState) (payload : List ℕ) (pass : Pass) (in_step : IsPassStoreInStep store old.now) (adds : passes_among (store.held.payloads ++ payload ∷ []) ≡ passes_among store.held.payloads ++ pass ∷ []) (form : ℕ) (five : form ≡ 5) where
  abbrev reads : Image
  reads = reads_of old.now

  abbrev JournalLeft : ℕ → Type 0
  JournalLeft f = AtAnyMoment old new (λ image. IsEither (payloads f image) (payloads f reads) (payloads f reads ++ payload ∷ []))

  abbrev JournalKeeps : ℕ → Type 0
  JournalKeeps f = NeverLoses old new (λ image. payloads f image ≡ payloads f reads ++ payload ∷ [])

  more : passes_among (payloads 5 reads ++ payload ∷ []) ≡ passes_in reads ++ pass ∷ []
  more = subst (λ (ps : List (List ℕ)). passes_among (ps ++ payload ∷ []) ≡ passes_among ps ++ pass ∷ []) in_step.payloads_are adds

  -- the passes from before, with the new one or without
  pub committed_leaves : JournalLeft form → AtAnyMoment old new (λ image. IsEither (passes_in image) (passes_in reads) (passes_in reads ++ pass ∷ []))
  committed_leaves moments = commit_leaves old new reads payload pass more (subst JournalLeft five moments)

  -- once each image has the new one, each has it
  pub committed_keeps : JournalLeft form → JournalKeeps form → NeverLoses old new (λ image. passes_in image ≡ passes_in reads ++ pass ∷ [])
  committed_keeps moments never = commit_keeps old new reads payload pass more (subst JournalLeft five moments) (subst JournalKeeps five never)

  module _ (added : payloads form (reads_of new.now) ≡ payloads form reads ++ payload ∷ []) where
    added_five : payloads 5 (reads_of new.now) ≡ payloads 5 reads ++ payload ∷ []
    added_five = subst (λ (f : ℕ). payloads f (reads_of new.now) ≡ payloads f reads ++ payload ∷ []) five added

    -- one pass more
    pub committed_adds : passes_in (reads_of new.now) ≡ passes_in reads ++ pass ∷ []
    committed_adds = ap passes_among added_five ∙ more

    -- and the store is in step
    pub committed_in_step : (journal : JournalState) (held : PassesState) → IsInStep journal new.now → journal.form ≡ form → held.payloads ≡ store.held.payloads ++ payload ∷ [] → IsPassStoreInStep (store_of journal held) new.now
    committed_in_step journal held step formed put = record {
      journal_in_step = step;
      form = formed ∙ five;
      payloads_are = put ∙ ap (λ (ps : List (List ℕ)). ps ++ payload ∷ []) in_step.payloads_are ∙ sym added_five;
    }
