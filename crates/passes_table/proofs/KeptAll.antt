-- What compaction keeps, from the first pass to the last.
use Rattle.std.proofs.Common.{◌≡◌, ℕ, ◌-◌, ◌≤◌, ◌^◌, min, List, [], ◌++◌, length, drop, ap, ◌∙◌, arith}
use Rattle.std.specs.List.{flat_map}
use Rattle.std.proofs.Math.ListN.{drop_of_length-le}
use Rattle.std.proofs.lemmas.List.{append-nil}
use Rattle.store_journal.specs.Payloads.{block}
use Rattle.passes_spec.specs.Passes.{Pass, last_passes}
use Rattle.passes_codec.specs.Compaction.{IsNumberable, compacted_passes, payloads_over}
use Rattle.passes_codec.specs.PassTables.{PassTable, bare_table, pass_table_of, passes_among}
use Rattle.passes_codec.proofs.SpelledPasses.{compacted_are, compacted_stand}
use Rattle.passes_codec.proofs.TablePasses.{compacted_numberable, passes_fit}
use Rattle.passes_table.specs.declared.compacting.KeptPasses.{KeptPasses}
use Rattle.passes_table.specs.declared.counting.CountedPasses.{CountedPasses}
use Rattle.passes_table.specs.Kept.{counted_on, kept_on, kept_table}

module _ (table : PassTable) (kept : KeptPasses) (passes : List Pass) where
  -- before the first pass
  pub on_first : kept.payloads ≡ [] → kept_table table kept.numbers.lists kept.numbers.texts ≡ bare_table → kept_on table kept passes ≡ compacted_passes passes
  unfolding compacted_passes
  on_first none bare =
      ap (λ (ps : List (List ℕ)). ps ++ payloads_over (kept_table table kept.numbers.lists kept.numbers.texts) (last_passes passes)) none
      ∙ ap (λ (t : PassTable). payloads_over t (last_passes passes)) bare

  -- after the last pass
  pub on_last : (number : ℕ) → length passes ≤ number → kept_on table kept (drop number passes) ≡ kept.payloads
  unfolding payloads_over last_passes
  on_last number all = ap (λ (ps : List Pass). kept_on table kept ps) (drop_of_length-le passes all) ∙ append-nil kept.payloads

module _ (table : PassTable) (counted : CountedPasses) (passes : List Pass) where
  abbrev payloads : List Pass → List (List ℕ)
  payloads some = payloads_over (kept_table table counted.numbers.lists counted.numbers.texts) (last_passes some)

  -- before the first pass no byte is counted
  pub counted_first : counted.bytes ≡ 0 → kept_table table counted.numbers.lists counted.numbers.texts ≡ bare_table → counted_on table counted passes ≡ min (2 ^ 64 - 1) (length (flat_map block (compacted_passes passes)))
  unfolding compacted_passes
  counted_first none bare =
      let same : length (flat_map block (payloads passes)) ≡ length (flat_map block (payloads_over bare_table (last_passes passes))) = ap (λ (t : PassTable). length (flat_map block (payloads_over t (last_passes passes)))) bare in
      omega (arith, same, none)

  -- after the last pass all bytes are
  pub counted_last : (number : ℕ) → length passes ≤ number → counted_on table counted (drop number passes) ≡ min (2 ^ 64 - 1) counted.bytes
  unfolding payloads_over last_passes
  counted_last number all =
      let none : length (flat_map block (payloads (drop number passes))) ≡ 0 = ap (λ (ps : List Pass). length (flat_map block (payloads ps))) (drop_of_length-le passes all) in
      omega (arith, none)

-- the passes of what is kept are the last ones of the same tests
pub passes_kept : (payloads : List (List ℕ)) → IsNumberable (pass_table_of payloads) → passes_among (compacted_passes (passes_among payloads)) ≡ last_passes (passes_among payloads)
passes_kept payloads few =
    let passes : List Pass = passes_among payloads in
    ap (λ (t : PassTable). t.passes) (compacted_stand passes (passes_fit payloads) (compacted_numberable payloads few)) ∙ compacted_are passes
