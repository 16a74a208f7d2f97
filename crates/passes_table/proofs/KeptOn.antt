-- Keeping one pass more.
use Rattle.std.proofs.Common.{◌≡◌, ℕ, suc, ◌+◌, ◌-◌, ◌<◌, ◌≤◌, Bool, true, false, List, [], ◌∷◌, ◌++◌, ◌^◌, min, length, drop, get_or, refl, sym, ap, ◌∙◌, append_assoc, arith, length-append, length-drop}
use Rattle.std.specs.List.{flat_map, list_any}
use Rattle.std.proofs.Math.Seq.{drop-cons}
use Rattle.std.proofs.lemmas.Bool.{cond-true, cond-false}
use Rattle.std.proofs.lemmas.List.{get_or-drop, get_or_default}
use Rattle.std.proofs.lemmas.List.Folds.{list_any_at, list_any_none}
use Rattle.store_journal.specs.Payloads.{block}
use Rattle.passes_spec.specs.Passes.{Pass, is_superseded, last_passes}
use Rattle.passes_codec.specs.Compaction.{payloads_over, spelled_pass}
use Rattle.passes_codec.specs.Forms.{pass_bytes}
use Rattle.passes_codec.specs.PassTables.{PassTable, with_pass}
use Rattle.passes_table.specs.declared.compacting.KeptPasses.{KeptPasses}
use Rattle.passes_table.specs.declared.counting.CountedPasses.{CountedPasses}
use Rattle.passes_table.specs.Kept.{IsAfterList, counted_on, kept_on, kept_table}
use Rattle.passes_table.proofs.Kept.{payloads_by}
use Rattle.passes_table.proofs.LastRows.{no_pass}

-- ## Passes from a number on

module _ (test : Pass → Bool) (passes : List Pass) (from : ℕ) where
  pub none_from : ((k : ℕ) → from ≤ k → k < length passes → test (get_or passes k no_pass) ≡ false) → list_any test (drop from passes) ≡ false
  none_from h = list_any_none test (drop from passes) (λ k d low.
      let here : from + k < length passes = omega (arith, low, length-drop from passes) in
      ap test (get_or-drop from passes k d ∙ get_or_default passes (from + k) d no_pass here) ∙ h (from + k) (omega arith) here)

  pub one_from : (n : ℕ) → from ≤ n → n < length passes → test (get_or passes n no_pass) ≡ true → list_any test (drop from passes) ≡ true
  one_from n after low is =
      list_any_at test (drop from passes) (n - from) no_pass (omega (arith, after, low, length-drop from passes))
      (ap test (get_or-drop from passes (n - from) no_pass ∙ ap (λ (k : ℕ). get_or passes k no_pass) (omega (arith, after))) ∙ is)

module _ (passes : List Pass) (number : ℕ) (low : number < length passes) where
  abbrev pass : Pass
  pass = get_or passes number no_pass

  abbrev rest : List Pass
  rest = drop (suc number) passes

  cut : drop number passes ≡ pass ∷ rest
  cut = drop-cons passes number no_pass low

  -- a pass that a later one supersedes is not kept
  pub last_skipped : is_superseded rest pass ≡ true → last_passes (drop number passes) ≡ last_passes rest
  unfolding last_passes
  last_skipped is = ap last_passes cut ∙ cond-true (is_superseded rest pass) (last_passes rest) (pass ∷ last_passes rest) is

  pub last_kept : is_superseded rest pass ≡ false → last_passes (drop number passes) ≡ pass ∷ last_passes rest
  unfolding last_passes
  last_kept is = ap last_passes cut ∙ cond-false (is_superseded rest pass) (last_passes rest) (pass ∷ last_passes rest) is

  module _ (table : PassTable) (old new : KeptPasses) where
    abbrev before : PassTable
    before = kept_table table old.numbers.lists old.numbers.texts

    pub on_skipped : is_superseded rest pass ≡ true → kept_on table old rest ≡ kept_on table old (drop number passes)
    on_skipped is = ap (λ (ps : List Pass). old.payloads ++ payloads_over before ps) (sym (last_skipped is))

    pub on_kept : is_superseded rest pass ≡ false → (payload : List ℕ) → new.payloads ≡ old.payloads ++ payload ∷ [] → payload ≡ pass_bytes (spelled_pass before pass) → IsAfterList table pass.built old.numbers new.numbers → kept_on table new rest ≡ kept_on table old (drop number passes)
    unfolding payloads_over
    on_kept is payload added spelled after =
        let later : List (List ℕ) = payloads_over (with_pass before (spelled_pass before pass)) (last_passes rest) in
        ap (λ (ps : List (List ℕ)). new.payloads ++ ps) (payloads_by (kept_table table new.numbers.lists new.numbers.texts) (with_pass before (spelled_pass before pass)) (last_passes rest) after.texts after.lists)
        ∙ ap (λ (ps : List (List ℕ)). ps ++ later) added
        ∙ append_assoc old.payloads (payload ∷ []) later
        ∙ ap (λ (b : List ℕ). old.payloads ++ b ∷ later) spelled
        ∙ ap (λ (ps : List Pass). old.payloads ++ payloads_over before ps) (sym (last_kept is))

  module _ (table : PassTable) (old new : CountedPasses) where
    abbrev numbered : PassTable
    numbered = kept_table table old.numbers.lists old.numbers.texts

    pub counted_skipped : is_superseded rest pass ≡ true → counted_on table old rest ≡ counted_on table old (drop number passes)
    counted_skipped is = ap (λ (ps : List Pass). min (2 ^ 64 - 1) (old.bytes + length (flat_map block (payloads_over numbered ps)))) (sym (last_skipped is))

    pub counted_kept : is_superseded rest pass ≡ false → (size : ℕ) → new.bytes ≡ min (old.bytes + size) (2 ^ 64 - 1) → size ≡ length (block (pass_bytes (spelled_pass numbered pass))) → IsAfterList table pass.built old.numbers new.numbers → counted_on table new rest ≡ counted_on table old (drop number passes)
    counted_kept is size added size_is after =
        let payload : List ℕ = pass_bytes (spelled_pass numbered pass) in
        let later : List (List ℕ) = payloads_over (kept_table table new.numbers.lists new.numbers.texts) (last_passes rest) in
        let all : List (List ℕ) = payloads_over numbered (last_passes (drop number passes)) in
        let none : KeptPasses = record { payloads = []; numbers = old.numbers } in
        let one : KeptPasses = record { payloads = payload ∷ []; numbers = new.numbers } in
        let same : payload ∷ later ≡ all = on_kept table none one is payload refl refl after in
        let long : length (block payload) + length (flat_map block later) ≡ length (flat_map block all) = sym (length-append (block payload) (flat_map block later)) ∙ ap (λ (ps : List (List ℕ)). length (flat_map block ps)) same in
        omega (arith, long, size_is, added)
