-- The table after a payload was taken up.
use Rattle.std.proofs.Common.{◌≡◌, ℕ, Bool, true, false, List, [], ◌∷◌, ◌++◌, Option, None, Some, refl, sym, ap}
use Rattle.std.specs.Bool.{Decides}
use Rattle.std.specs.Option.{option_map_or}
use Rattle.std.proofs.lemmas.List.Sums.{fold_push}
use Rattle.passes_codec.specs.Forms.{PassDraft, pass_in}
use Rattle.passes_codec.specs.PassTables.{IsValidPass, PassTable, after_pass_payload, bare_table, is_valid_pass, pass_table_of, with_draft, with_pass}
use Rattle.passes_codec.proofs.Deciding.{valid_pass-Decides}

undecided : {P : Type 0} (b : Bool) → Decides b P → (¬ P) → b ≡ false
undecided true d never = absurd (never (d.0 refl))
undecided false d never = refl

pub took_pass : (table : PassTable) (draft : PassDraft) → IsValidPass table draft → with_pass table draft ≡ with_draft table draft
took_pass table draft is = rw ((valid_pass-Decides table draft).1 is) refl

pub took_no_pass : (table : PassTable) (draft : PassDraft) → (¬ IsValidPass table draft) → table ≡ with_draft table draft
took_no_pass table draft never = rw (undecided (is_valid_pass table draft) (valid_pass-Decides table draft) never) refl

pub took_payload : (table : PassTable) (bytes : List ℕ) (draft : PassDraft) → pass_in bytes ≡ Some draft → with_draft table draft ≡ after_pass_payload table bytes
unfolding after_pass_payload
took_payload table bytes draft e = ap (λ (r : Option PassDraft). option_map_or (with_draft table) r table) (sym e)

pub took_nothing : (table : PassTable) (bytes : List ℕ) → pass_in bytes ≡ None → table ≡ after_pass_payload table bytes
unfolding after_pass_payload
took_nothing table bytes e = ap (λ (r : Option PassDraft). option_map_or (with_draft table) r table) (sym e)

-- one payload more
pub table_more : (payloads : List (List ℕ)) (payload : List ℕ) → pass_table_of (payloads ++ payload ∷ []) ≡ after_pass_payload (pass_table_of payloads) payload
unfolding pass_table_of
table_more payloads payload = fold_push after_pass_payload bare_table payloads payload

pub table_none : pass_table_of [] ≡ bare_table
unfolding pass_table_of
table_none = refl
