-- Rows of drafts.
use Rattle.std.proofs.Common.{◌≡◌, ℕ, ◌<◌, Bool, true, false, true≢false, List, length, None, Some, Option, is_some, refl, sym, ◌∙◌}
use Rattle.std.specs.Prelude.{All, Contains}
use Rattle.std.proofs.lemmas.Option.{get_or_from_slice_get, slice_get_within}
use Rattle.store_form_2.specs.Forms.{Draft}
use Rattle.store_form_2.specs.NodeContents.{Contents, draft_node, is_draft}
use Rattle.base_bytes.specs.TextRefs.{is_text_ref}
use Rattle.store_form_2.proofs.TakingSteps.{IsNew, is_new}
use Rattle.base_collections.specs.Numbers.{IsIndexOf}
use Rattle.store_form_2.proofs.SameNodes.{any_decides, nodes_decide}

-- a draft that breaks a condition of `IsNew` fails its test
pub no_draft : (contents : Contents) (draft : Draft) → ¬ (IsNew contents draft) → is_draft contents draft ≡ false
no_draft contents draft never = by (is_draft contents draft) refl
  where
    by : (b : Bool) → is_draft contents draft ≡ b → b ≡ false
    by true e = absurd (never (is_new contents draft e))
    by false e = refl

pub no_source : (contents : Contents) (draft : Draft) → is_text_ref contents.texts draft.source ≡ false → is_draft contents draft ≡ false
no_source contents draft e = no_draft contents draft (λ new. true≢false (sym new.source ∙ e))

pub no_deps : (contents : Contents) (draft : Draft) → ¬ (All (λ dep. dep < length contents.nodes) draft.deps) → is_draft contents draft ≡ false
no_deps contents draft never = no_draft contents draft (λ new. never new.deps)

pub no_new : (contents : Contents) (draft : Draft) → Contains contents.nodes (draft_node contents.texts draft) → is_draft contents draft ≡ false
no_new contents draft has = no_draft contents draft (λ new. true≢false (sym ((any_decides nodes_decide contents.nodes (draft_node contents.texts draft)).1 has) ∙ new.node))

-- an item with an index is in the list, and an item without one isn't
pub located : {X : Type 0} (xs : List X) (x : X) (location : Option ℕ) → IsIndexOf xs x location → is_some location ≡ true → Contains xs x
located xs x None is e = absurd cc
located xs x (Some n) is e = (n, slice_get_within xs n x is, get_or_from_slice_get xs n x x is)

pub unplaced : {X : Type 0} (xs : List X) (x : X) (location : Option ℕ) → IsIndexOf xs x location → is_some location ≡ false → ¬ Contains xs x
unplaced xs x None is e = is
unplaced xs x (Some n) is e = absurd cc
