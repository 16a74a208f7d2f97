-- The script lines of comments, one after the other.
use Rattle.std.proofs.Common.{◌≡◌, ℕ, ◌+◌, ◌<◌, ◌≤◌, Option, Some, None, List, length, drop, sym, ap, ap₂, ◌∙◌}
use Rattle.std.specs.Prelude.{slice_get}
use Rattle.std.specs.List.{cons_option, filter_map}
use Rattle.std.specs.Option.{option_or}
use Rattle.std.proofs.lemmas.List.{drop_all, drop_more}
use Rattle.base.specs.declared.lexical.Span.{Span}
use Rattle.vhdl_spec.proofs.Comments.{comment_at}
use Rattle.child_tools.specs.Scripts.{first_refusal, refusal_at}

-- ## The first refusal

abbrev pub refusals : List ℕ → List Span → List (List ℕ)
refusals text comments = filter_map (refusal_at text) comments

module _ (text : List ℕ) (comments : List Span) (i : ℕ) (within : i < length comments) (so_far : refusals text (drop i comments) ≡ refusals text comments) where
  next : (said : Option (List ℕ)) → refusal_at text (comment_at comments i) ≡ said → refusals text comments ≡ cons_option said (refusals text (drop (i + 1) comments))
  next said told =
      sym so_far ∙ (ap (refusals text) (drop_more comments i (record { start = 0; end = 0 }) within)
      ∙ ap (λ (y : Option (List ℕ)). cons_option y (refusals text (drop (i + 1) comments))) told)

  -- a comment without a refusal leaves the list of refusals unchanged
  pub refused_later : refusal_at text (comment_at comments i) ≡ None → refusals text (drop (i + 1) comments) ≡ refusals text comments
  refused_later none = sym (next None none)

  -- a comment with a refusal has the first one
  pub refused_here : (line : List ℕ) → refusal_at text (comment_at comments i) ≡ Some line → first_refusal text comments ≡ Some line
  refused_here line some = ap (λ (lines : List (List ℕ)). slice_get lines 0) (next (Some line) some)

-- past the last comment, no refusal is found
pub refused_never : (text : List ℕ) (comments : List Span) (i : ℕ) → length comments ≤ i → refusals text (drop i comments) ≡ refusals text comments → first_refusal text comments ≡ None
refused_never text comments i long so_far = ap (λ (lines : List (List ℕ)). slice_get lines 0) (sym so_far ∙ ap (refusals text) (drop_all i comments long))

-- ## The first of five that is there

pub same_first : {Y : Type 0} (p q r s t v w x y z : Option Y) → v ≡ p → w ≡ q → x ≡ r → y ≡ s → z ≡ t → option_or (option_or (option_or (option_or v w) x) y) z ≡ option_or (option_or (option_or (option_or p q) r) s) t
same_first p q r s t v w x y z is_p is_q is_r is_s is_t = ap₂ option_or (ap₂ option_or (ap₂ option_or (ap₂ option_or is_p is_q) is_r) is_s) is_t
