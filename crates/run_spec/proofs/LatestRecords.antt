-- The latest record of a name in records that were put together.
use Rattle.std.proofs.Common.{◌≡◌, ℕ, true, false, cond, List, [], ◌∷◌, ◌++◌, take, drop, Option, Some, None, refl, sym, ap, ◌∙◌}
use Rattle.std.specs.List.{list_any}
use Rattle.std.specs.Option.{option_or}
use Rattle.std.proofs.lemmas.Bool.{cond-true, cond-false, or_parts}
use Rattle.std.proofs.lemmas.List.{take-append-drop}
use Rattle.std.proofs.lemmas.List.Folds.{list_any-append}
use Rattle.base.specs.declared.file.FileName.{FileName}
use Rattle.outside.specs.Records.{Record, is_of, latest}

module _ (name : FileName) where
  -- none of the records is of the name
  pub latest_none : (records : List Record) → list_any (is_of name) records ≡ false → latest name records ≡ None
  unfolding latest
  latest_none [] none = refl
  latest_none (first ∷ rest) none =
      let parts = or_parts (is_of name first) (list_any (is_of name) rest) none in
      ap (λ (r : Option Record). option_or r (cond (is_of name first) (Some first) None)) (latest_none rest parts.1) ∙ cond-false (is_of name first) (Some first) None parts.0

  -- records of other names that follow don't change the latest record
  pub latest_before_none : (before after : List Record) → list_any (is_of name) after ≡ false → latest name (before ++ after) ≡ latest name before
  unfolding latest
  latest_before_none [] after none = latest_none after none
  latest_before_none (first ∷ before) after none = ap (λ (r : Option Record). option_or r (cond (is_of name first) (Some first) None)) (latest_before_none before after none)

  -- a record of the name, and none after it
  pub latest_last : (before : List Record) (last : Record) (after : List Record) → is_of name last ≡ true → list_any (is_of name) after ≡ false → latest name (before ++ last ∷ after) ≡ Some last
  unfolding latest
  latest_last [] last after of none =
      ap (λ (r : Option Record). option_or r (cond (is_of name last) (Some last) None)) (latest_none after none) ∙ cond-true (is_of name last) (Some last) None of
  latest_last (first ∷ before) last after of none = ap (λ (r : Option Record). option_or r (cond (is_of name first) (Some first) None)) (latest_last before last after of none)

  -- what a list has not, no prefix of it has
  pub none_of_prefix : (prefix left : List Record) → list_any (is_of name) (prefix ++ left) ≡ false → list_any (is_of name) prefix ≡ false
  none_of_prefix prefix left none = (or_parts (list_any (is_of name) prefix) (list_any (is_of name) left) (sym (list_any-append (is_of name) prefix left) ∙ none)).0

  pub none_of_take : (count : ℕ) (records : List Record) → list_any (is_of name) records ≡ false → list_any (is_of name) (take count records) ≡ false
  none_of_take count records none = none_of_prefix (take count records) (drop count records) (ap (list_any (is_of name)) (take-append-drop count records) ∙ none)
