-- What is read of each item of a list, item after item.
use Rattle.std.proofs.Common.{◌≡◌, ℕ, ◌+◌, ◌<◌, ◌≤◌, List, [], ◌∷◌, ◌++◌, length, drop, get_or, map, Option, Some, None, refl, sym, ap, ◌∙◌}
use Rattle.std.specs.Prelude.{option_map, option_and_then}
use Rattle.std.proofs.lemmas.List.{drop_more, drop_all, append-nil, append_assoc}
use Rattle.toml.specs.Data.{Data}
use Rattle.toml.specs.View.{items_of}
use Rattle.project_file.specs.Toml.{list_of, all_read}

-- a list as items, as a list again
pub list_again : (values : List Data) → list_of (items_of values) ≡ values
list_again [] = refl
list_again (value ∷ values) = ap (λ vs. value ∷ vs) (list_again values)

joined : {T : Type 0} (done : List T) (x : T) (found : Option (List T)) → option_map (λ more. (done ++ x ∷ []) ++ more) found ≡ option_map (λ more. done ++ more) (option_map (λ others. x ∷ others) found)
joined done x None = refl
joined done x (Some more) = ap Some (append_assoc done (x ∷ []) more)

module _ {V S T : Type 0} (see : V → S) (read : S → Option T) (values : List V) (i : ℕ) (value : V) (lt : i < length values) (is : value ≡ get_or values i value) (done : List T) (whole : Option (List T)) (kept : option_map (λ more. done ++ more) (all_read read (map see (drop i values))) ≡ whole) where
  here : all_read read (map see (drop i values)) ≡ option_and_then (λ first. option_map (λ others. first ∷ others) (all_read read (map see (drop (i + 1) values)))) (read (see value))
  here = ap (λ vs. all_read read (map see vs)) (drop_more values i value lt ∙ ap (λ v. v ∷ drop (i + 1) values) (sym is))

  -- one item more is read
  pub reads_on : (x : T) (new : List T) → read (see value) ≡ Some x → new ≡ done ++ x ∷ [] → option_map (λ more. new ++ more) (all_read read (map see (drop (i + 1) values))) ≡ whole
  reads_on x new found grown =
      let others = all_read read (map see (drop (i + 1) values)) in
      ap (λ d. option_map (λ more. d ++ more) others) grown ∙ joined done x others
      ∙ ap (option_map (λ more. done ++ more)) (sym (here ∙ ap (option_and_then (λ first. option_map (λ others. first ∷ others) (all_read read (map see (drop (i + 1) values))))) found)) ∙ kept

  -- nothing is read of an item
  pub reads_none : read (see value) ≡ None → whole ≡ None
  reads_none none =
      sym kept ∙ ap (option_map (λ more. done ++ more)) (here ∙ ap (option_and_then (λ first. option_map (λ others. first ∷ others) (all_read read (map see (drop (i + 1) values))))) none)

-- all items are read
pub reads_all : {V S T : Type 0} (see : V → S) (read : S → Option T) (values : List V) (i : ℕ) (done : List T) (whole : Option (List T)) → length values ≤ i
    → option_map (λ more. done ++ more) (all_read read (map see (drop i values))) ≡ whole → whole ≡ Some done
reads_all see read values i done whole past kept =
    sym kept ∙ ap (λ vs. option_map (λ more. done ++ more) (all_read read (map see vs))) (drop_all i values past) ∙ ap Some (append-nil done)
