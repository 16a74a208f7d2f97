use Rattle.std.proofs.Common.{ℕ, List, [], ◌∷◌, ◌++◌, true≢false, sym, subst, ◌∙◌, arith, inl, inr}
use Rattle.std.specs.Prelude.{Contains}
use Rattle.std.proofs.lemmas.List.Elements.{Contains-append_left, Contains-push, Contains-push_cases}
use Rattle.std.proofs.lemmas.Option.{get_or_from_slice_get, slice_get_within}
use Rattle.std.proofs.lemmas.Slice.Eq.{bytes_eq-Decides}
use Rattle.store_table.specs.Located.{located_texts}
use Rattle.base_collections.specs.Numbers.{IsIndexOf}
use Rattle.store_table.proofs.checking.number_of_second.Goals as goal

pub returns-then-eq : goal.returns-then-eq
returns-then-eq c =
    let texts : List (List ℕ) = located_texts c.args.held.now.segments c.args.texts.now in
    λ never. never (subst (Contains (texts ++ c.args.new.now ∷ [])) ((bytes_eq-Decides c.args.new.now c.args.text.now).0 (sym c.if-eq.ensures)) (Contains-push texts c.args.new.now))

pub returns-in-Some : goal.returns-in-Some
returns-in-Some c =
    let texts : List (List ℕ) = located_texts c.args.held.now.segments c.args.texts.now in
    let found = subst (IsIndexOf texts c.args.text.now) c.in-Some.is c.find_text.ensures in
    λ never. never (Contains-append_left texts (c.args.new.now ∷ []) c.args.text.now (c.in-Some._number, slice_get_within texts c.in-Some._number c.args.text.now found, get_or_from_slice_get texts c.in-Some._number c.args.text.now c.args.text.now found))

pub returns-in-None : goal.returns-in-None
returns-in-None c =
    let texts : List (List ℕ) = located_texts c.args.held.now.segments c.args.texts.now in
    let none = subst (IsIndexOf texts c.args.text.now) c.in-None.is c.find_text.ensures in (
      λ has. elim (Contains-push_cases texts c.args.new.now c.args.text.now has) [
        | inl old ↦ none old
        | inr same ↦ true≢false (sym ((bytes_eq-Decides c.args.new.now c.args.text.now).1 same) ∙ sym c.eq.ensures ∙ c.if-eq.false)
      ],
      omega (arith, c.len.ensures),
    )
