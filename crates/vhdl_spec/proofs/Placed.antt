-- Each unit of an outline is where it says, and the units follow one another.
use Rattle.std.proofs.Common.{◌≡◌, ℕ, ◌+◌, ◌*◌, ◌≤◌, List, [], ◌∷◌, ◌++◌, length, map, refl, sym, subst, arith}
use Rattle.std.specs.List.{All}
use Rattle.std.proofs.lemmas.List.{length-map}
use Rattle.std.proofs.lemmas.List.Elements.{All-cons, All-nil}
use Rattle.base.specs.declared.lexical.Token.{Token}
use Rattle.base.specs.declared.child.MaybeText.TheVariants.{Nothing, Given}
use Rattle.base.specs.declared.design.UnitKind.{UnitKind}
use Rattle.base.specs.declared.design.UnitKind.TheVariants as kinds
use Rattle.base.specs.declared.design.Role.{Role}
use Rattle.base.specs.declared.design.Role.TheVariants.{Library, Use, Context, Entity, Architecture, Configuration, Package, Body, Is, Of, New, Semicolon, Name}
use Rattle.base.specs.declared.design.Beginning.{Beginning}
use Rattle.base.specs.declared.design.Beginning.TheVariants as begins
use Rattle.vhdl_spec.specs.Units.{role_at, role_of, roles_of, name_of, name_token, beginning_of, beginning_at, EndsPlain, Element, item, plain, owned, IsElement, Follow, IsOutline, units_from, units_of}
use Rattle.vhdl_spec.specs.UnitIndices.{keyword_of, AreContextItems, IsOwnedBy, IsPlaced, FollowOn}
use Rattle.vhdl_spec.proofs.Files.{EndsAfter, plain_after, end_part_after, element_after}

-- ## What the first four roles of a unit are

abbrev PlainFacts : UnitKind → Role → Role → Role → Type 0
PlainFacts kinds.PackageBody a b c = (a ≡ Package) × (c ≡ Name)
PlainFacts kinds.Architecture a b c = ⊥
PlainFacts kinds.Configuration a b c = ⊥
PlainFacts kind a b c = (a ≡ keyword_of kind) × (b ≡ Name)

abbrev OwnedFacts : UnitKind → Role → Role → Type 0
OwnedFacts kinds.Architecture a b = (a ≡ Architecture) × (b ≡ Name)
OwnedFacts kinds.Configuration a b = (a ≡ Configuration) × (b ≡ Name)
OwnedFacts kind a b = ⊥

abbrev Facts : Beginning → Role → Role → Role → Type 0
Facts begins.Item a b c = Unit {0}
Facts begins.Nothing a b c = Unit {0}
Facts (begins.Plain kind) a b c = PlainFacts kind a b c
Facts (begins.Owned kind) a b c = OwnedFacts kind a b

facts : (a b c d : Role) → Facts (beginning_of a b c d) a b c
facts Library b c d = tt
facts Use b c d = tt
facts Context Name Is d = (refl, refl)
facts Context b c d = tt
facts Entity Name Is d = (refl, refl)
facts Architecture Name Of d = (refl, refl)
facts Configuration Name Of d = (refl, refl)
facts Package Body Name Is = (refl, refl)
facts Package Name Is New = (refl, refl)
facts Package Name Is d = (refl, refl)
facts a b c d = tt

facts_at : (roles : List Role) (at : ℕ) (what : Beginning) → beginning_at roles at ≡ what → Facts what (role_at roles at) (role_at roles (at + 1)) (role_at roles (at + 2))
facts_at roles at what is =
    subst (λ (what : Beginning). Facts what (role_at roles at) (role_at roles (at + 1)) (role_at roles (at + 2))) is
    (facts (role_at roles at) (role_at roles (at + 1)) (role_at roles (at + 2)) (role_at roles (at + 3)))

-- ## One unit

plain_semicolon : (kind : UnitKind) (roles : List Role) (at last : ℕ) → EndsPlain kind roles at last → role_at roles last ≡ Semicolon
plain_semicolon kinds.PackageInstance roles at last ends = ends.there
plain_semicolon kinds.PackageBody roles at last ends = ends.semicolon.there
plain_semicolon _ roles at last ends = ends.semicolon.there

module _ (text : List ℕ) (tokens : List Token) (lead at : ℕ) (led : lead ≤ at) (context : AreContextItems (roles_of text tokens) lead at) where
  few : length (roles_of text tokens) ≡ length tokens
  few = length-map tokens (role_of text)

  placed_plain : (kind : UnitKind) (last : ℕ) → IsElement (roles_of text tokens) at (plain kind last) → IsPlaced text tokens (record { kind = kind; name = name_of text tokens (name_token kind at); owner = Nothing; lead = lead; first = at; last = last })
  placed_plain kind last stands =
      let ends = plain_after kind (roles_of text tokens) at last stands.1 in
      plain_facts kind (name_of text tokens (name_token kind at)) (facts_at (roles_of text tokens) at (begins.Plain kind) stands.0) ends (plain_semicolon kind (roles_of text tokens) at last stands.1) refl where
        plain_facts : (kind : UnitKind) (name : List ℕ) → PlainFacts kind (role_at (roles_of text tokens) at) (role_at (roles_of text tokens) (at + 1)) (role_at (roles_of text tokens) (at + 2)) → EndsAfter (roles_of text tokens) (at + 2) last → role_at (roles_of text tokens) last ≡ Semicolon → name ≡ name_of text tokens (name_token kind at) → IsPlaced text tokens (record { kind = kind; name = name; owner = Nothing; lead = lead; first = at; last = last })
        plain_facts kinds.Architecture name is ends semicolon named = absurd is
        plain_facts kinds.Configuration name is ends semicolon named = absurd is
        plain_facts kinds.PackageBody name is ends semicolon named = record { led = led; ordered = omega (arith, ends.after); within = omega (arith, ends.within, few); context = context; keyword = is.0; semicolon = semicolon; name_within = ends.after; name_role = is.1; named = named; owned = refl }
        plain_facts kinds.Entity name is ends semicolon named = record { led = led; ordered = omega (arith, ends.after); within = omega (arith, ends.within, few); context = context; keyword = is.0; semicolon = semicolon; name_within = omega (arith, ends.after); name_role = is.1; named = named; owned = refl }
        plain_facts kinds.Package name is ends semicolon named = record { led = led; ordered = omega (arith, ends.after); within = omega (arith, ends.within, few); context = context; keyword = is.0; semicolon = semicolon; name_within = omega (arith, ends.after); name_role = is.1; named = named; owned = refl }
        plain_facts kinds.PackageInstance name is ends semicolon named = record { led = led; ordered = omega (arith, ends.after); within = omega (arith, ends.within, few); context = context; keyword = is.0; semicolon = semicolon; name_within = omega (arith, ends.after); name_role = is.1; named = named; owned = refl }
        plain_facts kinds.Context name is ends semicolon named = record { led = led; ordered = omega (arith, ends.after); within = omega (arith, ends.within, few); context = context; keyword = is.0; semicolon = semicolon; name_within = omega (arith, ends.after); name_role = is.1; named = named; owned = refl }

  placed_owned : (kind : UnitKind) (before last : ℕ) → IsElement (roles_of text tokens) at (owned kind before last) → IsPlaced text tokens (record { kind = kind; name = name_of text tokens (name_token kind at); owner = Given (name_of text tokens (at + 3 + 2 * before)); lead = lead; first = at; last = last })
  placed_owned kind before last stands =
      let ends = end_part_after (roles_of text tokens) (at + 5 + 2 * before) last stands.2 in
      owned_facts kind (name_of text tokens (name_token kind at)) (facts_at (roles_of text tokens) at (begins.Owned kind) stands.0) ends stands.2.semicolon.there refl where
        owner : EndsAfter (roles_of text tokens) (at + 5 + 2 * before) last → IsOwnedBy text tokens (at + 3) last (Given (name_of text tokens (at + 3 + 2 * before)))
        owner ends = record { before = before; names = stands.1; within = omega (arith, ends.after); given = refl }

        owned_facts : (kind : UnitKind) (name : List ℕ) → OwnedFacts kind (role_at (roles_of text tokens) at) (role_at (roles_of text tokens) (at + 1)) → EndsAfter (roles_of text tokens) (at + 5 + 2 * before) last → role_at (roles_of text tokens) last ≡ Semicolon → name ≡ name_of text tokens (name_token kind at) → IsPlaced text tokens (record { kind = kind; name = name; owner = Given (name_of text tokens (at + 3 + 2 * before)); lead = lead; first = at; last = last })
        owned_facts kinds.Architecture name is ends semicolon named = record { led = led; ordered = omega (arith, ends.after); within = omega (arith, ends.within, few); context = context; keyword = is.0; semicolon = semicolon; name_within = omega (arith, ends.after); name_role = is.1; named = named; owned = owner ends }
        owned_facts kinds.Configuration name is ends semicolon named = record { led = led; ordered = omega (arith, ends.after); within = omega (arith, ends.within, few); context = context; keyword = is.0; semicolon = semicolon; name_within = omega (arith, ends.after); name_role = is.1; named = named; owned = owner ends }
        owned_facts kinds.Entity name is ends semicolon named = absurd is
        owned_facts kinds.Package name is ends semicolon named = absurd is
        owned_facts kinds.PackageBody name is ends semicolon named = absurd is
        owned_facts kinds.PackageInstance name is ends semicolon named = absurd is
        owned_facts kinds.Context name is ends semicolon named = absurd is

-- ## All units

one_item_more : (roles : List Role) (lead : ℕ) (lasts : List ℕ) (at last : ℕ) → Follow roles lead (map item lasts) at → IsElement roles at (item last) → Follow roles lead (map item (lasts ++ last ∷ [])) (last + 1)
one_item_more roles lead [] at last follow stands = (subst (λ (n : ℕ). IsElement roles n (item last)) (sym follow) stands, refl)
one_item_more roles lead (first ∷ lasts) at last follow stands = (follow.0, one_item_more roles (first + 1) lasts at last follow.1 stands)

no_items : (roles : List Role) (at : ℕ) → AreContextItems roles at at
no_items roles at = record { lasts = []; follow = refl }

module _ (text : List ℕ) (tokens : List Token) where
  placed_from : (lead at : ℕ) (elements : List Element) (end : ℕ) → lead ≤ at → AreContextItems (roles_of text tokens) lead at → Follow (roles_of text tokens) at elements end → All (IsPlaced text tokens) (units_from text tokens lead at elements)
  placed_from lead at [] end led context follow = All-nil (IsPlaced text tokens)
  placed_from lead at (item last ∷ elements) end led context follow =
      let ends = element_after (roles_of text tokens) at (item last) follow.0 in
      placed_from lead (last + 1) elements end (omega (arith, ends.after)) (record { lasts = context.lasts ++ last ∷ []; follow = one_item_more (roles_of text tokens) lead context.lasts at last context.follow follow.0 }) follow.1
  placed_from lead at (plain kind last ∷ elements) end led context follow =
      All-cons (IsPlaced text tokens) _ (units_from text tokens (last + 1) (last + 1) elements) (placed_plain text tokens lead at led context kind last follow.0) (placed_from (last + 1) (last + 1) elements end (omega arith) (no_items (roles_of text tokens) (last + 1)) follow.1)
  placed_from lead at (owned kind before last ∷ elements) end led context follow =
      All-cons (IsPlaced text tokens) _ (units_from text tokens (last + 1) (last + 1) elements) (placed_owned text tokens lead at led context kind before last follow.0) (placed_from (last + 1) (last + 1) elements end (omega arith) (no_items (roles_of text tokens) (last + 1)) follow.1)

  pub all_placed : (elements : List Element) → IsOutline (roles_of text tokens) elements → All (IsPlaced text tokens) (units_of text tokens elements)
  all_placed elements outline = placed_from 0 0 elements (length (roles_of text tokens)) (omega arith) (no_items (roles_of text tokens) 0) outline

  pub follow_on : (lead at : ℕ) (elements : List Element) → FollowOn lead (units_from text tokens lead at elements)
  follow_on lead at [] = tt
  follow_on lead at (item last ∷ elements) = follow_on lead (last + 1) elements
  follow_on lead at (plain kind last ∷ elements) = (refl, follow_on (last + 1) (last + 1) elements)
  follow_on lead at (owned kind before last ∷ elements) = (refl, follow_on (last + 1) (last + 1) elements)

  pub units_few : (lead at : ℕ) (elements : List Element) (end : ℕ) → Follow (roles_of text tokens) at elements end → at + length (units_from text tokens lead at elements) ≤ end
  units_few lead at [] end follow = omega (arith, follow)
  units_few lead at (item last ∷ elements) end follow =
      let ends = (element_after (roles_of text tokens) at (item last) follow.0).after in
      let rest = units_few lead (last + 1) elements end follow.1 in
      omega arith
  units_few lead at (plain kind last ∷ elements) end follow =
      let ends = (element_after (roles_of text tokens) at (plain kind last) follow.0).after in
      let rest = units_few (last + 1) (last + 1) elements end follow.1 in
      omega arith
  units_few lead at (owned kind before last ∷ elements) end follow =
      let ends = (element_after (roles_of text tokens) at (owned kind before last) follow.0).after in
      let rest = units_few (last + 1) (last + 1) elements end follow.1 in
      omega arith
