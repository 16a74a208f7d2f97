-- An element more, with its unit, if it is one.
use Rattle.std.proofs.Common.{◌≡◌, ℕ, ◌+◌, ◌*◌, ◌<◌, ◌≤◌, List, [], ◌∷◌, ◌++◌, length, Bool, Ok, Err, refl, sym, ◌∙◌, ap, subst, arith, append_assoc}
use Rattle.std.proofs.lemmas.List.{append-nil, length-map}
use Rattle.base.specs.declared.lexical.Token.{Token}
use Rattle.base.specs.declared.design.Role.{Role}
use Rattle.base.specs.declared.design.UnitKind.{UnitKind}
use Rattle.base.specs.declared.design.Unit.{Unit as DesignUnit}
use Rattle.base.specs.declared.design.UnitFault.{UnitFault}
use Rattle.base.specs.declared.design.UnitFault.TheVariants.{NotUnit, NotEnded}
use Rattle.base.specs.declared.memory.OrMemory.{OrMemory}
use Rattle.base.specs.declared.memory.OrMemory.TheVariants.{NoMemory, Fault}
use Rattle.vhdl_spec.specs.Units.{role_of, roles_of, begins_generate, Element, item, plain, owned, last_of, lead_after, IsElement, unit_of, units_from, units_of, Follow, Outlines}
use Rattle.vhdl_spec.proofs.Files.{plain_after, end_part_after, element_after}
use Rattle.vhdl_units.specs.declared.file.Next.{Next}
use Rattle.vhdl_units.specs.Standing.{Adds, IsAdded}

pub roles_len : (text : List ℕ) (tokens : List Token) → length (roles_of text tokens) ≡ length tokens
roles_len text tokens = length-map tokens (role_of text)

module _ (text : List ℕ) (tokens : List Token) (at : ℕ) where
  pub plain_offsets : (kind : UnitKind) (last : ℕ) → IsElement (roles_of text tokens) at (plain kind last) → (at + 2 < last) × (last < length tokens)
  plain_offsets kind last is = let ends = plain_after kind (roles_of text tokens) at last is.1 in (ends.after, omega (arith, ends.within, roles_len text tokens))

  pub owned_offsets : (kind : UnitKind) (before last : ℕ) → IsElement (roles_of text tokens) at (owned kind before last) → (at + 3 + 2 * before < last) × (last < length tokens)
  owned_offsets kind before last is = let ends = end_part_after (roles_of text tokens) (at + 5 + 2 * before) last is.2 in (omega (arith, ends.after), omega (arith, ends.within, roles_len text tokens))

module _ (text : List ℕ) (tokens : List Token) (lead at : ℕ) (old new : List DesignUnit) where
  pub item_added : (last : ℕ) → IsElement (roles_of text tokens) at (item last) → old ≡ new → Adds text tokens lead at old new (record { last = last; lead = lead })
  item_added last is same = record { element = item last; stands = is; last = refl; lead_next = refl; units = sym same ∙ sym (append-nil old) }

  pub plain_added : (kind : UnitKind) (last : ℕ) (unit : DesignUnit) → IsElement (roles_of text tokens) at (plain kind last) → unit_of text tokens lead at (plain kind last) ≡ unit ∷ [] → new ≡ old ++ unit ∷ [] → Adds text tokens lead at old new (record { last = last; lead = last + 1 })
  plain_added kind last unit is unit_is pushed = record { element = plain kind last; stands = is; last = refl; lead_next = refl; units = pushed ∙ ap (λ (one : List DesignUnit). old ++ one) (sym unit_is) }

  pub owned_added : (kind : UnitKind) (before last : ℕ) (unit : DesignUnit) → IsElement (roles_of text tokens) at (owned kind before last) → unit_of text tokens lead at (owned kind before last) ≡ unit ∷ [] → new ≡ old ++ unit ∷ [] → Adds text tokens lead at old new (record { last = last; lead = last + 1 })
  owned_added kind before last unit is unit_is pushed = record { element = owned kind before last; stands = is; last = refl; lead_next = refl; units = pushed ∙ ap (λ (one : List DesignUnit). old ++ one) (sym unit_is) }

-- ## The walk through a file

-- where the context items begin before what comes next
abbrev pub lead_of : ℕ → List Element → ℕ
lead_of lead [] = lead
lead_of lead (element ∷ elements) = lead_of (lead_after lead element) elements

follow_more : (roles : List Role) (at : ℕ) (elements : List Element) (end : ℕ) (element : Element) → Follow roles at elements end → IsElement roles end element → Follow roles at (elements ++ element ∷ []) (last_of element + 1)
follow_more roles at [] end element follow stands = (subst (λ (n : ℕ). IsElement roles n element) (sym follow) stands, refl)
follow_more roles at (first ∷ elements) end element follow stands = (follow.0, follow_more roles (last_of first + 1) elements end element follow.1 stands)

lead_more : (lead : ℕ) (elements : List Element) (element : Element) → lead_of lead (elements ++ element ∷ []) ≡ lead_after (lead_of lead elements) element
lead_more lead [] element = refl
lead_more lead (first ∷ elements) element = lead_more (lead_after lead first) elements element

units_more : (roles : List Role) (text : List ℕ) (tokens : List Token) (lead at : ℕ) (elements : List Element) (end : ℕ) (element : Element) → Follow roles at elements end → units_from text tokens lead at (elements ++ element ∷ []) ≡ units_from text tokens lead at elements ++ unit_of text tokens (lead_of lead elements) end element
units_more roles text tokens lead at [] end element follow = append-nil (unit_of text tokens lead at element) ∙ ap (λ (n : ℕ). unit_of text tokens lead n element) follow
units_more roles text tokens lead at (first ∷ elements) end element follow =
    ap (λ (rest : List DesignUnit). unit_of text tokens lead at first ++ rest) (units_more roles text tokens (lead_after lead first) (last_of first + 1) elements end element follow.1) ∙ sym (append_assoc (unit_of text tokens lead at first) (units_from text tokens (lead_after lead first) (last_of first + 1) elements) (unit_of text tokens (lead_of (lead_after lead first) elements) end element))

-- what the walk keeps at a token
pub record Outlined (text : List ℕ) (tokens : List Token) (units : List DesignUnit) (begins : Bool) (lead at : ℕ) : Type 0 where
  pub elements : List Element
  pub follow : Follow (roles_of text tokens) 0 elements at
  pub units_are : units ≡ units_of text tokens elements
  pub lead_is : lead ≡ lead_of 0 elements
  pub begins_is : begins ≡ begins_generate (roles_of text tokens) at
  pub within : at ≤ length tokens
  pub led : lead ≤ at

lead_small : (lead at : ℕ) (element : Element) → lead ≤ at → at < last_of element → lead_after lead element ≤ last_of element + 1
lead_small lead at (item last) led after = omega arith
lead_small lead at (plain kind last) led after = omega arith
lead_small lead at (owned kind before last) led after = omega arith

module _ (text : List ℕ) (tokens : List Token) (units : List DesignUnit) (begins : Bool) (lead at : ℕ) (outlined : Outlined text tokens units begins lead at) where
  -- the next token to be looked at lies within the file, and further on
  pub next_offset : (new : List DesignUnit) (next : Next) → Adds text tokens lead at units new next → (at < next.last) × (next.last < length tokens)
  next_offset new next adds =
      let ends = element_after (roles_of text tokens) at adds.element adds.stands in
      (omega (arith, ends.after, adds.last), omega (arith, ends.within, adds.last, roles_len text tokens))

  pub outlined_more : (new : List DesignUnit) (next : Next) (later : Bool) → Adds text tokens lead at units new next → later ≡ begins_generate (roles_of text tokens) (next.last + 1) → Outlined text tokens new later next.lead (next.last + 1)
  outlined_more new next later adds later_is =
      let roles = roles_of text tokens in
      let ends = element_after roles at adds.element adds.stands in
      let small = lead_small lead at adds.element outlined.led ends.after in
      let offset = next_offset new next adds in
      record {
        elements = outlined.elements ++ adds.element ∷ [];
        follow = subst (λ (n : ℕ). Follow roles 0 (outlined.elements ++ adds.element ∷ []) (n + 1)) (sym adds.last) (follow_more roles 0 outlined.elements at adds.element outlined.follow adds.stands);
        units_are = adds.units ∙ (λ i. outlined.units_are i ++ unit_of text tokens (outlined.lead_is i) at adds.element) ∙ sym (units_more roles text tokens 0 0 outlined.elements at adds.element outlined.follow);
        lead_is = adds.lead_next ∙ ap (λ (n : ℕ). lead_after n adds.element) outlined.lead_is ∙ sym (lead_more 0 outlined.elements adds.element);
        begins_is = later_is;
        within = omega (arith, offset.1);
        led = omega (arith, small, adds.lead_next, adds.last);
      }

  pub outlined_all : length tokens ≤ at → Outlines text tokens (Ok units)
  outlined_all whole =
      let end : at ≡ length (roles_of text tokens) = omega (arith, outlined.within, roles_len text tokens) in
      (outlined.elements, subst (Follow (roles_of text tokens) 0 outlined.elements) end outlined.follow, outlined.units_are)

  pub outlined_fault : (new : List DesignUnit) (fault : OrMemory UnitFault) → at < length tokens → IsAdded text tokens lead at units new (Err fault) → Outlines text tokens (Err fault)
  outlined_fault new NoMemory within added = tt
  outlined_fault new (Fault (NotUnit offset)) within added = (at, record { elements = outlined.elements; follow = outlined.follow; within = omega (arith, roles_len text tokens); no_start = added.0 }, added.1)
  outlined_fault new (Fault (NotEnded offset)) within added = (at, record { elements = outlined.elements; follow = outlined.follow; within = omega (arith, roles_len text tokens); start = added.0; no_end = added.1 }, added.2)
