-- Each file has an outline or a fault.
use Rattle.std.proofs.Common.{◌≡◌, ◌≢◌, ℕ, zero, suc, ◌+◌, ◌*◌, ◌<◌, ◌≤◌, ◌⊎◌, Bool, true, false, List, [], ◌∷◌, length, refl, sym, ◌∙◌, subst, inl, inr, ⊎_elim, arith}
use Rattle.std.proofs.str.Laws.{order}
use Rattle.base.specs.declared.lexical.Token.{Token}
use Rattle.base.specs.declared.design.UnitKind.{UnitKind}
use Rattle.base.specs.declared.design.UnitKind.TheVariants as kinds
use Rattle.base.specs.declared.design.Role.{Role}
use Rattle.base.specs.declared.design.Role.TheVariants.{Semicolon, Name, Dot, Is}
use Rattle.base.specs.declared.design.Beginning.{Beginning}
use Rattle.base.specs.declared.design.Beginning.TheVariants as begins
use Rattle.base.specs.declared.design.UnitFault.{UnitFault}
use Rattle.base.specs.declared.design.UnitFault.TheVariants.{NotUnit, NotEnded}
use Rattle.vhdl_spec.specs.Units.{role_at, roles_of, token_at, IsPlainEnd, OpensItems, IsGenerateOpener, Closes, IsSingle, Items, nothing, single, items, region, IsFirstSemicolon, IsEndPart, IsOwner, beginning_at, EndsPlain, Element, item, plain, owned, last_of, IsElement, BeginsAs, Begins, Follow, IsOutline, HasUnitFault}
use Rattle.vhdl_spec.proofs.Search.{Decided, both, denied, same_number, at_most, Largest, largest}
use Rattle.vhdl_spec.proofs.Forms.{each_from}
use Rattle.vhdl_spec.proofs.Grammar.{items_ordered, items_of_close, Nested, opener_is_no_generate, one_close, one_owner}
use Rattle.vhdl_spec.proofs.Files.{in_file, element_after, NoElement}
use Rattle.vhdl_spec.proofs.Classes.{same_role, converted, opens_items, generate_opener, plain_end, closes}

-- ## Items

module _ {roles : List Role} {start : ℕ} where
  -- items that aren't none, by what stands first
  nested_items : {generate : Bool} {at end : ℕ} → OpensItems roles start at → end ≢ at → Items roles start generate at end → Nested roles start false generate at end
  nested_items opener some (nothing is) = absurd (some is)
  nested_items opener some (single one rest) = absurd (one.no_items opener)
  nested_items opener some (items {close = close} opens inner ends rest) = record { close = close; inside = inner; closes = ends; rest = rest }
  nested_items {generate} {at} opener some (region opens inner ends rest) = absurd (opener_is_no_generate roles start at opener opens)

  nested_region : {generate : Bool} {at end : ℕ} → IsGenerateOpener roles at → end ≢ at → Items roles start generate at end → Nested roles start true generate at end
  nested_region opener some (nothing is) = absurd (some is)
  nested_region opener some (single one rest) = absurd (one.no_generate opener)
  nested_region {generate} {at} opener some (items opens inner ends rest) = absurd (opener_is_no_generate roles start at opens opener)
  nested_region opener some (region {close = close} opens inner ends rest) = record { close = close; inside = inner; closes = ends; rest = rest }

  rest_of_single : {generate : Bool} {at end : ℕ} → IsSingle roles start generate at → end ≢ at → Items roles start generate at end → Items roles start generate (at + 1) end
  rest_of_single one some (nothing is) = absurd (some is)
  rest_of_single one some (single other rest) = rest
  rest_of_single one some (items opens inner ends rest) = absurd (one.no_items opens)
  rest_of_single one some (region opens inner ends rest) = absurd (one.no_generate opens)

module _ (roles : List Role) (start : ℕ) where
  -- what closes a region that opens at a token
  abbrev ClosedAt : Bool → Bool → ℕ → ℕ → ℕ → Type 0
  ClosedAt inner generate at end close = Items roles start inner (at + 1) close × (Closes roles inner close × Items roles start generate (close + 1) end)

  -- whether items can be decided, up to a length
  abbrev Decides : ℕ → Type 0
  Decides bound = (generate : Bool) (at end : ℕ) → end < at + bound → Decided (Items roles start generate at end)

  closed_at : (bound : ℕ) → Decides bound → (inner generate : Bool) (at end : ℕ) → end < at + suc bound → (close : ℕ) → Decided (ClosedAt inner generate at end close)
  closed_at bound decide inner generate at end small close =
      ⊎_elim
      (λ early. inr (λ p. let ordered = items_ordered p.0 in omega arith))
      (λ after. ⊎_elim
      (λ late. inr (λ p. let ordered = items_ordered p.1.1 in omega arith))
      (λ within. both (decide inner (at + 1) close (omega arith)) (both (closes roles inner close) (decide generate (close + 1) end (omega arith))))
      (order end (close + 1)))
      (order close (at + 1))

  items_step : (bound : ℕ) → Decides bound → (generate : Bool) (at end : ℕ) → end < at + suc bound → end ≢ at → Decided (Closes roles generate at) → Decided (OpensItems roles start at) → Decided (IsGenerateOpener roles at) → Decided (Items roles start generate at end)
  items_step bound decide generate at end small some (inl close) opener region_opener = inr (λ is. some (items_of_close close is))
  items_step bound decide generate at end small some (inr no_close) (inl opens) region_opener =
      ⊎_elim
      (λ (found : Largest (ClosedAt false generate at end) end). inl (items opens found.holds.0 found.holds.1.0 found.holds.1.1))
      (λ none. inr (λ is. let nested = nested_items opens some is in let ordered = items_ordered nested.rest in none nested.close (omega arith) (nested.inside, (nested.closes, nested.rest))))
      (largest (ClosedAt false generate at end) (closed_at bound decide false generate at end small) end)
  items_step bound decide generate at end small some (inr no_close) (inr no_items) (inl opens) =
      ⊎_elim
      (λ (found : Largest (ClosedAt true generate at end) end). inl (region opens found.holds.0 found.holds.1.0 found.holds.1.1))
      (λ none. inr (λ is. let nested = nested_region opens some is in let ordered = items_ordered nested.rest in none nested.close (omega arith) (nested.inside, (nested.closes, nested.rest))))
      (largest (ClosedAt true generate at end) (closed_at bound decide true generate at end small) end)
  items_step bound decide generate at end small some (inr no_close) (inr no_items) (inr no_region) =
      let one : IsSingle roles start generate at = record { no_items = no_items; no_generate = no_region; no_close = no_close } in
      converted (λ (rest : Items roles start generate (at + 1) end). single one rest) (λ is. rest_of_single one some is) (decide generate (at + 1) end (omega arith))

  items_upto : (bound : ℕ) → Decides bound
  items_upto zero generate at end small = inr (λ is. let ordered = items_ordered is in omega arith)
  items_upto (suc bound) generate at end small =
      ⊎_elim
      (λ is. inl (nothing is))
      (λ some. items_step bound (items_upto bound) generate at end small some (closes roles generate at) (opens_items roles start at) (generate_opener roles at))
      (same_number end at)

  decide_items : (generate : Bool) (at end : ℕ) → Decided (Items roles start generate at end)
  decide_items generate at end = items_upto (suc end) generate at end (omega arith)

-- ## Ends

module _ (roles : List Role) where
  first_semicolon : (start at : ℕ) → Decided (IsFirstSemicolon roles start at)
  first_semicolon start at =
      converted (λ (p : (start ≤ at) × ((role_at roles at ≡ Semicolon) × ((before : ℕ) → start ≤ before → before < at → role_at roles before ≢ Semicolon))). record { after = p.0; there = p.1.0; first = p.1.1 }) (λ (s : IsFirstSemicolon roles start at). (s.after, (s.there, s.first)))
      (both (at_most start at) (both (same_role (role_at roles at) Semicolon) (each_from (λ (n : ℕ). role_at roles n ≢ Semicolon) (λ n. denied (same_role (role_at roles n) Semicolon)) start at)))

  -- a token with a property, or none
  record Some (P : ℕ → Type 0) : Type 0 where
    token_index : ℕ
    holds : P token_index

  some_semicolon : (start : ℕ) → Some (IsFirstSemicolon roles start) ⊎ ((at : ℕ) → IsFirstSemicolon roles start at → ⊥)
  some_semicolon start =
      ⊎_elim
      (λ (found : Largest (IsFirstSemicolon roles start) (length roles)). inl (record { token_index = found.is; holds = found.holds }))
      (λ none. inr (λ at is. let within : at < length roles = in_file roles at (λ other. let there : role_at roles at ≡ Semicolon = is.there in cc) in none at (omega arith) is))
      (largest (IsFirstSemicolon roles start) (first_semicolon start) (length roles))

  abbrev CloseAt : ℕ → ℕ → Type 0
  CloseAt start close = Items roles start false start close × IsPlainEnd roles close

  some_close : (start : ℕ) → Some (CloseAt start) ⊎ ((close : ℕ) → CloseAt start close → ⊥)
  some_close start =
      ⊎_elim
      (λ (found : Largest (CloseAt start) (length roles)). inl (record { token_index = found.is; holds = found.holds }))
      (λ none. inr (λ close is. let within : close < length roles = in_file roles close (λ other. let there = is.1.word in cc) in none close (omega arith) is))
      (largest (CloseAt start) (λ close. both (decide_items roles start false start close) (plain_end roles close)) (length roles))

  end_by : (start : ℕ) → Some (CloseAt start) ⊎ ((close : ℕ) → CloseAt start close → ⊥) → Some (IsEndPart roles start) ⊎ ((last : ℕ) → IsEndPart roles start last → ⊥)
  end_by start (inr none) = inr (λ last part. none part.close (part.inside, part.ends))
  end_by start (inl close) =
      ⊎_elim
      (λ (semicolon : Some (IsFirstSemicolon roles (close.token_index + 1))). inl (record { token_index = semicolon.token_index; holds = record { close = close.token_index; inside = close.holds.0; ends = close.holds.1; semicolon = semicolon.holds } }))
      (λ none. inr (λ last part.
      let same : part.close ≡ close.token_index = one_close part.inside part.ends close.holds.0 close.holds.1 in
      none last (subst (λ (n : ℕ). IsFirstSemicolon roles (n + 1) last) same part.semicolon)))
      (some_semicolon (close.token_index + 1))

  some_end : (start : ℕ) → Some (IsEndPart roles start) ⊎ ((last : ℕ) → IsEndPart roles start last → ⊥)
  some_end start = end_by start (some_close start)

  is_owner : (start before : ℕ) → Decided (IsOwner roles start before)
  is_owner start before =
      converted
      (λ (p : ((n : ℕ) → 0 ≤ n → n < suc before → role_at roles (start + 2 * n) ≡ Name) × (((n : ℕ) → 0 ≤ n → n < before → role_at roles (start + 2 * n + 1) ≡ Dot) × (role_at roles (start + 2 * before + 1) ≡ Is))).
      record { names = λ n within. p.0 n (omega arith) (omega arith); dots = λ n within. p.1.0 n (omega arith) within; is_after = p.1.1 })
      (λ (o : IsOwner roles start before). ((λ n _ within. o.names n (omega arith)), ((λ n _ within. o.dots n within), o.is_after)))
      (both (each_from (λ (n : ℕ). role_at roles (start + 2 * n) ≡ Name) (λ n. same_role (role_at roles (start + 2 * n)) Name) 0 (suc before))
      (both (each_from (λ (n : ℕ). role_at roles (start + 2 * n + 1) ≡ Dot) (λ n. same_role (role_at roles (start + 2 * n + 1)) Dot) 0 before)
      (same_role (role_at roles (start + 2 * before + 1)) Is)))

  some_owner : (start : ℕ) → Some (IsOwner roles start) ⊎ ((before : ℕ) → IsOwner roles start before → ⊥)
  some_owner start =
      ⊎_elim
      (λ (found : Largest (IsOwner roles start) (length roles)). inl (record { token_index = found.is; holds = found.holds }))
      (λ none. inr (λ before is. let within : start + 2 * before + 1 < length roles = in_file roles (start + 2 * before + 1) (λ other. let there : role_at roles (start + 2 * before + 1) ≡ Is = is.is_after in cc) in none before (omega arith) is))
      (largest (IsOwner roles start) (is_owner start) (length roles))

  some_plain_end : (kind : UnitKind) (at : ℕ) → Some (EndsPlain kind roles at) ⊎ ((last : ℕ) → EndsPlain kind roles at last → ⊥)
  some_plain_end kinds.PackageInstance at = some_semicolon (at + 3)
  some_plain_end kinds.PackageBody at = some_end (at + 4)
  some_plain_end kinds.Entity at = some_end (at + 3)
  some_plain_end kinds.Architecture at = some_end (at + 3)
  some_plain_end kinds.Configuration at = some_end (at + 3)
  some_plain_end kinds.Package at = some_end (at + 3)
  some_plain_end kinds.Context at = some_end (at + 3)

-- ## Elements

-- an element begins at a token, or it is known why none does
data Stand (roles : List Role) (at : ℕ) : Type 0 where
  stands : (element : Element) → IsElement roles at element → Stand roles at
  no_unit : (Begins roles at → ⊥) → Stand roles at
  unended : Begins roles at → NoElement roles at → Stand roles at

module _ (roles : List Role) (at : ℕ) where
  no_item : beginning_at roles at ≡ begins.Item → ((last : ℕ) → IsFirstSemicolon roles (at + 1) last → ⊥) → NoElement roles at
  no_item is none (item last) there = none last there.1
  no_item is none (plain kind last) there = let other = sym is ∙ there.0 in cc
  no_item is none (owned kind before last) there = let other = sym is ∙ there.0 in cc

  same_plain_kind : (a b : UnitKind) → begins.Plain a ≡ begins.Plain b → a ≡ b
  same_plain_kind a b is = cc

  no_plain : (kind : UnitKind) → beginning_at roles at ≡ begins.Plain kind → ((last : ℕ) → EndsPlain kind roles at last → ⊥) → NoElement roles at
  no_plain kind is none (item last) there = let other = sym is ∙ there.0 in cc
  no_plain kind is none (plain kind' last) there =
      let same : kind' ≡ kind = same_plain_kind kind' kind (sym there.0 ∙ is) in
      none last (subst (λ (k : UnitKind). EndsPlain k roles at last) same there.1)
  no_plain kind is none (owned kind' before last) there = let other = sym is ∙ there.0 in cc

  no_owned : (kind : UnitKind) (before : ℕ) → beginning_at roles at ≡ begins.Owned kind → IsOwner roles (at + 3) before → ((last : ℕ) → IsEndPart roles (at + 5 + 2 * before) last → ⊥) → NoElement roles at
  no_owned kind before is owner none (item last) there = let other = sym is ∙ there.0 in cc
  no_owned kind before is owner none (plain kind' last) there = let other = sym is ∙ there.0 in cc
  no_owned kind before is owner none (owned kind' before' last) there =
      let same : before' ≡ before = one_owner roles (at + 3) before' before there.1 owner in
      none last (subst (λ (n : ℕ). IsEndPart roles (at + 5 + 2 * n) last) same there.2)

  owned_by : (kind : UnitKind) → beginning_at roles at ≡ begins.Owned kind → Some roles (IsOwner roles (at + 3)) ⊎ ((before : ℕ) → IsOwner roles (at + 3) before → ⊥) → Stand roles at
  owned_by kind is (inr none) = no_unit (λ (start : Begins roles at). let owner : (before : ℕ) × IsOwner roles (at + 3) before = subst (BeginsAs roles at) is start in none owner.0 owner.1)
  owned_by kind is (inl owner) =
      ⊎_elim
      (λ (end : Some roles (IsEndPart roles (at + 5 + 2 * owner.token_index))). stands (owned kind owner.token_index end.token_index) (is, owner.holds, end.holds))
      (λ none. unended (subst (BeginsAs roles at) (sym is) (owner.token_index, owner.holds)) (no_owned kind owner.token_index is owner.holds none))
      (some_end roles (at + 5 + 2 * owner.token_index))

  stand_by : (beginning : Beginning) → beginning_at roles at ≡ beginning → Stand roles at
  stand_by begins.Nothing is = no_unit (λ (start : Begins roles at). subst (BeginsAs roles at) is start)
  stand_by begins.Item is =
      ⊎_elim
      (λ (end : Some roles (IsFirstSemicolon roles (at + 1))). stands (item end.token_index) (is, end.holds))
      (λ none. unended (subst (BeginsAs roles at) (sym is) tt) (no_item is none))
      (some_semicolon roles (at + 1))
  stand_by (begins.Plain kind) is =
      ⊎_elim
      (λ (end : Some roles (EndsPlain kind roles at)). stands (plain kind end.token_index) (is, end.holds))
      (λ none. unended (subst (BeginsAs roles at) (sym is) tt) (no_plain kind is none))
      (some_plain_end roles kind at)
  stand_by (begins.Owned kind) is = owned_by kind is (some_owner roles (at + 3))

-- ## The file

-- elements from a token on up to the file's end, or to a token where none stands
record Reaches (roles : List Role) (from : ℕ) : Type 0 where
  elements : List Element
  at : ℕ
  follow : Follow roles from elements at
  stop : (at ≡ length roles) ⊎ ((at < length roles) × ((Begins roles at → ⊥) ⊎ (Begins roles at × NoElement roles at)))

module _ (roles : List Role) where
  reach_step : (bound : ℕ) → ((from : ℕ) → length roles ≤ from + bound → from ≤ length roles → Reaches roles from) → (from : ℕ) → length roles ≤ from + suc bound → from < length roles → Stand roles from → Reaches roles from
  reach_step bound later from bounded within (stands element is) =
      let ends = element_after roles from element is in
      let rest = later (last_of element + 1) (omega (arith, ends.after)) (omega (arith, ends.within)) in
      record { elements = element ∷ rest.elements; at = rest.at; follow = (is, rest.follow); stop = rest.stop }
  reach_step bound later from bounded within (no_unit none) = record { elements = []; at = from; follow = refl; stop = inr (within, inl none) }
  reach_step bound later from bounded within (unended start none) = record { elements = []; at = from; follow = refl; stop = inr (within, inr (start, none)) }

  reach : (bound : ℕ) (from : ℕ) → length roles ≤ from + bound → from ≤ length roles → Reaches roles from
  reach zero from bounded within = record { elements = []; at = from; follow = refl; stop = inl (omega arith) }
  reach (suc bound) from bounded within =
      ⊎_elim
      (λ some. reach_step bound (reach bound) from bounded some (stand_by roles from (beginning_at roles from) refl))
      (λ all. record { elements = []; at = from; follow = refl; stop = inl (omega arith) })
      (order from (length roles))

pub outline_or_fault : (text : List ℕ) (tokens : List Token) → ((elements : List Element) × IsOutline (roles_of text tokens) elements) ⊎ ((fault : UnitFault) × HasUnitFault text tokens fault)
outline_or_fault text tokens =
    let roles = roles_of text tokens in
    let reached : Reaches roles 0 = reach roles (length roles) 0 (omega arith) (omega arith) in
    ⊎_elim
    (λ (whole : reached.at ≡ length roles). inl (reached.elements, subst (Follow roles 0 reached.elements) whole reached.follow))
    (λ (stop : (reached.at < length roles) × ((Begins roles reached.at → ⊥) ⊎ (Begins roles reached.at × NoElement roles reached.at))). inr (
    ⊎_elim
    (λ (none : Begins roles reached.at → ⊥). (NotUnit (token_at tokens reached.at).start, (reached.at, record { elements = reached.elements; follow = reached.follow; within = stop.0; no_start = none }, refl)))
    (λ (start : Begins roles reached.at × NoElement roles reached.at). (NotEnded (token_at tokens reached.at).start, (reached.at, record { elements = reached.elements; follow = reached.follow; within = stop.0; start = start.0; no_end = start.1 }, refl)))
    stop.1))
    reached.stop
