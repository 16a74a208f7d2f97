-- The table of next delimiters, filled from the right.
use Rattle.std.proofs.Common.{◌≡◌, ◌≢◌, ℕ, ◌+◌, ◌-◌, ◌<◌, ◌≤◌, List, length, slice_index, sym, ◌∙◌, ap, subst, inl, inr, ⊎_elim, arith, replicate}
use Rattle.std.specs.List.{slice_set, count_by}
use Rattle.std.proofs.str.Laws.{order}
use Rattle.std.proofs.lemmas.List.{get_or-set_same, get_or-set_other, length-set, get_or-replicate, length-replicate}
use Rattle.base.specs.declared.design.Role.{Role}
use Rattle.base.specs.declared.design.Role.TheVariants.{Is, Semicolon, Function, Procedure, Opening, Closing}
use Rattle.vhdl_spec.specs.Units.{role_at, is_opening, IsLevel}
use Rattle.vhdl_units.specs.Delimiters.{level_at, IsDelimiter, IsSubprogramWord, IsFirstDelimiter, AreNearest, AreDelimiters}
use Rattle.vhdl_units.specs.Parts.{IsNextDelimiter}
use Rattle.vhdl_units.proofs.Levels.{level_small, same_level, level_again, level_opening, level_closing, level_other, level_end}

delimiter_only : (role : Role) → IsDelimiter role → (role ≢ Opening) × (role ≢ Closing) × (role ≢ Function) × (role ≢ Procedure)
delimiter_only role (inl is) = (λ other. cc, λ other. cc, λ other. cc, λ other. cc)
delimiter_only role (inr is) = (λ other. cc, λ other. cc, λ other. cc, λ other. cc)

word_only : (role : Role) → IsSubprogramWord role → (role ≢ Opening) × (role ≢ Closing) × (role ≢ Is) × (role ≢ Semicolon)
word_only role (inl is) = (λ other. cc, λ other. cc, λ other. cc, λ other. cc)
word_only role (inr is) = (λ other. cc, λ other. cc, λ other. cc, λ other. cc)

-- what the way from the right has found
pub record Filled (roles : List Role) (nearest delimiters : List ℕ) (level at : ℕ) : Type 0 where
  pub within : at ≤ length roles
  pub level_is : level ≡ level_at roles at
  pub nearest_are : AreNearest roles at nearest
  pub delimiters_are : AreDelimiters roles at delimiters

module _ (roles : List Role) (nearest delimiters : List ℕ) (level offset : ℕ) (filled : Filled roles nearest delimiters level (offset + 1)) where
  -- a token that isn't a delimiter
  nearest_on : role_at roles offset ≢ Is → role_at roles offset ≢ Semicolon → AreNearest roles offset nearest
  nearest_on no_is no_semicolon = record {
    entries = filled.nearest_are.entries;
    first = λ other small.
        let found = filled.nearest_are.first other small in
        record {
          after = omega (arith, found.after);
          within = found.within;
          none = λ between from before same. ⊎_elim (λ later. found.none between (omega arith) before same) (λ here. let is : offset ≡ between = omega arith in subst (λ (n : ℕ). (role_at roles n ≢ Is) × (role_at roles n ≢ Semicolon)) is (no_is, no_semicolon)) (order offset between);
          there = found.there;
        };
  }

  -- a token that begins no subprogram
  delimiters_on : role_at roles offset ≢ Function → role_at roles offset ≢ Procedure → AreDelimiters roles offset delimiters
  delimiters_on no_function no_procedure = record {
    entries = filled.delimiters_are.entries;
    first = λ at from within word. ⊎_elim (λ later. filled.delimiters_are.first at (omega arith) within word) (λ here. let is : at ≡ offset = omega arith in absurd (⊎_elim (subst (λ (n : ℕ). role_at roles n ≢ Function) (sym is) no_function) (subst (λ (n : ℕ). role_at roles n ≢ Procedure) (sym is) no_procedure) word)) (order offset at);
  }

  pub level_some : role_at roles offset ≡ Opening → 1 ≤ level
  level_some is = omega (arith, filled.level_is, level_opening roles offset (omega (arith, filled.within)) is)

  pub level_within : level ≤ length roles
  level_within = omega (arith, filled.level_is, level_small roles (offset + 1) filled.within)

  pub fill_opening : role_at roles offset ≡ Opening → Filled roles nearest delimiters (level - 1) offset
  fill_opening is = record {
    within = omega (arith, filled.within);
    level_is = omega (arith, filled.level_is, level_opening roles offset (omega (arith, filled.within)) is);
    nearest_are = nearest_on (λ other. cc) (λ other. cc);
    delimiters_are = delimiters_on (λ other. cc) (λ other. cc);
  }

  pub fill_closing : role_at roles offset ≡ Closing → Filled roles nearest delimiters (level + 1) offset
  fill_closing is = record {
    within = omega (arith, filled.within);
    level_is = omega (arith, filled.level_is, level_closing roles offset (omega (arith, filled.within)) is);
    nearest_are = nearest_on (λ other. cc) (λ other. cc);
    delimiters_are = delimiters_on (λ other. cc) (λ other. cc);
  }

  same_here : role_at roles offset ≢ Opening → role_at roles offset ≢ Closing → level ≡ level_at roles offset
  same_here no_opening no_closing = filled.level_is ∙ level_other roles offset (omega (arith, filled.within)) no_opening no_closing

  pub fill_delimiter : IsDelimiter (role_at roles offset) → Filled roles (slice_set nearest level offset) delimiters level offset
  fill_delimiter delimiter = record {
    within = omega (arith, filled.within);
    level_is = level_here;
    nearest_are = record {
      entries = length-set nearest level offset ∙ filled.nearest_are.entries;
      first = λ other small. ⊎_elim (λ below. apart other small (omega arith)) (λ above. ⊎_elim (λ over. apart other small (omega arith)) (λ same. here other (omega arith)) (order level other)) (order other level);
    };
    delimiters_are = delimiters_on (delimiter_only (role_at roles offset) delimiter).2 (delimiter_only (role_at roles offset) delimiter).3;
  } where
    level_here : level ≡ level_at roles offset
    level_here = same_here (delimiter_only (role_at roles offset) delimiter).0 (delimiter_only (role_at roles offset) delimiter).1

    here : (other : ℕ) → other ≡ level → IsFirstDelimiter roles offset other (slice_index (slice_set nearest level offset) other)
    here other is =
        let found : slice_index (slice_set nearest level offset) other ≡ offset = ap (slice_index (slice_set nearest level offset)) is ∙ get_or-set_same nearest level offset 0 (omega (arith, filled.nearest_are.entries, level_within)) in
        subst (IsFirstDelimiter roles offset other) (sym found) (record {
          after = omega arith;
          within = omega (arith, filled.within);
          none = λ between from before same. absurd (omega arith);
          there = λ within. (sym (is ∙ level_here), delimiter);
        })

    apart : (other : ℕ) → other ≤ length roles → other ≢ level → IsFirstDelimiter roles offset other (slice_index (slice_set nearest level offset) other)
    apart other small differs =
        let found = filled.nearest_are.first other small in
        subst (IsFirstDelimiter roles offset other) (sym (get_or-set_other nearest level other offset 0 differs)) (record {
          after = omega (arith, found.after);
          within = found.within;
          none = λ between from before same. ⊎_elim (λ later. found.none between (omega arith) before same) (λ reached. let is : between ≡ offset = omega arith in absurd (differs (sym same ∙ ap (level_at roles) is ∙ sym level_here))) (order offset between);
          there = found.there;
        })

  pub fill_word : IsSubprogramWord (role_at roles offset) → Filled roles nearest (slice_set delimiters offset (slice_index nearest level)) level offset
  fill_word word = record {
    within = omega (arith, filled.within);
    level_is = level_here;
    nearest_are = nearest_on (word_only (role_at roles offset) word).2 (word_only (role_at roles offset) word).3;
    delimiters_are = record {
      entries = length-set delimiters offset (slice_index nearest level) ∙ filled.delimiters_are.entries;
      first = λ at from within again. ⊎_elim (λ later. subst (IsFirstDelimiter roles (at + 1) (level_at roles at)) (sym (get_or-set_other delimiters offset at (slice_index nearest level) 0 (λ is. omega arith))) (filled.delimiters_are.first at (omega arith) within again)) (λ reached. here at (omega arith)) (order offset at);
    };
  } where
    level_here : level ≡ level_at roles offset
    level_here = same_here (word_only (role_at roles offset) word).0 (word_only (role_at roles offset) word).1

    here : (at : ℕ) → at ≡ offset → IsFirstDelimiter roles (at + 1) (level_at roles at) (slice_index (slice_set delimiters offset (slice_index nearest level)) at)
    here at is =
        subst (λ (n : ℕ). IsFirstDelimiter roles (n + 1) (level_at roles n) (slice_index (slice_set delimiters offset (slice_index nearest level)) n)) (sym is)
        (subst (IsFirstDelimiter roles (offset + 1) (level_at roles offset)) (sym (get_or-set_same delimiters offset (slice_index nearest level) 0 (omega (arith, filled.delimiters_are.entries, filled.within))))
        (subst (λ (n : ℕ). IsFirstDelimiter roles (offset + 1) n (slice_index nearest level)) level_here (filled.nearest_are.first level level_within)))

  pub fill_other : role_at roles offset ≢ Opening → role_at roles offset ≢ Closing → role_at roles offset ≢ Is → role_at roles offset ≢ Semicolon → role_at roles offset ≢ Function → role_at roles offset ≢ Procedure → Filled roles nearest delimiters level offset
  fill_other no_opening no_closing no_is no_semicolon no_function no_procedure = record {
    within = omega (arith, filled.within);
    level_is = same_here no_opening no_closing;
    nearest_are = nearest_on no_is no_semicolon;
    delimiters_are = delimiters_on no_function no_procedure;
  }

-- a word at level has the first delimiter of its level as the next delimiter at level, whatever the unit
pub next_delimiter_of : (roles : List Role) (delimiters : List ℕ) (start at : ℕ) → AreDelimiters roles 0 delimiters → start ≤ at → at < length roles → IsSubprogramWord (role_at roles at) → IsLevel roles start at → IsNextDelimiter roles start (at + 1) (slice_index delimiters at)
next_delimiter_of roles delimiters start at are ordered within word level =
    let found = are.first at (omega arith) within word in
    let same : level_at roles start ≡ level_at roles at = same_level roles start at ordered level in
    record {
      after = found.after;
      within = found.within;
      none = λ between from before level_there. found.none between from before (sym (same_level roles start between (omega arith) level_there) ∙ same);
      there = λ inside. let there = found.there inside in (level_again roles start (slice_index delimiters at) (omega (arith, found.after)) (same ∙ sym there.0), there.1);
    }

-- before the first step: nothing is known of any token
pub filled_end : (roles : List Role) (nearest delimiters : List ℕ) (level : ℕ) → level ≡ count_by is_opening roles → AreNearest roles (length roles) nearest → length delimiters ≡ length roles → Filled roles nearest delimiters level (length roles)
filled_end roles nearest delimiters level is nearest_are entries = record {
  within = omega arith;
  level_is = is ∙ sym (level_end roles);
  nearest_are = nearest_are;
  delimiters_are = record { entries = entries; first = λ at from within word. absurd (omega arith) };
}

-- at the end of the file no level has a delimiter
pub nearest_end : (roles : List Role) → AreNearest roles (length roles) (replicate (length roles + 1) (length roles))
nearest_end roles = record {
  entries = length-replicate (length roles + 1) (length roles);
  first = λ level small.
      subst (IsFirstDelimiter roles (length roles) level) (sym (get_or-replicate (length roles + 1) level (length roles) 0 (omega arith)))
      (record { after = omega arith; within = omega arith; none = λ between from before same. absurd (omega arith); there = λ within. absurd (omega arith) });
}
