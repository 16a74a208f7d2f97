-- What stays of a list of work, and of readers, when more are added.
use Rattle.std.proofs.Common.{◌≡◌, ◌≢◌, ℕ, zero, ◌+◌, ◌<◌, ◌≤◌, Bool, true, false, List, [], ◌∷◌, ◌++◌, Contains, length, nat_eq, ◌⊎◌, inl, inr, refl, sym, ◌∙◌, subst, arith, length-append}
use Rattle.std.specs.List.{All}
use Rattle.std.proofs.Math.ListN.{set}
use Rattle.std.proofs.lemmas.Bool.Decides.{eqb_tells}
use Rattle.std.proofs.lemmas.Bool.{cases_lt}
use Rattle.std.proofs.lemmas.List.{get_or_past, get_or-set_same, get_or-set_other, length-set}
use Rattle.std.proofs.lemmas.List.Elements.{Contains-append_left, Contains-append_right, Contains-append_cases, All-set, All-push, All-get_or}
use Rattle.vhdl_scope.specs.declared.links.Link.{Link}
use Rattle.vhdl_scope.specs.Links.{links_at}
use Rattle.vhdl_scope.specs.Work.{KnowReaders, AreReaders, HasListed, HaveReader, readers_at}
use Rattle.vhdl_scope.proofs.LookLemmas.{one_of}

pub listed_both : (first next work : List ℕ) (flags : List Bool) (mid : List ℕ) (halfway : List Bool) (more : List ℕ) (after : List Bool) → HasListed first work flags mid halfway → HasListed next mid halfway more after → HasListed (first ++ next) work flags more after
listed_both first next work flags mid halfway more after one two = record {
  each = two.each ∙ one.each;
  is = two.is;
  unchanged = λ (at : ℕ) there. two.unchanged at (one.unchanged at there);
  listed = λ (at : ℕ) there. by_part at (Contains-append_cases first next at there);
  few = omega (arith, one.few, two.few, length-append first next);
} where
  by_part : (at : ℕ) → Contains first at ⊎ Contains next at → Contains more at
  by_part at (inl there) = two.unchanged at (one.listed at there)
  by_part at (inr there) = two.listed at there

pub reader_both : (at : ℕ) (first next : List Link) (old mid new : List (List ℕ)) → HaveReader at first old mid → HaveReader at next mid new → HaveReader at (first ++ next) old new
reader_both at first next old mid new one two = record {
  each = two.each ∙ one.each;
  row_indices = subst (λ (row_indices : ℕ). AreReaders row_indices new) one.each two.row_indices;
  unchanged = λ (source other : ℕ) there. two.unchanged source other (one.unchanged source other there);
  added = λ (link : Link) there. by_part link (Contains-append_cases first next link there);
} where
  by_part : (link : Link) → Contains first link ⊎ Contains next link → Contains (readers_at new link.source) at
  by_part link (inl there) = two.unchanged link.source at (one.added link there)
  by_part link (inr there) = two.added link there

-- one reader more of the source of one link
module _ (at : ℕ) (link : Link) (old : List (List ℕ)) (entry : List ℕ) (is : entry ≡ readers_at old link.source ++ at ∷ []) (within : link.source < length old) where
  here : readers_at (set old link.source entry) link.source ≡ readers_at old link.source ++ at ∷ []
  here = get_or-set_same old link.source entry [] within ∙ is

  stays : (source other : ℕ) → Contains (readers_at old source) other → Contains (readers_at (set old link.source entry) source) other
  stays source other there = by_index (eqb_tells source link.source) where
    by_index : ((nat_eq source link.source ≡ true) × (source ≡ link.source)) ⊎ ((nat_eq source link.source ≡ false) × (source ≢ link.source)) → Contains (readers_at (set old link.source entry) source) other
    by_index (inl (told, same)) =
        let before : Contains (readers_at old link.source) other = subst (λ (s : ℕ). Contains (readers_at old s) other) same there in
        subst (λ (s : ℕ). Contains (readers_at (set old link.source entry) s) other) (sym same)
        (subst (λ (some : List ℕ). Contains some other) (sym here) (Contains-append_left (readers_at old link.source) (at ∷ []) other before))
    by_index (inr (told, differ)) = subst (λ (some : List ℕ). Contains some other) (sym (get_or-set_other old link.source source entry [] differ)) there

  reads : (other : Link) → Contains (link ∷ []) other → Contains (readers_at (set old link.source entry) other.source) at
  reads other there =
      subst (λ (l : Link). Contains (readers_at (set old link.source entry) l.source) at) (one_of link other there)
      (subst (λ (some : List ℕ). Contains some at) (sym here) (Contains-append_right (readers_at old link.source) (at ∷ []) at (zero, omega arith, refl)))

  pub one_reader : AreReaders (length old) old → at < length old → HaveReader at (link ∷ []) old (set old link.source entry)
  one_reader readers below = record {
    each = length-set old link.source entry;
    row_indices = All-set (All (λ (other : ℕ). other < length old)) old link.source entry (subst (All (λ (other : ℕ). other < length old)) (sym is) (All-push (λ (other : ℕ). other < length old) (readers_at old link.source) at (All-get_or (All (λ (other : ℕ). other < length old)) old link.source [] within readers) below)) readers;
    unchanged = stays;
    added = reads;
  }

-- the readers of one index more are known
pub known_more : (links : List (List Link)) (old new : List (List ℕ)) (end : ℕ) (some : List Link) → some ≡ links_at links end → HaveReader end some old new → ((at : ℕ) (link : Link) → at < end → Contains (links_at links at) link → Contains (readers_at old link.source) at) → (at : ℕ) (link : Link) → at < end + 1 → Contains (links_at links at) link → Contains (readers_at new link.source) at
known_more links old new end some is have known at link below there = by_index (eqb_tells at end) where
  by_index : ((nat_eq at end ≡ true) × (at ≡ end)) ⊎ ((nat_eq at end ≡ false) × (at ≢ end)) → Contains (readers_at new link.source) at
  by_index (inl (told, same)) =
      let here : Contains (links_at links end) link = subst (λ (n : ℕ). Contains (links_at links n) link) same there in
      subst (λ (n : ℕ). Contains (readers_at new link.source) n) (sym same) (have.added link (subst (λ (l : List Link). Contains l link) (sym is) here))
  by_index (inr (told, differ)) = have.unchanged link.source at (known at link (omega arith) there)

-- no index past the last has links
pub known_past : (links : List (List Link)) (readers : List (List ℕ)) (end : ℕ) → length links ≤ end → ((at : ℕ) (link : Link) → at < end → Contains (links_at links at) link → Contains (readers_at readers link.source) at) → KnowReaders links readers
known_past links readers end all known at link there = by_index (cases_lt at end) where
  never : end ≤ at → Contains (readers_at readers link.source) at
  never after =
      let none : links_at links at ≡ [] = get_or_past links at [] (omega arith) in
      let in_none : Contains [] link = subst (λ (l : List Link). Contains l link) none there in
      absurd (omega (arith, in_none.1))

  by_index : (at < end) ⊎ (end ≤ at) → Contains (readers_at readers link.source) at
  by_index (inl before) = known at link before there
  by_index (inr after) = never after
