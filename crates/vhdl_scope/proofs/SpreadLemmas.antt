-- What looks at indices keep of the sets, and what one index less on the list of work leaves to do.
use Rattle.std.proofs.Common.{◌≡◌, ◌≢◌, ℕ, zero, suc, ◌+◌, ◌*◌, ◌<◌, ◌≤◌, Bool, true, false, List, [], ◌∷◌, ◌++◌, ◌||◌, IsTrue, Contains, length, get_or, replicate, nat_eq, ◌⊎◌, inl, inr, refl, sym, ◌∙◌, ap, subst, arith, length-append}
use Rattle.std.specs.List.{All, sum_by}
use Rattle.std.proofs.Math.ListN.{set}
use Rattle.std.proofs.Math.Nat.{mul-le-mul_left}
use Rattle.std.proofs.lemmas.Bool.{cases_lt, false≢true}
use Rattle.std.proofs.lemmas.Bool.Decides.{eqb_tells}
use Rattle.std.proofs.lemmas.List.{get_or_past, get_or_default, length-replicate, set-get_or, get_or-set_same, get_or-set_other, length-set, same_lists}
use Rattle.std.proofs.lemmas.List.Sums.{sum_by-set, get_or-le-sum_by}
use Rattle.std.proofs.lemmas.List.Elements.{Contains-append_left, Contains-append_right, Contains-append_cases, All-contains, Contains-get_or}
use Rattle.vhdl_scope.specs.declared.links.Link.{Link}
use Rattle.vhdl_scope.specs.Bits.{AreWithin, IsPartOf, gap, has, row_has}
use Rattle.vhdl_scope.specs.Links.{AreEven, AreTaken, AreTakenTo, HasLookedAt, HasSpread, TakesAll, links_at, index_row}
use Rattle.vhdl_scope.specs.Work.{HasListed, HasRevisited, IsSettling, IsWork, KnowReaders, effort, readers_at}
use Rattle.vhdl_scope.proofs.BitLemmas.{past}
use Rattle.vhdl_scope.proofs.LookLemmas.{one_of}

pub spread_none : (links : List (List Link)) (rows : List (List ℕ)) → HasSpread links rows rows
spread_none links rows = record {
  each = refl;
  even = λ (words : ℕ) (even : AreEven words rows). even;
  larger = λ (at number : ℕ) (there : IsTrue (has rows at number)). there;
  sound = λ (sets : ℕ → ℕ → Bool) (taken : AreTaken links sets) (within : AreWithin (has rows) sets). within;
}

pub spread_both : (links : List (List Link)) (a b c : List (List ℕ)) → HasSpread links a b → HasSpread links b c → HasSpread links a c
spread_both links a b c one two = record {
  each = two.each ∙ one.each;
  even = λ (words : ℕ) (even : AreEven words a). two.even words (one.even words even);
  larger = λ (at number : ℕ) (there : IsTrue (has a at number)). two.larger at number (one.larger at number there);
  sound = λ (sets : ℕ → ℕ → Bool) (taken : AreTaken links sets) (within : AreWithin (has a) sets). two.sound sets taken (one.sound sets taken within);
}

-- no set has a number that one row doesn't have
abbrev pub AreInside : List (List ℕ) → List ℕ → Type 0
AreInside rows top = AreWithin (has rows) (λ (row_index : ℕ). row_has top)

pub still_inside : (links : List (List Link)) (first rows : List (List ℕ)) (top : List ℕ) → HasSpread links first rows → AreInside first top → AreInside rows top
still_inside links first rows top spread inside = spread.sound (λ (row_index : ℕ). row_has top) (λ at link there gated number has_it. has_it) inside

-- an index whose row has all there is takes nothing more
pub nothing_more : (links : List (List Link)) (at : ℕ) (rows : List (List ℕ)) (top : List ℕ) → AreInside rows top → index_row rows at ≡ top → HasLookedAt links at rows rows false
nothing_more links at rows top inside is = record {
  each = refl;
  even = λ (words : ℕ) (even : AreEven words rows). even;
  others = λ other differ. refl;
  looked = record {
    even = refl;
    larger = λ number there. there;
    sound = λ sets own within takes part. part;
    same = λ still. refl;
    taken = λ still link there gated number has_it. subst (λ (row : List ℕ). IsTrue (row_has row number)) (sym is) (inside link.source number has_it);
    grows = λ grew. let never : ⊥ = cc in absurd never;
  };
}

or_left : (a b : Bool) → IsTrue a → IsTrue (a || b)
or_left true b there = refl
or_left false b there = let never : ⊥ = cc in absurd never

or_right : (a b : Bool) → IsTrue b → IsTrue (a || b)
or_right true b there = refl
or_right false b there = there

-- one row more is in the row that has all
pub inside_more : (rows : List (List ℕ)) (top new item : List ℕ) (at : ℕ) → item ≡ get_or rows at [] → ((number : ℕ) → row_has new number ≡ (row_has top number || row_has item number)) → ((k : ℕ) → k < at → IsPartOf (row_has (get_or rows k [])) (row_has top)) → (k : ℕ) → k < at + 1 → IsPartOf (row_has (get_or rows k [])) (row_has new)
inside_more rows top new item at is joined so_far k below number there = elim (cases_lt k at) [
  | inl earlier ↦ subst IsTrue (sym (joined number)) (or_left (row_has top number) (row_has item number) (so_far k earlier number there))
  | inr late ↦
      let here : k ≡ at = omega arith in
      subst IsTrue (sym (joined number)) (or_right (row_has top number) (row_has item number) (subst (λ (row : List ℕ). IsTrue (row_has row number)) (ap (λ (n : ℕ). get_or rows n []) here ∙ sym is) there))
]

-- if each row below `end` is within `top`, all rows are, since no row follows
pub inside_all : (rows : List (List ℕ)) (top : List ℕ) (end : ℕ) → length rows ≤ end → ((k : ℕ) → k < end → IsPartOf (row_has (get_or rows k [])) (row_has top)) → AreInside rows top
inside_all rows top end all each at number there = elim (cases_lt at end) [
  | inl below ↦ each at below number there
  | inr late ↦
      let none : get_or rows at [] ≡ [] = get_or_past rows at [] (omega arith) in
      absurd (false≢true (sym (past [] number (omega arith)) ∙ subst (λ (row : List ℕ). row_has row number ≡ true) none there))
]

-- one look
module _ (links : List (List Link)) (at : ℕ) (old new : List (List ℕ)) (grown : Bool) (look : HasLookedAt links at old new grown) where
  larger_there : AreWithin (has old) (has new)
  larger_there other number there = by_index (eqb_tells other at) where
    by_index : ((nat_eq other at ≡ true) × (other ≡ at)) ⊎ ((nat_eq other at ≡ false) × (other ≢ at)) → IsTrue (has new other number)
    by_index (inl (told, same)) =
        subst (λ (n : ℕ). IsTrue (has new n number)) (sym same) (look.looked.larger number (subst (λ (n : ℕ). IsTrue (has old n number)) same there))
    by_index (inr (told, differ)) = subst (λ (row : List ℕ). IsTrue (row_has row number)) (sym (look.others other differ)) there

  sound_there : (sets : ℕ → ℕ → Bool) → AreTaken links sets → AreWithin (has old) sets → AreWithin (has new) sets
  sound_there sets taken within other number there = by_index (eqb_tells other at) where
    by_index : ((nat_eq other at ≡ true) × (other ≡ at)) ⊎ ((nat_eq other at ≡ false) × (other ≢ at)) → IsTrue (sets other number)
    by_index (inl (told, same)) =
        subst (λ (n : ℕ). IsTrue (sets n number)) (sym same)
        (look.looked.sound sets (sets at) within (taken at) (within at) number (subst (λ (n : ℕ). IsTrue (has new n number)) same there))
    by_index (inr (told, differ)) = within other number (subst (λ (row : List ℕ). IsTrue (row_has row number)) (look.others other differ) there)

  pub spread_once : HasSpread links old new
  spread_once = record { each = look.each; even = look.even; larger = larger_there; sound = sound_there }

  -- the rows are those before, but for the one
  pub is_set : new ≡ set old at (index_row new at)
  is_set = same_lists new (set old at (index_row new at)) (look.each ∙ sym (length-set old at (index_row new at))) each_same where
    by_index : (k : ℕ) (d : List ℕ) → k < length new → ((nat_eq k at ≡ true) × (k ≡ at)) ⊎ ((nat_eq k at ≡ false) × (k ≢ at)) → get_or new k d ≡ get_or (set old at (index_row new at)) k d
    by_index k d below (inl (told, same)) =
        let within : at < length old = subst (λ (n : ℕ). n < length old) same (subst (λ (n : ℕ). k < n) look.each below) in
        get_or_default new k d [] below ∙ (ap (λ (n : ℕ). get_or new n []) same ∙ (sym (get_or-set_same old at (index_row new at) d within) ∙ ap (λ (n : ℕ). get_or (set old at (index_row new at)) n d) (sym same)))
    by_index k d below (inr (told, differ)) =
        let within : k < length old = subst (λ (n : ℕ). k < n) look.each below in
        get_or_default new k d [] below ∙ (look.others k differ ∙ (get_or_default old k [] d within ∙ sym (get_or-set_other old at k (index_row new at) d differ)))

    each_same : (k : ℕ) (d : List ℕ) → k < length new → get_or new k d ≡ get_or (set old at (index_row new at)) k d
    each_same k d below = by_index k d below (eqb_tells k at)

pub spread_more : (links : List (List Link)) (first : List (List ℕ)) (at : ℕ) (old new : List (List ℕ)) (grown : Bool) → HasSpread links first old → HasLookedAt links at old new grown → HasSpread links first new
spread_more links first at old new grown before look = spread_both links first old new before (spread_once links at old new grown look)

-- a look that grew nothing
module _ (links : List (List Link)) (at : ℕ) (old new : List (List ℕ)) (look : HasLookedAt links at old new false) where
  pub same_rows : new ≡ old
  same_rows = is_set links at old new false look ∙ (ap (λ (row : List ℕ). set old at row) (look.looked.same refl) ∙ set-get_or old at [])

  before_too : AreTakenTo at links (has old) → AreTakenTo (at + 1) links (has old)
  before_too taken other below = by_index (eqb_tells other at) where
    by_index : ((nat_eq other at ≡ true) × (other ≡ at)) ⊎ ((nat_eq other at ≡ false) × (other ≢ at)) → TakesAll (links_at links other) (has old) (has old other)
    by_index (inl (_, same)) = subst (λ (n : ℕ). TakesAll (links_at links n) (has old) (has old n)) (sym same) (look.looked.taken refl)
    by_index (inr (_, differ)) = taken other (omega arith)

  pub taken_here : AreTakenTo at links (has old) → AreTakenTo (at + 1) links (has new)
  taken_here taken = subst (λ (rows : List (List ℕ)). AreTakenTo (at + 1) links (has rows)) (sym same_rows) (before_too taken)

-- one look more, of which none may have grown anything
pub taken_more : (links : List (List Link)) (at : ℕ) (old new : List (List ℕ)) (grown more : Bool) → HasLookedAt links at old new more → (grown ≡ false → AreTakenTo at links (has old)) → (grown || more) ≡ false → AreTakenTo (at + 1) links (has new)
taken_more links at old new true more look taken still = let never : ⊥ = cc in absurd never
taken_more links at old new false true look taken still = let never : ⊥ = cc in absurd never
taken_more links at old new false false look taken still = taken_here links at old new look (taken refl)

-- no index past the last has links
pub taken_all : (links : List (List Link)) (rows : List (List ℕ)) (end : ℕ) → length links ≤ end → AreTakenTo end links (has rows) → AreTaken links (has rows)
taken_all links rows end all taken at = by_index (cases_lt at end) where
  by_index : (at < end) ⊎ (end ≤ at) → TakesAll (links_at links at) (has rows) (has rows at)
  by_index (inl below) = taken at below
  by_index (inr past) = λ (link : Link) (there : Contains (links_at links at) link).
      let none : links_at links at ≡ [] = get_or_past links at [] (omega arith) in
      let in_none : Contains [] link = subst (λ (l : List Link). Contains l link) none there in
      absurd (omega (arith, in_none.1))

in_work : (work : List ℕ) (at other : ℕ) → Contains (work ++ at ∷ []) other → other ≢ at → Contains work other
in_work work at other there differ = by_part (Contains-append_cases work (at ∷ []) other there) where
  by_part : Contains work other ⊎ Contains (at ∷ []) other → Contains work other
  by_part (inl before) = before
  by_part (inr last) = absurd (differ (sym (one_of at other last)))

-- the flags and the list without an index
module _ (work : List ℕ) (at : ℕ) (flags : List Bool) (list : IsWork (work ++ at ∷ []) flags) (within : at < length flags) where
  told_still : (other : ℕ) → get_or (set flags at false) other false ≡ true → Contains work other
  told_still other told = by_index (eqb_tells other at) where
    by_index : ((nat_eq other at ≡ true) × (other ≡ at)) ⊎ ((nat_eq other at ≡ false) × (other ≢ at)) → Contains work other
    by_index (inl (_, same)) =
        let cleared : get_or (set flags at false) other false ≡ false = ap (λ (n : ℕ). get_or (set flags at false) n false) same ∙ get_or-set_same flags at false false within in
        let never : ⊥ = cc in absurd never
    by_index (inr (_, differ)) = in_work work at other (list.told other (sym (get_or-set_other flags at other false false differ) ∙ told)) differ

  below_still : All (λ (n : ℕ). n < length (set flags at false)) work
  below_still k d there =
      let n = get_or work k d in
      let one : Contains work n = Contains-get_or work k d there in
      let below : n < length flags = All-contains (λ (m : ℕ). m < length flags) (work ++ at ∷ []) n list.below (Contains-append_left work (at ∷ []) n one) in
      subst (λ (m : ℕ). n < m) (sym (length-set flags at false)) below

  pub unmarked : IsWork work (set flags at false)
  unmarked = record { below = below_still; told = told_still }

-- a link from an index is among some links, or none is
from_index : (links : List Link) (at : ℕ) → ((link : Link) × Contains links link × (link.source ≡ at)) ⊎ ((link : Link) → Contains links link → link.source ≢ at)
from_index [] at = inr (λ (link : Link) (there : Contains [] link). absurd (omega (arith, there.1)))
from_index (first ∷ links) at = by_first (eqb_tells first.source at) (from_index links at) where
  later : (link : Link) → Contains links link → Contains (first ∷ links) link
  later link (k, within, is) = (suc k, omega arith, is)

  by_first : ((nat_eq first.source at ≡ true) × (first.source ≡ at)) ⊎ ((nat_eq first.source at ≡ false) × (first.source ≢ at)) → (((link : Link) × Contains links link × (link.source ≡ at)) ⊎ ((link : Link) → Contains links link → link.source ≢ at)) → ((link : Link) × Contains (first ∷ links) link × (link.source ≡ at)) ⊎ ((link : Link) → Contains (first ∷ links) link → link.source ≢ at)
  by_first (inl (_, same)) rest = inl (first, (zero, omega arith, refl), same)
  by_first (inr (_, differ)) (inl (link, there, same)) = inl (link, later link there, same)
  by_first (inr (_, differ)) (inr none) = inr (λ (link : Link) (there : Contains (first ∷ links) link). not_first link there) where
    not_first : (link : Link) → Contains (first ∷ links) link → link.source ≢ at
    not_first link (zero, within, is) = λ (same : link.source ≡ at). differ (ap (λ (l : Link). l.source) is ∙ same)
    not_first link (suc k, within, is) = none link (k, omega arith, is)

-- a look at an index that left its row unchanged
module _ (links : List (List Link)) (readers : List (List ℕ)) (at : ℕ) (rows new : List (List ℕ)) (work : List ℕ) (flags : List Bool) (look : HasLookedAt links at rows new false) (list : IsWork (work ++ at ∷ []) flags) (within : at < length flags) where
  rows_same : new ≡ rows
  rows_same = same_rows links at rows new look

  settling_same : (first : List (List ℕ)) → IsSettling links first rows (work ++ at ∷ []) flags → IsSettling links first rows work (set flags at false)
  settling_same first before = record {
    each = length-set flags at false ∙ before.each;
    is = unmarked work at flags list within;
    spread = before.spread;
    pending = λ (other : ℕ) (below : other < length rows). by_work other (before.pending other below) (eqb_tells other at);
  } where
    by_work : (other : ℕ) → (Contains (work ++ at ∷ []) other ⊎ TakesAll (links_at links other) (has rows) (has rows other)) → (((nat_eq other at ≡ true) × (other ≡ at)) ⊎ ((nat_eq other at ≡ false) × (other ≢ at))) → Contains work other ⊎ TakesAll (links_at links other) (has rows) (has rows other)
    by_work other (inr taken) row_index = inr taken
    by_work other (inl there) (inl (_, same)) = inr (subst (λ (n : ℕ). TakesAll (links_at links n) (has rows) (has rows n)) (sym same) (look.looked.taken refl))
    by_work other (inl there) (inr (_, differ)) = inl (in_work work at other there differ)

  pub revisited_same : HasRevisited links readers at rows work flags new work (set flags at false)
  revisited_same = record {
    even = look.even;
    settling = λ (first : List (List ℕ)) (before : IsSettling links first rows (work ++ at ∷ []) flags). subst (λ (r : List (List ℕ)). IsSettling links first r work (set flags at false)) (sym rows_same) (settling_same first before);
    less = subst (λ (r : List (List ℕ)). effort readers r work < effort readers rows (work ++ at ∷ [])) (sym rows_same) (omega (arith, length-append work (at ∷ [])));
  }

less_effort : (a b r w x : ℕ) → a < b → x ≤ w + (1 + r) → a * (r + 2) + x < b * (r + 2) + (w + 1)
less_effort a b r w x less few =
    let more : (r + 2) * (a + 1) ≤ (r + 2) * b = mul-le-mul_left (r + 2) (omega arith) in
    let one : (r + 2) * (a + 1) ≡ a * (r + 2) + (r + 2) = omega arith in
    let two : (r + 2) * b ≡ b * (r + 2) = omega arith in
    omega arith

-- an index that was looked at, where its row has grown
module _ (links : List (List Link)) (readers : List (List ℕ)) (at : ℕ) (rows new : List (List ℕ)) (work : List ℕ) (flags : List Bool) (more : List ℕ) (flagged : List Bool) (look : HasLookedAt links at rows new true) (listed : HasListed (at ∷ [] ++ readers_at readers at) work (set flags at false) more flagged) (known : KnowReaders links readers) (each : length readers ≡ length rows) (within : at < length rows) where
  still_taken : (other : ℕ) → other ≢ at → ((link : Link) → Contains (links_at links other) link → link.source ≢ at) → TakesAll (links_at links other) (has rows) (has rows other) → TakesAll (links_at links other) (has new) (has new other)
  still_taken other differ none taken link there library_number number handed =
      let own : index_row new other ≡ index_row rows other = look.others other differ in
      let source : index_row new link.source ≡ index_row rows link.source = look.others link.source (none link there) in
      subst (λ (row : List ℕ). IsTrue (row_has row number)) (sym own)
      (taken link there (subst (λ (row : List ℕ). IsTrue (row_has row link.library_number)) own library_number) number (subst (λ (row : List ℕ). IsTrue (row_has row number)) source handed))

  settling_more : (first : List (List ℕ)) → IsSettling links first rows (work ++ at ∷ []) flags → IsSettling links first new more flagged
  settling_more first before = record {
    each = listed.each ∙ (length-set flags at false ∙ (before.each ∙ sym look.each));
    is = listed.is;
    spread = spread_more links first at rows new true before.spread look;
    pending = λ (other : ℕ) (below : other < length new). by_work other (before.pending other (subst (λ (n : ℕ). other < n) look.each below)) (eqb_tells other at);
  } where
    by_link : (other : ℕ) → other ≢ at → TakesAll (links_at links other) (has rows) (has rows other) → (((link : Link) × Contains (links_at links other) link × (link.source ≡ at)) ⊎ ((link : Link) → Contains (links_at links other) link → link.source ≢ at)) → Contains more other ⊎ TakesAll (links_at links other) (has new) (has new other)
    by_link other differ taken (inl (link, there, same)) =
        inl (listed.listed other (Contains-append_right (at ∷ []) (readers_at readers at) other (subst (λ (n : ℕ). Contains (readers_at readers n) other) same (known other link there))))
    by_link other differ taken (inr none) = inr (still_taken other differ none taken)

    itself : Contains more at
    itself = listed.listed at (Contains-append_left (at ∷ []) (readers_at readers at) at (zero, omega arith, refl))

    by_work : (other : ℕ) → (Contains (work ++ at ∷ []) other ⊎ TakesAll (links_at links other) (has rows) (has rows other)) → (((nat_eq other at ≡ true) × (other ≡ at)) ⊎ ((nat_eq other at ≡ false) × (other ≢ at))) → Contains more other ⊎ TakesAll (links_at links other) (has new) (has new other)
    by_work other pending (inl (_, same)) = inl (subst (Contains more) (sym same) itself)
    by_work other (inl there) (inr (_, differ)) = inl (listed.unchanged other (in_work work at other there differ))
    by_work other (inr taken) (inr (_, differ)) = by_link other differ taken (from_index (links_at links other) at)

  gaps : sum_by gap new < sum_by gap rows
  gaps =
      let parts : sum_by gap (set rows at (index_row new at)) + gap (index_row rows at) ≡ sum_by gap rows + gap (index_row new at) = sum_by-set gap rows at (index_row new at) [] within in
      let same : sum_by gap new ≡ sum_by gap (set rows at (index_row new at)) = ap (sum_by gap) (is_set links at rows new true look) in
      omega (arith, look.looked.grows refl)

  pub revisited_more : HasRevisited links readers at rows work flags new more flagged
  revisited_more = record {
    even = look.even;
    settling = settling_more;
    less =
        let few : length more ≤ length work + (1 + sum_by length readers) = omega (arith, listed.few, length-append (at ∷ []) (readers_at readers at), get_or-le-sum_by length readers at [] (subst (λ (n : ℕ). at < n) (sym each) within)) in
        let one : length (work ++ at ∷ []) ≡ length work + 1 = length-append work (at ∷ []) in
        rw one (less_effort (sum_by gap new) (sum_by gap rows) (sum_by length readers) (length work) (length more) gaps few);
  }

-- at the end each index takes what its links hand on
pub settled : (links : List (List Link)) (first rows : List (List ℕ)) (work : List ℕ) (flags : List Bool) → length links ≡ length rows → length work ≡ 0 → IsSettling links first rows work flags → AreTaken links (has rows)
settled links first rows work flags each empty settling = taken_all links rows (length rows) (omega (arith, each)) each_taken where
  by_work : (at : ℕ) → (Contains work at ⊎ TakesAll (links_at links at) (has rows) (has rows at)) → TakesAll (links_at links at) (has rows) (has rows at)
  by_work at (inl there) = absurd (omega (arith, there.1))
  by_work at (inr taken) = taken

  each_taken : AreTakenTo (length rows) links (has rows)
  each_taken at below = by_work at (settling.pending at below)

pub evens : (links : List (List Link)) (old new : List (List ℕ)) (words room : ℕ) → HasSpread links old new → AreEven words old → room ≡ words → AreEven room new
evens links old new words room spread even same = subst (λ (n : ℕ). AreEven n new) (sym same) (spread.even words even)

-- at first all indices are on the list
module _ (links : List (List Link)) (rows : List (List ℕ)) (work : List ℕ) (flags : List Bool) (each : length work ≡ length rows) (is : (k : ℕ) → k < length rows → get_or work k 0 ≡ k) (all : flags ≡ replicate (length rows) true) where
  as_long : length flags ≡ length rows
  as_long = ap length all ∙ length-replicate (length rows) true

  on_list : (at : ℕ) → at < length rows → Contains work at
  on_list at below = subst (Contains work) (is at below) (Contains-get_or work at 0 (omega arith))

  told_first : (at : ℕ) → get_or flags at false ≡ true → Contains work at
  told_first at told = by_index (cases_lt at (length rows)) where
    by_index : (at < length rows) ⊎ (length rows ≤ at) → Contains work at
    by_index (inl below) = on_list at below
    by_index (inr past) =
        let none : get_or flags at false ≡ false = get_or_past flags at false (omega (arith, as_long)) in
        let never : ⊥ = cc in absurd never

  below_first : All (λ (n : ℕ). n < length flags) work
  below_first k d there = let one : get_or work k 0 ≡ k = is k (omega arith) in let same : get_or work k d ≡ get_or work k 0 = get_or_default work k d 0 there in omega (arith, as_long)

  pub settling_first : IsSettling links rows rows work flags
  settling_first = record {
    each = as_long;
    is = record { below = below_first; told = told_first };
    spread = spread_none links rows;
    pending = λ (at : ℕ) (below : at < length rows). inl (on_list at below);
  }
