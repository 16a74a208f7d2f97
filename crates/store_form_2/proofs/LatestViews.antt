-- The latest records of views: what holds of all holds of them, and each later one is of another name.
use Rattle.std.proofs.Common.{◌≡◌, suc, Bool, true, false, ◌||◌, cond, List, [], ◌∷◌, Option, Some, None, refl, sym, ap, subst, ◌∙◌, arith}
use Rattle.std.specs.Prelude.{All, Contains}
use Rattle.std.specs.List.{list_any}
use Rattle.std.specs.Option.{option_or, option_map_or}
use Rattle.std.proofs.lemmas.Bool.{cond_both, cond-false, or_from, or_parts}
use Rattle.std.proofs.lemmas.Option.{none-some, same_Some}
use Rattle.std.proofs.lemmas.List.Elements.{All-nil, All-cons, All-head, All-tail}
use Rattle.base.specs.declared.file.FileName.{FileName}
use Rattle.base.specs.declared.graph.Entry.{Entry}
use Rattle.base.specs.Names.{is_same_name}
use Rattle.store_form_2.specs.declared.kept_view.Record.{Record as ViewRecord}
use Rattle.store_form_2.specs.ViewRecords.{ends_in, is_followed, last_file, latest_view, latest_views}
use Rattle.store_form_2.proofs.SameViews.{same_names}

-- none passes, so each doesn't
pub each_fails : {X : Type 0} (p : X → Bool) (xs : List X) → list_any p xs ≡ false → All (λ x. p x ≡ false) xs
each_fails p [] none = All-nil (λ x. p x ≡ false)
each_fails p (x ∷ xs) none =
    let parts = or_parts (p x) (list_any p xs) none in
    All-cons (λ x. p x ≡ false) x xs parts.0 (each_fails p xs parts.1)

pub All-latest_views : (P : ViewRecord → Type 0) (records : List ViewRecord) → All P records → All P (latest_views records)
unfolding latest_views
All-latest_views P [] all = all
All-latest_views P (first ∷ rest) all =
    let others : All P (latest_views rest) = All-latest_views P rest (All-tail P first rest all) in
    cond_both (is_followed rest first) (latest_views rest) (first ∷ latest_views rest) (All P)
    (λ followed. others)
    (λ last. All-cons P first (latest_views rest) (All-head P first rest all) others)

either : (P : ViewRecord → Type 0) (first kept : ViewRecord) (rest : Option ViewRecord) (of : Bool)
    → P first → ((k : ViewRecord) → rest ≡ Some k → P k) → option_or rest (cond of (Some first) None) ≡ Some kept → P kept
either P first kept (Some later) of one more h = more kept h
either P first kept None true one more h = subst P (same_Some first kept h) one
either P first kept None false one more h = absurd (none-some kept h)

-- and of the latest record of a name
pub All-latest_view : (P : ViewRecord → Type 0) (name : FileName) (records : List ViewRecord) (kept : ViewRecord) → All P records → latest_view name records ≡ Some kept → P kept
unfolding latest_view
All-latest_view P name [] kept all is = absurd (none-some kept is)
All-latest_view P name (first ∷ rest) kept all is =
    either P first kept (latest_view name rest) (ends_in name first) (All-head P first rest all) (λ k found. All-latest_view P name rest k (All-tail P first rest all) found) is

-- a name that no record is of has no latest one
none_ends : (name : FileName) (records : List ViewRecord) → latest_view name records ≡ None → list_any (ends_in name) records ≡ false
unfolding latest_view
none_ends name [] none = refl
none_ends name (first ∷ rest) none = from (latest_view name rest) (ends_in name first) (λ l. none_ends name rest l) refl refl none where
  from : (later : Option ViewRecord) (of : Bool) → (latest_view name rest ≡ None → list_any (ends_in name) rest ≡ false) → latest_view name rest ≡ later → ends_in name first ≡ of → option_or later (cond of (Some first) None) ≡ None → (ends_in name first || list_any (ends_in name) rest) ≡ false
  from (Some kept) of next l o h = absurd (none-some kept (sym h))
  from None true next l o h = absurd (none-some first (sym h))
  from None false next l o h = or_from (ends_in name first) (list_any (ends_in name) rest) o (next l)

-- the record ends in this name and no later one does, so it isn't followed
not_followed : (name : FileName) (kept : ViewRecord) (later : List ViewRecord) → ends_in name kept ≡ true → list_any (ends_in name) later ≡ false → is_followed later kept ≡ false
not_followed name kept later ends none = from (last_file kept.view) ends where
  from : (last : Option Entry) → option_map_or (λ entry. is_same_name entry.name name) last false ≡ true → option_map_or (λ entry. list_any (ends_in entry.name) later) last false ≡ false
  from None ends = absurd (let nothing : ⊥ = cc in nothing)
  from (Some entry) ends = ap (λ (n : FileName). list_any (ends_in n) later) ((same_names entry.name name).0 ends) ∙ none

-- the latest record of a name is one of the latest records
pub latest_among : (name : FileName) (records : List ViewRecord) (kept : ViewRecord) → latest_view name records ≡ Some kept → Contains (latest_views records) kept
unfolding latest_view latest_views
latest_among name [] kept is = absurd (none-some kept is)
latest_among name (first ∷ rest) kept is = from (latest_view name rest) (ends_in name first) (λ l. latest_among name rest kept l) refl refl is where
  from : (later : Option ViewRecord) (of : Bool) → (latest_view name rest ≡ Some kept → Contains (latest_views rest) kept) → latest_view name rest ≡ later → ends_in name first ≡ of → option_or later (cond of (Some first) None) ≡ Some kept
      → Contains (cond (is_followed rest first) (latest_views rest) (first ∷ latest_views rest)) kept
  from (Some other) of next l o h =
      let has : Contains (latest_views rest) kept = next (l ∙ h) in
      cond_both (is_followed rest first) (latest_views rest) (first ∷ latest_views rest) (λ (xs : List ViewRecord). Contains xs kept)
      (λ followed. has) (λ last. (suc has.0, omega (arith, has.1), has.2))
  from None true next l o h =
      let last : is_followed rest first ≡ false = not_followed name first rest o (none_ends name rest l) in
      subst (λ (xs : List ViewRecord). Contains xs kept) (sym (cond-false (is_followed rest first) (latest_views rest) (first ∷ latest_views rest) last))
      (0, omega arith, same_Some first kept h)
  from None false next l o h = absurd (none-some kept h)
