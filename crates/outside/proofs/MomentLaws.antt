-- How promises about the moments of one call or run extend over the next call or run, for plain moments.
use Rattle.std.proofs.Common.{◌≡◌, List, [], ◌∷◌, ◌++◌, length, drop, refl, sym, ap, subst, ◌∙◌, append_assoc}
use Rattle.std.specs.List.{AllByRecursion}
use Rattle.std.proofs.Math.Seq.{drop-append_seam}
use Rattle.std.proofs.lemmas.List.{append-nil}
use Rattle.outside.specs.Disks.{DiskState, Image, Moments, all_of, EachImage, IsWithin, Shrinks, Goes, added_since, moments_since, Follows, AtAnyMoment, StaysTrue, NeverLoses}
use Rattle.outside.specs.Commits.{last_state}

pub last_state-append : (first middle : DiskState) (states later : List DiskState) → last_state first (states ++ middle ∷ later) ≡ last_state middle later
last_state-append first middle [] later = refl
last_state-append first middle (state ∷ states) later = last_state-append state middle states later

-- what was added is what is listed as added
pub added_is : (old new : Moments) (added : List DiskState) → all_of new ≡ all_of old ++ added → added_since old new ≡ added
added_is old new added is = ap (λ (l : List DiskState). drop (length (all_of old)) l) is ∙ drop-append_seam (all_of old) added

pub follows_by : (old new : Moments) (added : List DiskState) → all_of new ≡ all_of old ++ added → Follows old new
follows_by old new added is = is ∙ ap (λ (l : List DiskState). all_of old ++ l) (sym (added_is old new added is))

-- the last of what was added is the present
pub last_is : (old new : Moments) → Follows old new → last_state old.now (added_since old new) ≡ new.now
last_is old new follows =
    let whole : all_of new ≡ old.past ++ old.now ∷ added_since old new = follows ∙ append_assoc old.past (old.now ∷ []) (added_since old new) in
    sym (last_state-append old.now old.now old.past (added_since old new))
    ∙ ap (last_state old.now) (sym whole)
    ∙ last_state-append old.now new.now new.past []

-- two runs, one after the other, are a run
pub joined_follows : (old middle new : Moments) → Follows old middle → Follows middle new → all_of new ≡ all_of old ++ (added_since old middle ++ added_since middle new)
joined_follows old middle new first second =
    second
    ∙ ap (λ (l : List DiskState). l ++ added_since middle new) first
    ∙ append_assoc (all_of old) (added_since old middle) (added_since middle new)

-- a call keeps the moments before it
pub goes_follows : (during : DiskState) (old new : Moments) → Goes during old new → Follows old new
goes_follows during old new goes = follows_by old new goes.inside goes.added

pub all-append : (Q : DiskState → Type 0) (xs ys : List DiskState) → AllByRecursion Q xs → AllByRecursion Q ys → AllByRecursion Q (xs ++ ys)
all-append Q [] ys first second = second
all-append Q (x ∷ xs) ys first second = (first.0, all-append Q xs ys first.1 second)

pub all_last : (Q : DiskState → Type 0) (first : DiskState) (states : List DiskState) → AllByRecursion Q (first ∷ states) → Q (last_state first states)
all_last Q first [] all = all.0
all_last Q first (next ∷ later) all = all_last Q next later all.1

-- what each image of a call has, each image inside of it has
pub each_inside : (P : Image → Type 0) (during : DiskState) (inside : List DiskState) → Shrinks during inside → EachImage P during → AllByRecursion (EachImage P) inside
each_inside P during [] shrinks each = tt
each_inside P during (state ∷ later) shrinks each =
    let here : EachImage P state = λ image is. each image (shrinks.0 image is) in
    (here, each_inside P state later shrinks.2 here)

pub keeps_inside : (P : Image → Type 0) (during : DiskState) (inside : List DiskState) → Shrinks during inside → StaysTrue P during inside
keeps_inside P during [] shrinks = tt
keeps_inside P during (state ∷ later) shrinks = ((λ each image is. each image (shrinks.0 image is)), keeps_inside P state later shrinks.2)

-- the first step of a list of moments may begin elsewhere
pub keeps_from : (P : Image → Type 0) (first other : DiskState) (states : List DiskState) → (EachImage P first → EachImage P other) → StaysTrue P other states → StaysTrue P first states
keeps_from P first other [] to keeps = tt
keeps_from P first other (state ∷ later) to keeps = ((λ each. keeps.0 (to each)), keeps.1)

pub keeps-append : (P : Image → Type 0) (first : DiskState) (xs ys : List DiskState) → StaysTrue P first xs → StaysTrue P (last_state first xs) ys → StaysTrue P first (xs ++ ys)
keeps-append P first [] ys one two = two
keeps-append P first (x ∷ xs) ys one two = (one.0, keeps-append P x xs ys one.1 two)

pub keeps_last : (P : Image → Type 0) (first : DiskState) (states : List DiskState) → StaysTrue P first states → EachImage P first → EachImage P (last_state first states)
keeps_last P first [] keeps each = each
keeps_last P first (next ∷ later) keeps each = keeps_last P next later keeps.1 (keeps.0 each)

pub all_weaker : (P Q : Image → Type 0) (states : List DiskState) → ((image : Image) → P image → Q image) → AllByRecursion (EachImage P) states → AllByRecursion (EachImage Q) states
all_weaker P Q [] to all = tt
all_weaker P Q (state ∷ states) to all = ((λ image is. to image (all.0 image is)), all_weaker P Q states to all.1)

-- before the first call
pub started_moments : (moments : Moments) (P : Image → Type 0) → EachImage P moments.now → AtAnyMoment moments moments P
started_moments moments P each =
    let none : all_of moments ≡ all_of moments ++ [] = sym (append-nil (all_of moments)) in
    record {
      follows = follows_by moments moments [] none;
      each = subst (λ (l : List DiskState). AllByRecursion (EachImage P) (moments.now ∷ l)) (sym (added_is moments moments [] none)) (each, tt);
    }

-- the present is one of the moments
pub at_present : (old new : Moments) (P : Image → Type 0) → AtAnyMoment old new P → EachImage P new.now
at_present old new P moments = subst (EachImage P) (last_is old new moments.follows) (all_last (EachImage P) old.now (added_since old new) moments.each)

-- what holds of the moments of two runs, one after the other, holds of those of both
pub joined_moments : (old middle new : Moments) (P : Image → Type 0) → AtAnyMoment old middle P → AtAnyMoment middle new P → AtAnyMoment old new P
joined_moments old middle new P first second =
    let whole = joined_follows old middle new first.follows second.follows in
    record {
      follows = follows_by old new (added_since old middle ++ added_since middle new) whole;
      each = subst (λ (l : List DiskState). AllByRecursion (EachImage P) (old.now ∷ l)) (sym (added_is old new (added_since old middle ++ added_since middle new) whole))
          (all-append (EachImage P) (old.now ∷ added_since old middle) (added_since middle new) first.each second.each.1);
    }

-- one call: what each image has at its start and inside of it
pub call_moments : (during : DiskState) (old new : Moments) (P : Image → Type 0) → Goes during old new → EachImage P old.now → EachImage P during → AtAnyMoment old new P
call_moments during old new P goes before inside =
    record {
      follows = goes_follows during old new goes;
      each = subst (λ (l : List DiskState). AllByRecursion (EachImage P) (old.now ∷ l)) (sym (added_is old new goes.inside goes.added)) (before, each_inside P during goes.inside goes.shrinks inside);
    }

-- a run, and then a call inside of which each image has P
pub goes_on : (during : DiskState) (old middle new : Moments) (P : Image → Type 0) → AtAnyMoment old middle P → Goes during middle new → EachImage P during → AtAnyMoment old new P
goes_on during old middle new P run goes inside = joined_moments old middle new P run (call_moments during middle new P goes (at_present old middle P run) inside)

-- what follows from P holds where P does
pub weaker_moments : (old new : Moments) (P Q : Image → Type 0) → ((image : Image) → P image → Q image) → AtAnyMoment old new P → AtAnyMoment old new Q
weaker_moments old new P Q to moments = record { follows = moments.follows; each = all_weaker P Q (moments_since old new) to moments.each }

-- before the first call nothing is lost
pub loses_nothing : (moments : Moments) (P : Image → Type 0) → NeverLoses moments moments P
loses_nothing moments P =
    let none : all_of moments ≡ all_of moments ++ [] = sym (append-nil (all_of moments)) in
    record {
      follows = follows_by moments moments [] none;
      keeps = subst (StaysTrue P moments.now) (sym (added_is moments moments [] none)) tt;
    }

-- at the end of a run, what was had at its start is had
pub kept_at_present : (old new : Moments) (P : Image → Type 0) → NeverLoses old new P → EachImage P old.now → EachImage P new.now
kept_at_present old new P never each = subst (EachImage P) (last_is old new never.follows) (keeps_last P old.now (added_since old new) never.keeps each)

-- two runs that lose nothing, one after the other, lose nothing
pub joined_losses : (old middle new : Moments) (P : Image → Type 0) → NeverLoses old middle P → NeverLoses middle new P → NeverLoses old new P
joined_losses old middle new P first second =
    let whole = joined_follows old middle new first.follows second.follows in
    let then : StaysTrue P (last_state old.now (added_since old middle)) (added_since middle new) = subst (λ (s : DiskState). StaysTrue P s (added_since middle new)) (sym (last_is old middle first.follows)) second.keeps in
    record {
      follows = follows_by old new (added_since old middle ++ added_since middle new) whole;
      keeps = subst (StaysTrue P old.now) (sym (added_is old new (added_since old middle ++ added_since middle new) whole)) (keeps-append P old.now (added_since old middle) (added_since middle new) first.keeps then);
    }

-- one call loses nothing that its start hands on to the images inside of it
pub call_loses_nothing : (during : DiskState) (old new : Moments) (P : Image → Type 0) → Goes during old new → (EachImage P old.now → EachImage P during) → NeverLoses old new P
call_loses_nothing during old new P goes to =
    record {
      follows = goes_follows during old new goes;
      keeps = subst (StaysTrue P old.now) (sym (added_is old new goes.inside goes.added)) (keeps_from P old.now during goes.inside to (keeps_inside P during goes.inside goes.shrinks));
    }

-- a run that loses nothing, and then such a call
pub loses_nothing_then : (during : DiskState) (old middle new : Moments) (P : Image → Type 0) → NeverLoses old middle P → Goes during middle new → (EachImage P middle.now → EachImage P during) → NeverLoses old new P
loses_nothing_then during old middle new P never goes to = joined_losses old middle new P never (call_loses_nothing during middle new P goes to)

-- what lies within one state lies within a looser one
shrinks_from : (looser state : DiskState) (inside : List DiskState) → IsWithin looser state → Shrinks state inside → Shrinks looser inside
shrinks_from looser state [] within shrinks = tt
shrinks_from looser state (next ∷ later) within shrinks = ((λ image is. within image (shrinks.0 image is)), shrinks.1, shrinks.2)

shrinks-append : (during state : DiskState) (xs ys : List DiskState) → IsWithin (last_state during xs) state → Shrinks during xs → Shrinks state ys → Shrinks during (xs ++ ys)
shrinks-append during state [] ys within first second = shrinks_from during state ys within second
shrinks-append during state (x ∷ xs) ys within first second = (first.0, first.1, shrinks-append x state xs ys within first.2 second)

-- the end of a call lies within the last moment inside of it
ends_within : (during start end : DiskState) (inside : List DiskState) → last_state start inside ≡ end → IsWithin during end → IsWithin (last_state during inside) end
ends_within during start end [] is within = within
ends_within during start end (x ∷ inside) is within = subst (λ (s : DiskState). IsWithin s end) (sym is) (λ image there. there)

-- a call, and then one that adds no image, are like the first call
pub goes_then : (during : DiskState) (old middle new : Moments) → Goes during old middle → Goes middle.now middle new → Goes during old new
goes_then during old middle new first second =
    let last : last_state old.now first.inside ≡ middle.now = subst (λ (l : List DiskState). last_state old.now l ≡ middle.now) (added_is old middle first.inside first.added) (last_is old middle (goes_follows during old middle first)) in
    record {
      inside = first.inside ++ second.inside;
      added = second.added ∙ ap (λ (l : List DiskState). l ++ second.inside) first.added ∙ append_assoc (all_of old) first.inside second.inside;
      shrinks = shrinks-append during middle.now first.inside second.inside (ends_within during old.now middle.now first.inside last first.within) first.shrinks second.shrinks;
      within = λ image is. first.within image (second.within image is);
    }
