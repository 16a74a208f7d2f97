-- Each of some requests stands behind those before it.
use Rattle.std.proofs.Common.{◌≡◌, ◌≢◌, ℕ, suc, ◌+◌, ◌<◌, ◌≤◌, List, [], ◌∷◌, ◌++◌, length, map, get_or, take, drop, Option, Some, None, refl, sym, ap, subst, ◌∙◌, arith, inl, inr}
use Rattle.std.specs.Prelude.{All, AllPairs, Contains}
use Rattle.std.specs.Option.{option_map, option_or}
use Rattle.std.proofs.lemmas.List.{drop_more, get_or-map, get_or-take, length-map, length-take-le, take-append-drop}
use Rattle.std.proofs.lemmas.List.Elements.{Contains-get_or}
use Rattle.base.specs.declared.file.FileName.{FileName}
use Rattle.base.specs.declared.graph.BuiltFile.{BuiltFile}
use Rattle.base.specs.declared.limits.TheConstants.{ARTEFACT_LIMIT, FILE_LIMIT, TEXT_LIMIT}
use Rattle.base.specs.Names.{FitsCommand, FitsName}
use Rattle.outside.specs.Records.{Record, built_of_record, latest}
use Rattle.store.proofs.Adding.{latest_other, latest_own}
use Rattle.store_form_2.proofs.Members.{either_first}
use Rattle.store_form_2.proofs.Picking.{AllPairs-head, AllPairs-tail}
use Rattle.store.specs.Taking.{AreEachNext}

abbrev OfOtherName : Record → Record → Type 0
OfOtherName a b = a.asked.name ≢ b.asked.name

latest_cons : (name : FileName) (first : Record) (rest : List Record) → latest name (first ∷ rest) ≡ option_or (latest name rest) (latest name (first ∷ []))
unfolding latest
latest_cons name first rest = refl

-- the latest record of a name that no other record has
latest_absent : (name : FileName) (records : List Record) → All (λ kept. kept.asked.name ≢ name) records → latest name records ≡ None
unfolding latest
latest_absent name [] none = refl
latest_absent name (first ∷ rest) none =
    latest_cons name first rest
    ∙ ap (λ (later : Option Record). option_or later (latest name (first ∷ []))) (latest_absent name rest (λ k d l. none (suc k) d (omega arith)))
    ∙ latest_other name [] first (none 0 first (omega arith))

pub latest_of : (records : List Record) → AllPairs OfOtherName records → (kept : Record) → Contains records kept → latest kept.asked.name records ≡ Some kept
latest_of [] apart kept has = absurd (omega (arith, has.1))
latest_of (first ∷ rest) apart kept has =
    elim (either_first first kept rest has) [
      | inl is ↦
          subst (λ (r : Record). latest r.asked.name (first ∷ rest) ≡ Some r) is
          (latest_cons first.asked.name first rest
          ∙ ap (λ (later : Option Record). option_or later (latest first.asked.name (first ∷ []))) (latest_absent first.asked.name rest (λ k d l e. AllPairs-head OfOtherName first rest apart k d l (sym e)))
          ∙ latest_own first.asked.name [] first refl)
      | inr more ↦
          latest_cons kept.asked.name first rest
          ∙ ap (λ (later : Option Record). option_or later (latest kept.asked.name (first ∷ []))) (latest_of rest (AllPairs-tail OfOtherName first rest apart) kept more)
    ]

abbrev pub no_record : Record
no_record = record { asked = record { command = []; name = record { library = []; path = [] }; text = []; below = [] }; artefact = [] }

-- a file that one of the records built was built by the latest of its name
built_latest : (records : List Record) → AllPairs OfOtherName records → (file : BuiltFile) → Contains (map built_of_record records) file → option_map built_of_record (latest file.name records) ≡ Some file
built_latest records apart file (k, low, is) =
    let n : k < length records = omega (arith, low, length-map records built_of_record) in
    let same : built_of_record (get_or records k no_record) ≡ file = sym (get_or-map built_of_record records k no_record file n) ∙ is in
    subst (λ (f : BuiltFile). option_map built_of_record (latest f.name records) ≡ Some f) same
    (ap (option_map built_of_record) (latest_of records apart (get_or records k no_record) (Contains-get_or records k no_record n)))

-- A list of requests that follow the laws of migration. Their names are distinct, and their parts are within the limits. The
-- files below a request have distinct names other than its own, and each was built by an earlier request of the list.
pub record AreSound (requests : List Record) : Type 0 where
  pub distinct : AllPairs (λ a b. a.asked.name ≢ b.asked.name) requests
  pub names : All (λ kept. FitsName kept.asked.name) requests
  pub commands : All (λ kept. FitsCommand kept.asked.command) requests
  pub texts : All (λ kept. length kept.asked.text ≤ TEXT_LIMIT) requests
  pub artefacts : All (λ kept. length kept.artefact ≤ ARTEFACT_LIMIT) requests
  pub few : All (λ kept. length kept.asked.below < FILE_LIMIT) requests
  pub apart : All (λ kept. AllPairs (λ a b. a.name ≢ b.name) kept.asked.below) requests
  pub others : All (λ kept. All (λ other. other.name ≢ kept.asked.name) kept.asked.below) requests
  pub earlier : (before rest : List Record) (kept : Record) → requests ≡ before ++ kept ∷ rest → All (Contains (map built_of_record before)) kept.asked.below

-- what holds of each two holds of each two of the first
pairs_first : (k : ℕ) (records : List Record) → k ≤ length records → AllPairs OfOtherName records → AllPairs OfOtherName (take k records)
pairs_first k records le apart i j d lt l =
    let low : j < k = omega (arith, l, length-take-le k records le) in
    subst (λ (r : Record). OfOtherName r (get_or (take k records) j d)) (sym (get_or-take k records i d (omega (arith, lt, low))))
    (subst (λ (r : Record). OfOtherName (get_or records i d) r) (sym (get_or-take k records j d low)) (apart i j d lt (omega (arith, low, le))))

-- so each can stand behind those before it
pub each_next : (requests : List Record) → AreSound requests → AreEachNext requests
each_next requests sound k other low =
    let kept : Record = get_or requests k other in
    let before : List Record = take k requests in
    let split : requests ≡ take k requests ++ get_or requests k other ∷ drop (k + 1) requests = sym (take-append-drop k requests) ∙ ap (λ (rest : List Record). take k requests ++ rest) (drop_more requests k other low) in
    let earlier : All (Contains (map built_of_record (take k requests))) kept.asked.below = sound.earlier (take k requests) (drop (k + 1) requests) kept split in
    record {
      name = sound.names k other low;
      command = sound.commands k other low;
      text = sound.texts k other low;
      artefact = sound.artefacts k other low;
      few = sound.few k other low;
      apart = sound.apart k other low;
      others = sound.others k other low;
      built = λ n file m. built_latest before (pairs_first k requests (omega (arith, low)) sound.distinct) (get_or kept.asked.below n file) (earlier n file m);
    }
