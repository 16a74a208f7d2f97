-- A payload that is read is spelled so, and what is spelled so is read.
use Rattle.std.proofs.Common.{◌≡◌, ℕ, suc, ◌^◌, ◌<◌, cond, eqb, Bool, true, false, List, [], ◌∷◌, ◌++◌, length, Option, Some, None, refl, sym, ap, subst, ◌∙◌, inl, inr}
use Rattle.std.specs.Prelude.{◌⊎◌}
use Rattle.std.specs.Int.{w64, to_le_bytes}
use Rattle.std.proofs.lemmas.Bool.{eqb-true}
use Rattle.std.proofs.lemmas.List.{append-nil}
use Rattle.std.proofs.lemmas.Option.{same_Some, none-some}
use Rattle.base.specs.Bytes.{text_bytes}
use Rattle.base.specs.Jobs.{name_bytes}
use Rattle.base_bytes.specs.Reading.{◌>>=◌, AreBytes, Takes, counted_at, number_at, text_at}
use Rattle.base_bytes.specs.Names.{name_at}
use Rattle.base_bytes.proofs.Fields.{Takes-then, bind_some, ends_there, guard_ended, text_again, text_takes, u64_again, u64_takes}
use Rattle.base_bytes.proofs.Many.{by_index, by_recursion, counted_again, counted_take}
use Rattle.base_bytes.proofs.NameFields.{name_again, name_takes}
use Rattle.store_codec.specs.Forms.{HasProductSpelling, HasRefSpelling, HasRequestSpelling, IsSpellable, ProductDraft, RequestDraft, RequestPayload, command_bytes, product_draft_bytes, product_in, product_numbers_bytes, request_draft_bytes, request_in, request_payload_by, request_payload_bytes, request_payload_in, text_ref_bytes}
use Rattle.base_bytes.specs.TextRefs.{TextRef, ref_by_number_at, ref_in_full_at, text_ref_at, text_ref_by}
use Rattle.base_bytes.specs.Ranges.{read_whole, byte_at}
use Rattle.store_codec.specs.Forms.RequestPayload.{OfProduct, OfRequest}
use Rattle.base_bytes.specs.TextRefs.TextRef.{ByNumber, InFull}

abbrev TextFits : List ℕ → Type 0
TextFits text = length text < 2 ^ 32

abbrev NumberFits : ℕ → Type 0
NumberFits n = n < 2 ^ 64

-- one of two readings answered
pub two_ways : {X : Type 0} (test : Bool) (one other : Option X) (x : X) → cond test one other ≡ Some x → ((test ≡ true) × (one ≡ Some x)) ⊎ ((test ≡ false) × (other ≡ Some x))
two_ways true one other x e = inl (refl, e)
two_ways false one other x e = inr (refl, e)

pub tag_takes : (bytes : List ℕ) (tag : ℕ) (left : List ℕ) → AreBytes bytes → byte_at bytes ≡ Some (tag, left) → (bytes ≡ tag ∷ left) × AreBytes left
tag_takes [] tag left fits e = absurd (none-some (tag, left) e)
tag_takes (first ∷ rest) tag left fits e =
    subst (λ (y : ℕ × List ℕ). (first ∷ rest ≡ y.0 ∷ y.1) × AreBytes y.1) (same_Some (first, rest) (tag, left) e) (refl, λ i. fits (suc i))

number_takes : (bytes : List ℕ) (source : TextRef) (left : List ℕ) → AreBytes bytes → ref_by_number_at bytes ≡ Some (source, left) → Takes (0 ∷ bytes) (text_ref_bytes source) left × HasRefSpelling source
unfolding ref_by_number_at text_ref_bytes
number_takes bytes source left fits e =
    let a = bind_some (number_at w64 bytes) (λ number. Some (ByNumber number.0, number.1)) (source, left) e in
    let t = u64_takes bytes a.0.0 a.0.1 fits a.1 in
    subst (λ (y : TextRef × List ℕ). Takes (0 ∷ bytes) (text_ref_bytes y.0) y.1 × HasRefSpelling y.0) (same_Some (ByNumber a.0.0, a.0.1) (source, left) a.2)
    (record { parts = ap (λ (bs : List ℕ). 0 ∷ bs) t.0.parts; left_are_bytes = t.0.left_are_bytes }, t.1)

full_takes : (bytes : List ℕ) (source : TextRef) (left : List ℕ) → AreBytes bytes → ref_in_full_at bytes ≡ Some (source, left) → Takes (1 ∷ bytes) (text_ref_bytes source) left × HasRefSpelling source
unfolding ref_in_full_at text_ref_bytes
full_takes bytes source left fits e =
    let a = bind_some (text_at bytes) (λ text. Some (InFull text.0, text.1)) (source, left) e in
    let t = text_takes bytes a.0.0 a.0.1 fits a.1 in
    subst (λ (y : TextRef × List ℕ). Takes (1 ∷ bytes) (text_ref_bytes y.0) y.1 × HasRefSpelling y.0) (same_Some (InFull a.0.0, a.0.1) (source, left) a.2)
    (record { parts = ap (λ (bs : List ℕ). 1 ∷ bs) t.0.parts; left_are_bytes = t.0.left_are_bytes }, t.1)

ref_by_takes : (tag : ℕ) (bytes : List ℕ) (source : TextRef) (left : List ℕ) → AreBytes bytes → text_ref_by tag bytes ≡ Some (source, left) → Takes (tag ∷ bytes) (text_ref_bytes source) left × HasRefSpelling source
unfolding text_ref_by
ref_by_takes tag bytes source left fits e =
    elim (two_ways (eqb tag 0) (ref_by_number_at bytes) (cond (eqb tag 1) (ref_in_full_at bytes) None) (source, left) e) [
      | inl one ↦ subst (λ (t : ℕ). Takes (t ∷ bytes) (text_ref_bytes source) left × HasRefSpelling source) (sym (eqb-true tag 0 one.0)) (number_takes bytes source left fits one.1)
      | inr other ↦ elim (two_ways (eqb tag 1) (ref_in_full_at bytes) None (source, left) other.1) [
        | inl one ↦ subst (λ (t : ℕ). Takes (t ∷ bytes) (text_ref_bytes source) left × HasRefSpelling source) (sym (eqb-true tag 1 one.0)) (full_takes bytes source left fits one.1)
        | inr none ↦ absurd (none-some (source, left) none.1)
      ]
    ]

pub ref_takes : (bytes : List ℕ) (source : TextRef) (left : List ℕ) → AreBytes bytes → text_ref_at bytes ≡ Some (source, left) → Takes bytes (text_ref_bytes source) left × HasRefSpelling source
unfolding text_ref_at
ref_takes bytes source left fits e =
    let a = bind_some (byte_at bytes) (λ tag. text_ref_by tag.0 tag.1) (source, left) e in
    let t = tag_takes bytes a.0.0 a.0.1 fits a.1 in
    subst (λ (bs : List ℕ). Takes bs (text_ref_bytes source) left × HasRefSpelling source) (sym t.0) (ref_by_takes a.0.0 a.0.1 source left t.1 a.2)

pub ref_again : (source : TextRef) (left : List ℕ) → HasRefSpelling source → text_ref_at (text_ref_bytes source ++ left) ≡ Some (source, left)
unfolding text_ref_at text_ref_by ref_by_number_at ref_in_full_at text_ref_bytes
ref_again (ByNumber number) left fits = rw (u64_again number left fits) refl
ref_again (InFull text) left fits = rw (text_again text left fits) refl

-- a payload after its tag
abbrev IsSpelledBy : List ℕ → RequestPayload → Type 0
IsSpelledBy bytes payload = (bytes ≡ request_payload_bytes payload) × IsSpellable payload

product_takes : (bytes : List ℕ) (payload : RequestPayload) → AreBytes bytes → product_in bytes ≡ Some payload → IsSpelledBy (0 ∷ bytes) payload
unfolding product_in request_payload_bytes product_draft_bytes
product_takes bytes payload fits e =
    let a = bind_some (name_at bytes) (λ name. text_ref_at name.1 >>= λ artefact. read_whole (OfProduct (record { name = name.0; artefact = artefact.0 }), artefact.1)) payload e in
    let b = bind_some (text_ref_at a.0.1) (λ artefact. read_whole (OfProduct (record { name = a.0.0; artefact = artefact.0 }), artefact.1)) payload a.2 in
    let g = guard_ended (eqb (length b.0.1) 0) (OfProduct (record { name = a.0.0; artefact = b.0.0 })) payload b.2 in
    let t0 = name_takes bytes a.0.0 a.0.1 fits a.1 in
    let t1 = ref_takes a.0.1 b.0.0 b.0.1 t0.0.left_are_bytes b.1 in
    let both = Takes-then bytes (name_bytes a.0.0) a.0.1 (text_ref_bytes b.0.0) b.0.1 t0.0 t1.0 in
    let whole = ends_there bytes (name_bytes a.0.0 ++ text_ref_bytes b.0.0) b.0.1 both g.0 in
    subst (λ (p : RequestPayload). IsSpelledBy (0 ∷ bytes) p) g.1 (ap (λ (bs : List ℕ). 0 ∷ bs) whole, record { name = t0.1; artefact = t1.1 })

request_takes : (bytes : List ℕ) (payload : RequestPayload) → AreBytes bytes → request_in bytes ≡ Some payload → IsSpelledBy (1 ∷ bytes) payload
unfolding request_in request_payload_bytes request_draft_bytes command_bytes product_numbers_bytes
request_takes bytes payload fits e =
    let a = bind_some (name_at bytes) (λ name. counted_at text_at name.1 >>= λ command. text_ref_at command.1 >>= λ source. counted_at (number_at w64) source.1 >>= λ deps. text_ref_at deps.1 >>= λ artefact. read_whole (OfRequest (record { name = name.0; command = command.0; source = source.0; deps = deps.0; artefact = artefact.0 }), artefact.1)) payload e in
    let b = bind_some (counted_at text_at a.0.1) (λ command. text_ref_at command.1 >>= λ source. counted_at (number_at w64) source.1 >>= λ deps. text_ref_at deps.1 >>= λ artefact. read_whole (OfRequest (record { name = a.0.0; command = command.0; source = source.0; deps = deps.0; artefact = artefact.0 }), artefact.1)) payload a.2 in
    let c = bind_some (text_ref_at b.0.1) (λ source. counted_at (number_at w64) source.1 >>= λ deps. text_ref_at deps.1 >>= λ artefact. read_whole (OfRequest (record { name = a.0.0; command = b.0.0; source = source.0; deps = deps.0; artefact = artefact.0 }), artefact.1)) payload b.2 in
    let d = bind_some (counted_at (number_at w64) c.0.1) (λ deps. text_ref_at deps.1 >>= λ artefact. read_whole (OfRequest (record { name = a.0.0; command = b.0.0; source = c.0.0; deps = deps.0; artefact = artefact.0 }), artefact.1)) payload c.2 in
    let f = bind_some (text_ref_at d.0.1) (λ artefact. read_whole (OfRequest (record { name = a.0.0; command = b.0.0; source = c.0.0; deps = d.0.0; artefact = artefact.0 }), artefact.1)) payload d.2 in
    let made : RequestPayload = OfRequest (record { name = a.0.0; command = b.0.0; source = c.0.0; deps = d.0.0; artefact = f.0.0 }) in
    let g = guard_ended (eqb (length f.0.1) 0) made payload f.2 in
    let t0 = name_takes bytes a.0.0 a.0.1 fits a.1 in
    let t1 = counted_take text_at text_bytes TextFits text_takes a.0.1 b.0.0 b.0.1 t0.0.left_are_bytes b.1 in
    let t2 = ref_takes b.0.1 c.0.0 c.0.1 t1.0.left_are_bytes c.1 in
    let t3 = counted_take (number_at w64) (to_le_bytes w64) NumberFits u64_takes c.0.1 d.0.0 d.0.1 t2.0.left_are_bytes d.1 in
    let t4 = ref_takes d.0.1 f.0.0 f.0.1 t3.0.left_are_bytes f.1 in
    let e34 = Takes-then c.0.1 (product_numbers_bytes d.0.0) d.0.1 (text_ref_bytes f.0.0) f.0.1 t3.0 t4.0 in
    let e24 = Takes-then b.0.1 (text_ref_bytes c.0.0) c.0.1 (product_numbers_bytes d.0.0 ++ text_ref_bytes f.0.0) f.0.1 t2.0 e34 in
    let e14 = Takes-then a.0.1 (command_bytes b.0.0) b.0.1 (text_ref_bytes c.0.0 ++ (product_numbers_bytes d.0.0 ++ text_ref_bytes f.0.0)) f.0.1 t1.0 e24 in
    let e04 = Takes-then bytes (name_bytes a.0.0) a.0.1 (command_bytes b.0.0 ++ (text_ref_bytes c.0.0 ++ (product_numbers_bytes d.0.0 ++ text_ref_bytes f.0.0))) f.0.1 t0.0 e14 in
    let whole = ends_there bytes (name_bytes a.0.0 ++ (command_bytes b.0.0 ++ (text_ref_bytes c.0.0 ++ (product_numbers_bytes d.0.0 ++ text_ref_bytes f.0.0)))) f.0.1 e04 g.0 in
    subst (λ (p : RequestPayload). IsSpelledBy (1 ∷ bytes) p) g.1
    (ap (λ (bs : List ℕ). 1 ∷ bs) whole, record { name = t0.1; count = t1.1; words = by_index TextFits b.0.0 t1.2; source = t2.1; few = t3.1; deps = by_index NumberFits d.0.0 t3.2; artefact = t4.1 })

payload_by_takes : (tag : ℕ) (bytes : List ℕ) (payload : RequestPayload) → AreBytes bytes → request_payload_by tag bytes ≡ Some payload → IsSpelledBy (tag ∷ bytes) payload
unfolding request_payload_by
payload_by_takes tag bytes payload fits e =
    elim (two_ways (eqb tag 0) (product_in bytes) (cond (eqb tag 1) (request_in bytes) None) payload e) [
      | inl one ↦ subst (λ (t : ℕ). IsSpelledBy (t ∷ bytes) payload) (sym (eqb-true tag 0 one.0)) (product_takes bytes payload fits one.1)
      | inr other ↦ elim (two_ways (eqb tag 1) (request_in bytes) None payload other.1) [
        | inl one ↦ subst (λ (t : ℕ). IsSpelledBy (t ∷ bytes) payload) (sym (eqb-true tag 1 one.0)) (request_takes bytes payload fits one.1)
        | inr none ↦ absurd (none-some payload none.1)
      ]
    ]

pub payload_takes : (bytes : List ℕ) (payload : RequestPayload) → AreBytes bytes → request_payload_in bytes ≡ Some payload → IsSpelledBy bytes payload
unfolding request_payload_in
payload_takes bytes payload fits e =
    let a = bind_some (byte_at bytes) (λ tag. request_payload_by tag.0 tag.1) payload e in
    let t = tag_takes bytes a.0.0 a.0.1 fits a.1 in
    subst (λ (bs : List ℕ). IsSpelledBy bs payload) (sym t.0) (payload_by_takes a.0.0 a.0.1 payload t.1 a.2)

-- a text at the end
last_ref : (source : TextRef) → HasRefSpelling source → text_ref_at (text_ref_bytes source) ≡ Some (source, [])
last_ref source fits = ap text_ref_at (sym (append-nil (text_ref_bytes source))) ∙ ref_again source [] fits

product_again : (draft : ProductDraft) → HasProductSpelling draft → product_in (product_draft_bytes draft) ≡ Some (OfProduct draft)
unfolding product_in product_draft_bytes
product_again draft fits = rw (name_again draft.name (text_ref_bytes draft.artefact) fits.name, last_ref draft.artefact fits.artefact) refl

request_again : (draft : RequestDraft) → HasRequestSpelling draft → request_in (request_draft_bytes draft) ≡ Some (OfRequest draft)
unfolding request_in request_draft_bytes command_bytes product_numbers_bytes
request_again draft fits =
    let s : List ℕ = text_ref_bytes draft.source in
    let p : List ℕ = product_numbers_bytes draft.deps in
    let r : List ℕ = text_ref_bytes draft.artefact in
    rw (
      name_again draft.name (command_bytes draft.command ++ (s ++ (p ++ r))) fits.name,
      counted_again text_at text_bytes TextFits text_again draft.command (s ++ (p ++ r)) fits.count (by_recursion TextFits draft.command fits.words),
      ref_again draft.source (p ++ r) fits.source,
      counted_again (number_at w64) (to_le_bytes w64) NumberFits u64_again draft.deps r fits.few (by_recursion NumberFits draft.deps fits.deps),
      last_ref draft.artefact fits.artefact,
    ) refl

pub payload_again : (payload : RequestPayload) → IsSpellable payload → request_payload_in (request_payload_bytes payload) ≡ Some payload
unfolding request_payload_in request_payload_by request_payload_bytes
payload_again (OfProduct draft) fits = product_again draft fits
payload_again (OfRequest draft) fits = request_again draft fits
