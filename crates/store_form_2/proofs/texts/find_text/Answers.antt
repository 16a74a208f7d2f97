use Rattle.std.proofs.Common.{◌≡◌, ◌≢◌, ◌<◌, ℕ, List, [], length, get_or, true≢false, sym, ap, subst, ◌∙◌, arith}
use Rattle.std.proofs.lemmas.List.{get_or-map, length-map}
use Rattle.std.proofs.lemmas.Slice.Eq.{bytes_eq-Decides}
use Rattle.store_form_2.specs.Locations.{IsUpTo, text_in, texts_in}
use Rattle.store_form_2.proofs.Fingerprinted.{candidate_low, further, is_found, not_found}
use Rattle.store_form_2.proofs.texts.find_text.Goals as goal

pub returns-then-eq : goal.returns-then-eq
returns-then-eq c =
    let payloads = c.args.segments.now.payloads in
    let locations = c.args.texts.now.locations.items in
    let texts : List (List ℕ) = texts_in payloads c.args.texts.now in
    let fingerprints = c.args.texts.now.fingerprints.fingerprints in
    let text = c.args.text.now in
    let number = c.in-Some.number in
    let up = subst (IsUpTo texts fingerprints text) c.in-Some.is c.loop-candidate.invariant in
    let low : number < length locations = omega (arith, candidate_low texts fingerprints text c.requires.fingerprinted number up, length-map locations (text_in payloads)) in
    let here : get_or texts number [] ≡ c.text_at.result.now = get_or-map (text_in payloads) locations number c.index.result.now [] low ∙ ap (text_in payloads) (sym c.index.ensures) ∙ sym c.text_at.ensures in
    is_found texts fingerprints text c.requires.fingerprinted number up (here ∙ (bytes_eq-Decides c.text_at.result.now text).0 (sym c.if-eq.ensures))

pub loop-candidate-preserved : goal.loop-candidate-preserved
loop-candidate-preserved c =
    let payloads = c.args.segments.now.payloads in
    let locations = c.args.texts.now.locations.items in
    let texts : List (List ℕ) = texts_in payloads c.args.texts.now in
    let fingerprints = c.args.texts.now.fingerprints.fingerprints in
    let text = c.args.text.now in
    let number = c.in-Some.number in
    let up = subst (IsUpTo texts fingerprints text) c.in-Some.is c.loop-candidate.invariant in
    let low : number < length locations = omega (arith, candidate_low texts fingerprints text c.requires.fingerprinted number up, length-map locations (text_in payloads)) in
    let here : get_or texts number [] ≡ c.text_at.result.now = get_or-map (text_in payloads) locations number c.index.result.now [] low ∙ ap (text_in payloads) (sym c.index.ensures) ∙ sym c.text_at.ensures in
    let other : get_or texts number [] ≢ text = λ same. true≢false (sym ((bytes_eq-Decides c.text_at.result.now text).1 (sym here ∙ same)) ∙ sym c.eq.ensures ∙ c.if-eq.false) in
    further texts fingerprints text c.requires.fingerprinted number c.earlier-candidate.result up other c.earlier-candidate.ensures

pub returns : goal.returns
returns c =
    let payloads = c.args.segments.now.payloads in
    let texts : List (List ℕ) = texts_in payloads c.args.texts.now in
    let fingerprints = c.args.texts.now.fingerprints.fingerprints in
    not_found texts fingerprints c.args.text.now c.requires.fingerprinted (subst (IsUpTo texts fingerprints c.args.text.now) c.in_default.is c.loop-candidate.invariant)
