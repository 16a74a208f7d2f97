use Rattle.std.proofs.Common.{◌≡◌, ◌^◌, ◌<◌, List, ℕ, [], ◌∷◌, ◌++◌, length, drop, ap, subst, sym, ◌∙◌, arith}
use Rattle.base.specs.Bytes.{text_bytes}
use Rattle.store_journal.specs.Journals.{IsReady, payload_within}
use Rattle.store_journal.proofs.Framed.{within}
use Rattle.store_journal.proofs.ready.Ready.of.Goals as goal

ready : (payload : List ℕ) → length payload < 2 ^ 32 → IsReady (text_bytes payload ++ 0 ∷ [])
ready payload small = record {
  parts = ap (λ (p : List ℕ). text_bytes p ++ 0 ∷ []) (sym (within payload));
  small = omega (arith, ap length (within payload));
}

pub invariant_of-result : goal.invariant_of-result
invariant_of-result c =
    let is : c.into_text.result ≡ text_bytes (drop 4 c.args.frame) ++ 0 ∷ [] = c.into_text.ensures ∙ c.in_ok-plain.ensures ∙ ap (λ (bs : List ℕ). bs ++ 0 ∷ []) c.requires.length in
    subst IsReady (sym is) (ready (drop 4 c.args.frame) c.requires.small)

pub returns : goal.returns
returns c =
    let is : c.into_text.result ≡ text_bytes (drop 4 c.args.frame) ++ 0 ∷ [] = c.into_text.ensures ∙ c.in_ok-plain.ensures ∙ ap (λ (bs : List ℕ). bs ++ 0 ∷ []) c.requires.length in
    ap payload_within is ∙ within (drop 4 c.args.frame)
