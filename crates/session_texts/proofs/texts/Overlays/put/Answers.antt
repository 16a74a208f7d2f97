-- One entry is put, and its bytes replace those of the earlier text.
use Rattle.std.proofs.Common.{◌≡◌, ◌≤◌, ℕ, Bool, List, cond, length, ap, sym, subst, ◌∙◌, arith}
use Rattle.base.specs.declared.limits.TheConstants.{TEXT_LIMIT, GRAPH_TEXT_LIMIT}
use Rattle.outside.specs.Trees.{IsName}
use Rattle.session_texts.specs.Texts.{AreAllowedTexts, length_at, text_sum, with_text}
use Rattle.session_texts.specs.Entries.{texts_of}
use Rattle.session_texts.proofs.TextLemmas.{allowed_put, no_longer, over_sum, put_is, total_put, within}
use Rattle.session_texts.proofs.texts.Overlays.put.Goals as goal

pub overflow_sub-total : goal.overflow_sub-total
overflow_sub-total c =
    let total : c.self.inside.total ≡ text_sum c.args.self.now = c.self.invariant.1 ∙ ap text_sum c.self.view_is in
    let low = no_longer c.args.path c.args.self.now in
    let here : c.length_of.result ≡ length_at c.args.self.now c.args.path = c.length_of.ensures ∙ ap (length_at c.args.self.now) c.bytes-2.ensures in
    omega (arith, total, low, here)

pub returns-then-total-clause-fits : goal.returns-then-total-clause-fits
returns-then-total-clause-fits c =
    let total : c.self.inside.total ≡ text_sum c.args.self.now = c.self.invariant.1 ∙ ap text_sum c.self.view_is in
    let here : c.length_of.result ≡ length_at c.args.self.now c.args.path = c.length_of.ensures ∙ ap (length_at c.args.self.now) c.bytes-2.ensures in
    let long : length c.bytes.result.now ≡ length c.args.text = ap (λ bytes. length bytes) c.bytes.ensures in
    let sum = total_put c.args.path c.args.text c.args.self.now c.self.inside.total c.length_of.result c.len-count.ensures.rising total here in
    over_sum c.args.self.now c.args.path c.args.text (omega (arith, sum, long, c.if-total.true))

pub returns-then-total-clause-put : goal.returns-then-total-clause-put
returns-then-total-clause-put c =
    let total : c.self.inside.total ≡ text_sum c.args.self.now = c.self.invariant.1 ∙ ap text_sum c.self.view_is in
    let here : c.length_of.result ≡ length_at c.args.self.now c.args.path = c.length_of.ensures ∙ ap (length_at c.args.self.now) c.bytes-2.ensures in
    let long : length c.bytes.result.now ≡ length c.args.text = ap (λ bytes. length bytes) c.bytes.ensures in
    let sum = total_put c.args.path c.args.text c.args.self.now c.self.inside.total c.length_of.result c.len-count.ensures.rising total here in
    ap (λ (b : Bool). cond b (with_text c.args.path c.args.text c.args.self.now) c.args.self.now) (over_sum c.args.self.now c.args.path c.args.text (omega (arith, sum, long, c.if-total.true)))

pub invariant_of-self-2 : goal.invariant_of-self-2
invariant_of-self-2 c =
    let total : c.self.inside.total ≡ text_sum c.args.self.now = c.self.invariant.1 ∙ ap text_sum c.self.view_is in
    let here : c.length_of.result ≡ length_at c.args.self.now c.args.path = c.length_of.ensures ∙ ap (length_at c.args.self.now) c.bytes-2.ensures in
    let long : length c.bytes.result.now ≡ length c.args.text = ap (λ bytes. length bytes) c.bytes.ensures in
    let sum = total_put c.args.path c.args.text c.args.self.now c.self.inside.total c.length_of.result c.len-count.ensures.rising total here in
    let short : length c.args.text ≤ TEXT_LIMIT = omega (arith, long, c.if-length.false) in
    let few : text_sum (with_text c.args.path c.args.text c.args.self.now) ≤ GRAPH_TEXT_LIMIT = omega (arith, sum, long, c.if-total.false) in
    let is : texts_of c.insert.new.self.entries ≡ with_text c.args.path c.args.text c.args.self.now =
    ap texts_of c.in_ok-insert.ensures.entries ∙ (put_is c.self.inside.map.entries c.into_vec.result c.args.text
    ∙ (ap (λ (path : List ℕ). with_text path c.args.text (texts_of c.self.inside.map.entries)) c.into_vec.ensures ∙ ap (with_text c.args.path c.args.text) c.self.view_is)) in
    let name : IsName c.args.path = record { some = c.requires.some; short = c.requires.short; text = c.requires.text } in
    let all = ap text_sum is in (
      subst AreAllowedTexts (sym is) (allowed_put c.args.path c.args.text c.args.self.now (subst AreAllowedTexts c.self.view_is c.self.invariant.0) name short few),
      omega (arith, all, sum, long),
    )

pub returns-clause-fits : goal.returns-clause-fits
returns-clause-fits c =
    let total : c.self.inside.total ≡ text_sum c.args.self.now = c.self.invariant.1 ∙ ap text_sum c.self.view_is in
    let here : c.length_of.result ≡ length_at c.args.self.now c.args.path = c.length_of.ensures ∙ ap (length_at c.args.self.now) c.bytes-2.ensures in
    let long : length c.bytes.result.now ≡ length c.args.text = ap (λ bytes. length bytes) c.bytes.ensures in
    let sum = total_put c.args.path c.args.text c.args.self.now c.self.inside.total c.length_of.result c.len-count.ensures.rising total here in
    within c.args.self.now c.args.path c.args.text (omega (arith, long, c.if-length.false)) (omega (arith, sum, long, c.if-total.false))

pub returns-clause-put : goal.returns-clause-put
returns-clause-put c =
    let total : c.self.inside.total ≡ text_sum c.args.self.now = c.self.invariant.1 ∙ ap text_sum c.self.view_is in
    let here : c.length_of.result ≡ length_at c.args.self.now c.args.path = c.length_of.ensures ∙ ap (length_at c.args.self.now) c.bytes-2.ensures in
    let long : length c.bytes.result.now ≡ length c.args.text = ap (λ bytes. length bytes) c.bytes.ensures in
    let sum = total_put c.args.path c.args.text c.args.self.now c.self.inside.total c.length_of.result c.len-count.ensures.rising total here in
    let fits = within c.args.self.now c.args.path c.args.text (omega (arith, long, c.if-length.false)) (omega (arith, sum, long, c.if-total.false)) in
    ap texts_of c.in_ok-insert.ensures.entries ∙ (put_is c.self.inside.map.entries c.into_vec.result c.args.text
    ∙ (ap (λ (path : List ℕ). with_text path c.args.text (texts_of c.self.inside.map.entries)) c.into_vec.ensures ∙ (ap (with_text c.args.path c.args.text) c.self.view_is
    ∙ ap (λ (b : Bool). cond b (with_text c.args.path c.args.text c.args.self.now) c.args.self.now) fits)))
