use Rattle.std.proofs.Common.{◌≡◌, ℕ, List, length, ◌≤◌, [], ◌∷◌, ◌++◌, take, drop, ap, ◌∙◌, arith}
use Rattle.std.specs.Int.{w64, to_le_bytes}
use Rattle.base.specs.Bytes.{text_bytes}
use Rattle.store_journal.specs.Payloads.{header, magic}
use Rattle.store_journal.proofs.Headers.{write_begins, write_goes_on, write_ends}
use Rattle.store_journal.proofs.layout.full_side.Goals as goal

pub loop-i-init : goal.loop-i-init
unfolding header
loop-i-init c =
    let begun : c.plain.new.self ≡ [] ++ take 9 (drop 1 c.magic_of.result) = c.in_ok-plain.ensures ∙ ap (λ (bs : List ℕ). bs ++ take 9 (drop 1 c.magic_of.result)) c.new-out.ensures in
    let with_magic : 1 ∷ c.plain.new.self ≡ magic c.args.form = ap (λ (bs : List ℕ). 1 ∷ bs) begun ∙ ap (λ (bs : List ℕ). 1 ∷ take 9 (drop 1 bs)) c.magic_of.ensures in
    let whole : 1 ∷ c.u64.new.self ≡ header c.args.form c.args.generation = ap (λ (bs : List ℕ). 1 ∷ bs) c.in_ok-u64.ensures ∙ ap (λ (bs : List ℕ). bs ++ to_le_bytes w64 c.args.generation) with_magic in
    write_begins c.args.form c.args.generation c.args.payloads.now c.u64.new.self whole

pub loop-i-preserved : goal.loop-i-preserved
loop-i-preserved c =
    let wrote : c.text.new.self ≡ (c.loop-i.out ++ 1 ∷ []) ++ text_bytes c.get.result.now = c.in_ok-text.ensures ∙ ap (λ (bs : List ℕ). bs ++ text_bytes c.get.result.now) c.in_ok-plain-2.ensures in
    rw wrote (write_goes_on c.args.form c.args.generation c.args.payloads.now c.loop-i.i c.loop-i.out c.get.result.now c.loop-i.invariant c.get.ensures.payload c.get.ensures.small)

pub returns : goal.returns
returns c =
    let all : length c.args.payloads.now ≤ c.loop-i.i = omega arith in
    let whole = write_ends c.args.form c.args.generation c.args.payloads.now c.loop-i.i c.loop-i.out c.loop-i.invariant all in
    let is : c.into_text.result ≡ c.loop-i.out ++ 0 ∷ [] = c.into_text.ensures ∙ c.in_ok-plain-3.ensures in
    record { bytes = ap (λ (bs : List ℕ). 1 ∷ bs) is ∙ whole.0; small = whole.1 }
