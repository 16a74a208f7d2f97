use Rattle.std.proofs.Common.{◌≡◌, ℕ, ◌<◌, List, [], ◌∷◌, ◌++◌, length, map, get_or, Option, Some, None, refl, sym, ap, subst, ◌∙◌, arith}
use Rattle.std.specs.Prelude.{OnOk}
use Rattle.std.proofs.lemmas.List.{get_or-map, length-map, take_all, take_more}
use Rattle.outside.specs.Records.{Record}
use Rattle.store_codec.specs.RecordTables.{record_table_of}
use Rattle.store.specs.Taking.{IsNext, request_at}
use Rattle.store.proofs.Following.{no_record}
use Rattle.store.proofs.takeover.requests_of.Goals as goal

as_many : (f : ℕ → Option Record) (rows : List ℕ) (requests : List Record) → map f rows ≡ map (λ kept. Some kept) requests → length rows ≡ length requests
as_many f rows requests all = sym (length-map rows f) ∙ ap length all ∙ length-map requests (λ (kept : Record). Some kept)

-- the request of a row
row_is : (f : ℕ → Option Record) (rows : List ℕ) (requests : List Record) → map f rows ≡ map (λ kept. Some kept) requests → (i : ℕ) → i < length rows → f (get_or rows i 0) ≡ Some (get_or requests i no_record)
row_is f rows requests all i l =
    sym (get_or-map f rows i 0 None l) ∙ ap (λ (os : List (Option Record)). get_or os i None) all ∙ get_or-map (λ (kept : Record). Some kept) requests i no_record None (omega (arith, l, as_many f rows requests all))

none_there : (record_table_of []).records ≡ []
unfolding record_table_of
none_there = refl

pub loop-number-init : goal.loop-number-init
loop-number-init c = λ requests all. ap (λ (ps : List (List ℕ)). (record_table_of ps).records) (c.in_ok-held.ensures.payloads ∙ c.new.ensures) ∙ none_there

pub add_row-requires-clause-next : goal.add_row-requires-clause-next
add_row-requires-clause-next c =
    let requests : List Record = c.requires.each.0 in
    let i : ℕ = c.loop-number.number-index in
    let f = request_at c.args.segments.now.payloads c.args.contents.now in (
      get_or requests i no_record,
      row_is f c.args.rows.now requests c.requires.each.1 i c.loop-number-test.true,
      subst (λ (rs : List Record). IsNext rs (get_or c.requires.each.0 c.loop-number.number-index no_record)) (sym (c.loop-number.invariant requests c.requires.each.1))
          (c.requires.each.2 i no_record (omega (arith, c.loop-number-test.true, as_many f c.args.rows.now requests c.requires.each.1))),
    )

pub loop-number-preserved : goal.loop-number-preserved
loop-number-preserved c = λ requests all.
    let i : ℕ = c.loop-number.number-index in
    let f = request_at c.args.segments.now.payloads c.args.contents.now in
    let low : c.loop-number.number-index < length requests = omega (arith, c.loop-number-test.true, as_many f c.args.rows.now requests all) in
    let added = subst (λ r. OnOk r ((record_table_of c.add_row.new.held.payloads).records ≡ (record_table_of c.loop-number.held.payloads).records ++ get_or requests c.loop-number.number-index no_record ∷ [])) c.in_ok-add_row.was
    (c.add_row.ensures (get_or requests i no_record) (row_is f c.args.rows.now requests all i c.loop-number-test.true)) in
    added
    ∙ ap (λ (rs : List Record). rs ++ get_or requests c.loop-number.number-index no_record ∷ []) (c.loop-number.invariant requests all)
    ∙ sym (take_more requests i no_record low)

pub returns : goal.returns
returns c = λ requests all.
    let f = request_at c.args.segments.now.payloads c.args.contents.now in
    c.loop-number.invariant requests all ∙ take_all c.loop-number.number-index requests (omega (arith, c.loop-number-test.false, as_many f c.args.rows.now requests all))
