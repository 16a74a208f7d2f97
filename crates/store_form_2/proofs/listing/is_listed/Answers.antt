use Rattle.std.proofs.Common.{◌≡◌, ℕ, length, get_or, refl, sym, subst, ◌∙◌, arith, inl}
use Rattle.std.proofs.lemmas.List.Elements.{Contains-get_or}
use Rattle.base_collections.specs.Numbers.{NumbersBelow}
use Rattle.store_form_2.specs.Fits.{AreFrom, AreLocated}
use Rattle.store_form_2.proofs.Filling.{from_added, no_answer, size_added, yes_answer}
use Rattle.store_form_2.proofs.Locations.{absent, all_located, found, none_located, one_more, too_high, too_low}
use Rattle.store_form_2.proofs.listing.is_listed.Goals as goal

pub loop-number-init : goal.loop-number-init
loop-number-init c = (none_located c.args.deps.now.numbers c.args.count c.args.inner.now, refl, λ k d l. inl (Contains-get_or c.args.covered.now.numbers k d l))

pub returns-in_default-clause-listed : goal.returns-in_default-clause-listed
returns-in_default-clause-listed c =
    let deps = c.args.deps.now.numbers in
    let inner = c.args.inner.now in
    let i = c.loop-number.number-index in
    no_answer (too_high deps c.args.count inner i c.loop-number-test.true (omega (arith, absent deps (get_or inner i 0) c.in_default.ensures, c.requires.few)))

pub returns-then-location-least-clause-listed : goal.returns-then-location-least-clause-listed
returns-then-location-least-clause-listed c =
    let deps = c.args.deps.now.numbers in
    let inner = c.args.inner.now in
    let i = c.loop-number.number-index in
    no_answer (too_low deps c.args.count inner i c.loop-number.least c.loop-number-test.true c.loop-number.invariant.0
    (omega (arith, found deps (get_or inner i 0) c.in-Some.location c.requires.once c.in-Some.ensures, c.if-location-least.true)))

pub returns-then-location-count-clause-listed : goal.returns-then-location-count-clause-listed
returns-then-location-count-clause-listed c =
    let deps = c.args.deps.now.numbers in
    let inner = c.args.inner.now in
    let i = c.loop-number.number-index in
    no_answer (too_high deps c.args.count inner i c.loop-number-test.true
    (omega (arith, found deps (get_or inner i 0) c.in-Some.location c.requires.once c.in-Some.ensures, c.if-location-count.true)))

pub returns-in_err-add-clause-covers : goal.returns-in_err-add-clause-covers
returns-in_err-add-clause-covers c = subst (λ (s : NumbersBelow). AreFrom c.args.covered.now.numbers c.args.inner.now s.numbers) (sym c.in_err-add.ensures.err) c.loop-number.invariant.2

pub loop-number-preserved : goal.loop-number-preserved
loop-number-preserved c =
    let deps = c.args.deps.now.numbers in
    let inner = c.args.inner.now in
    let i = c.loop-number.number-index in
    let number : ℕ = get_or inner i 0 in (
      one_more deps c.args.count inner i c.loop-number.least c.in-Some.location c.loop-number.invariant.0 (found deps number c.in-Some.location c.requires.once c.in-Some.ensures) c.if-location-least.false c.if-location-count.false,
      size_added number c.in_ok-add.field-0 c.loop-number.covered c.add.new.self c.in_ok-add.ensures.ok ∙ c.loop-number.invariant.1,
      from_added c.args.covered.now.numbers inner number c.in_ok-add.field-0 c.loop-number.covered c.add.new.self c.in_ok-add.ensures.ok (Contains-get_or inner i 0 c.loop-number-test.true) c.loop-number.invariant.2,
    )

pub returns-clause-listed : goal.returns-clause-listed
returns-clause-listed c =
    let deps = c.args.deps.now.numbers in
    let inner = c.args.inner.now in
    let end : c.loop-number.number-index ≡ length inner = omega (arith, c.loop-number-test.false, c.loop-number.auto.number-index-end) in
    yes_answer (all_located deps c.args.count inner c.loop-number.least (subst (λ (n : ℕ). AreLocated deps c.args.count inner n c.loop-number.least) end c.loop-number.invariant.0))
