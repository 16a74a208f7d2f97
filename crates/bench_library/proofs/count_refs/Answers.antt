-- One unit more.
use Rattle.std.proofs.Common.{◌≡◌, ◌+◌, ◌*◌, ◌%◌, ◌/◌, ◌^◌, ◌<◌, ◌≤◌, ℕ, List, [], Some, length, get_or, take, sym, ◌∙◌, ap, arith}
use Rattle.std.specs.List.{slice_get, sum_by}
use Rattle.std.specs.Option.{option_map}
use Rattle.std.proofs.Math.Nat.{mod-add-div, add-mul-mod_self_left}
use Rattle.std.proofs.lemmas.Option.{slice_get-get_or}
use Rattle.std.proofs.lemmas.List.Sums.{sum_by_more}
use Rattle.std.proofs.lemmas.List.{length-map, take_all}
use Rattle.base.specs.declared.lexical.Token.{Token}
use Rattle.base.specs.declared.child.MaybeText.TheVariants.{Nothing}
use Rattle.base.specs.declared.design.Scan.{Scan}
use Rattle.base.specs.declared.design.Unit.{Unit as DesignUnit}
use Rattle.base.specs.declared.design.UnitKind.TheVariants.{Entity}
use Rattle.base.specs.declared.refs.Ref.{Ref}
use Rattle.vhdl_spec.specs.References.{refs_of}
use Rattle.vhdl_spec.specs.Scans.{IsScanOf}
use Rattle.vhdl_spec.specs.Units.{role_of, roles_of}
use Rattle.vhdl_spec.proofs.Lying.{tokens_few}
use Rattle.vhdl_spec.proofs.Placed.{units_few}
use Rattle.bench_library.specs.Counts.{ref_count}
use Rattle.bench_library.proofs.count_refs.Goals as goal

-- a part of a sum may be reduced first
mod_part : (x s m : ℕ) → (x + s % m) % m ≡ (x + s) % m
mod_part x s m =
    let whole : x + s ≡ (x + s % m) + m * (s / m) = omega (arith, mod-add-div s m) in
    sym (ap (λ (n : ℕ). n % m) whole ∙ add-mul-mod_self_left (x + s % m) m (s / m))

-- a unit that stands for none
no_unit : DesignUnit
no_unit = record { kind = Entity; name = []; owner = Nothing; lead = 0; first = 0; last = 0 }

-- a scan has no more units than its text has bytes
few_units : (text : List ℕ) (scan : Scan) → IsScanOf text scan → length scan.units ≤ length text
few_units text scan is =
    let few = units_few text scan.tokens.list 0 0 is.elements (length (roles_of text scan.tokens.list)) is.outline in
    omega (arith, ap length is.units, length-map scan.tokens.list (role_of text), tokens_few text scan.tokens is.tokens)

refs_at : (text : List ℕ) (tokens : List Token) (units : List DesignUnit) (n : ℕ) (refs : List Ref) → n < length units → option_map (refs_of text tokens) (slice_get units n) ≡ Some refs → refs_of text tokens (get_or units n no_unit) ≡ refs
refs_at text tokens units n refs within is =
    let found : Some (refs_of text tokens (get_or units n no_unit)) ≡ Some refs = sym (ap (option_map (refs_of text tokens)) (slice_get-get_or units n no_unit within)) ∙ is in cc

pub overflow_cast-unit : goal.overflow_cast-unit
overflow_cast-unit c = omega (arith, few_units c.args.text.now c.args.scan.now c.requires.scan, c.requires.small)

pub loop-unit-preserved : goal.loop-unit-preserved
loop-unit-preserved c =
    let counted : DesignUnit → ℕ = λ (unit : DesignUnit). length (refs_of c.args.text.now c.args.scan.now.tokens.list unit) in
    let units = c.args.scan.now.units in
    let n = c.loop-unit.unit in
    let so_far = sum_by counted (take n units) in
    let within : n < length units = omega (arith, c.loop-unit-test.true, c.len-unit-end.ensures) in
    let here : c.len-count.result ≡ counted (get_or units n no_unit) = c.len-count.ensures ∙ sym (ap length (refs_at c.args.text.now c.args.scan.now.tokens.list units n c.in_ok-refs.refs within c.in_ok-refs.ensures)) in
    let sums : c.len-count.result + so_far ≡ sum_by counted (take (n + 1) units) = omega (arith, here, sum_by_more counted units n no_unit within) in
    ap (λ (count : ℕ). (c.len-count.result + count) % 2 ^ 64) c.loop-unit.invariant ∙ mod_part c.len-count.result so_far (2 ^ 64) ∙ ap (λ (sum : ℕ). sum % 2 ^ 64) sums

pub returns : goal.returns
unfolding ref_count
returns c =
    let counted : DesignUnit → ℕ = λ (unit : DesignUnit). length (refs_of c.args.text.now c.args.scan.now.tokens.list unit) in
    let all : length c.args.scan.now.units ≤ c.loop-unit.unit = omega (arith, c.loop-unit-test.false, c.len-unit-end.ensures) in
    c.loop-unit.invariant ∙ ap (λ (units : List DesignUnit). sum_by counted units % 2 ^ 64) (take_all c.loop-unit.unit c.args.scan.now.units all)
