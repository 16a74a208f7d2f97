-- The first that is the name, or none is.
use Rattle.std.proofs.Common.{◌≡◌, ◌∙◌, ◌<◌, ℕ, List, [], Vec, Global, get_or, length, map, below_more, sym, ap, arith}
use Rattle.std.specs.Str.{bytes_eq}
use Rattle.std.proofs.lemmas.List.{get_or-map, length-map}
use Rattle.vhdl_scope.proofs.KeyLemmas.{first_at, first_none}
use Rattle.vhdl_scope.proofs.NameLemmas.{same_bytes, told_same}
use Rattle.vhdl_scope.proofs.names.find_among.Goals as goal

abbrev texts : List (Vec ℕ Global) → List (List ℕ)
texts names = map (λ key. key.items) names

pub loop-at-init : goal.loop-at-init
loop-at-init c k below = absurd (omega (arith, below))

-- the text of the key at an index
key_at : (names : List (Vec ℕ Global)) (at : ℕ) (key : Vec ℕ Global) (text : List ℕ) → at < length names → key ≡ get_or names at key → text ≡ key.items → get_or (texts names) at [] ≡ text
key_at names at key text within is same = get_or-map (λ (k : Vec ℕ Global). k.items) names at key [] within ∙ (ap (λ (k : Vec ℕ Global). k.items) (sym is) ∙ sym same)

pub loop-at-preserved : goal.loop-at-preserved
loop-at-preserved c = below_more _ _ c.loop-at.invariant (ap (bytes_eq c.args.name.now) (key_at c.args.names.now c.loop-at.at c.index-names-at.result c.as_slice.result.now c.loop-at-test.true c.index-names-at.is c.as_slice.ensures.value) ∙ (sym c.eq.ensures ∙ c.if-eq.false))

pub returns-then-eq : goal.returns-then-eq
returns-then-eq c =
    let within : c.loop-at.at < length (texts c.args.names.now) = omega (arith, c.loop-at-test.true, length-map c.args.names.now (λ (key : Vec ℕ Global). key.items)) in
    record {
      found = (first_at bytes_eq same_bytes told_same (texts c.args.names.now) c.args.name.now c.loop-at.at [] within c.loop-at.invariant (ap (bytes_eq c.args.name.now) (key_at c.args.names.now c.loop-at.at c.index-names-at.result c.as_slice.result.now c.loop-at-test.true c.index-names-at.is c.as_slice.ensures.value) ∙ (sym c.eq.ensures ∙ c.if-eq.true)), within);
      none = tt;
    }

pub returns : goal.returns
returns c = record {
  found = tt;
  none = first_none bytes_eq same_bytes told_same (texts c.args.names.now) c.args.name.now [] (λ k within. c.loop-at.invariant k (omega (arith, c.loop-at-test.false, length-map c.args.names.now (λ (key : Vec ℕ Global). key.items))));
}
