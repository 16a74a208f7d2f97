-- Answers to the goals of `built_of`.
use Rattle.std.proofs.Common.{◌≡◌, ◌+◌, ◌++◌, [], ◌∷◌, List, ℕ, length, sym, ap, ◌∙◌, arith}
use Rattle.std.specs.List.{filter_map, flat_map}
use Rattle.std.proofs.lemmas.Grind.{flat_map-append}
use Rattle.std.proofs.lemmas.List.{length-append}
use Rattle.base.specs.declared.graph.BuiltFile.{BuiltFile}
use Rattle.base.specs.Jobs.{built_bytes}
use Rattle.base.specs.PresentGraph.{below}
use Rattle.base.proofs.Below.{below-zero}
use Rattle.run_tests.specs.Requests.{borrowed_at}
use Rattle.run_tests.proofs.Borrowed.{borrowed_more, borrowed_one}
use Rattle.run_tests.proofs.requests.built_of.Goals as goal

pub loop-at-init : goal.loop-at-init
loop-at-init g c =
    let borrowed : List ℕ → List BuiltFile = filter_map (borrowed_at (g.K.Records.latest_of c.args.store.now) c.args.graph.now) in
    record {
      input = c.new-files.ensures ∙ ap (λ (l : List ℕ). flat_map built_bytes (borrowed l)) (sym below-zero);
      each = ap (λ (l : List ℕ). length (borrowed l)) below-zero;
    }

pub loop-at-preserved : goal.loop-at-preserved
loop-at-preserved g c =
    let borrowed : List ℕ → List BuiltFile = filter_map (borrowed_at (g.K.Records.latest_of c.args.store.now) c.args.graph.now) in
    let at : ℕ = c.loop-at.at in
    let more : borrowed (below (at + 1)) ≡ borrowed (below at) ++ borrowed (at ∷ []) = borrowed_more (g.K.Records.latest_of c.args.store.now) c.args.graph.now at in
    let one : length (borrowed (at ∷ [])) ≡ 1 = borrowed_one (g.K.Records.latest_of c.args.store.now) c.args.graph.now at (c.requires.recorded at (omega (arith, c.loop-at-test.true, c.len-count.ensures.count))) in
    let bytes : flat_map built_bytes (borrowed (below (at + 1))) ≡ flat_map built_bytes (borrowed (below at)) ++ flat_map built_bytes (borrowed (at ∷ [])) = ap (flat_map built_bytes) more ∙ flat_map-append built_bytes (borrowed (below at)) (borrowed (at ∷ [])) in
    record {
      input = c.in_ok-add_slice.ensures ∙ ap (λ (l : List ℕ). l ++ flat_map built_bytes (borrowed (at ∷ []))) c.loop-at.invariant.input ∙ sym bytes;
      each = ap length more ∙ length-append (borrowed (below at)) (borrowed (at ∷ [])) ∙ ap (λ (n : ℕ). length (borrowed (below at)) + n) one ∙ ap (λ (n : ℕ). n + 1) c.loop-at.invariant.each;
    }

pub returns : goal.returns
returns g c =
    let borrowed : ℕ → List BuiltFile = λ count. filter_map (borrowed_at (g.K.Records.latest_of c.args.store.now) c.args.graph.now) (below count) in
    let all : c.loop-at.at ≡ length c.args.graph.now = omega arith in
    record {
      count = ap (λ (n : ℕ). length (borrowed n)) (sym all) ∙ c.loop-at.invariant.each ∙ all;
      written = c.into_text.ensures ∙ c.loop-at.invariant.input ∙ ap (λ (n : ℕ). flat_map built_bytes (borrowed n)) all;
    }
