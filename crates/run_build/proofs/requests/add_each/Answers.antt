-- Answers to the goals of `add_each`.
use Rattle.std.proofs.Common.{◌≡◌, ◌++◌, ◌+◌, [], ◌∷◌, List, ℕ, take, get_or, sym, ap, ◌∙◌, arith}
use Rattle.std.proofs.lemmas.List.{append-nil, append_assoc, take_all, take_more}
use Rattle.run_build.proofs.Gathering.{borrowed_bytes, borrowed_both}
use Rattle.run_build.proofs.requests.add_each.Goals as goal

pub loop-dep-init : goal.loop-dep-init
loop-dep-init g c = sym (append-nil c.args.files.now)

pub loop-dep-preserved : goal.loop-dep-preserved
loop-dep-preserved g c =
    let borrowed : List ℕ → List ℕ = borrowed_bytes (g.K.Records.latest_of c.args.store.now) c.args.graph.now in
    let first : List ℕ = take c.loop-dep.dep-index c.args.deps.now in
    let here : ℕ = get_or c.args.deps.now c.loop-dep.dep-index 0 in
    let more : borrowed (take (c.loop-dep.dep-index + 1) c.args.deps.now) ≡ borrowed first ++ borrowed (here ∷ []) =
    ap borrowed (take_more c.args.deps.now c.loop-dep.dep-index 0 c.loop-dep-test.true) ∙ borrowed_both (g.K.Records.latest_of c.args.store.now) c.args.graph.now first (here ∷ []) in
    c.in_ok-add_slice.ensures ∙ ap (λ (l : List ℕ). l ++ borrowed (here ∷ [])) c.loop-dep.invariant
    ∙ append_assoc c.args.files.now (borrowed first) (borrowed (here ∷ [])) ∙ ap (λ (l : List ℕ). c.args.files.now ++ l) (sym more)

pub returns : goal.returns
returns g c = c.loop-dep.invariant ∙ ap (λ (l : List ℕ). c.args.files.now ++ borrowed_bytes (g.K.Records.latest_of c.args.store.now) c.args.graph.now l) (take_all c.loop-dep.dep-index c.args.deps.now (omega arith))
