-- The answer to the goal of `request_of`.
use Rattle.std.proofs.Common.{◌++◌, List, ℕ, length, refl, ap, ◌∙◌, arith}
use Rattle.run_tests.proofs.Borrowed.{borrowed_request}
use Rattle.run_tests.proofs.requests.request_of.Goals as goal

pub returns : goal.returns
returns g c =
    borrowed_request (g.K.Records.latest_of c.args._store.now) c.args.graph.now c.finish.result c.args.run.now c.args.simulator.now c.add_all.new.self c.in_ok-writer.writer (length c.args.graph.now) _ c.in_ok-writer.ensures refl (omega arith)
    c.requires.built.count c.finish.ensures.words c.finish.ensures.input c.finish.ensures.results c.in_ok-add_all.ensures.words c.in_ok-add_all.ensures.results
    (c.in_ok-add_all.ensures.input ∙ ap (λ (l : List ℕ). c.in_ok-writer.writer.input ++ l) (c.bytes.ensures ∙ c.requires.built.written))
