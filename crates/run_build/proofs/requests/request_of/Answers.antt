-- Answers to the goals of `request_of`.
use Rattle.std.proofs.Common.{◌<◌, [], length, Option, refl, sym, ap, subst, ◌∙◌, arith}
use Rattle.std.specs.Prelude.{All}
use Rattle.std.specs.Option.{option_map_or}
use Rattle.base.specs.declared.graph.Entry.{Entry}
use Rattle.outside.specs.Records.{IsRecorded}
use Rattle.run_build.proofs.Borrowed.{entry_is, few_deps, borrowed_request_is}
use Rattle.run_build.proofs.requests.request_of.Goals as goal

pub overflow_cast-deps : goal.overflow_cast-deps
overflow_cast-deps g c =
    let few = few_deps c.args.graph.now c.args.at c.get-entry.result.now (entry_is c.args.graph.now c.args.at c.get-entry.result.now c.get-entry.ensures.graph c.get-entry.ensures.entry) in
    omega (arith, few, ap length c.as_slice-deps.ensures, c.get-entry.ensures.graph.few, c.requires.position)

pub new-requires-clause-name : goal.new-requires-clause-name
new-requires-clause-name g c = (entry_is c.args.graph.now c.args.at c.get-entry.result.now c.get-entry.ensures.graph c.get-entry.ensures.entry).name

pub new-requires-clause-text : goal.new-requires-clause-text
new-requires-clause-text g c = (entry_is c.args.graph.now c.args.at c.get-entry.result.now c.get-entry.ensures.graph c.get-entry.ensures.entry).text

pub add_deps-requires-clause-positions : goal.add_deps-requires-clause-positions
add_deps-requires-clause-positions g c =
    let is = entry_is c.args.graph.now c.args.at c.get-entry.result.now c.get-entry.ensures.graph c.get-entry.ensures.entry in
    let before = subst (All (λ dep. dep < c.args.at)) (sym c.as_slice-deps.ensures) is.before in
    λ k d lt. omega (arith, before k d lt, c.requires.position)

pub add_deps-requires-clause-inside : goal.add_deps-requires-clause-inside
add_deps-requires-clause-inside g c =
    let few = few_deps c.args.graph.now c.args.at c.get-entry.result.now (entry_is c.args.graph.now c.args.at c.get-entry.result.now c.get-entry.ensures.graph c.get-entry.ensures.entry) in
    omega (arith, few, ap length c.as_slice-deps.ensures, c.requires.position)

pub returns-clause-request : goal.returns-clause-request
returns-clause-request g c =
    let deps_are = ap (λ (o : Option Entry). option_map_or (λ e. e.deps) o []) c.get-entry.ensures.entry in
    borrowed_request_is (g.K.Records.latest_of c.args.store.now) c.args.graph.now c.args.at c.get-entry.result.now c.get-entry.ensures.entry c.as_slice-deps.result.now c.as_slice-deps.ensures
    (subst (All (IsRecorded (g.K.Records.latest_of c.args.store.now) c.args.graph.now)) (deps_are ∙ sym c.as_slice-deps.ensures) c.requires.recorded)
    c.finish.result (record { command = c.in_ok-writer.writer.command; input = c.add_deps.new.files }) c.in_ok-writer.writer c.in_ok-writer.ensures c.finish.ensures.words c.finish.ensures.input c.finish.ensures.results refl c.in_ok-add_deps.ensures.input
