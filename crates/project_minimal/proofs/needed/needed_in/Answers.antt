-- By what was taken.
use Rattle.std.proofs.Common.{◌≡◌, ◌∙◌, ◌&&◌, ◌||◌, Bool, true, nat_lt, length, ap, arith}
use Rattle.std.proofs.lemmas.Bool.{lt-ltb}
use Rattle.vhdl_spec.proofs.SomeTests.{and_true}
use Rattle.project_minimal.specs.MinimalSet.{is_tested}
use Rattle.project_minimal.specs.Needing.{count_of}
use Rattle.project_minimal.proofs.Least.{decided}
use Rattle.project_minimal.proofs.Walk.{taken_within}
use Rattle.project_minimal.proofs.needed.needed_in.Goals as goal

pub take_tested-requires-clause-before : goal.take_tested-requires-clause-before
take_tested-requires-clause-before c = c.none_taken-taken.ensures.are c.len-count.result

pub returns : goal.returns
returns c = λ said known edges at low.
    let size : length said.files ≡ count_of c.args.tables = ap length known.needs.files in
    let count : c.len-count.result ≡ count_of c.args.tables = c.len-count.ensures in
    decided said c.args.tests.now c.take_tested.new.taken c.take_on.new.taken
    (λ other there. let within = taken_within c.len-count.result c.take_tested.new.taken other c.in_ok-take_tested.ensures.grows.are there in omega (arith, within, size, count))
    (λ other within.
    let under : nat_lt other c.len-count.result ≡ true = lt-ltb other c.len-count.result (omega (arith, within, size, count)) in
    c.in_ok-take_tested.ensures.takes other ∙ ap (λ (b : Bool). b || (is_tested c.args.tests.now other && nat_lt other c.len-count.result)) (c.none_taken-taken.ensures.none other)
    ∙ ap (λ (b : Bool). is_tested c.args.tests.now other && b) under ∙ and_true (is_tested c.args.tests.now other))
    (c.in_ok-take_on.ensures.grown said known edges) at (omega (arith, low, size))
