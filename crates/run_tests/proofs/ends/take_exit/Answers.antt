-- Answers to the goals of `take_exit`.
use Rattle.std.proofs.Common.{◌≡◌, ◌<◌, ◌++◌, ℕ, List, None, Option, Some, length, sym, ap, ◌∙◌, true, arith, take}
use Rattle.std.specs.Prelude.{is_some, slice_get}
use Rattle.std.proofs.Math.ListN.{set}
use Rattle.std.proofs.lemmas.List.{get_or-set_same}
use Rattle.std.proofs.lemmas.Option.{get_or_from_slice_get}
use Rattle.testbench_runs.specs.declared.ends.RunEnd.{RunEnd}
use Rattle.testbench_runs.specs.declared.ends.TheConstants.{SHOWN_LIMIT}
use Rattle.run_spec.specs.TestJournal.{TestSetting}
use Rattle.run_tests.specs.Recording.{new_passes}
use Rattle.run_tests.specs.UnderWay.{passes_told, tests_with}
use Rattle.run_tests.proofs.Found.{found_ended, passed_is}
use Rattle.run_tests.proofs.Passes.{if_told, told_by}
use Rattle.run_tests.proofs.TestsThen.{ended_then, given_up_then}
use Rattle.run_tests.proofs.ends.take_exit.Goals as goal

pub index_mut-requires : goal.index_mut-requires
index_mut-requires c = omega (arith, c.run_of-at.ensures.within, c.requires.count, c.requires.found)

pub returns-in-Ok-clause-goes : goal.returns-in-Ok-clause-goes
returns-in-Ok-clause-goes c = λ simulator built slots fail_fast events is.
    let setting : TestSetting = tests_with c.args.runs.now simulator built slots fail_fast in
    let position = c.run_of-at.ensures.position _ _ is.in_step in
    ended_then setting events c.args.scheduler.now c.args.found.now.items _ is c.record_end-at.new.self _ c.args.ticket c.args.exit.now c.has_passed-passed.result
    (passed_is setting _ c.run_of-at.result c.get-run.result.now c.args.exit.now c.in-Ok.end c.has_passed-passed.result position c.get-run.ensures c.in-Ok.ensures c.has_passed-passed.ensures)
    (c.record_end-at.ensures.lawful _ _ c.args.exit.now.output is.in_step) (c.record_end-at.ensures.greedy _ _ c.args.exit.now.output is.in_step c.requires.step) (c.record_end-at.ensures.in_step _ _ c.args.exit.now.output is.in_step)
    (λ so_far. ap (λ (end : RunEnd). set c.args.found.now.items c.run_of-at.result end) c.in-Ok.ensures
    ∙ found_ended setting events c.args.found.now.items c.args.ticket c.run_of-at.result c.get-run.result.now c.args.exit.now so_far position c.get-run.ensures)

pub returns-in-Ok-clause-position : goal.returns-in-Ok-clause-position
returns-in-Ok-clause-position c = if_told (λ at. at < length c.args.runs.now) c.has_passed-passed.result c.args.first_fault.now c.run_of-at.result _ c.told_position.ensures (λ none. omega (arith, c.run_of-at.ensures.within, c.requires.count))

pub returns-in-Ok-clause-unnoted : goal.returns-in-Ok-clause-unnoted
returns-in-Ok-clause-unnoted c = if_told (λ at. (c.args.first_fault.now ≡ None) × (c.args.first_fault.now ≡ None)) c.has_passed-passed.result c.args.first_fault.now c.run_of-at.result _ c.told_position.ensures (λ none. (none, none))

pub returns-in-Ok-clause-shown : goal.returns-in-Ok-clause-shown
returns-in-Ok-clause-shown c =
    let found : List RunEnd = set c.args.found.now.items c.run_of-at.result c.in-Ok.end in
    if_told (λ at. (end : RunEnd) → slice_get found at ≡ Some end → end.output ≡ take SHOWN_LIMIT c.args.exit.now.output) c.has_passed-passed.result c.args.first_fault.now c.run_of-at.result _ c.told_position.ensures
    (λ none end is.
    ap (λ (e : RunEnd). e.output) (sym (get_or_from_slice_get found c.run_of-at.result end end is)
    ∙ get_or-set_same c.args.found.now.items c.run_of-at.result c.in-Ok.end end (omega (arith, c.run_of-at.ensures.within, c.requires.count, c.requires.found)))
    ∙ ap (λ (e : RunEnd). e.output) c.in-Ok.ensures)

pub returns-in-Ok-clause-passes : goal.returns-in-Ok-clause-passes
returns-in-Ok-clause-passes c = λ simulator built slots fail_fast events is none.
    let setting : TestSetting = tests_with c.args.runs.now simulator built slots fail_fast in
    let position = c.run_of-at.ensures.position _ _ is.in_step in
    told_by setting events c.has_passed-passed.result c.args.first_fault.now c.args.ticket c.run_of-at.result c.get-run.result.now c.args.exit.now none position c.get-run.ensures
    (passed_is setting _ c.run_of-at.result c.get-run.result.now c.args.exit.now c.in-Ok.end c.has_passed-passed.result position c.get-run.ensures c.in-Ok.ensures c.has_passed-passed.ensures)
    ∙ ap (λ (o : Option ℕ). new_passes setting events ++ passes_told setting c.args.exit.now o) (sym c.told_position.ensures)

pub returns-in-Err-clause-goes : goal.returns-in-Err-clause-goes
returns-in-Err-clause-goes c = λ simulator built slots fail_fast events is.
    let setting : TestSetting = tests_with c.args.runs.now simulator built slots fail_fast in
    given_up_then setting events c.args.scheduler.now c.args.found.now.items _ is (is_some c.note.new.first_fault) (ap is_some c.note.ensures) c.given_up.new.self c.args.found.now.items c.args.ticket c.args.exit.now
    (c.given_up.ensures.lawful _ _ true c.args.exit.now.output is.in_step) (λ ok. c.given_up.ensures.in_step _ _ ok c.args.exit.now.output is.in_step)
