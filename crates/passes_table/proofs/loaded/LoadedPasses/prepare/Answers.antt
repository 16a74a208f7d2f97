use Rattle.std.proofs.Common.{◌≡◌, List, sym, ap, subst, ◌∙◌, arith}
use Rattle.std.proofs.lemmas.List.{length-map}
use Rattle.base.specs.declared.graph.BuiltFile.{BuiltFile}
use Rattle.store_table.specs.Located.{located_text, located_texts}
use Rattle.passes_codec.specs.PassTables.{PassTable, drafted_pass, pass_table_of}
use Rattle.passes_codec.specs.Ranges.{list_in_range, pass_in_ranges}
use Rattle.passes_table.specs.Additions.{IsAddition}
use Rattle.passes_table.specs.Located.{located_passes}
use Rattle.passes_table.specs.Pending.{fresh_in, pending_files}
use Rattle.passes_table.specs.States.{AreLoaded, HasFresh, PassesState}
use Rattle.passes_table.proofs.Loads.{reserved}
use Rattle.passes_table.proofs.loaded.LoadedPasses.prepare.Goals as goal
use Rattle.passes_table.proofs.loaded.LoadedPasses.prepare.Goals.{After-reserve-2}

loaded : (c : After-reserve-2) → AreLoaded c.reserve.new.self c.reserve-2.new.self c.self.inside.list × (pending_files c.reserve-2.new.self.names.keys (located_texts c.reserve.new.self.segments c.reserve-2.new.self.texts) c.self.inside.list ≡ pending_files c.self.inside.table.names.keys (located_texts c.self.inside.held.segments c.self.inside.table.texts) c.self.inside.list)
loaded c =
    let before : AreLoaded c.self.inside.held c.self.inside.table c.self.inside.list = record { whole = c.self.invariant.whole; are = c.self.invariant.are; pending = c.self.invariant.pending } in
    reserved c.self.inside.held c.reserve.new.self c.self.inside.table c.reserve-2.new.self c.self.inside.list before c.reserve.ensures.segments c.reserve.ensures.payloads c.reserve-2.ensures.are c.reserve-2.ensures.is c.reserve-2.ensures.names

pub invariant_of-self-in_err-reserve-2 : goal.invariant_of-self-in_err-reserve-2
invariant_of-self-in_err-reserve-2 c =
    (loaded ((goal.at.invariant_of-self-in_err-reserve-2 c).After-reserve-2)).0

pub returns-in_err-reserve-2-clause-built : goal.returns-in_err-reserve-2-clause-built
returns-in_err-reserve-2-clause-built c =
    (loaded ((goal.at.returns-in_err-reserve-2-clause-built c).After-reserve-2)).1 ∙ ap (λ (s : PassesState). s.built) c.self.view_is

pub next_pass-requires-clause-list : goal.next_pass-requires-clause-list
next_pass-requires-clause-list c =
    (loaded ((goal.at.next_pass-requires-clause-list c).After-reserve-2)).0.pending

pub invariant_of-self-in_err-next : goal.invariant_of-self-in_err-next
invariant_of-self-in_err-next c =
    (loaded ((goal.at.invariant_of-self-in_err-next c).After-reserve-2)).0

pub returns-in_err-next-clause-built : goal.returns-in_err-next-clause-built
returns-in_err-next-clause-built c =
    (loaded ((goal.at.returns-in_err-next-clause-built c).After-reserve-2)).1 ∙ ap (λ (s : PassesState). s.built) c.self.view_is

pub invariant_of-self-2 : goal.invariant_of-self-2
invariant_of-self-2 c =
    (loaded ((goal.at.invariant_of-self-2 c).After-reserve-2)).0

pub returns-clause-built : goal.returns-clause-built
returns-clause-built c =
    (loaded ((goal.at.returns-clause-built c).After-reserve-2)).1 ∙ ap (λ (s : PassesState). s.built) c.self.view_is

pub returns-clause-adds : goal.returns-clause-adds
returns-clause-adds c =
    let step = (goal.at.returns-clause-adds c).After-reserve-2 in
    let next = c.in_ok-next.next in
    let is = c.in_ok-next.ensures in
    let table : located_passes c.reserve.new.self.segments c.reserve-2.new.self ≡ pass_table_of c.reserve.new.self.payloads = (loaded step).0.are.is ∙ ap pass_table_of (loaded step).0.whole in
    let room = c.in_ok-reserve-2.ensures.room in
    record {
      read = is.read;
      is = subst (λ (t : PassTable). IsAddition t c.reserve-2.new.self.names.keys next.segment next.addition) table is.is;
      fresh = subst (λ (t : PassTable). HasFresh t.texts (fresh_in c.self.inside.list.fresh) (list_in_range next.segment next.addition.draft.list)) table is.fresh;
      room = omega (arith, c.in_ok-reserve.ensures.room, room.list, room.row, room.latest);
      text_room = omega (arith, is.few, room.texts, c.len.ensures, length-map c.self.inside.list.fresh.texts.indices.items (located_text c.self.inside.list.fresh.held.segments));
    }

pub returns-clause-pass : goal.returns-clause-pass
returns-clause-pass c =
    let step = (goal.at.returns-clause-pass c).After-reserve-2 in
    let next = c.in_ok-next.next in
    let state : PassesState = c.args.self.now in
    let payloads_is : c.reserve.new.self.payloads ≡ state.payloads = c.reserve.ensures.payloads ∙ ap (λ (s : PassesState). s.payloads) c.self.view_is in
    let table : located_passes c.reserve.new.self.segments c.reserve-2.new.self ≡ pass_table_of state.payloads = (loaded step).0.are.is ∙ ap pass_table_of ((loaded step).0.whole ∙ payloads_is) in
    ap (λ (t : PassTable). drafted_pass t (pass_in_ranges next.segment next.addition.draft)) (sym table)
    ∙ c.in_ok-next.ensures.pass
    ∙ ap (λ (built : List BuiltFile). record { run = c.args.run.now; simulator = c.args.simulator.now; built = built; output = c.args.output.now }) ((loaded step).1 ∙ ap (λ (s : PassesState). s.built) c.self.view_is)
