use Rattle.std.proofs.Common.{◌≡◌, ◌<◌, ℕ, List, [], ◌∷◌, ◌++◌, length, sym, ap, subst, ◌∙◌, arith}
use Rattle.std.proofs.lemmas.List.{length-map}
use Rattle.std.proofs.lemmas.Result.{on_ok_weaker}
use Rattle.base.specs.declared.file.FileName.{FileName}
use Rattle.base.specs.declared.graph.BuiltFile.{BuiltFile}
use Rattle.base.specs.declared.limits.TheConstants.{FILE_LIMIT}
use Rattle.store_table.specs.Located.{located_texts, row_product}
use Rattle.store_table.specs.declared.texts.LocatedTexts.{LocatedTexts}
use Rattle.store_table.specs.Checked.{IsNameNumber}
use Rattle.passes_table.specs.Pending.{IsPending, IsWithFile, all_texts, pending_files}
use Rattle.passes_table.specs.States.{PassesState}
use Rattle.passes_table.proofs.Loads.{added_err, added_ok, added_pending, on_err, on_err_weaker, pending_named}
use Rattle.passes_table.proofs.loaded.LoadedPasses.add_file.Goals as goal
use Rattle.passes_table.proofs.loaded.LoadedPasses.add_file.Goals.{After-add}

same_texts : (c : After-add) → (located_texts c.self.inside.held.segments c.number_name.new.self.texts) ≡ located_texts c.self.inside.held.segments c.self.inside.table.texts
same_texts c = ap (located_texts c.self.inside.held.segments) c.number_name.ensures.texts

same_files : (c : After-add) → pending_files (c.number_name.new.self.names.keys) (located_texts c.self.inside.held.segments c.number_name.new.self.texts) c.self.inside.list ≡ c.args.self.now.built
same_files c =
    let table = c.self.inside.table in
    let now = c.number_name.new.self in
    let names : List FileName = now.names.keys in
    let named = pending_named table.names.keys now.names.keys (located_texts c.self.inside.held.segments table.texts) c.self.inside.list c.number_name.ensures.kept c.self.invariant.pending in
    ap (λ (ts : List (List ℕ)). pending_files names ts c.self.inside.list) (same_texts c) ∙ named.1 ∙ ap (λ (s : PassesState). s.built) c.self.view_is

with_file : (c : After-add) → IsWithFile c.add.result (c.number_name.new.self.names.keys) (located_texts c.self.inside.held.segments c.number_name.new.self.texts) (record { name = c.args.name.now; artefact = c.args.artefact.now }) c.self.inside.list c.add.new.self
with_file c =
    let segments : List (List ℕ) = c.self.inside.held.segments in
    let table = c.self.inside.table in
    let now = c.number_name.new.self in
    let names : List FileName = now.names.keys in
    let texts : List (List ℕ) = located_texts segments now.texts in
    let list = c.self.inside.list in
    let named = pending_named table.names.keys now.names.keys (located_texts segments table.texts) c.self.inside.list c.number_name.ensures.kept c.self.invariant.pending in
    let before : IsPending names texts list = subst (λ (ts : List (List ℕ)). IsPending names ts list) (sym (same_texts c)) named.0 in
    let own : IsNameNumber names c.args.name.now c.in_ok-number.number = subst (λ (n : FileName). IsNameNumber names n c.in_ok-number.number) c.in_ok-copy.ensures c.in_ok-number.ensures.named in
    let few : length list.row.files < FILE_LIMIT = omega (arith, c.requires.few, ap length (same_files c), length-map list.row.files (row_product names (all_texts texts list))) in
    c.add.ensures.is names c.args.name.now own (record { library = c.requires.name.library; path = c.requires.name.path }) few before

abbrev now_names : (c : After-add) → List FileName
now_names c = c.number_name.new.self.names.keys

abbrev now_texts : (c : After-add) → List (List ℕ)
now_texts c = located_texts c.self.inside.held.segments c.number_name.new.self.texts

pub invariant_of-self : goal.invariant_of-self
invariant_of-self c =
    let segments : List (List ℕ) = c.self.inside.held.segments in
    let table = c.self.inside.table in
    let now = c.number_name.new.self in
    let named = pending_named table.names.keys now.names.keys (located_texts segments table.texts) c.self.inside.list c.number_name.ensures.kept c.self.invariant.pending in
    record {
      whole = c.self.invariant.whole;
      are = record {
        are = c.number_name.ensures.are segments c.self.invariant.are.are;
        is = c.number_name.ensures.is segments c.self.invariant.are.are ∙ c.self.invariant.are.is;
      };
      pending = subst (λ (t : LocatedTexts). IsPending now.names.keys (located_texts segments t) c.self.inside.list) (sym c.number_name.ensures.texts) named.0;
    }

pub returns-in_err-number-clause-err : goal.returns-in_err-number-clause-err
returns-in_err-number-clause-err c =
    let segments : List (List ℕ) = c.self.inside.held.segments in
    let table = c.self.inside.table in
    let now = c.number_name.new.self in
    let named = pending_named table.names.keys now.names.keys (located_texts segments table.texts) c.self.inside.list c.number_name.ensures.kept c.self.invariant.pending in
    let same : pending_files now.names.keys (located_texts segments now.texts) c.self.inside.list ≡ c.args.self.now.built = ap (λ (t : LocatedTexts). pending_files now.names.keys (located_texts segments t) c.self.inside.list) c.number_name.ensures.texts ∙ named.1 ∙ ap (λ (s : PassesState). s.built) c.self.view_is in
    on_err c.from_residual-in_err-number.result same

pub invariant_of-self-2 : goal.invariant_of-self-2
invariant_of-self-2 c =
    let step = (goal.at.invariant_of-self-2 c).After-add in
    let step = (goal.at.invariant_of-self-2 c).After-add in
    let segments : List (List ℕ) = c.self.inside.held.segments in
    let file : BuiltFile = record { name = c.args.name.now; artefact = c.args.artefact.now } in
    record {
      whole = c.self.invariant.whole;
      are = record {
        are = c.number_name.ensures.are segments c.self.invariant.are.are;
        is = c.number_name.ensures.is segments c.self.invariant.are.are ∙ c.self.invariant.are.is;
      };
      pending = added_pending c.add.result (now_names step) (now_texts step) file c.self.inside.list c.add.new.self (with_file step);
    }

pub returns-clause-ok : goal.returns-clause-ok
returns-clause-ok c =
    let step = (goal.at.returns-clause-ok c).After-add in
    let step = (goal.at.returns-clause-ok c).After-add in
    let file : BuiltFile = record { name = c.args.name.now; artefact = c.args.artefact.now } in
    on_ok_weaker c.add.result (λ e. e ∙ ap (λ (fs : List BuiltFile). fs ++ file ∷ []) (same_files step)) (added_ok c.add.result (now_names step) (now_texts step) file c.self.inside.list c.add.new.self (with_file step))

pub returns-clause-err : goal.returns-clause-err
returns-clause-err c =
    let step = (goal.at.returns-clause-err c).After-add in
    let step = (goal.at.returns-clause-err c).After-add in
    let file : BuiltFile = record { name = c.args.name.now; artefact = c.args.artefact.now } in
    on_err_weaker c.add.result (λ e. e ∙ (same_files step)) (added_err c.add.result (now_names step) (now_texts step) file c.self.inside.list c.add.new.self (with_file step))
