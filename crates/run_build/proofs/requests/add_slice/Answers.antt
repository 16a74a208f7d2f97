-- Answers to the goals of `add_slice`.
use Rattle.std.proofs.Common.{◌≡◌, ◌++◌, [], List, ℕ, Option, Some, sym, ap, ◌∙◌}
use Rattle.std.specs.List.{flat_map, cons_option}
use Rattle.std.proofs.lemmas.List.{append-nil}
use Rattle.std.proofs.lemmas.Result.{on_ok_weaker}
use Rattle.base.specs.declared.graph.BuiltFile.{BuiltFile}
use Rattle.base.specs.Jobs.{built_bytes}
use Rattle.run_build.specs.Requests.{borrowed_at}
use Rattle.run_build.proofs.Borrowed.{borrowed_of}
use Rattle.run_build.proofs.requests.add_slice.Goals as goal

pub returns : goal.returns
returns g c =
    let file : BuiltFile = record { name = c.get-entry.result.now.name; artefact = c.in-Some.artefact.now } in
    let borrowed : borrowed_at (g.K.Records.latest_of c.args.store.now) c.args.graph.now c.args.dep ≡ Some file = borrowed_of _ c.args.graph.now c.args.dep c.get-entry.result.now c.in-Some.artefact.now c.get-entry.ensures.entry (c.in-Some.ensures.bytes c.get-entry.result.now c.get-entry.ensures.entry) in
    on_ok_weaker c.add.result
    (λ is.
    is ∙ ap (λ (l : List ℕ). c.args.files.now ++ l) (sym (append-nil (built_bytes file)) ∙ sym (ap (λ (o : Option BuiltFile). flat_map built_bytes (cons_option o [])) borrowed)))
    c.add.ensures
