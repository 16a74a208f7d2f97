-- What remains to be proved of `with_commands`.
use Rattle.std.proofs.Common.{◌++◌, ◌∷◌, [], List, ℕ, sym, ap, ◌∙◌}
use Rattle.std.proofs.lemmas.List.{map_push}
use Rattle.base.specs.declared.project.ProjectFile.{ProjectFile}
use Rattle.project_file.specs.Csv.{listed_file}
use Rattle.project_file.proofs.csv.with_commands.Goals as goal

pub loop-name-preserved : goal.loop-name-preserved
loop-name-preserved c =
    c.in_ok-push.ensures.ok
    ∙ ap (λ (command : List (List ℕ)). c.loop-name.files ++ (record { name = c.in-Some.name; command = command }) ∷ []) c.in_ok-command.ensures
    ∙ ap (λ (files : List ProjectFile). files ++ listed_file c.in-Some.name ∷ []) c.loop-name.invariant
    ∙ sym (map_push listed_file c.loop-name.yielded c.in-Some.name)
