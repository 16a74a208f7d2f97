-- One package more.
use Rattle.std.proofs.Common.{◌≡◌, ◌+◌, ◌++◌, ◌∷◌, [], List, sym, ap, ◌∙◌}
use Rattle.std.proofs.lemmas.List.{append-nil, append_assoc}
use Rattle.base.specs.declared.file.NamedText.{NamedText}
use Rattle.generated_project.specs.Files.{package_file, packages}
use Rattle.generated_project.proofs.Packages.{packages-none, packages-more}
use Rattle.generated_project.proofs.files.push_packages.Goals as goal

pub loop-before-init : goal.loop-before-init
loop-before-init c = sym (append-nil c.args.files.now) ∙ ap (λ (more : List NamedText). c.args.files.now ++ more) (sym (packages-none c.args.edited))

pub loop-before-preserved : goal.loop-before-preserved
loop-before-preserved c =
    let before = c.loop-before.before in
    let edited = c.args.edited in
    c.in_ok-push.ensures.ok
    ∙ ap (λ (files : List NamedText). files ++ c.in_ok-package_file.field-0 ∷ []) c.loop-before.invariant
    ∙ ap (λ (file : NamedText). (c.args.files.now ++ packages edited before) ++ file ∷ []) c.in_ok-package_file.ensures
    ∙ append_assoc c.args.files.now (packages edited before) (package_file edited (before + 1) ∷ [])
    ∙ ap (λ (more : List NamedText). c.args.files.now ++ more) (sym (packages-more edited before))
