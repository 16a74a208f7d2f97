-- What remains to be proved of `few_linked`.
use Rattle.std.proofs.Common.{[], Ok, map, ap, ◌∙◌}
use Rattle.std.proofs.lemmas.Result.{err_from_is_err_and}
use Rattle.std.specs.Borrow.{Bor}
use Rattle.std.specs.BTreeMap.{BTreeMap}
use Rattle.std.specs.Prelude.{String}
use Rattle.std.specs.declared.alloc.Global.{Global}
use Rattle.toml.specs.declared.value.Value.{Value}
use Rattle.toml.specs.View.{table_view}
use Rattle.project_file.specs.Toml.{files_of}
use Rattle.project_file.proofs.TomlNames.{files_new}
use Rattle.project_file.proofs.FewLinks.{few_is, kept_said, many_is, many_fails}
use Rattle.project_file.proofs.tables.few_linked.Goals as goal

pub linked_project-requires : goal.linked_project-requires
linked_project-requires c =
    let tables = map (λ (t : Bor (BTreeMap (String Global) Value)). table_view t.now) c.args.tables.now in
    let said = files_of c.args.names.now c.args.settings.compiler [] tables in
    (files_new c.args.names.now c.args.settings.compiler [] tables c.in-Some.files c.requires.distinct (kept_said said c.args.settings.simulator c.args.settings.external c.args.settings.bodies (table_view c.args.table.now) c.in-Some.files (c.requires.files ∙ ap Ok c.in-Some.is)).0).once

pub returns-in_ok-project-in-Some : goal.returns-in_ok-project-in-Some
returns-in_ok-project-in-Some c =
    let tables = map (λ (t : Bor (BTreeMap (String Global) Value)). table_view t.now) c.args.tables.now in
    let said = files_of c.args.names.now c.args.settings.compiler [] tables in
    few_is said c.args.settings.simulator c.args.settings.external c.args.settings.bodies (table_view c.args.table.now) c.in-Some.files (c.requires.files ∙ ap Ok c.in-Some.is) c.in_ok-project-in-Some.project c.in_ok-project-in-Some.ensures

pub returns-in_ok-check_links-in-None : goal.returns-in_ok-check_links-in-None
returns-in_ok-check_links-in-None c =
    let tables = map (λ (t : Bor (BTreeMap (String Global) Value)). table_view t.now) c.args.tables.now in
    let said = files_of c.args.names.now c.args.settings.compiler [] tables in
    many_is said c.args.settings.simulator c.args.settings.external c.args.settings.bodies (table_view c.args.table.now) (c.requires.files ∙ ap Ok c.in-None.is) (λ files is. c.in_ok-check_links-in-None.ensures c.args.settings.compiler files is c.requires.libraries)

pub returns-in_err-check_links-in-None : goal.returns-in_err-check_links-in-None
returns-in_err-check_links-in-None c =
    let p = err_from_is_err_and c.from_residual-in_err-check_links-in-None.result c.from_residual-in_err-check_links-in-None.ensures.1 in
    let tables = map (λ (t : Bor (BTreeMap (String Global) Value)). table_view t.now) c.args.tables.now in
    let said = files_of c.args.names.now c.args.settings.compiler [] tables in
    rw (p.1, p.2) (many_fails said c.args.settings.simulator c.args.settings.external c.args.settings.bodies (table_view c.args.table.now) (c.requires.files ∙ ap Ok c.in-None.is) c.in_err-check_links-in-None.field-0.0 (λ files is. c.in_err-check_links-in-None.ensures c.args.settings.compiler files is c.requires.libraries))
