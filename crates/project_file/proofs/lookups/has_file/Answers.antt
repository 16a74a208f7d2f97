-- What remains to be proved of `has_file`.
use Rattle.std.proofs.Common.{◌≡◌, ℕ, Some, Ok, map, ap, subst}
use Rattle.std.specs.Borrow.{Bor}
use Rattle.std.specs.BTreeMap.{BTreeMap}
use Rattle.std.specs.Prelude.{◌<◌, Contains, String, slice_get}
use Rattle.std.specs.declared.alloc.Global.{Global}
use Rattle.std.proofs.lemmas.Option.{slice_get_within}
use Rattle.toml.specs.declared.value.Value.{Value}
use Rattle.toml.specs.View.{table_view}
use Rattle.base.specs.declared.file.FileName.{FileName}
use Rattle.project_file.proofs.FewFiles.{found_is, absent_is}
use Rattle.project_file.proofs.lookups.has_file.Goals as goal

pub returns-in-Some : goal.returns-in-Some
returns-in-Some c = λ names compiler files gives.
    found_is (λ (t : Bor (BTreeMap (String Global) Value)). table_view t.now) names compiler c.args.tables.now c.args.libraries.now.keys c.args.paths.now.keys files c.args.name.now c.in-Some.file_index c.index-tables-file_index.result c.has_path.result gives
    (subst (λ (key : FileName). slice_get c.args.libraries.now.keys c.in-Some.file_index ≡ Some key) c.in_ok-library.ensures c.in-Some.ensures) (subst (λ (n : ℕ). c.in-Some.file_index < n) c.requires.as_many (slice_get_within c.args.libraries.now.keys c.in-Some.file_index c.in_ok-library.library c.in-Some.ensures)) c.index-tables-file_index.is (c.has_path.ensures names gives.index)

pub returns : goal.returns
returns c = λ names compiler files gives.
    ap Ok (absent_is names compiler (map (λ (t : Bor (BTreeMap (String Global) Value)). table_view t.now) c.args.tables.now) c.args.libraries.now.keys c.args.paths.now.keys files c.args.name.now gives
    (subst (λ (key : FileName). ¬ Contains c.args.libraries.now.keys key) c.in_ok-library.ensures c.in-None.ensures))
