-- What remains to be proved of `check_links`.
use Rattle.std.proofs.Common.{List, map, ap, sym, ◌∙◌}
use Rattle.std.specs.Borrow.{Bor}
use Rattle.std.specs.BTreeMap.{BTreeMap}
use Rattle.std.specs.Prelude.{String, Result}
use Rattle.std.specs.declared.alloc.Global.{Global}
use Rattle.toml.specs.Data.{Members}
use Rattle.toml.specs.declared.value.Value.{Value}
use Rattle.toml.specs.View.{table_view}
use Rattle.base.specs.declared.project.ProjectFault.{ProjectFault}
use Rattle.project_file.specs.Csv.{then_read}
use Rattle.project_file.specs.Toml.{pairs_of}
use Rattle.project_file.specs.Few.{faults_of, checked_links}
use Rattle.project_file.proofs.LibrarySum.{reads_same}
use Rattle.project_file.proofs.tables.check_links.Goals as goal

pub returns : goal.returns
returns c = λ compiler files said are.
    reads_same (faults_of (pairs_of files (map (λ (t : Bor (BTreeMap (String Global) Value)). table_view t.now) c.as_slice.result.now))) (checked_links files (table_view c.args.table.now)) c.check_pairs.result
    (ap (λ (ts : List (Bor (BTreeMap (String Global) Value))). faults_of (pairs_of files (map (λ t. table_view t.now) ts))) c.as_slice.ensures.value ∙ sym (ap (λ (s : Result (List Members) ProjectFault). then_read s (λ tables. faults_of (pairs_of files tables))) c.in_ok-pairs.ensures))
    (c.check_pairs.ensures compiler files said are)
