use Rattle.std.proofs.Common.{◌≡◌, Bool, true, length, sym, subst, arith}
use Rattle.std.specs.Prelude.{nat_le, if◌then◌else◌}
use Rattle.std.proofs.lemmas.Bool.{le-leb}
use Rattle.base_outcomes.specs.declared.outcome.Limit.TheVariants as limit
use Rattle.base.specs.declared.limits.TheConstants.{FILE_LIMIT}
use Rattle.project_reading.specs.Reading.{Over, files_reading}
use Rattle.project_reading.specs.Sources.{LeadsTo}
use Rattle.project_reading.proofs.reading.read_sources.Goals as goal

pub returns-clause-reading : goal.returns-clause-reading
returns-clause-reading g c = λ scan is tells.
    let few : nat_le (length c.args.project.files) FILE_LIMIT ≡ true = le-leb (length c.args.project.files) FILE_LIMIT (omega (arith, c.len.ensures, c.if-len-gt-MOST_FILES.false)) in
    subst (λ (fits : Bool). LeadsTo (if fits then files_reading c.args.query.now scan (g.T.Tree.file c.args.tree.now) c.args.project else Over limit.Files FILE_LIMIT) c.read_files.result) (sym few) (c.read_files.ensures.reading scan is tells)
