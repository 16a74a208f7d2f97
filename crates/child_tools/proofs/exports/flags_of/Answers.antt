-- What the files and then the last one export is found.
use Rattle.child_tools.proofs.MissingLemmas.{units_known}
use Rattle.child_tools.proofs.exports.flags_of.Goals as goal

pub returns : goal.returns
returns c last is_library is_artefact =
    units_known c.args.files.now last c.args.units.now c.args.library.now c.args.artefact.now c.in_ok-flags.flags c.flag_files.new.flags c.flag_artefact.new.flags is_library is_artefact c.in_ok-flags.ensures c.in_ok-flag_files.ensures
    c.in_ok-flag_artefact.ensures
