-- A path of a project is a name.
use Rattle.std.proofs.Common.{sym, ◌∙◌}
use Rattle.session_texts.proofs.OverlayPaths.{path_name}
use Rattle.session_texts.proofs.overlay_paths.is_overlay_path.Goals as goal

pub returns-then-is_path-clause-name : goal.returns-then-is_path-clause-name
returns-then-is_path-clause-name c listed = path_name c.args.path.now (sym c.is_path.ensures ∙ c.if-is_path.true)
