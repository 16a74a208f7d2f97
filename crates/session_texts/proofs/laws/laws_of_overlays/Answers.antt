-- The laws of overlays.
use Rattle.session_texts.specs.OverlayTreeLaws.{nothing_put}
use Rattle.session_texts.proofs.ListedOnce.{listed_once, one_listed}
use Rattle.session_texts.proofs.TextLaws.{dropped_file, put_file}
use Rattle.session_texts.proofs.laws.laws_of_overlays.Goals as goal

pub returns-clause-base : goal.returns-clause-base
returns-clause-base c = nothing_put

pub returns-clause-once : goal.returns-clause-once
returns-clause-once c = listed_once

pub returns-clause-new : goal.returns-clause-new
returns-clause-new c = one_listed

pub returns-clause-put : goal.returns-clause-put
returns-clause-put c = put_file

pub returns-clause-dropped : goal.returns-clause-dropped
returns-clause-dropped c = dropped_file
