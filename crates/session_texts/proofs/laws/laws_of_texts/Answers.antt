-- The laws of texts.
use Rattle.session_texts.proofs.TextLaws.{drop_rises as dropped_rise, dropped_text, put_rises as put_rise, put_text}
use Rattle.session_texts.proofs.laws.laws_of_texts.Goals as goal

pub returns-clause-put : goal.returns-clause-put
returns-clause-put c = put_text

pub returns-clause-dropped : goal.returns-clause-dropped
returns-clause-dropped c = dropped_text

pub returns-clause-put_rises : goal.returns-clause-put_rises
returns-clause-put_rises c = put_rise

pub returns-clause-drop_rises : goal.returns-clause-drop_rises
returns-clause-drop_rises c = dropped_rise
