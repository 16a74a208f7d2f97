-- Scripts of small inputs, by computation.
use Rattle.std.proofs.Common.{refl}
use Rattle.session_script.specs.Commands.{command_of}
use Rattle.session_script.specs.Examples.{CommandExamples, LimitExamples, PutExamples}
use Rattle.session_script.specs.Scripts.{lines_of, script_in}

pub command_examples : CommandExamples
unfolding command_of lines_of script_in
command_examples = record { nothing = refl; quits = refl; after_quit = refl; unknown = refl; words = refl; drops = refl }

pub put_examples : PutExamples
unfolding command_of lines_of script_in
put_examples = record { text = refl; empty = refl; dots = refl; returns = refl; inside = refl; unended = refl; listed = refl; outside = refl }

pub limit_examples : LimitExamples
unfolding command_of lines_of script_in
limit_examples = record { last = refl; last_quit = refl; ended = refl; over = refl; over_quit = refl; over_put = refl }
