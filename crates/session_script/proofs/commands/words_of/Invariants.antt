use Rattle.std.proofs.Common.{◌≡◌, map}
use Rattle.std.specs.Prelude.{filter}
use Rattle.session_script.specs.Commands.{is_word}
use Rattle.session_script.proofs.commands.words_of.Given as goal

abbrev pub invariant-loop-word : goal.invariant-loop-word
invariant-loop-word l = (l.words ≡ filter is_word (map (λ x. x.now) l.yielded))
