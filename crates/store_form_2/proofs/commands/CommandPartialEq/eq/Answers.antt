use Rattle.std.specs.Bool.{one_answer}
use Rattle.store_form_2.specs.Commands.{is_same_command, words_decide}
use Rattle.store_form_2.proofs.commands.CommandPartialEq.eq.Goals as goal

pub returns : goal.returns
returns c = one_answer c.same_words.result (is_same_command c.args.self.now c.args.other.now) (c.same_words.ensures.0, c.same_words.ensures.1) (words_decide c.args.self.now.words c.args.other.now.words)
