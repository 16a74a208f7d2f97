use Rattle.std.proofs.Common.{◌∙◌, ap₂, refl}
use Rattle.clap.specs.Words.{with_rule}
use Rattle.vunit_arguments.proofs.command.with_outputs.Goals as goal

pub returns : goal.returns
returns c =
    let with1 = c.in_ok-command.ensures ∙ ap₂ with_rule refl c.xunit_xml.ensures.rule in
    let with2 = c.in_ok-command-2.ensures ∙ ap₂ with_rule with1 c.flag.ensures.rule in
    let with3 = c.in_ok-command-3.ensures ∙ ap₂ with_rule with2 c.lettered_flag.ensures.rule in
    let with4 = c.in_ok-command-4.ensures ∙ ap₂ with_rule with3 c.lettered_flag-2.ensures.rule in
    let with5 = c.in_ok-command-5.ensures ∙ ap₂ with_rule with4 c.threads.ensures.rule in
    let with6 = c.in_ok-command-6.ensures ∙ ap₂ with_rule with5 c.option_with_value.ensures.rule in
    let with7 = c.in_ok-command-7.ensures ∙ ap₂ with_rule with6 c.option_with_number.ensures.rule in
    let with8 = c.in_ok-command-8.ensures ∙ ap₂ with_rule with7 c.patterns.ensures.rule in
    with8
