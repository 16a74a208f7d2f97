use Rattle.std.proofs.Common.{◌≡◌, ◌∙◌, List, map, ap, ap₂, sym, subst, Err}
use Rattle.std.proofs.lemmas.Result.{err_from_is_err_and}
use Rattle.clap.specs.Words.{HasKind, Text, fault_of, is_simple, is_simple_and_free, matches_of}
use Rattle.vunit_arguments.specs.Arguments.{ReadsArguments, setting_in, setting_of}
use Rattle.vunit_arguments.proofs.Said.{fault_read, no_text_read, said, simple, simple_and_free}
use Rattle.vunit_arguments.proofs.reading.read_arguments.Goals as goal

pub returns-in_err-texts-clause-read : goal.returns-in_err-texts-clause-read
returns-in_err-texts-clause-read c =
    let p = err_from_is_err_and c.from_residual.result c.from_residual.ensures.1 in
    rw (p.1, p.2) (subst (λ (arguments : List Text). ReadsArguments (setting_of arguments) (Err c.in_err-texts.field-0.0)) c.as_slice.ensures (no_text_read c.as_slice.result.now _ c.in_err-texts.ensures))

pub returns-in-Ok-clause-read : goal.returns-in-Ok-clause-read
returns-in-Ok-clause-read c =
    let command = c.in_ok-command.ensures in
    let arguments : map (λ word. word.now) c.as_slice-2.result.now ≡ c.as_slice.result.now = ap (map (λ word. word.now)) c.as_slice-2.ensures.value ∙ c.in_ok-texts.ensures.1 in
    let taken = sym (ap₂ fault_of command arguments) ∙ c.in-Ok.ensures.kinds (ap is_simple_and_free command ∙ simple_and_free) in
    let found = (c.in-Ok.ensures.matches (ap is_simple command ∙ simple)).0 ∙ ap₂ matches_of command arguments in
    subst (λ what. ReadsArguments what c.setting_in.result)
    (ap setting_in found ∙ sym (said c.as_slice.result.now c.in_ok-texts.ensures.0 taken) ∙ ap setting_of c.as_slice.ensures)
    c.setting_in.ensures.read

pub returns-clause-read : goal.returns-clause-read
returns-clause-read c =
    let command = c.in_ok-command.ensures in
    let arguments : map (λ word. word.now) c.as_slice-2.result.now ≡ c.args.arguments.now = ap (map (λ word. word.now)) c.as_slice-2.ensures.value ∙ c.in_ok-texts.ensures.1 ∙ c.as_slice.ensures in
    fault_read c.args.arguments.now c.fault_of.result c.in-Err.error
    (subst (λ kinds. HasKind kinds c.in-Err.error) (ap₂ fault_of command arguments) (c.in-Err.ensures.kinds (ap is_simple_and_free command ∙ simple_and_free)))
    c.fault_of.ensures
