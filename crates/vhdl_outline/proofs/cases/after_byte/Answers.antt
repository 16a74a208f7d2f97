-- One byte of a string, or two quotes.
use Rattle.std.proofs.Common.{◌≡◌, ◌∷◌, ℕ, List, length, sym, ◌∙◌, ap, rules, tests}
use Rattle.std.proofs.lemmas.List.{take_rest}
use Rattle.vhdl_outline.specs.Calls.{unquoted}
use Rattle.vhdl_outline.proofs.Quotes.{after_other, after_last, before_other, before_quote}
use Rattle.vhdl_outline.proofs.cases.after_byte.Goals as goal

pub returns-then-byte-ne34-clause-rest : goal.returns-then-byte-ne34-clause-rest
returns-then-byte-ne34-clause-rest c = after_other c.args.byte c.args.bytes.now c.if-byte-ne34.true

pub returns-then-is_empty-clause-rest : goal.returns-then-is_empty-clause-rest
returns-then-is_empty-clause-rest c = let none : length c.args.bytes.now ≡ 0 = search (rules, tests, c.is_empty.ensures, c.if-is_empty.true) in after_last c.args.byte c.args.bytes.now none

pub returns-then-bytes-ne34-clause-rest : goal.returns-then-bytes-ne34-clause-rest
returns-then-bytes-ne34-clause-rest c = before_other c.args.byte c.args.bytes.now c.if-bytes-ne34.true

pub returns-clause-rest : goal.returns-clause-rest
returns-clause-rest c = before_quote c.args.byte c.args.bytes.now c.if-byte-ne34.false c.if-bytes-ne34.false ∙ ap (λ (rest : List ℕ). c.args.byte ∷ unquoted rest) (sym (take_rest c.args.bytes.now 1))
