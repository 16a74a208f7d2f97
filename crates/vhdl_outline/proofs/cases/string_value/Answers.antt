-- Nothing is left.
use Rattle.std.proofs.Common.{◌∙◌, ◌++◌, ℕ, List, sym, ap}
use Rattle.std.proofs.lemmas.List.{append-nil}
use Rattle.vhdl_outline.proofs.Quotes.{nothing_left}
use Rattle.vhdl_outline.proofs.cases.string_value.Goals as goal

pub returns : goal.returns
returns c = c.from_vec.ensures ∙ sym (append-nil c.loop-rest.name.items) ∙ sym (ap (λ (rest : List ℕ). c.loop-rest.name.items ++ rest) (nothing_left c.loop-rest.rest.now c.in_default.len_below)) ∙ c.loop-rest.invariant
