-- Heads and letters are the same exactly where the names are.
use Rattle.std.proofs.Common.{◌∙◌, List, ℕ, ap, sym}
use Rattle.std.specs.Str.{bytes_eq}
use Rattle.vhdl_graph.proofs.JoinedLemmas.{by_heads, by_letters, same_heads}
use Rattle.vhdl_graph.proofs.key.DesignUnitKeyPartialEq.eq.Goals as goal

pub returns-then-eq : goal.returns-then-eq
returns-then-eq c =
    c.eq-then-eq.ensures ∙ (ap (λ (some : List ℕ). bytes_eq some c.as_slice-then-eq.result.now) c.as_slice.ensures.value ∙ (ap (bytes_eq c.self.inside.letters.items) c.as_slice-then-eq.ensures.value
    ∙ by_letters c.self.inside.head c.other.inside.head c.self.inside.letters.items c.other.inside.letters.items c.args.self.now c.args.other.now c.self.view_is c.other.view_is (same_heads c.self.inside.head c.other.inside.head (sym c.if-eq.ensures))))

pub returns-else-eq : goal.returns-else-eq
returns-else-eq c =
    c.if-eq.false ∙ sym (by_heads c.self.inside.head c.other.inside.head c.self.inside.letters.items c.other.inside.letters.items c.args.self.now c.args.other.now c.self.view_is c.other.view_is c.self.invariant c.other.invariant (sym c.if-eq.ensures))
