use Rattle.std.proofs.Common.{◌≡◌, ◌^◌, ◌<◌, List, ℕ, ◌∷◌, length, ap, sym, subst, ◌∙◌}
use Rattle.std.specs.Prelude.{All}
use Rattle.store_journal.specs.Payloads.{payloads_in, side_bytes}
use Rattle.store_journal.proofs.Headers.{side_payloads}
use Rattle.store_journal.proofs.ready.ReadySide.new.Goals as goal

pub invariant_of-result : goal.invariant_of-result
invariant_of-result c =
    let wrote = c.in_ok-full_side.ensures in
    let is : payloads_in (1 ∷ c.in_ok-full_side.field-0) ≡ c.args.payloads.now = ap payloads_in wrote.bytes ∙ side_payloads c.args.form c.args.generation c.args.payloads.now wrote.small in
    record {
      parts = wrote.bytes ∙ ap (side_bytes c.args.form c.args.generation) (sym is);
      small = subst (All (λ payload. length payload < 2 ^ 32)) (sym is) wrote.small;
    }

pub returns : goal.returns
returns c =
    let wrote = c.in_ok-full_side.ensures in
    let is : payloads_in (1 ∷ c.in_ok-full_side.field-0) ≡ c.args.payloads.now = ap payloads_in wrote.bytes ∙ side_payloads c.args.form c.args.generation c.args.payloads.now wrote.small in
    ap (λ (ps : List (List ℕ)). record { form = c.args.form; generation = c.args.generation; payloads = ps }) is
