-- Another key is at a bucket where the one that is there isn't equal.
use Rattle.std.proofs.Common.{ℕ, ◌<◌, true≢false, length, Some, inr, sym, ap, subst, ◌∙◌, arith}
use Rattle.std.proofs.lemmas.Nat.{mod_below}
use Rattle.std.proofs.lemmas.Option.{slice_get-get_or}
use Rattle.base_collections.specs.OrderedKeys.{slot_at}
use Rattle.base_collections.proofs.table.look.Goals as goal

pub returns-in_default-slot_at : goal.returns-in_default-slot_at
returns-in_default-slot_at g c =
    let some : 0 < length c.args.slots.now = omega (arith, c.if-buckets-eq0.false) in
    record {
      free = sym c.in_default-slot_at.ensures;
      within = subst (λ (n : ℕ). n < length c.args.slots.now) (sym c.second_of-two.ensures) (mod_below _ (length c.args.slots.now) some);
      which = inr (
        c.second_of-two.ensures,
        record {
          number = c.in-Some.first;
          other = c.index-keys-first.result;
          held = ap (slot_at c.args.slots.now) (sym c.first_of-one.ensures) ∙ sym c.in-Some.ensures;
          is = slice_get-get_or c.args.keys.now c.in-Some.first c.index-keys-first.result (c.requires c.first_of-one.result c.in-Some.first (sym c.in-Some.ensures)) ∙ ap (λ (k : g.row.K.Denot). Some k) (sym c.index-keys-first.is);
          differs = λ e. true≢false (sym ((g.met.K.Key.decides c.index-keys-first.result c.args.key.now).1 e) ∙ sym c.if-eq.ensures);
        },
      );
    }

pub returns-then-eq-2 : goal.returns-then-eq-2
returns-then-eq-2 g c =
    slice_get-get_or c.args.keys.now c.in-Some-slot_at.second c.index-keys-second.result (c.requires c.second_of-two.result c.in-Some-slot_at.second (sym c.in-Some-slot_at.ensures))
    ∙ (ap (λ (k : g.row.K.Denot). Some k) (sym c.index-keys-second.is) ∙ ap (λ (k : g.row.K.Denot). Some k) ((g.met.K.Key.decides c.index-keys-second.result c.args.key.now).0 (sym c.if-eq-2.ensures)))

pub returns : goal.returns
returns g c =
    inr (
      record {
        number = c.in-Some.first;
        other = c.index-keys-first.result;
        held = ap (slot_at c.args.slots.now) (sym c.first_of-one.ensures) ∙ sym c.in-Some.ensures;
        is = slice_get-get_or c.args.keys.now c.in-Some.first c.index-keys-first.result (c.requires c.first_of-one.result c.in-Some.first (sym c.in-Some.ensures)) ∙ ap (λ (k : g.row.K.Denot). Some k) (sym c.index-keys-first.is);
        differs = λ e. true≢false (sym ((g.met.K.Key.decides c.index-keys-first.result c.args.key.now).1 e) ∙ sym c.if-eq.ensures);
      },
      record {
        number = c.in-Some-slot_at.second;
        other = c.index-keys-second.result;
        held = ap (slot_at c.args.slots.now) (sym c.second_of-two.ensures) ∙ sym c.in-Some-slot_at.ensures;
        is = slice_get-get_or c.args.keys.now c.in-Some-slot_at.second c.index-keys-second.result (c.requires c.second_of-two.result c.in-Some-slot_at.second (sym c.in-Some-slot_at.ensures)) ∙ ap (λ (k : g.row.K.Denot). Some k) (sym c.index-keys-second.is);
        differs = λ e. true≢false (sym ((g.met.K.Key.decides c.index-keys-second.result c.args.key.now).1 e) ∙ sym c.if-eq-2.ensures);
      },
    )
