-- One kept file more.
use Rattle.std.proofs.Common.{◌≡◌, ◌<◌, ◌∙◌, ◌∷◌, ◌++◌, [], ℕ, List, length, get_or, set, take, sym, ap, subst, arith}
use Rattle.std.specs.Vec.{vec_len}
use Rattle.std.proofs.lemmas.List.{length-set, take_all}
use Rattle.base.specs.declared.graph.Entry.{Entry}
use Rattle.base.specs.View.{part}
use Rattle.project_views.specs.Numbers.{IsNumbered, with_numbers}
use Rattle.project_views.proofs.Parts.{length-part}
use Rattle.project_minimal.specs.Nothing.{no_entry}
use Rattle.project_minimal.proofs.Restricting.{deps_within, left_entries, part_more}
use Rattle.project_minimal.proofs.parts.restrict.Goals as goal

pub with_numbers-requires : goal.with_numbers-requires
with_numbers-requires c =
    let count : length c.args.entries.items ≡ vec_len c.args.entries = omega arith in
    let low : c.loop-number.number < length c.args.kept.now = omega (arith, c.loop-number-test.true, ap length c.as_slice-kept.ensures) in
    let entry = c.take_entry-entry.ensures.entry ∙ ap (λ (ks : List ℕ). get_or c.loop-number.entries.items (get_or ks c.loop-number.number 0) no_entry) c.as_slice-kept.ensures ∙ c.loop-number.invariant.left c.loop-number.number (omega arith) low in
    deps_within c.args.entries.items c.args.kept.now c.requires.part c.loop-number.number (length c.deref.result.now) c.take_entry-entry.result low (ap length c.deref.ensures.value ∙ c.in_ok-table.ensures.count ∙ c.len.ensures ∙ sym count) entry

pub loop-number-preserved : goal.loop-number-preserved
loop-number-preserved c =
    let low : c.loop-number.number < length c.args.kept.now = omega (arith, c.loop-number-test.true, ap length c.as_slice-kept.ensures) in
    let entry = c.take_entry-entry.ensures.entry ∙ ap (λ (ks : List ℕ). get_or c.loop-number.entries.items (get_or ks c.loop-number.number 0) no_entry) c.as_slice-kept.ensures ∙ c.loop-number.invariant.left c.loop-number.number (omega arith) low in
    let numbered : IsNumbered c.in_ok-table.table.items c.args.kept.now (length c.args.kept.now) = subst (λ (ks : List ℕ). IsNumbered c.in_ok-table.table.items ks (length ks)) c.as_slice-kept.ensures c.in_ok-table.ensures.numbers in
    let moved : c.in_ok-with_numbers.field-0 ≡ with_numbers c.in_ok-table.table.items c.take_entry-entry.result = c.in_ok-with_numbers.ensures ∙ ap (λ (table : List ℕ). with_numbers table c.take_entry-entry.result) c.deref.ensures.value in
    record {
      some = c.in_ok-push.ensures.items ∙ ap (λ (some : List Entry). some ++ c.in_ok-with_numbers.field-0 ∷ []) c.loop-number.invariant.some ∙ part_more c.args.entries.items c.args.kept.now c.requires.part c.in_ok-table.table.items c.loop-number.number c.take_entry-entry.result c.in_ok-with_numbers.field-0 low numbered entry moved;
      count = ap length c.take_entry-entry.ensures.left ∙ length-set _ _ _ ∙ c.loop-number.invariant.count;
      left = λ k later within.
          ap (λ (left : List Entry). get_or left (get_or c.args.kept.now k 0) no_entry) (c.take_entry-entry.ensures.left ∙ ap (λ (ks : List ℕ). set c.loop-number.entries.items (get_or ks c.loop-number.number 0) no_entry) c.as_slice-kept.ensures)
          ∙ left_entries c.args.entries.items c.args.kept.now c.requires.part c.loop-number.entries.items c.loop-number.number c.loop-number.invariant.left k later within;
    }

pub returns : goal.returns
returns c =
    let whole : part c.args.entries.items c.args.kept.now ≡ take c.loop-number.number (part c.args.entries.items c.args.kept.now) = sym (take_all c.loop-number.number (part c.args.entries.items c.args.kept.now) (omega (arith, length-part c.args.entries.items c.args.kept.now c.requires.part, c.loop-number-test.false, ap length c.as_slice-kept.ensures))) in
    c.loop-number.invariant.some ∙ sym whole
