-- What remains to be proved of `listed_entries`.
use Rattle.std.proofs.Common.{◌≡◌, ◌∙◌, List, ℕ, [], ◌∷◌, ◌++◌, ◌<◌, length, sym, ap, append_assoc, arith}
use Rattle.std.specs.Vec.Iter.{into_iter_items}
use Rattle.project_views.proofs.ListedGraph.{listed_no_text, next_file}
use Rattle.project_minimal.proofs.listed.listed_entries.Goals as goal

pub loop-text-init : goal.loop-text-init
loop-text-init c = record {
  rest = c.into_iter-text-iterator.ensures.into_iter_gives.0 ∙ c.into_vec-text-items.ensures;
  entries = c.in_ok-entries.ensures.items ∙ sym (listed_no_text 0 c.as_slice-files.result.now);
}

-- there is a file at the position of the text
low : (c : goal.After-len-position) → c.len-position.result < length c.as_slice-files.result.now
low c =
    let whole : c.loop-text.yielded ++ (c.in-Some.text ∷ into_iter_items c.next.new.self) ≡ c.args.texts = ap (λ (rest : List (List ℕ)). c.loop-text.yielded ++ rest) (sym c.in-Some.ensures.steps.0) ∙ c.loop-text.invariant.rest in
    (next_file c.args.project.now c.args.texts c.requires.project c.requires.few c.requires.texts c.as_slice-files.result.now c.loop-text.yielded (into_iter_items c.next.new.self) c.in-Some.text c.loop-text.entries.items c.len-position.result c.as_slice-files.ensures c.loop-text.invariant.entries whole (omega (arith, c.len-position.ensures))).0

pub bounds-files-position : goal.bounds-files-position
bounds-files-position c = low c

pub overflow_cast-position : goal.overflow_cast-position
overflow_cast-position c =
    omega (arith, low c, c.requires.few, ap length c.as_slice-files.ensures)

pub offset_bounds-files-position : goal.offset_bounds-files-position
offset_bounds-files-position c =
    omega (arith, low c, c.requires.few, ap length c.as_slice-files.ensures)

pub loop-text-preserved : goal.loop-text-preserved
loop-text-preserved c =
    let whole : c.loop-text.yielded ++ (c.in-Some.text ∷ into_iter_items c.next.new.self) ≡ c.args.texts = ap (λ (rest : List (List ℕ)). c.loop-text.yielded ++ rest) (sym c.in-Some.ensures.steps.0) ∙ c.loop-text.invariant.rest in
    record {
      rest = append_assoc c.loop-text.yielded (c.in-Some.text ∷ []) (into_iter_items c.next.new.self) ∙ whole;
      entries = c.in_ok-push.ensures.items ∙ ((next_file c.args.project.now c.args.texts c.requires.project c.requires.few c.requires.texts c.as_slice-files.result.now c.loop-text.yielded (into_iter_items c.next.new.self) c.in-Some.text c.loop-text.entries.items c.len-position.result c.as_slice-files.ensures c.loop-text.invariant.entries whole (omega (arith, c.len-position.ensures))).1
          c.index-files-position.result c.in_ok-entry.entry c.index-files-position.is c.in_ok-entry.ensures).1;
    }
