use Rattle.std.proofs.Common.{◌≡◌, ◌+◌, ◌≤◌, length, List}
use Rattle.store_table.specs.Located.{AreTextsLocated, located_texts, nth_payload, text_room}
use Rattle.passes_codec.specs.Forms.{FileDraft}
use Rattle.passes_codec.specs.PassTables.{with_list_texts}
use Rattle.passes_table.proofs.Files.{FilesSoFar}
use Rattle.passes_table.proofs.putting.put_new_texts.Given as goal

abbrev pub invariant-loop : goal.invariant-loop
invariant-loop l = record {
  texts : AreTextsLocated l.held.segments l.texts;
  room : length l.fn.texts.indices.items + text_room l.fn.texts ≤ length l.texts.indices.items + text_room l.texts;
  files : FilesSoFar (λ (files : List FileDraft). located_texts l.held.segments l.texts ≡ with_list_texts (located_texts l.held.segments l.fn.texts) files) (nth_payload l.held.segments l.fn.at) l.fn.range l.count l.counter l.next;
}
