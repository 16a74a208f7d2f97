use Rattle.std.proofs.Common.{List, length, get_or, sym, ap, subst, ◌∙◌, arith}
use Rattle.std.proofs.lemmas.Option.{get_or_from_slice_get}
use Rattle.base.specs.Names.{FitsName}
use Rattle.base.specs.declared.file.FileName.{FileName}
use Rattle.base_bytes.specs.TextRefs.{TextRef}
use Rattle.store_codec.specs.Writing.{part_ref}
use Rattle.store_table.specs.Located.{located_texts, no_name}
use Rattle.passes_codec.specs.Forms.{file_bytes}
use Rattle.passes_table.proofs.RowBytes.{pending_row}
use Rattle.passes_table.proofs.writing.row_size.Goals as goal

pub file_size-requires-clause-name : goal.file_size-requires-clause-name
file_size-requires-clause-name c = subst FitsName (get_or_from_slice_get c.args.table.now.names.keys c.args.row.name c.key.result.now no_name c.key.ensures) (pending_row c.args.table.now.names.keys (located_texts c.args.held.now.segments c.args.table.now.texts) c.args.list.now c.args.row (record { located = c.requires.list.located; apart = c.requires.list.apart; rows = c.requires.list.rows; in_order = c.requires.list.in_order; all = c.requires.list.all; few = c.requires.list.few; fits = c.requires.list.fits }) c.requires.row).1.name

pub file_size-requires-clause-artefact : goal.file_size-requires-clause-artefact
file_size-requires-clause-artefact c = omega (arith, (pending_row c.args.table.now.names.keys (located_texts c.args.held.now.segments c.args.table.now.texts) c.args.list.now c.args.row (record { located = c.requires.list.located; apart = c.requires.list.apart; rows = c.requires.list.rows; in_order = c.requires.list.in_order; all = c.requires.list.all; few = c.requires.list.few; fits = c.requires.list.fits }) c.requires.row).1.artefact, ap length c.part_of-part.ensures.text)

pub returns-clause-is : goal.returns-clause-is
returns-clause-is c =
    let names : List FileName = c.args.table.now.names.keys in
    c.file_size.ensures.is
    ∙ ap (λ (n : FileName). length (file_bytes (record { name = n; artefact = part_ref c.part_of-part.result }))) (sym (get_or_from_slice_get names c.args.row.name c.key.result.now no_name c.key.ensures))
    ∙ ap (λ (r : TextRef). length (file_bytes (record { name = get_or names c.args.row.name no_name; artefact = r }))) c.part_of-part.ensures.is
