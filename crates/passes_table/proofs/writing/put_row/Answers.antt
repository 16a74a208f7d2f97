use Rattle.std.proofs.Common.{List, ◌++◌, length, get_or, sym, ap, subst, ◌∙◌, arith}
use Rattle.std.proofs.lemmas.Option.{get_or_from_slice_get}
use Rattle.std.proofs.lemmas.Result.{on_ok_weaker}
use Rattle.base.specs.declared.file.FileName.{FileName}
use Rattle.base.specs.Names.{FitsName}
use Rattle.base_bytes.specs.TextRefs.{TextRef}
use Rattle.store_codec.specs.Writing.{part_ref}
use Rattle.store_table.specs.Located.{located_texts, no_name}
use Rattle.passes_codec.specs.Forms.{file_bytes}
use Rattle.passes_table.proofs.RowBytes.{pending_row}
use Rattle.passes_table.proofs.writing.put_row.Goals as goal

pub put_file-requires-clause-name : goal.put_file-requires-clause-name
put_file-requires-clause-name c = subst FitsName (get_or_from_slice_get c.args.table.now.names.keys c.args.row.name c.key.result.now no_name c.key.ensures) (pending_row c.args.table.now.names.keys (located_texts c.args.held.now.segments c.args.table.now.texts) c.args.list.now c.args.row (record { located = c.requires.list.located; apart = c.requires.list.apart; rows = c.requires.list.rows; in_order = c.requires.list.in_order; all = c.requires.list.all; few = c.requires.list.few; fits = c.requires.list.fits }) c.requires.row).1.name

pub put_file-requires-clause-artefact : goal.put_file-requires-clause-artefact
put_file-requires-clause-artefact c = omega (arith, (pending_row c.args.table.now.names.keys (located_texts c.args.held.now.segments c.args.table.now.texts) c.args.list.now c.args.row (record { located = c.requires.list.located; apart = c.requires.list.apart; rows = c.requires.list.rows; in_order = c.requires.list.in_order; all = c.requires.list.all; few = c.requires.list.few; fits = c.requires.list.fits }) c.requires.row).1.artefact, ap length c.part_of-part.ensures.text)

pub returns : goal.returns
returns c =
    let names : List FileName = c.args.table.now.names.keys in
    let name = get_or_from_slice_get names c.args.row.name c.key.result.now no_name c.key.ensures in
    on_ok_weaker c.put_file.result (λ e.
    e
    ∙ ap (λ (n : FileName). c.args.out.now ++ file_bytes (record { name = n; artefact = part_ref c.part_of-part.result })) (sym name)
    ∙ ap (λ (r : TextRef). c.args.out.now ++ file_bytes (record { name = get_or names c.args.row.name no_name; artefact = r })) c.part_of-part.ensures.is) c.put_file.ensures
