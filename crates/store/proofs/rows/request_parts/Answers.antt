use Rattle.std.proofs.Common.{◌≡◌, ◌≤◌, ℕ, List, length, get_or, sym, ap, subst, ◌∙◌, arith}
use Rattle.base.specs.declared.limits.TheConstants.{ARTEFACT_LIMIT, TEXT_LIMIT}
use Rattle.base.specs.Names.{FitsCommand, FitsName}
use Rattle.store_codec.specs.Forms.{command_bytes}
use Rattle.store_codec.specs.RecordTables.{product_at}
use Rattle.store_table.specs.declared.table.RecordRow.{RecordRow}
use Rattle.store_table.specs.Located.{no_name, located_table}
use Rattle.store_table.proofs.Puts.{no_record}
use Rattle.store.specs.Plans.{text_of}
use Rattle.store.proofs.LocatedRows.{command_here, kept_here, record_artefact, record_name, record_text, row_here}
use Rattle.store.proofs.rows.request_parts.Goals as goal

pub spelled_in-requires : goal.spelled_in-requires
spelled_in-requires c =
    let payloads = c.args.held.now.segments in
    subst FitsCommand (command_here payloads c.args.table.now c.requires.table.located c.args.step.row c.requires.there c.index-row.result.now c.get.result.now c.index-row.ensures c.get.ensures)
    (kept_here payloads c.args.table.now c.requires.table.located c.args.step.row c.requires.there c.requires.table.kept).command

pub returns-clause-words : goal.returns-clause-words
returns-clause-words c =
    c.spelled_in.ensures.is ∙ ap command_bytes (sym (command_here c.args.held.now.segments c.args.table.now c.requires.table.located c.args.step.row c.requires.there c.index-row.result.now c.get.result.now c.index-row.ensures c.get.ensures))

pub returns-clause-sizes : goal.returns-clause-sizes
returns-clause-sizes c =
    let payloads = c.args.held.now.segments in
    let table = c.args.table.now in
    let there = located_table payloads table in
    let n = c.args.step.row in
    let kept = kept_here payloads table c.requires.table.located n c.requires.there c.requires.table.kept in
    let here : c.index-row.result.now ≡ get_or table.rows.items n no_record = row_here payloads table c.requires.table.located n c.requires.there c.index-row.result.now c.index-row.ensures in
    let name = record_name payloads table c.requires.table.located n c.requires.there ∙ ap (λ (r : RecordRow). get_or table.names.keys r.name no_name) (sym here) ∙ sym c.name_at.ensures in
    let text = record_text payloads table c.requires.table.located n c.requires.there ∙ ap (λ (r : RecordRow). text_of there.texts r.text) (sym here) ∙ sym c.text_at.ensures in
    let artefact = record_artefact payloads table c.requires.table.located n c.requires.there ∙ ap (λ (r : RecordRow). (product_at there.products r.product).artefact) (sym here) ∙ sym c.artefact_of.ensures in
    record {
      name = subst FitsName name kept.name;
      words = c.spelled_in.ensures.small;
      source = subst (λ (t : List ℕ). length t ≤ TEXT_LIMIT) text kept.text;
      few = c.requires.few;
      artefact = (let small = subst (λ (t : List ℕ). length t ≤ ARTEFACT_LIMIT) artefact kept.small in omega (arith, small));
    }
