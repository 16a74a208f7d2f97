use Rattle.std.proofs.Common.{◌≡◌, ℕ, eqb, length, get_or, Some, None, refl, sym, ap, subst, ◌∙◌}
use Rattle.base_collections.specs.Indexes.{IsLastWith}
use Rattle.store_table.specs.declared.table.RecordRow.{RecordRow}
use Rattle.store.proofs.LatestRows.{is_latest_none, is_latest_some, fingerprint_at}
use Rattle.store.proofs.LocatedRows.{row_here}
use Rattle.store.proofs.walking.is_latest.Goals as goal

pub returns-in-Some : goal.returns-in-Some
returns-in-Some c =
    let payloads = c.args.held.now.segments in
    let table = c.args.table.now in
    let fingerprints = table.latest.fingerprints in
    let fingerprint : c.index.result.now.name ≡ get_or fingerprints c.args.number 0 = ap (λ (r : RecordRow). r.name) (row_here payloads table c.requires.table.located c.args.number c.requires.number c.index.result.now c.index.ensures) ∙ sym (fingerprint_at payloads table c.requires.table.located c.args.number c.requires.number c.args.number c.requires.number) in
    is_latest_some payloads table c.requires.table.located c.args.number c.requires.number c.in-Some.last (eqb c.in-Some.last c.args.number)
    (subst (λ (m : ℕ). IsLastWith fingerprints m (length fingerprints) (Some c.in-Some.last)) fingerprint c.in-Some.ensures) refl

pub returns-in-None : goal.returns-in-None
returns-in-None c =
    let payloads = c.args.held.now.segments in
    let table = c.args.table.now in
    let fingerprints = table.latest.fingerprints in
    let fingerprint : c.index.result.now.name ≡ get_or fingerprints c.args.number 0 = ap (λ (r : RecordRow). r.name) (row_here payloads table c.requires.table.located c.args.number c.requires.number c.index.result.now c.index.ensures) ∙ sym (fingerprint_at payloads table c.requires.table.located c.args.number c.requires.number c.args.number c.requires.number) in
    is_latest_none payloads table c.requires.table.located c.args.number c.requires.number
    (subst (λ (m : ℕ). IsLastWith fingerprints m (length fingerprints) None) fingerprint c.in-None.ensures)
