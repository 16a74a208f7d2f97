use Rattle.std.proofs.Common.{◌≡◌, ◌∙◌, List, Some, sym, subst, arith}
use Rattle.base.specs.declared.graph.Entry.{Entry}
use Rattle.tests_graphs.specs.Reading.{record_read_at}
use Rattle.tests_graphs.specs.Spelling.{record_bytes, IsRecord}
use Rattle.tests_graphs.proofs.Records.{record_takes, not_read, is_that}
use Rattle.tests_graphs.proofs.FoundRecords.{is_found, not_found, none_found}
use Rattle.tests_graphs.proofs.reading.read_record.Goals as goal

pub returns-in_default-clause-some : goal.returns-in_default-clause-some
returns-in_default-clause-some c = λ view artefact is e. absurd (not_read c.args.bytes.now view artefact (rw c.in_default.is at c.in_ok-parts.ensures) is e)

pub returns-in_default-clause-exact : goal.returns-in_default-clause-exact
returns-in_default-clause-exact c = sym (none_found c.args.bytes.now (rw c.in_default.is at c.in_ok-parts.ensures))

pub returns-then-not-branch-clause-some : goal.returns-then-not-branch-clause-some
returns-then-not-branch-clause-some c = λ view artefact is e.
    let read : record_read_at c.args.bytes.now ≡ Some (c.in-Some.parts.entries, c.in-Some.parts.artefact) = rw c.in-Some.is at c.in_ok-parts.ensures in
    let that = is_that c.args.bytes.now c.in-Some.parts.entries c.in-Some.parts.artefact view artefact read is e in
    let taken = c.in_ok-is_record.ensures.1 (rw (that.0, that.1) is) in
    sym c.if-not-branch.true ∙ taken

pub returns-then-not-branch-clause-exact : goal.returns-then-not-branch-clause-exact
returns-then-not-branch-clause-exact c =
    let read : record_read_at c.args.bytes.now ≡ Some (c.in-Some.parts.entries, c.in-Some.parts.artefact) = rw c.in-Some.is at c.in_ok-parts.ensures in
    sym
    (not_found c.args.bytes.now c.in-Some.parts.entries c.in-Some.parts.artefact read
    (λ is.
    let both = sym c.if-not-branch.true ∙ c.in_ok-is_record.ensures.1 is in
    cc))

pub returns-clause-found : goal.returns-clause-found
returns-clause-found c =
    let read : record_read_at c.args.bytes.now ≡ Some (c.in-Some.parts.entries, c.in-Some.parts.artefact) = rw c.in-Some.is at c.in_ok-parts.ensures in
    let spelled = record_takes c.args.bytes.now c.in-Some.parts.entries c.in-Some.parts.artefact (λ i. omega (arith, c.type_inv.bytes i)) read in
    subst (λ (view : List Entry). IsRecord view c.in-Some.parts.artefact × (c.args.bytes.now ≡ record_bytes view c.in-Some.parts.artefact)) (sym c.in_ok-view.ensures)
    (c.in_ok-is_record.ensures.0 c.if-not-branch.false, spelled)

pub returns-clause-only : goal.returns-clause-only
returns-clause-only c = λ view artefact is e.
    let read : record_read_at c.args.bytes.now ≡ Some (c.in-Some.parts.entries, c.in-Some.parts.artefact) = rw c.in-Some.is at c.in_ok-parts.ensures in
    let that = is_that c.args.bytes.now c.in-Some.parts.entries c.in-Some.parts.artefact view artefact read is e in
    (c.in_ok-view.ensures ∙ that.0, that.1)

pub returns-clause-exact : goal.returns-clause-exact
returns-clause-exact c =
    let read : record_read_at c.args.bytes.now ≡ Some (c.in-Some.parts.entries, c.in-Some.parts.artefact) = rw c.in-Some.is at c.in_ok-parts.ensures in
    rw c.in_ok-view.ensures (sym (is_found c.args.bytes.now c.in-Some.parts.entries c.in-Some.parts.artefact read (c.in_ok-is_record.ensures.0 c.if-not-branch.false)))
