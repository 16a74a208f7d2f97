use Rattle.std.proofs.Common.{◌≡◌, ℕ, ◌+◌, ◌<◌, ◌++◌, List, [], ◌∷◌, Option, drop, refl, sym, ap, subst, ◌∙◌, arith}
use Rattle.std.specs.Prelude.{IfSome}
use Rattle.outside.proofs.MomentLaws.{goes_then}
use Rattle.outside.specs.Disks.{DiskState, bytes_at, side_of}
use Rattle.store_journal.specs.Windows.{AreReadTo, IsCountOf, IsWindowOf}
use Rattle.store_journal.proofs.Resting.{goes_nowhere}
use Rattle.store_journal.proofs.WindowLemmas.{none_next, read_begins_at, read_next, read_to_end}
use Rattle.store_journal.proofs.reading.read_parts.Goals as goal

pub loop-count-init : goal.loop-count-init
loop-count-init g c = record {
  from = omega arith;
  to = omega (arith, c.requires.size);
  read = λ told.
      let reads = (side_of c.args.live.side (g.D.Disk.moments c.args.disk.now).now).reads in
      rw c.requires.none (read_begins_at reads (omega (arith, c.requires.size, c.requires.len told)));
  borrows = refl;
  window = c.requires.window;
  same = λ told. refl;
  moments = λ told. goes_nowhere (g.D.Disk.moments c.args.disk.now);
  cause = refl;
}

pub loop-count-preserved : goal.loop-count-preserved
loop-count-preserved g c =
    let moments = g.D.Disk.moments in
    let taken = g.T.Visitor.taken in
    let commit_byte = c.loop-count.commit_byte in
    let count = c.in-Some.count in
    let so_far = c.loop-count.invariant in
    let within : commit_byte + 5 + count < c.args.live.len = subst (λ (o : Option ℕ). IfSome o (λ (n : ℕ). commit_byte + 5 + n < c.args.live.len)) c.in-Some.is c.in_ok-count.ensures.within in
    record {
      from = omega (arith, so_far.from);
      to = omega (arith, within);
      read = λ told.
          let reads = (side_of c.args.live.side (moments c.args.disk.now).now).reads in
          let before : (side_of c.args.live.side (moments c.loop-count.disk).now).reads ≡ reads = ap (λ (d : DiskState). (side_of c.args.live.side d).reads) (so_far.same told) in
          let same : (side_of c.args.live.side (moments c.next_count.new.disk).now).reads ≡ reads = ap (λ (d : DiskState). (side_of c.args.live.side d).reads) (c.in_ok-count.ensures.same told) ∙ before in
          let head = subst (IsCountOf (drop commit_byte reads)) c.in-Some.is (subst (λ (l : List ℕ). IsCountOf (drop commit_byte l) c.in_ok-count.field-0) before (c.in_ok-count.ensures.is told)) in
          let more : taken c.read_payload.new.visitor ≡ taken c.loop-count.visitor ++ bytes_at (commit_byte + 5) count reads ∷ [] = c.in_ok-read_payload.ensures.taken told ∙ ap (λ (l : List ℕ). taken c.loop-count.visitor ++ bytes_at (commit_byte + 5) count l ∷ []) same in
          subst (λ (ps : List (List ℕ)). AreReadTo reads ps (commit_byte + 5 + count)) (sym more) (read_next reads (taken c.loop-count.visitor) commit_byte count (so_far.read told) head (omega arith) (omega (arith, within, c.requires.len told)));
      borrows = c.in_ok-read_payload.ensures.borrows ∙ so_far.borrows;
      window = λ told.
          let same = ap (λ (d : DiskState). (side_of c.args.live.side d).reads) (c.in_ok-count.ensures.same told ∙ so_far.same told) in
          subst (λ (l : List ℕ). IsWindowOf l c.read_payload.new.window) same (c.in_ok-read_payload.ensures.window told);
      same = λ told. c.in_ok-read_payload.ensures.same told ∙ c.in_ok-count.ensures.same told ∙ so_far.same told;
      moments = λ told.
          let start = moments c.args.disk.now in
          goes_then start.now start (moments c.next_count.new.disk) (moments c.read_payload.new.disk)
          (goes_then start.now start (moments c.loop-count.disk) (moments c.next_count.new.disk) (so_far.moments told) (c.next_count.ensures.moments told))
          (c.read_payload.ensures.moments told);
      cause = c.in_ok-read_payload.ensures.cause ∙ c.in_ok-count.ensures.cause ∙ so_far.cause;
    }

pub returns-in_err-count-clause-moments : goal.returns-in_err-count-clause-moments
returns-in_err-count-clause-moments g c = λ told.
    let moments = g.D.Disk.moments in
    goes_then (moments c.args.disk.now).now (moments c.args.disk.now) (moments c.loop-count.disk) (moments c.next_count.new.disk) (c.loop-count.invariant.moments told) (c.next_count.ensures.moments told)

pub returns-in_err-read_payload-clause-moments : goal.returns-in_err-read_payload-clause-moments
returns-in_err-read_payload-clause-moments g c = λ told.
    let moments = g.D.Disk.moments in
    let start = moments c.args.disk.now in
    goes_then start.now start (moments c.next_count.new.disk) (moments c.read_payload.new.disk)
    (goes_then start.now start (moments c.loop-count.disk) (moments c.next_count.new.disk) (c.loop-count.invariant.moments told) (c.next_count.ensures.moments told))
    (c.read_payload.ensures.moments told)

pub returns-clause-moments : goal.returns-clause-moments
returns-clause-moments g c = λ told.
    let moments = g.D.Disk.moments in
    goes_then (moments c.args.disk.now).now (moments c.args.disk.now) (moments c.loop-count.disk) (moments c.next_count.new.disk) (c.loop-count.invariant.moments told) (c.next_count.ensures.moments told)

pub returns-clause-end : goal.returns-clause-end
returns-clause-end g c = λ told.
    let moments = g.D.Disk.moments in
    let commit_byte = c.loop-count.commit_byte in
    let so_far = c.loop-count.invariant in
    let reads = (side_of c.args.live.side (moments c.args.disk.now).now).reads in
    let same : (side_of c.args.live.side (moments c.loop-count.disk).now).reads ≡ reads = ap (λ (d : DiskState). (side_of c.args.live.side d).reads) (so_far.same told) in
    let is = subst (λ (l : List ℕ). IsCountOf (drop commit_byte l) c.in_ok-count.field-0) same (c.in_ok-count.ensures.is told) in
    read_to_end reads (g.T.Visitor.taken c.loop-count.visitor) commit_byte (commit_byte + 1) (so_far.read told) (none_next (drop commit_byte reads) c.in_ok-count.field-0 is c.in_default.not-Some) refl
