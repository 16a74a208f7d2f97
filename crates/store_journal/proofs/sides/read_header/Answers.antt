use Rattle.std.proofs.Common.{◌≡◌, sym, ap, ◌∙◌}
use Rattle.outside.proofs.MomentLaws.{goes_then}
use Rattle.outside.specs.Disks.{DiskState, side_of}
use Rattle.store_journal.proofs.Lives.{first_bytes}
use Rattle.store_journal.proofs.sides.read_header.Goals as goal

pub returns-in_err-first-clause-moments : goal.returns-in_err-first-clause-moments
returns-in_err-first-clause-moments g c = λ told.
    let moments = g.D.Disk.moments in
    goes_then (moments c.args.disk.now).now (moments c.args.disk.now) (moments c.len.new.self) (moments c.read_some.new.disk) (c.len.ensures.moments told) (c.read_some.ensures.moments told)

pub returns-clause-moments : goal.returns-clause-moments
returns-clause-moments g c = λ told.
    let moments = g.D.Disk.moments in
    goes_then (moments c.args.disk.now).now (moments c.args.disk.now) (moments c.len.new.self) (moments c.read_some.new.disk) (c.len.ensures.moments told) (c.read_some.ensures.moments told)

pub returns-clause-newer : goal.returns-clause-newer
returns-clause-newer g c = λ told.
    let old = (g.D.Disk.moments c.args.disk.now).now in
    let reads = (side_of c.args.side old).reads in
    let same : (side_of c.args.side (g.D.Disk.moments c.len.new.self).now).reads ≡ reads = ap (λ (d : DiskState). (side_of c.args.side d).reads) (c.in_ok-len.ensures.same told) in
    c.header_of-newer.ensures.header reads (sym (c.in_ok-len.ensures.length told))
    (c.deref.ensures.value ∙ first_bytes reads _ c.in_ok-first.first.items c.header_count.result c.in_ok-len.len same (c.in_ok-first.ensures.bytes told) c.header_count.ensures (c.in_ok-len.ensures.length told))

pub returns-clause-older : goal.returns-clause-older
returns-clause-older g c = λ told.
    let old = (g.D.Disk.moments c.args.disk.now).now in
    let reads = (side_of c.args.side old).reads in
    let same : (side_of c.args.side (g.D.Disk.moments c.len.new.self).now).reads ≡ reads = ap (λ (d : DiskState). (side_of c.args.side d).reads) (c.in_ok-len.ensures.same told) in
    c.header_of-older.ensures.header reads (sym (c.in_ok-len.ensures.length told))
    (c.deref-2.ensures.value ∙ first_bytes reads _ c.in_ok-first.first.items c.header_count.result c.in_ok-len.len same (c.in_ok-first.ensures.bytes told) c.header_count.ensures (c.in_ok-len.ensures.length told))
