use Rattle.std.proofs.Common.{◌≡◌, true, false, sym, ◌∙◌}
use Rattle.outside.specs.Disks.{reads_of}
use Rattle.store_journal.specs.Forms.{has_form, older_counts}
use Rattle.store_journal.proofs.Forms.{no_form_counts}
use Rattle.store_journal.proofs.Stays.{forms_if_same, newer_forms, older_live}
use Rattle.store_journal.proofs.finding.open_found.Goals as goal

pub returns-in_err-opened-clause-holds : goal.returns-in_err-opened-clause-holds
returns-in_err-opened-clause-holds g c = λ told.
    let reads = reads_of (g.D.Disk.moments c.args.disk.now).now in
    let counts : older_counts c.args.newer c.args.older reads ≡ true = sym (c.is_older-older_alone.ensures c.args.newer c.args.older reads (c.requires.newer told) (c.requires.older told)) ∙ c.if-older_alone.true in
    forms_if_same c.args.newer c.args.older (g.D.Disk.moments c.args.disk.now) (g.D.Disk.moments c.open_sides.new.disk) (c.open_sides.ensures.holds told (older_live c.args.newer c.args.older reads counts))

pub returns-then-older_alone-clause-holds : goal.returns-then-older_alone-clause-holds
returns-then-older_alone-clause-holds g c = λ told.
    let reads = reads_of (g.D.Disk.moments c.args.disk.now).now in
    let counts : older_counts c.args.newer c.args.older reads ≡ true = sym (c.is_older-older_alone.ensures c.args.newer c.args.older reads (c.requires.newer told) (c.requires.older told)) ∙ c.if-older_alone.true in
    forms_if_same c.args.newer c.args.older (g.D.Disk.moments c.args.disk.now) (g.D.Disk.moments c.open_sides.new.disk) (c.open_sides.ensures.holds told (older_live c.args.newer c.args.older reads counts))

pub returns-then-older_alone-clause-fresh : goal.returns-then-older_alone-clause-fresh
returns-then-older_alone-clause-fresh g c = λ told none gone.
    let reads = reads_of (g.D.Disk.moments c.args.disk.now).now in
    let counts : older_counts c.args.newer c.args.older reads ≡ true = sym (c.is_older-older_alone.ensures c.args.newer c.args.older reads (c.requires.newer told) (c.requires.older told)) ∙ c.if-older_alone.true in
    let live : has_form c.args.older reads ≡ true = older_live c.args.newer c.args.older reads counts in
    absurd (cc (gone, live))

pub returns-in_err-opened-2-clause-holds : goal.returns-in_err-opened-2-clause-holds
returns-in_err-opened-2-clause-holds g c = λ told.
    let reads = reads_of (g.D.Disk.moments c.args.disk.now).now in
    let counts : older_counts c.args.newer c.args.older reads ≡ false = sym (c.is_older-older_alone.ensures c.args.newer c.args.older reads (c.requires.newer told) (c.requires.older told)) ∙ c.if-older_alone.false in
    newer_forms c.args.newer c.args.older (g.D.Disk.moments c.args.disk.now) (g.D.Disk.moments c.open_sides-2.new.disk) counts (c.open_sides-2.ensures.any_moment told) (c.open_sides-2.ensures.holds told) (λ none gone. c.open_sides-2.ensures.apart told none c.args.older c.requires.forms gone)

pub returns-clause-holds : goal.returns-clause-holds
returns-clause-holds g c = λ told.
    let reads = reads_of (g.D.Disk.moments c.args.disk.now).now in
    let counts : older_counts c.args.newer c.args.older reads ≡ false = sym (c.is_older-older_alone.ensures c.args.newer c.args.older reads (c.requires.newer told) (c.requires.older told)) ∙ c.if-older_alone.false in
    newer_forms c.args.newer c.args.older (g.D.Disk.moments c.args.disk.now) (g.D.Disk.moments c.open_sides-2.new.disk) counts (c.open_sides-2.ensures.any_moment told) (c.open_sides-2.ensures.holds told) (λ none gone. c.open_sides-2.ensures.apart told none c.args.older c.requires.forms gone)

pub returns-clause-fresh : goal.returns-clause-fresh
returns-clause-fresh g c = λ told none gone. c.in_ok-opened-2.ensures.fresh told (no_form_counts c.args.newer (reads_of (g.D.Disk.moments c.args.disk.now).now) none)
