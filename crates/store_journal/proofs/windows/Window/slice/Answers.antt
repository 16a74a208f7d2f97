use Rattle.std.proofs.Common.{◌≡◌, ◌+◌, ◌-◌, ℕ, arith}
use Rattle.store_journal.proofs.WindowLemmas.{within_window}
use Rattle.store_journal.proofs.windows.Window.slice.Goals as goal

pub returns-clause-is : goal.returns-clause-is
returns-clause-is c = λ reads is.
    let window = c.args.self.now in
    let skipped : ℕ = c.args.span.start - window.start in
    let count : skipped + c.args.span.count - skipped ≡ c.args.span.count = omega arith in
    rw (c.deref.ensures.value, count) (within_window reads window.bytes.items window.start c.args.span.start c.args.span.count is c.requires.from c.requires.to)
