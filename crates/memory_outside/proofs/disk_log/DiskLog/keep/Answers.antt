use Rattle.std.proofs.Common.{List, sym, ap, ◌∙◌, ◌++◌, [], ◌∷◌}
use Rattle.outside.specs.Disks.{Image, reads_of}
use Rattle.memory_outside.specs.declared.logged.LoggedCall.{LoggedCall}
use Rattle.memory_outside.specs.Disks.{Log, now_of, start_of, disk_after, reads_after, on_bytes}
use Rattle.memory_outside.proofs.LogLemmas.{now_of-push, kept_goes, kept_is_unchanged}
use Rattle.memory_outside.proofs.ReadsLemmas.{disk_reads_after}
use Rattle.memory_outside.proofs.disk_log.DiskLog.keep.Goals as goal

abbrev log_of : Image → List LoggedCall → Log
log_of first kept = record { first = first; kept = kept }

pub invariant_of-self-2 : goal.invariant_of-self-2
invariant_of-self-2 c =
    let start = start_of (record { a = c.self.inside.first_a; b = c.self.inside.first_b }) in
    let items = c.push_within.ensures.items ∙ ap (λ (l : List LoggedCall). l ++ c.args.kept ∷ []) c.reserve.ensures.items in
    c.in_ok-apply.ensures.ok
    ∙ ap (on_bytes c.args.kept.side (reads_after c.args.kept.done c.args.kept.act)) c.self.invariant
    ∙ sym (disk_reads_after c.args.kept (now_of c.self.inside.kept.items start))
    ∙ ap reads_of (sym (now_of-push c.self.inside.kept.items c.args.kept start))
    ∙ ap (λ (l : List LoggedCall). reads_of (now_of l start)) (sym items)

pub returns-in_err-reserve-clause-goes : goal.returns-in_err-reserve-clause-goes
returns-in_err-reserve-clause-goes c =
    let first : Image = record { a = c.self.inside.first_a; b = c.self.inside.first_b } in
    kept_is_unchanged c.args.self.now (log_of first c.reserve.new.self.items) c.args.kept (ap (log_of first) c.reserve.ensures.items ∙ c.self.view_is)

pub returns-in_err-apply-clause-goes : goal.returns-in_err-apply-clause-goes
returns-in_err-apply-clause-goes c =
    let first : Image = record { a = c.self.inside.first_a; b = c.self.inside.first_b } in
    kept_is_unchanged c.args.self.now (log_of first c.reserve.new.self.items) c.args.kept (ap (log_of first) c.reserve.ensures.items ∙ c.self.view_is)

pub returns-clause-after : goal.returns-clause-after
returns-clause-after c =
    let first : Image = record { a = c.self.inside.first_a; b = c.self.inside.first_b } in
    let items = c.push_within.ensures.items ∙ ap (λ (l : List LoggedCall). l ++ c.args.kept ∷ []) c.reserve.ensures.items in
    ap (λ (l : List LoggedCall). now_of l (start_of first)) items
    ∙ now_of-push c.self.inside.kept.items c.args.kept (start_of first)
    ∙ ap (λ (log : Log). disk_after c.args.kept (now_of log.kept (start_of log.first))) c.self.view_is

pub returns-clause-goes : goal.returns-clause-goes
returns-clause-goes c =
    let first : Image = record { a = c.self.inside.first_a; b = c.self.inside.first_b } in
    let items = c.push_within.ensures.items ∙ ap (λ (l : List LoggedCall). l ++ c.args.kept ∷ []) c.reserve.ensures.items in
    kept_goes c.args.self.now (log_of first c.push_within.new.self.items) c.args.kept (ap (λ (log : Log). log.first) c.self.view_is) (items ∙ ap (λ (log : Log). log.kept ++ c.args.kept ∷ []) c.self.view_is)
