use Rattle.std.proofs.Common.{◌≡◌, ◌+◌, ◌≤◌, [], ◌∷◌, ◌++◌, length, ◌∙◌, ap, arith}
use Rattle.base.specs.declared.child.Event.TheVariants as event
use Rattle.memory_outside.proofs.ChildLogLemmas.{child_log_started, fresh}
use Rattle.memory_outside.proofs.child_log.ChildLog.start.Goals as goal

pub invariant_of-self-2 : goal.invariant_of-self-2
invariant_of-self-2 c =
    let journal = c.self.inside.journal in
    let in_step : c.reserve.new.self.items ≡ journal.items = c.reserve.ensures.items in
    let ticket : c.len-ticket.result ≡ length journal.items = c.len-ticket.ensures ∙ ap length in_step in
    let running : c.push.new.self.items ≡ c.self.inside.running.items ++ length journal.items ∷ [] = c.in-Ok-push.ensures.items ∙ ap (λ t. c.self.inside.running.items ++ t ∷ []) ticket in
    let items : c.push_within.new.self.items ≡ journal.items ++ event.Started (length journal.items) c.in-Ok.request ∷ [] = c.push_within.ensures.items ∙ (ap (λ js. js ++ event.Started c.len-ticket.result c.in-Ok.request ∷ []) in_step ∙ ap (λ t. journal.items ++ event.Started t c.in-Ok.request ∷ []) ticket) in
    let reserved : length journal.items + (c.len.result + 2) ≤ c.reserve.new.self.room = c.in-Ok-reserve.ensures.room in
    let grown : c.reserve.new.self.room ≤ c.push_within.new.self.room = c.push_within.ensures.room in
    let count : c.len.result ≡ length c.self.inside.running.items = omega arith in
    rw running (child_log_started c.self.inside.running.items journal c.push_within.new.self c.in-Ok.request c.self.invariant (omega arith) items)

pub returns-clause-fresh : goal.returns-clause-fresh
returns-clause-fresh c =
    let journal = c.self.inside.journal in
    let ticket : c.len-ticket.result ≡ length journal.items = c.len-ticket.ensures ∙ ap length c.reserve.ensures.items in
    rw (← c.self.view_is, ticket) (fresh journal.items c.self.invariant.placed)
