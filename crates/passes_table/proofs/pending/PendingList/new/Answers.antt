use Rattle.passes_table.proofs.PendingFiles.{pending_none}
use Rattle.passes_table.proofs.pending.PendingList.new.Goals as goal

pub returns-clause-is : goal.returns-clause-is
returns-clause-is c = λ names texts apart. pending_none names texts (record { row = record { files = c.new.result }; fresh = c.new-2.result }) apart c.new-2.ensures.located c.new.ensures c.new-2.ensures.none
