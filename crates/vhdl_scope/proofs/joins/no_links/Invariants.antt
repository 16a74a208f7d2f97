-- So far as many lists.
use Rattle.std.proofs.Common.{◌≡◌, [], replicate}
use Rattle.vhdl_scope.proofs.joins.no_links.Given as goal

abbrev pub invariant-loop : goal.invariant-loop
invariant-loop l = l.links.items ≡ replicate l.counter []
