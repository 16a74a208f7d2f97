-- The appended file has the units of the scan, with their scopes, unresolved references and testbench facts.
use Rattle.std.proofs.Common.{refl}
use Rattle.vhdl_outline.proofs.OutlineLemmas.{added}
use Rattle.vhdl_outline.proofs.outlines.Outlines.push.Goals as goal

pub returns-clause-added : goal.returns-clause-added
returns-clause-added c = added c.args.text.now c.args.scan c.args.self.now _ _ c.requires.scan refl c.in_ok-scopes.ensures c.in_ok-unresolved.ensures.are c.in_ok-unresolved.ensures.lie c.in_ok-runs.ensures.are c.in_ok-runs.ensures.lie c.in_ok-push.ensures.ok
