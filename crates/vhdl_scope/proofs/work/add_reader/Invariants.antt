-- So far the index is a reader of the links up to the index.
use Rattle.std.proofs.Common.{take}
use Rattle.vhdl_scope.specs.Work.{HaveReader}
use Rattle.vhdl_scope.proofs.work.add_reader.Given as goal

abbrev pub invariant-loop-link : goal.invariant-loop-link
invariant-loop-link l = HaveReader l.at (take l.link-index l.links) l.initial.readers.items l.readers.items
