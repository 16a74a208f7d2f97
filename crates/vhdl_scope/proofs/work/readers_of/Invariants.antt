-- So far the readers of the indices up to the number are known.
use Rattle.std.proofs.Common.{◌≡◌, ℕ, ◌<◌, Contains, length}
use Rattle.vhdl_scope.specs.declared.links.Link.{Link}
use Rattle.vhdl_scope.specs.Links.{links_at}
use Rattle.vhdl_scope.specs.Work.{AreReaders, readers_at}
use Rattle.vhdl_scope.proofs.work.readers_of.Given as goal

abbrev pub invariant-loop-at : goal.invariant-loop-at
invariant-loop-at l = record {
  each : length l.readers.items ≡ length l.links;
  row_indices : AreReaders (length l.links) l.readers.items;
  known : (at : ℕ) (link : Link) → at < l.at → Contains (links_at l.links at) link → Contains (readers_at l.readers.items link.source) at;
}
