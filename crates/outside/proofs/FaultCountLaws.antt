-- Counts of faults over two calls, one after the other.
use Rattle.std.proofs.Common.{arith}
use Rattle.outside.specs.FaultCounts.{BuildFaultCounts, NoBuildCountFell}

-- where no count fell in either call, none fell in both
pub no_fall_twice : {first middle now : BuildFaultCounts} → NoBuildCountFell first middle → NoBuildCountFell middle now → NoBuildCountFell first now
no_fall_twice one two = record {
  children = record {
    starts = omega (arith, one.children.starts, two.children.starts);
    losses = omega (arith, one.children.losses, two.children.losses);
  };
  disks = omega (arith, one.disks, two.disks);
}
