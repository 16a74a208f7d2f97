-- The counts of faults that the outside objects of a run keep, and when no count has fallen.
use Rattle.std.specs.Prelude.{ℕ, ◌≤◌}
use Rattle.outside.specs.declared.tree.Tree as tree
use Rattle.outside.specs.declared.disk.Disk as disk
use Rattle.outside.specs.declared.procs.Procs as procs
use Rattle.outside.specs.declared.streams.Source as source
use Rattle.outside.specs.declared.streams.Sink as sink
use Rattle.outside.specs.declared.reports.Reports as reports

-- how often starts of children have failed, and children were lost
pub record ChildFaultCounts : Type 0 where
  pub starts : ℕ
  pub losses : ℕ

-- how often the children of a build have failed, and calls of its disk
pub record BuildFaultCounts : Type 0 where
  pub children : ChildFaultCounts
  pub disks : ℕ

-- how often each outside object of a run has failed
pub record RunFaultCounts : Type 0 where
  pub tree : ℕ
  pub build : BuildFaultCounts
  pub out : ℕ
  pub report : ℕ
  pub input : ℕ

-- no fault has been counted
abbrev pub no_faults : RunFaultCounts
no_faults = record { tree = 0; build = record { children = record { starts = 0; losses = 0 }; disks = 0 }; out = 0; report = 0; input = 0 }

-- no count of the children has fallen
pub record NoChildCountFell (first now : ChildFaultCounts) : Type 0 where
  pub starts : first.starts ≤ now.starts
  pub losses : first.losses ≤ now.losses

-- no count of a build has fallen
pub record NoBuildCountFell (first now : BuildFaultCounts) : Type 0 where
  pub children : NoChildCountFell first.children now.children
  pub disks : first.disks ≤ now.disks

-- no count of a run has fallen
pub record NoRunCountFell (first now : RunFaultCounts) : Type 0 where
  pub tree : first.tree ≤ now.tree
  pub build : NoBuildCountFell first.build now.build
  pub out : first.out ≤ now.out
  pub report : first.report ≤ now.report
  pub input : first.input ≤ now.input

-- the counts of an object that starts children
abbrev pub child_counts : {P : Type 0} → procs.Ghosts P → P → ChildFaultCounts
child_counts procs children = record { starts = procs.failed_starts children; losses = procs.lost_children children }

-- the counts of a build: those of its children and of its disk
abbrev pub build_counts : {P D : Type 0} → procs.Ghosts P → disk.Ghosts D → P → D → BuildFaultCounts
build_counts procs disk children store = record { children = child_counts procs children; disks = disk.failed_disk_calls store }

-- the counts of a run: those of each of its outside objects
abbrev pub run_counts : {I T D P O R : Type 0} → source.Ghosts I → tree.Ghosts T → disk.Ghosts D → procs.Ghosts P → sink.Ghosts O → reports.Ghosts R
    → I → T → D → P → O → R → RunFaultCounts
run_counts source tree disk procs sink reports input files store children out report = record {
  tree = tree.failed_reads files;
  build = build_counts procs disk children store;
  out = sink.failed_puts out;
  report = reports.failed_reports report;
  input = source.failed_takes input;
}

-- these counts, with that of a tree
abbrev pub with_tree : {T : Type 0} → tree.Ghosts T → T → RunFaultCounts → RunFaultCounts
with_tree tree files others = record others { tree = tree.failed_reads files }

-- these counts, with those of a build
abbrev pub with_build : {P D : Type 0} → procs.Ghosts P → disk.Ghosts D → P → D → RunFaultCounts → RunFaultCounts
with_build procs disk children store others = record others { build = build_counts procs disk children store }

-- these counts, with those of children
abbrev pub with_children : {P : Type 0} → procs.Ghosts P → P → RunFaultCounts → RunFaultCounts
with_children procs children others = record others { build = record others.build { children = child_counts procs children } }

-- these counts, with that of an output
abbrev pub with_output : {O : Type 0} → sink.Ghosts O → O → RunFaultCounts → RunFaultCounts
with_output sink out others = record others { out = sink.failed_puts out }

-- these counts, with that of the reports
abbrev pub with_reports : {R : Type 0} → reports.Ghosts R → R → RunFaultCounts → RunFaultCounts
with_reports reports report others = record others { report = reports.failed_reports report }

-- these counts, with that of an input
abbrev pub with_input : {I : Type 0} → source.Ghosts I → I → RunFaultCounts → RunFaultCounts
with_input source input others = record others { input = source.failed_takes input }
