-- The types that the clauses of runs speak of, by one import.
pub use Rattle.base.specs.declared.file.FileName.{FileName}
pub use Rattle.base.specs.declared.graph.Entry.{Entry}
pub use Rattle.base.specs.declared.graph.BuiltFile.{BuiltFile}
pub use Rattle.base.specs.declared.child.Request.{Request}
pub use Rattle.base.specs.declared.child.Exit.{Exit}
pub use Rattle.base.specs.declared.child.Event.{Event}
