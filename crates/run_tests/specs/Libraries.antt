-- The libraries that a clean build makes of a graph.
use Rattle.std.specs.Prelude.{List, length, slice_get}
use Rattle.std.specs.List.{filter_map}
use Rattle.base.specs.declared.graph.Entry.{Entry}
use Rattle.base.specs.declared.graph.BuiltFile.{BuiltFile}
use Rattle.base.specs.declared.child.Request.{Request}
use Rattle.base.specs.declared.child.Exit.{Exit}
use Rattle.base.specs.PresentGraph.{below}
use Rattle.run_spec.specs.CleanBuild.{built_of, clean_build}

-- each file that a clean build makes, with its artefact, in compile order
abbrev pub libraries : (Request → Exit) → List Entry → List BuiltFile
libraries answer graph = filter_map (λ position. built_of (slice_get (clean_build answer graph) position)) (below (length graph))
