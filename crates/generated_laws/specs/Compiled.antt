-- Which files a build has compiled.
use Rattle.std.specs.Prelude.{◌≡◌, ℕ, Bool, if◌then◌else◌, List, length, map, count_by}
use Rattle.base.specs.declared.graph.Entry.{Entry}
use Rattle.base.specs.PresentGraph.{below}
use Rattle.run_spec.specs.declared.statuses.FileStatus.{FileStatus}
use Rattle.run_spec.specs.declared.statuses.FileStatus.TheVariants as status
use Rattle.run_spec.specs.Statuses.{is_compiled}

-- A build of a graph has compiled exactly the files at the positions that pass, `count` in number, and found all others fresh.
pub record CompilesOnly (graph : List Entry) (passes : ℕ → Bool) (count : ℕ) (statuses : List FileStatus) : Type 0 where
  pub statuses_are : statuses ≡ map (λ position. if passes position then status.Compiled else status.Fresh) (below (length graph))
  pub count_is : count_by is_compiled statuses ≡ count
