-- The outline of a text that has a scan.
use Rattle.std.specs.Prelude.{ℕ, List}
use Rattle.base.specs.declared.design.Scan.{Scan}
use Rattle.vhdl_spec.specs.Scans.{IsScanOf}
use Rattle.vhdl_outline.specs.declared.outlines.Outlines.{Outlines}
use Rattle.vhdl_outline.specs.Outlines.{HasAdded}

-- the outline of a text that has a scan was added
pub record HasOutlined (text : List ℕ) (old new : Outlines) : Type 0 where
  pub scan : Scan
  pub is : IsScanOf text scan
  pub added : HasAdded text scan old new
