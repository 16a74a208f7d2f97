-- The lemmas.
pub mod MomentLaws
pub mod ImageLaws
pub mod CommitLaws
pub mod PhaseLaws
pub mod FaultCountLaws
pub mod LineLengths
pub mod LineRows
