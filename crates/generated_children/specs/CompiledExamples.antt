-- The artefacts of two packages and of the bench, worked out by hand.
use Rattle.std.specs.Prelude.{◌≡◌, codes, true, false}
use Rattle.generated_children.specs.CompiledTexts.{bench_artefact, package_artefact}

-- the packages 1 and 12, each plain and edited, and the bench
pub record CompiledExamples : Type 0 where
  pub first : package_artefact 1 false ≡ codes "unit package p1\n"
  pub first_noted : package_artefact 1 true ≡ codes "unit package p1\nscript note 1\n"
  pub twelfth : package_artefact 12 false ≡ codes "unit package p12\n"
  pub twelfth_noted : package_artefact 12 true ≡ codes "unit package p12\nscript note 1\n"
  pub bench : bench_artefact ≡ codes "unit entity tb\nunit architecture a of tb\n"
