-- The scans of the files of two packages, by computation.
use Rattle.std.proofs.Common.{refl}
use Rattle.std.specs.Fmt.{digits}
use Rattle.generated_project.specs.Files.{library_words, all_words, package_words, constant_words, end_words, note_line}
use Rattle.generated_sources.specs.PackageExamples.{FirstPackage, TwelfthPackage}
use Rattle.generated_sources.specs.PackageLinks.{used_library}

pub first_package : FirstPackage
unfolding digits library_words all_words package_words constant_words end_words note_line used_library
first_package = record { text = refl; tokens = refl; comments = refl; unit = refl; refs = refl }

pub twelfth_package : TwelfthPackage
unfolding digits library_words all_words package_words constant_words end_words note_line used_library
twelfth_package = record { text = refl; tokens = refl; comments = refl; unit = refl; refs = refl }
