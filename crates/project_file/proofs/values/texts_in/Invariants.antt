-- What the loop of `texts_in` keeps: the texts so far, and what is read of the other values.
use Rattle.std.proofs.Common.{◌≡◌, ◌++◌, drop, map}
use Rattle.std.specs.Prelude.{option_map}
use Rattle.toml.specs.View.{view}
use Rattle.project_file.specs.Toml.{all_read, text_of}
use Rattle.project_file.specs.Forms.{form_of}
use Rattle.project_file.proofs.values.texts_in.Given as goal

abbrev pub invariant-loop-i : goal.invariant-loop-i
invariant-loop-i l = option_map (λ more. l.texts ++ more) (all_read (text_of (form_of l.form)) (map view (drop l.i l.values))) ≡ all_read (text_of (form_of l.form)) (map view l.values)
