-- The examples of "The compiler and the clean build".
use Rattle.std.specs.Prelude.{◌≡◌, ℕ, zero, suc, ◌∷◌, List, [], Option, Some, None, codes}
use Rattle.base.specs.declared.child.MaybeText.TheVariants.{Nothing}
use Rattle.base.specs.declared.graph.BuiltFile.{BuiltFile}
use Rattle.run_spec.specs.CleanBuild.{Blocked, Made, Refused, built_of, clean_build, clean_request}
use Rattle.run_spec.specs.Settled.{none_current, request_unless, stale_requests}
use Rattle.tests_examples.specs.Example.{a_built, a_request, accepting, b_built, b_request, command, files, refusing}

-- 1 is current of a alone, whatever was built below it
abbrev a_current : ℕ → List BuiltFile → Option (List ℕ)
a_current zero built = Some (codes "1")
a_current (suc position) built = None

-- what a compiler is started with
pub record CompilerRequests : Type 0 where
  -- `VRC1`, library, path and text each after its length, and 0 files
  pub input : a_request.input ≡
      86 ∷ 82 ∷ 67 ∷ 49 ∷ 3 ∷ 0 ∷ 0 ∷ 0 ∷ 108 ∷ 105 ∷ 98 ∷ 5 ∷ 0 ∷ 0 ∷ 0 ∷ 97 ∷ 46 ∷ 118 ∷ 104 ∷ 100 ∷ 1 ∷ 0 ∷ 0 ∷ 0 ∷ 120 ∷ 0 ∷ 0 ∷ 0 ∷ 0 ∷ []
  pub words : a_request.command ≡ command
  pub no_results : a_request.results ≡ Nothing

-- the result of each file
pub record CleanBuilds : Type 0 where
  pub made : clean_build accepting files ≡ Made a_built ∷ Made b_built ∷ []
  pub refused : clean_build refusing files ≡ Refused 1 (codes "no") ∷ Blocked ∷ []
  pub of_made : built_of (Some (Made a_built)) ≡ Some a_built

-- the request for each file
pub record CleanRequests : Type 0 where
  pub second : clean_request accepting files 1 ≡ Some b_request
  pub blocked : clean_request refusing files 1 ≡ None
  pub recorded : request_unless accepting files a_current 0 ≡ None
  pub stale : stale_requests accepting files none_current ≡ a_request ∷ b_request ∷ []
  pub second_alone : stale_requests accepting files a_current ≡ b_request ∷ []
  pub first_alone : stale_requests refusing files none_current ≡ a_request ∷ []
