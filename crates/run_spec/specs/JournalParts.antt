-- The two parts of a journal: the events of compilers, and those of tests.
use Rattle.std.specs.Prelude.{◌≡◌, Bool, true, false, not, List, filter, Option, Some, None}
use Rattle.base.specs.declared.child.Request.{Request}
use Rattle.base.specs.declared.child.Exit.{Exit}
use Rattle.base.specs.declared.child.MaybeText.{MaybeText}
use Rattle.base.specs.declared.child.MaybeText.TheVariants.{Nothing, Given}
use Rattle.base.specs.declared.child.Event.{Event}
use Rattle.base.specs.declared.child.Event.TheVariants.{Started, Ended, Gone}
use Rattle.outside.specs.Children.{started_with}

-- whether a path is named
abbrev pub is_given : MaybeText → Bool
is_given Nothing = false
is_given (Given path) = true

-- a test is started with a path for its results, and a compiler without one
abbrev pub is_test : Option Request → Bool
is_test None = false
is_test (Some request) = is_given request.results

-- an event is a test's where its ticket was started as a test
abbrev pub is_test_event : List Event → Event → Bool
is_test_event journal (Started ticket request) = is_test (Some request)
is_test_event journal (Ended ticket exit) = is_test (started_with ticket journal)
is_test_event journal (Gone ticket) = is_test (started_with ticket journal)

-- the events of compilers, in order
abbrev pub compile_part : List Event → List Event
compile_part journal = filter (λ event. not (is_test_event journal event)) journal

-- the events of tests, in order
abbrev pub test_part : List Event → List Event
test_part journal = filter (is_test_event journal) journal

-- Children that answer so have this compiler: they answer each request without a path for results as it does. What they answer
-- as simulators is free.
abbrev pub IsCompilerOf : (compiler answer : Request → Exit) → Type 0
IsCompilerOf compiler answer = (request : Request) → is_given request.results ≡ false → answer request ≡ compiler request
