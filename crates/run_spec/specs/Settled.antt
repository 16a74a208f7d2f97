-- The settled build: the result of each file in a build that is done and that no refusal halted, whatever the order of ends.
use Rattle.std.specs.Prelude.{◌≡◌, ℕ, ◌<◌, Bool, true, false, ◌||◌, ◌==◌, if◌then◌else◌, List, length, slice_get, Option, Some, None, is_some}
use Rattle.std.specs.Option.{option_map}
use Rattle.std.specs.List.{filter_map}
use Rattle.base.specs.declared.graph.Entry.{Entry}
use Rattle.base.specs.declared.graph.BuiltFile.{BuiltFile}
use Rattle.base.specs.declared.child.Request.{Request}
use Rattle.base.specs.declared.child.Exit.{Exit}
use Rattle.base.specs.Jobs.{compile_request}
use Rattle.base.specs.PresentGraph.{below}
use Rattle.outside.specs.Records.{deps_at}
use Rattle.run_spec.specs.Folds.{upto}
use Rattle.run_spec.specs.ChildJournal.{Work, End, exit_at, has_all, built_at, artefact_so_far}

-- The result of a file in the settled build. It is blocked if a file that it depends on has no artefact, and fresh if its
-- record is current. Otherwise its compiler gave an artefact or refused it.
pub data Settled : Type 0 where
  Blocked : Settled
  Fresh : List ℕ → Settled
  Compiled : List ℕ → Settled
  Refused : ℕ → List ℕ → Settled

-- the artefact of a file that is fresh or compiled; none where it is blocked or refused
abbrev pub settled_artefact : Settled → Option (List ℕ)
settled_artefact Blocked = None
settled_artefact (Fresh artefact) = Some artefact
settled_artefact (Compiled artefact) = Some artefact
settled_artefact (Refused code output) = None

-- what the compiler of the file at a position is asked over these files
abbrev pub request_over : List Entry → ℕ → List BuiltFile → Option Request
request_over graph position built = option_map (λ entry. compile_request entry built) (slice_get graph position)

-- what an exit says of a file
abbrev pub settled_by_exit : Exit → Settled
settled_by_exit exit = if exit.code == 0 then Compiled exit.output else Refused exit.code exit.output

-- the result of a file over these files below it: fresh by a current record, or else by the compiler's answer
abbrev pub settled_by : Option (List ℕ) → Option Exit → Settled
settled_by (Some artefact) exit = Fresh artefact
settled_by None None = Blocked
settled_by None (Some exit) = settled_by_exit exit

-- the result of one more file, over the results so far
abbrev pub next_settled : (Request → Exit) → List Entry → (ℕ → List BuiltFile → Option (List ℕ)) → (ℕ → Settled) → ℕ → Settled
next_settled answer graph current so_far position =
    let built = built_at graph (λ dep. settled_artefact (so_far dep)) (deps_at graph position) in
    if has_all (λ dep. settled_artefact (so_far dep)) (deps_at graph position) then settled_by (current position built) (option_map answer (request_over graph position built)) else Blocked

-- the result of the file at a position
unfoldable pub settle : (Request → Exit) → List Entry → (ℕ → List BuiltFile → Option (List ℕ)) → ℕ → Settled
settle answer graph current position = upto (next_settled answer graph current) Blocked (length graph) position

-- the artefact that the file at a position has in the settled build
abbrev pub artefact_settled : (Request → Exit) → List Entry → (ℕ → List BuiltFile → Option (List ℕ)) → ℕ → Option (List ℕ)
artefact_settled answer graph current position = settled_artefact (settle answer graph current position)

-- a file was stale: its compiler is asked
abbrev pub is_asked : Settled → Bool
is_asked Blocked = false
is_asked (Fresh artefact) = false
is_asked (Compiled artefact) = true
is_asked (Refused code output) = true

-- what the settled build asks of the compiler for the file at a position, over what is settled below it; nothing where the
-- file is fresh or blocked
abbrev pub request_unless : (Request → Exit) → List Entry → (ℕ → List BuiltFile → Option (List ℕ)) → ℕ → Option Request
request_unless answer graph current position =
    if is_asked (settle answer graph current position) then request_over graph position (built_at graph (artefact_settled answer graph current) (deps_at graph position)) else None

-- what the settled build asks of compilers, in compile order
abbrev pub stale_requests : (Request → Exit) → List Entry → (ℕ → List BuiltFile → Option (List ℕ)) → List Request
stale_requests answer graph current = filter_map (request_unless answer graph current) (below (length graph))

-- The compiler of a file was asked this over all that the file depends on, where no record was current over that.
pub record IsAsked (work : Work) (ends : List End) (position : ℕ) (request : Request) : Type 0 where
  pub over_all : has_all (artefact_so_far work ends) (deps_at work.graph position) ≡ true
  pub asked : request_over work.graph position (built_at work.graph (artefact_so_far work ends) (deps_at work.graph position)) ≡ Some request
  pub stale : work.current position (built_at work.graph (artefact_so_far work ends) (deps_at work.graph position)) ≡ None

-- a child was asked so for its file, and its exit is the answer
pub record IsAnswered (answer : Request → Exit) (work : Work) (ends : List End) (end : End) : Type 0 where
  pub is : IsAsked work ends end.position end.request
  pub answered : end.exit ≡ answer end.request

-- a child of the file at a position has ended
abbrev pub has_ended : List End → ℕ → Bool
has_ended ends position = is_some (exit_at ends position)

-- each file all of whose dependencies have an artefact has one too, or a child of it has ended: what a build is that is done
-- and that no refusal halted
abbrev pub IsOver : Work → List End → Type 0
IsOver work ends = (position : ℕ) → position < length work.graph → has_all (artefact_so_far work ends) (deps_at work.graph position) ≡ true →
    (is_some (artefact_so_far work ends position) || has_ended ends position) ≡ true

-- nothing is recorded
abbrev pub none_current : ℕ → List BuiltFile → Option (List ℕ)
none_current position built = None

-- a current record of the file at a position gives over these files what its compiler would
abbrev pub IsTrueOver : (Request → Exit) → List Entry → (ℕ → List BuiltFile → Option (List ℕ)) → ℕ → List BuiltFile → Type 0
IsTrueOver answer graph current position built =
    (artefact : List ℕ) → current position built ≡ Some artefact → settled_artefact (settled_by None (option_map answer (request_over graph position built))) ≡ Some artefact
