-- The example that most sections use: the files a.vhd and b.vhd of the library lib, listed in this order, with the texts x
-- and y, so that b depends on a. Their compiler answers a with code 0 and the output 1, and b over a's 1 with code 0 and
-- the output 2.
use Rattle.std.specs.Prelude.{ℕ, ◌∷◌, Bool, false, List, [], codes, if◌then◌else◌, bytes_eq}
use Rattle.base.specs.Jobs.{compile_request}
use Rattle.base.specs.declared.child.Event.{Event}
use Rattle.base.specs.declared.child.Event.TheVariants.{Ended, Started}
use Rattle.base.specs.declared.child.Exit.{Exit}
use Rattle.base.specs.declared.child.MaybeText.TheVariants.{Nothing}
use Rattle.base.specs.declared.child.Request.{Request}
use Rattle.base.specs.declared.file.FileName.{FileName}
use Rattle.base.specs.declared.graph.BuiltFile.{BuiltFile}
use Rattle.base.specs.declared.graph.Entry.{Entry}
use Rattle.outside.specs.Records.{Record, asked_of}
use Rattle.run_spec.specs.ChildJournal.{Work}
use Rattle.run_spec.specs.Settled.{none_current}

-- a file of the library `lib`, whose path is a letter and `.vhd`
abbrev pub name : ℕ → FileName
name letter = record { library = codes "lib"; path = letter ∷ codes ".vhd" }

-- a.vhd of the library `lib`
abbrev pub a_name : FileName
a_name = name 97

-- b.vhd of the library `lib`
abbrev pub b_name : FileName
b_name = name 98

-- the one word `cc`, which starts the compiler
abbrev pub command : List (List ℕ)
command = codes "cc" ∷ []

-- a file of a graph that `cc` compiles, by its name, its text and the positions of its dependencies
abbrev pub file : FileName → List ℕ → List ℕ → Entry
file it text deps = record { name = it; command = command; text = text; deps = deps }

-- a.vhd with the text x, which depends on no file
abbrev pub a_file : Entry
a_file = file a_name (codes "x") []

-- b.vhd with the text y, which depends on the file at position 0
abbrev pub b_file : Entry
b_file = file b_name (codes "y") (0 ∷ [])

-- a graph of two files: a.vhd at position 0, and b.vhd, which depends on it, at 1
abbrev pub files : List Entry
files = a_file ∷ b_file ∷ []

-- a file by its name, with the bytes of the artefact that a compiler gave for it
abbrev pub built : FileName → List ℕ → BuiltFile
built it artefact = record { name = it; artefact = artefact }

-- a.vhd with the artefact 1
abbrev pub a_built : BuiltFile
a_built = built a_name (codes "1")

-- b.vhd with the artefact 2
abbrev pub b_built : BuiltFile
b_built = built b_name (codes "2")

-- what the compiler of a.vhd is asked, over no built file
abbrev pub a_request : Request
a_request = compile_request a_file []

-- what the compiler of b.vhd is asked, over a.vhd with the artefact 1
abbrev pub b_request : Request
b_request = compile_request b_file (a_built ∷ [])

-- the end of a child with an exit code and the bytes that it printed, without results of tests
abbrev pub exit : ℕ → List ℕ → Exit
exit code output = record { code = code; output = output; results = Nothing }

-- the compiler: an answer to a, and one to all else
abbrev pub compiler : Exit → Exit → Request → Exit
compiler to_a other request = if bytes_eq request.input a_request.input then to_a else other

-- a compiler that ends with code 0 always: for a.vhd it prints 1, and for any other file 2
abbrev pub accepting : Request → Exit
accepting request = compiler (exit 0 (codes "1")) (exit 0 (codes "2")) request

-- one that refuses a with code 1 and the output no
abbrev pub refusing : Request → Exit
refusing request = compiler (exit 1 (codes "no")) (exit 0 (codes "2")) request

-- the record of a file over files that were built, with its artefact
abbrev pub recorded : Entry → List BuiltFile → List ℕ → Record
recorded entry below artefact = record { asked = asked_of entry below; artefact = artefact }

-- the record of a.vhd with the text x and the artefact 1
abbrev pub Ra : Record
Ra = recorded a_file [] (codes "1")

-- the record of b.vhd over a.vhd with the artefact 1: its own artefact is 2
abbrev pub Rb : Record
Rb = recorded b_file (a_built ∷ []) (codes "2")

-- the record of a with the text w and the artefact 8
abbrev pub Rw : Record
Rw = recorded (file a_name (codes "w") []) [] (codes "8")

-- the build of a and b over no record, with this number of slots
abbrev pub work_with : ℕ → Bool → Work
work_with slots keep_going = record { graph = files; current = none_current; slots = slots; keep_going = keep_going }

-- the build of a.vhd and b.vhd, one at a time, without records, which stops at a refusal
abbrev pub one_slot : Work
one_slot = work_with 1 false

-- the events of a build with one slot, of which b ends so
abbrev pub with_end_of_b : Exit → List Event
with_end_of_b it = Started 7 a_request ∷ Ended 7 (exit 0 (codes "1")) ∷ Started 8 b_request ∷ Ended 8 it ∷ []

-- a.vhd is compiled with the artefact 1, and then b.vhd with the artefact 2
abbrev pub events : List Event
events = with_end_of_b (exit 0 (codes "2"))
