-- A pass that is read is spelled so, and what is spelled so is read.
use Rattle.std.proofs.Common.{◌≡◌, ℕ, ◌^◌, ◌<◌, cond, eqb, Bool, true, false, List, [], ◌∷◌, ◌++◌, length, Option, Some, None, refl, sym, ap, subst, ◌∙◌, append_assoc, inl, inr}
use Rattle.std.specs.Prelude.{All}
use Rattle.std.specs.Int.{w64}
use Rattle.std.proofs.lemmas.Bool.{eqb-true}
use Rattle.std.proofs.lemmas.List.{append-nil}
use Rattle.std.proofs.lemmas.Option.{same_Some, none-some}
use Rattle.base.specs.Bytes.{text_bytes}
use Rattle.base.specs.Jobs.{name_bytes}
use Rattle.base_bytes.specs.Reading.{◌>>=◌, AreBytes, Takes, counted_at, number_at, text_at}
use Rattle.base_bytes.specs.Names.{name_at}
use Rattle.base_bytes.specs.Ranges.{read_whole, byte_at}
use Rattle.base_bytes.specs.TextRefs.{text_ref_at}
use Rattle.base_bytes.proofs.Fields.{Takes-then, bind_some, ends_there, guard_ended, text_again, text_takes, u64_again, u64_takes}
use Rattle.base_bytes.proofs.Many.{by_index, by_recursion, counted_again, counted_take}
use Rattle.base_bytes.proofs.NameFields.{name_again, name_takes}
use Rattle.store_codec.specs.Forms.{text_ref_bytes}
use Rattle.store_codec.proofs.Spelling.{ref_again, ref_takes, tag_takes, two_ways}
use Rattle.testbench_runs.specs.declared.runs.TestRun.{TestRun}
use Rattle.testbench_runs.specs.BenchJobs.{texts_bytes}
use Rattle.passes_codec.specs.Forms.{FileDraft, HasFileSpelling, HasListSpelling, HasPassSpelling, HasRunSpelling, ListRef, PassDraft, file_at, file_bytes, files_bytes, flag_at, flag_byte, flag_of, known_list_at, list_ref_at, list_ref_by, list_ref_bytes, new_list_at, pass_bytes, pass_in, run_at, run_bytes}
use Rattle.passes_codec.specs.Forms.ListRef.{KnownList, NewList}

abbrev TextFits : List ℕ → Type 0
TextFits text = length text < 2 ^ 32

-- ## Texts and flags

flag_is : (byte : ℕ) (flag : Bool) → flag_of byte ≡ Some flag → byte ≡ flag_byte flag
flag_is byte flag e =
    elim (two_ways (eqb byte 0) (Some false) (cond (eqb byte 1) (Some true) None) flag e) [
      | inl one ↦ eqb-true byte 0 one.0 ∙ ap flag_byte (same_Some false flag one.1)
      | inr other ↦ elim (two_ways (eqb byte 1) (Some true) None flag other.1) [
        | inl one ↦ eqb-true byte 1 one.0 ∙ ap flag_byte (same_Some true flag one.1)
        | inr none ↦ absurd (none-some flag none.1)
      ]
    ]

flag_takes : (bytes : List ℕ) (flag : Bool) (left : List ℕ) → AreBytes bytes → flag_at bytes ≡ Some (flag, left) → Takes bytes (flag_byte flag ∷ []) left
unfolding flag_at
flag_takes bytes flag left fits e =
    let a = bind_some (byte_at bytes) (λ byte. flag_of byte.0 >>= λ flag. Some (flag, byte.1)) (flag, left) e in
    let b = bind_some (flag_of a.0.0) (λ flag. Some (flag, a.0.1)) (flag, left) a.2 in
    let t = tag_takes bytes a.0.0 a.0.1 fits a.1 in
    subst (λ (y : Bool × List ℕ). Takes bytes (flag_byte y.0 ∷ []) y.1) (same_Some (b.0, a.0.1) (flag, left) b.2)
    (record { parts = t.0 ∙ ap (λ (n : ℕ). n ∷ a.0.1) (flag_is a.0.0 b.0 b.1); left_are_bytes = t.1 })

flag_again : (flag : Bool) (left : List ℕ) → flag_at (flag_byte flag ∷ left) ≡ Some (flag, left)
unfolding flag_at
flag_again true left = refl
flag_again false left = refl

-- ## Runs

-- what two flags at the end of a run are
record RunFlags (make : Bool → Bool → TestRun) (bytes : List ℕ) (run : TestRun) (left : List ℕ) : Type 0 where
  whole : Bool
  same_sim : Bool
  takes : Takes bytes (flag_byte whole ∷ flag_byte same_sim ∷ []) left
  is : make whole same_sim ≡ run

abbrev flags_at : (Bool → Bool → TestRun) → List ℕ → Option (TestRun × List ℕ)
flags_at make bytes = flag_at bytes >>= λ whole. flag_at whole.1 >>= λ same_sim. Some (make whole.0 same_sim.0, same_sim.1)

flags_take : (make : Bool → Bool → TestRun) (bytes : List ℕ) (run : TestRun) (left : List ℕ) → AreBytes bytes → flags_at make bytes ≡ Some (run, left) → RunFlags make bytes run left
flags_take make bytes run left fits e =
    let a = bind_some (flag_at bytes) (λ whole. flag_at whole.1 >>= λ same_sim. Some (make whole.0 same_sim.0, same_sim.1)) (run, left) e in
    let b = bind_some (flag_at a.0.1) (λ same_sim. Some (make a.0.0 same_sim.0, same_sim.1)) (run, left) a.2 in
    let t0 = flag_takes bytes a.0.0 a.0.1 fits a.1 in
    let t1 = flag_takes a.0.1 b.0.0 b.0.1 t0.left_are_bytes b.1 in
    let made : TestRun × List ℕ = (make a.0.0 b.0.0, b.0.1) in
    let end : made ≡ (run, left) = same_Some (make a.0.0 b.0.0, b.0.1) (run, left) b.2 in
    record {
      whole = a.0.0;
      same_sim = b.0.0;
      takes = subst (λ (r : List ℕ). Takes bytes (flag_byte a.0.0 ∷ flag_byte b.0.0 ∷ []) r) (ap (λ (y : TestRun × List ℕ). y.1) end) (Takes-then bytes (flag_byte a.0.0 ∷ []) a.0.1 (flag_byte b.0.0 ∷ []) b.0.1 t0 t1);
      is = ap (λ (y : TestRun × List ℕ). y.0) end;
    }

-- a run by its parts
abbrev run_of : List ℕ → List ℕ → List ℕ → List ℕ → List (List ℕ) → Bool → Bool → TestRun
run_of library bench architecture path cases whole same_sim = record { library = library; bench = bench; architecture = architecture; cases = cases; whole = whole; same_sim = same_sim; path = path }

-- what stands behind the architecture of a run
abbrev tail_at : List ℕ → List ℕ → List ℕ → List ℕ → Option (TestRun × List ℕ)
tail_at library bench architecture bytes =
    text_at bytes >>= λ path. counted_at text_at path.1 >>= λ cases. flag_at cases.1 >>= λ whole. flag_at whole.1 >>= λ same_sim. Some (run_of library bench architecture path.0 cases.0 whole.0 same_sim.0, same_sim.1)

abbrev tail_bytes : TestRun → List ℕ
tail_bytes run = text_bytes run.path ++ (texts_bytes run.cases ++ (flag_byte run.whole ∷ flag_byte run.same_sim ∷ []))

record RunTail (library bench architecture bytes : List ℕ) (run : TestRun) (left : List ℕ) : Type 0 where
  takes : Takes bytes (tail_bytes run) left
  library_is : library ≡ run.library
  bench_is : bench ≡ run.bench
  architecture_is : architecture ≡ run.architecture
  path : length run.path < 2 ^ 32
  few : length run.cases < 2 ^ 32
  cases : All TextFits run.cases

tail_of : (library bench architecture bytes : List ℕ) (run : TestRun) (left path rest : List ℕ) (cases : List (List ℕ)) (next : List ℕ) → Takes bytes (text_bytes path) rest → length path < 2 ^ 32 → Takes rest (texts_bytes cases) next → length cases < 2 ^ 32 → All TextFits cases → RunFlags (run_of library bench architecture path cases) next run left → RunTail library bench architecture bytes run left
tail_of library bench architecture bytes run left path rest cases next of_path short of_cases few names flags =
    let made : TestRun = run_of library bench architecture path cases flags.whole flags.same_sim in
    let inner = Takes-then rest (texts_bytes cases) next (flag_byte flags.whole ∷ flag_byte flags.same_sim ∷ []) left of_cases flags.takes in
    let all : Takes bytes (tail_bytes made) left = Takes-then bytes (text_bytes path) rest (texts_bytes cases ++ (flag_byte flags.whole ∷ flag_byte flags.same_sim ∷ [])) left of_path inner in
    subst (λ (r : TestRun). RunTail library bench architecture bytes r left) flags.is
    (record { takes = all; library_is = refl; bench_is = refl; architecture_is = refl; path = short; few = few; cases = names })

tail_takes : (library bench architecture bytes : List ℕ) (run : TestRun) (left : List ℕ) → AreBytes bytes → tail_at library bench architecture bytes ≡ Some (run, left) → RunTail library bench architecture bytes run left
unfolding texts_bytes
tail_takes library bench architecture bytes run left fits e =
    let a = bind_some (text_at bytes) (λ path. counted_at text_at path.1 >>= λ cases. flag_at cases.1 >>= λ whole. flag_at whole.1 >>= λ same_sim. Some (run_of library bench architecture path.0 cases.0 whole.0 same_sim.0, same_sim.1)) (run, left) e in
    let b = bind_some (counted_at text_at a.0.1) (λ cases. flag_at cases.1 >>= λ whole. flag_at whole.1 >>= λ same_sim. Some (run_of library bench architecture a.0.0 cases.0 whole.0 same_sim.0, same_sim.1)) (run, left) a.2 in
    let t0 = text_takes bytes a.0.0 a.0.1 fits a.1 in
    let t1 = counted_take text_at text_bytes TextFits text_takes a.0.1 b.0.0 b.0.1 t0.0.left_are_bytes b.1 in
    tail_of library bench architecture bytes run left a.0.0 a.0.1 b.0.0 b.0.1 t0.0 t0.1 t1.0 t1.1 (by_index TextFits b.0.0 t1.2) (flags_take (run_of library bench architecture a.0.0 b.0.0) b.0.1 run left t1.0.left_are_bytes b.2)

whole_of : (bytes : List ℕ) (run : TestRun) (left library rest bench next architecture last : List ℕ) → Takes bytes (text_bytes library) rest → length library < 2 ^ 32 → Takes rest (text_bytes bench) next → length bench < 2 ^ 32 → Takes next (text_bytes architecture) last → length architecture < 2 ^ 32 → RunTail library bench architecture last run left → Takes bytes (run_bytes run) left × HasRunSpelling run
unfolding run_bytes
whole_of bytes run left library rest bench next architecture last of_library short_library of_bench short_bench of_architecture short_architecture tail =
    let e2 = Takes-then next (text_bytes run.architecture) last (tail_bytes run) left (subst (λ (x : List ℕ). Takes next (text_bytes x) last) tail.architecture_is of_architecture) tail.takes in
    let e1 = Takes-then rest (text_bytes run.bench) next (text_bytes run.architecture ++ tail_bytes run) left (subst (λ (x : List ℕ). Takes rest (text_bytes x) next) tail.bench_is of_bench) e2 in
    let e0 = Takes-then bytes (text_bytes run.library) rest (text_bytes run.bench ++ (text_bytes run.architecture ++ tail_bytes run)) left (subst (λ (x : List ℕ). Takes bytes (text_bytes x) rest) tail.library_is of_library) e1 in (
      e0,
      record {
        library = subst (λ (x : List ℕ). length x < 2 ^ 32) tail.library_is short_library;
        bench = subst (λ (x : List ℕ). length x < 2 ^ 32) tail.bench_is short_bench;
        architecture = subst (λ (x : List ℕ). length x < 2 ^ 32) tail.architecture_is short_architecture;
        path = tail.path;
        few = tail.few;
        cases = tail.cases;
      },
    )

run_takes : (bytes : List ℕ) (run : TestRun) (left : List ℕ) → AreBytes bytes → run_at bytes ≡ Some (run, left) → Takes bytes (run_bytes run) left × HasRunSpelling run
unfolding run_at
run_takes bytes run left fits e =
    let a = bind_some (text_at bytes) (λ library. text_at library.1 >>= λ bench. text_at bench.1 >>= λ architecture. tail_at library.0 bench.0 architecture.0 architecture.1) (run, left) e in
    let b = bind_some (text_at a.0.1) (λ bench. text_at bench.1 >>= λ architecture. tail_at a.0.0 bench.0 architecture.0 architecture.1) (run, left) a.2 in
    let c = bind_some (text_at b.0.1) (λ architecture. tail_at a.0.0 b.0.0 architecture.0 architecture.1) (run, left) b.2 in
    let t0 = text_takes bytes a.0.0 a.0.1 fits a.1 in
    let t1 = text_takes a.0.1 b.0.0 b.0.1 t0.0.left_are_bytes b.1 in
    let t2 = text_takes b.0.1 c.0.0 c.0.1 t1.0.left_are_bytes c.1 in
    whole_of bytes run left a.0.0 a.0.1 b.0.0 b.0.1 c.0.0 c.0.1 t0.0 t0.1 t1.0 t1.1 t2.0 t2.1 (tail_takes a.0.0 b.0.0 c.0.0 c.0.1 run left t2.0.left_are_bytes c.2)

run_again : (run : TestRun) (left : List ℕ) → HasRunSpelling run → run_at (run_bytes run ++ left) ≡ Some (run, left)
unfolding run_at run_bytes texts_bytes
run_again run left fits =
    let l : List ℕ = text_bytes run.library in
    let b : List ℕ = text_bytes run.bench in
    let a : List ℕ = text_bytes run.architecture in
    let p : List ℕ = text_bytes run.path in
    let c : List ℕ = texts_bytes run.cases in
    let f : List ℕ = flag_byte run.whole ∷ flag_byte run.same_sim ∷ [] in
    let r : List ℕ = flag_byte run.whole ∷ flag_byte run.same_sim ∷ left in
    let regrouped : (l ++ (b ++ (a ++ (p ++ (c ++ f))))) ++ left ≡ l ++ (b ++ (a ++ (p ++ (c ++ r)))) =
    append_assoc l (b ++ (a ++ (p ++ (c ++ f)))) left
    ∙ ap (λ (t : List ℕ). l ++ t) (append_assoc b (a ++ (p ++ (c ++ f))) left
    ∙ ap (λ (t : List ℕ). b ++ t) (append_assoc a (p ++ (c ++ f)) left
    ∙ ap (λ (t : List ℕ). a ++ t) (append_assoc p (c ++ f) left
    ∙ ap (λ (t : List ℕ). p ++ t) (append_assoc c f left)))) in
    ap run_at regrouped
    ∙ rw (
      text_again run.library (b ++ (a ++ (p ++ (c ++ r)))) fits.library,
      text_again run.bench (a ++ (p ++ (c ++ r))) fits.bench,
      text_again run.architecture (p ++ (c ++ r)) fits.architecture,
      text_again run.path (c ++ r) fits.path,
      counted_again text_at text_bytes TextFits text_again run.cases r fits.few (by_recursion TextFits run.cases fits.cases),
      flag_again run.whole (flag_byte run.same_sim ∷ left),
      flag_again run.same_sim left,
    ) refl

-- ## Files and lists

file_takes : (bytes : List ℕ) (file : FileDraft) (left : List ℕ) → AreBytes bytes → file_at bytes ≡ Some (file, left) → Takes bytes (file_bytes file) left × HasFileSpelling file
unfolding file_at file_bytes
file_takes bytes file left fits e =
    let a = bind_some (name_at bytes) (λ name. text_ref_at name.1 >>= λ artefact. Some (record { name = name.0; artefact = artefact.0 }, artefact.1)) (file, left) e in
    let b = bind_some (text_ref_at a.0.1) (λ artefact. Some (record { name = a.0.0; artefact = artefact.0 }, artefact.1)) (file, left) a.2 in
    let t0 = name_takes bytes a.0.0 a.0.1 fits a.1 in
    let t1 = ref_takes a.0.1 b.0.0 b.0.1 t0.0.left_are_bytes b.1 in
    let both = Takes-then bytes (name_bytes a.0.0) a.0.1 (text_ref_bytes b.0.0) b.0.1 t0.0 t1.0 in
    let made : FileDraft × List ℕ = (record { name = a.0.0; artefact = b.0.0 }, b.0.1) in
    subst (λ (y : FileDraft × List ℕ). Takes bytes (file_bytes y.0) y.1 × HasFileSpelling y.0) (same_Some made (file, left) b.2) (both, record { name = t0.1; artefact = t1.1 })

file_again : (file : FileDraft) (left : List ℕ) → HasFileSpelling file → file_at (file_bytes file ++ left) ≡ Some (file, left)
unfolding file_at file_bytes
file_again file left fits =
    ap file_at (append_assoc (name_bytes file.name) (text_ref_bytes file.artefact) left) ∙ rw (name_again file.name (text_ref_bytes file.artefact ++ left) fits.name, ref_again file.artefact left fits.artefact) refl

known_takes : (bytes : List ℕ) (list : ListRef) (left : List ℕ) → AreBytes bytes → known_list_at bytes ≡ Some (list, left) → Takes (0 ∷ bytes) (list_ref_bytes list) left × HasListSpelling list
unfolding known_list_at list_ref_bytes
known_takes bytes list left fits e =
    let a = bind_some (number_at w64 bytes) (λ number. Some (KnownList number.0, number.1)) (list, left) e in
    let t = u64_takes bytes a.0.0 a.0.1 fits a.1 in
    subst (λ (y : ListRef × List ℕ). Takes (0 ∷ bytes) (list_ref_bytes y.0) y.1 × HasListSpelling y.0) (same_Some (KnownList a.0.0, a.0.1) (list, left) a.2)
    (record { parts = ap (λ (bs : List ℕ). 0 ∷ bs) t.0.parts; left_are_bytes = t.0.left_are_bytes }, t.1)

new_takes : (bytes : List ℕ) (list : ListRef) (left : List ℕ) → AreBytes bytes → new_list_at bytes ≡ Some (list, left) → Takes (1 ∷ bytes) (list_ref_bytes list) left × HasListSpelling list
unfolding new_list_at list_ref_bytes files_bytes
new_takes bytes list left fits e =
    let a = bind_some (counted_at file_at bytes) (λ files. Some (NewList files.0, files.1)) (list, left) e in
    let t = counted_take file_at file_bytes HasFileSpelling file_takes bytes a.0.0 a.0.1 fits a.1 in
    subst (λ (y : ListRef × List ℕ). Takes (1 ∷ bytes) (list_ref_bytes y.0) y.1 × HasListSpelling y.0) (same_Some (NewList a.0.0, a.0.1) (list, left) a.2)
    (record { parts = ap (λ (bs : List ℕ). 1 ∷ bs) t.0.parts; left_are_bytes = t.0.left_are_bytes }, (t.1, by_index HasFileSpelling a.0.0 t.2))

list_by_takes : (tag : ℕ) (bytes : List ℕ) (list : ListRef) (left : List ℕ) → AreBytes bytes → list_ref_by tag bytes ≡ Some (list, left) → Takes (tag ∷ bytes) (list_ref_bytes list) left × HasListSpelling list
unfolding list_ref_by
list_by_takes tag bytes list left fits e =
    elim (two_ways (eqb tag 0) (known_list_at bytes) (cond (eqb tag 1) (new_list_at bytes) None) (list, left) e) [
      | inl one ↦ subst (λ (t : ℕ). Takes (t ∷ bytes) (list_ref_bytes list) left × HasListSpelling list) (sym (eqb-true tag 0 one.0)) (known_takes bytes list left fits one.1)
      | inr other ↦ elim (two_ways (eqb tag 1) (new_list_at bytes) None (list, left) other.1) [
        | inl one ↦ subst (λ (t : ℕ). Takes (t ∷ bytes) (list_ref_bytes list) left × HasListSpelling list) (sym (eqb-true tag 1 one.0)) (new_takes bytes list left fits one.1)
        | inr none ↦ absurd (none-some (list, left) none.1)
      ]
    ]

list_takes : (bytes : List ℕ) (list : ListRef) (left : List ℕ) → AreBytes bytes → list_ref_at bytes ≡ Some (list, left) → Takes bytes (list_ref_bytes list) left × HasListSpelling list
unfolding list_ref_at
list_takes bytes list left fits e =
    let a = bind_some (byte_at bytes) (λ tag. list_ref_by tag.0 tag.1) (list, left) e in
    let t = tag_takes bytes a.0.0 a.0.1 fits a.1 in
    subst (λ (bs : List ℕ). Takes bs (list_ref_bytes list) left × HasListSpelling list) (sym t.0) (list_by_takes a.0.0 a.0.1 list left t.1 a.2)

list_again : (list : ListRef) (left : List ℕ) → HasListSpelling list → list_ref_at (list_ref_bytes list ++ left) ≡ Some (list, left)
unfolding list_ref_at list_ref_by known_list_at new_list_at list_ref_bytes files_bytes
list_again (KnownList number) left fits = rw (u64_again number left fits) refl
list_again (NewList files) left fits = rw (counted_again file_at file_bytes HasFileSpelling file_again files left fits.0 (by_recursion HasFileSpelling files fits.1)) refl

-- ## Passes

pub pass_takes : (bytes : List ℕ) (draft : PassDraft) → AreBytes bytes → pass_in bytes ≡ Some draft → (bytes ≡ pass_bytes draft) × HasPassSpelling draft
unfolding pass_in pass_bytes texts_bytes
pass_takes bytes draft fits e =
    let a = bind_some (run_at bytes) (λ run. counted_at text_at run.1 >>= λ simulator. list_ref_at simulator.1 >>= λ list. text_at list.1 >>= λ output. read_whole (record { run = run.0; simulator = simulator.0; list = list.0; output = output.0 }, output.1)) draft e in
    let b = bind_some (counted_at text_at a.0.1) (λ simulator. list_ref_at simulator.1 >>= λ list. text_at list.1 >>= λ output. read_whole (record { run = a.0.0; simulator = simulator.0; list = list.0; output = output.0 }, output.1)) draft a.2 in
    let c = bind_some (list_ref_at b.0.1) (λ list. text_at list.1 >>= λ output. read_whole (record { run = a.0.0; simulator = b.0.0; list = list.0; output = output.0 }, output.1)) draft b.2 in
    let d = bind_some (text_at c.0.1) (λ output. read_whole (record { run = a.0.0; simulator = b.0.0; list = c.0.0; output = output.0 }, output.1)) draft c.2 in
    let made : PassDraft = record { run = a.0.0; simulator = b.0.0; list = c.0.0; output = d.0.0 } in
    let g = guard_ended (eqb (length d.0.1) 0) made draft d.2 in
    let t0 = run_takes bytes a.0.0 a.0.1 fits a.1 in
    let t1 = counted_take text_at text_bytes TextFits text_takes a.0.1 b.0.0 b.0.1 t0.0.left_are_bytes b.1 in
    let t2 = list_takes b.0.1 c.0.0 c.0.1 t1.0.left_are_bytes c.1 in
    let t3 = text_takes c.0.1 d.0.0 d.0.1 t2.0.left_are_bytes d.1 in
    let e2 = Takes-then b.0.1 (list_ref_bytes c.0.0) c.0.1 (text_bytes d.0.0) d.0.1 t2.0 t3.0 in
    let e1 = Takes-then a.0.1 (texts_bytes b.0.0) b.0.1 (list_ref_bytes c.0.0 ++ text_bytes d.0.0) d.0.1 t1.0 e2 in
    let e0 = Takes-then bytes (run_bytes a.0.0) a.0.1 (texts_bytes b.0.0 ++ (list_ref_bytes c.0.0 ++ text_bytes d.0.0)) d.0.1 t0.0 e1 in
    let whole = ends_there bytes (run_bytes a.0.0 ++ (texts_bytes b.0.0 ++ (list_ref_bytes c.0.0 ++ text_bytes d.0.0))) d.0.1 e0 g.0 in
    subst (λ (p : PassDraft). (bytes ≡ pass_bytes p) × HasPassSpelling p) g.1
    (whole, record { run = t0.1; count = t1.1; words = by_index TextFits b.0.0 t1.2; list = t2.1; output = t3.1 })

-- a text at the end
last_text : (text : List ℕ) → length text < 2 ^ 32 → text_at (text_bytes text) ≡ Some (text, [])
last_text text fits = ap text_at (sym (append-nil (text_bytes text))) ∙ text_again text [] fits

pub pass_again : (draft : PassDraft) → HasPassSpelling draft → pass_in (pass_bytes draft) ≡ Some draft
unfolding pass_in pass_bytes texts_bytes
pass_again draft fits =
    let l : List ℕ = list_ref_bytes draft.list in
    let o : List ℕ = text_bytes draft.output in
    rw (
      run_again draft.run (texts_bytes draft.simulator ++ (l ++ o)) fits.run,
      counted_again text_at text_bytes TextFits text_again draft.simulator (l ++ o) fits.count (by_recursion TextFits draft.simulator fits.words),
      list_again draft.list o fits.list,
      last_text draft.output fits.output,
    ) refl
