-- What a run did, from its build, or where it built nothing.
use Rattle.std.proofs.Common.{◌≡◌, ℕ, ◌<◌, Bool, true, false, List, [], ◌∷◌, ◌++◌, length, Option, Some, None, Result, Ok, Err, OnOk, refl, sym, ap, subst, ◌∙◌, arith, inl, inr}
use Rattle.std.specs.Prelude.{is_some, unwrap_or}
use Rattle.std.specs.List.{AllByRecursion, list_any}
use Rattle.std.proofs.lemmas.Bool.{cases_Bool, cond-true, false≢true}
use Rattle.std.proofs.lemmas.List.{append-nil}
use Rattle.base.specs.declared.graph.Entry.{Entry}
use Rattle.base.specs.declared.child.Request.{Request}
use Rattle.base.specs.declared.child.Exit.{Exit}
use Rattle.base.specs.declared.child.Event.{Event}
use Rattle.run_spec.specs.declared.statuses.FileStatus.{FileStatus}
use Rattle.base_outcomes.specs.declared.outcome.Refusal.TheVariants as refusal
use Rattle.base_outcomes.specs.declared.outcome.Outcome.{Outcome}
use Rattle.base_outcomes.specs.declared.outcome.Outcome.TheVariants as outcome
use Rattle.base.specs.Graphs.{IsGraph}
use Rattle.outside.specs.Disks.{DiskState, EachImage, Moments, IsSound, AreSound, Follows, Rests, Shrinks, added_since, all_of, reads_of, settled_disk}
use Rattle.outside.specs.Commits.{last_state}
use Rattle.outside.proofs.MomentLaws.{added_is, last_is}
use Rattle.outside.proofs.PhaseLaws.{nothing_added}
use Rattle.run_spec.specs.Moves.{LawfulMoves, GreedyMoves, next_start, first_from}
use Rattle.run_spec.specs.ChildJournal.{Work, AreRequested, EachAfter, moves_after, after_all, Lawful, Answered, IsWhole, artefact_after, since}
use Rattle.run_spec.specs.Commits.{commits, Waits}
use Rattle.run_spec.specs.JournalParts.{IsCompilerOf, compile_part, test_part}
use Rattle.outside.specs.Phases.{HasPhases}
use Rattle.run_spec.specs.Faithful.{IsFaithfulDisk}
use Rattle.run_spec.specs.Histories.{Order, World, ProgramRun, empty_image, IsReadable, IsIdleRun, RunStep, work_over}
use Rattle.run_spec.specs.Statuses.{statuses_of, is_refused, refused_files}
use Rattle.run_spec.proofs.Parts.{answered_by_compiler, build_parts}
use Rattle.run_laws.proofs.JournalSettled.{all_started, all_steady, all_files_made}
use Rattle.run_laws.specs.Rights.{IsRightStep}
use Rattle.run_laws.proofs.RightRuns.{run_right}
use Rattle.run_spec.specs.declared.fault.RunFault.{RunFault}
use Rattle.run_spec.specs.declared.fault.RunFault.TheVariants as fault
use Rattle.report.specs.Outcomes.{build_outcome}
use Rattle.vhdl_spec.specs.Scans.{Finding}
use Rattle.vunit_top.specs.Store.{IsRestingDisk, records_in_image}
use Rattle.run_build.specs.Orders.{IsDurablyRecorded}
use Rattle.store.specs.Stored.{IsResting}
use Rattle.store.proofs.RequestsAdded.{none_in_empty}
use Rattle.vunit_top.specs.Reading.{Reading, Builds}
use Rattle.vunit_top.specs.Said.{IsSaid, HasEnded, HasBuilt, no_order, order_of, order_in}
use Rattle.run_build.specs.Building.{BuildsOver, RestsOver}
use Rattle.vunit_top.specs.Runs.{world_of, run_of, RestsFrom, RunsAs, RunsBy, WritesNothing}
use Rattle.run_build.proofs.OverStore.{since_itself}

sound_last : (past : List DiskState) (now : DiskState) → AllByRecursion IsSound (past ++ now ∷ []) → IsSound now
sound_last [] now sound = sound.0
sound_last (state ∷ past) now sound = sound_last past now sound.1

-- what reads give is an image
pub readable_now : (moments : Moments) → AreSound moments → IsReadable moments.now
readable_now moments sound = let last = sound_last moments.past moments.now sound in record { a = last.a.image; b = last.b.image }

-- what has been built has ended
pub built_ended : (said : Outcome) → HasBuilt said → HasEnded said
built_ended outcome.Done is = tt
built_ended outcome.TestsFailed is = tt
built_ended (outcome.Refused reason) is = absurd is
built_ended outcome.BadWords is = absurd is
built_ended (outcome.OutsideFault which) is = absurd is
built_ended outcome.NoMemory is = absurd is
built_ended (outcome.OverLimit limit) is = absurd is
built_ended (outcome.Child code) is = absurd is

-- and is said
pub built_said : (said : Outcome) → HasBuilt said → IsSaid said
built_said outcome.Done is = tt
built_said outcome.TestsFailed is = tt
built_said (outcome.Refused reason) is = absurd is
built_said outcome.BadWords is = absurd is
built_said (outcome.OutsideFault which) is = absurd is
built_said outcome.NoMemory is = absurd is
built_said (outcome.OverLimit limit) is = absurd is
built_said (outcome.Child code) is = absurd is

-- a build all of whose files are made has no refused file
pub built_refuses_none : (graph : List Entry) (statuses : List FileStatus) (said : Outcome) → HasBuilt said → said ≡ build_outcome graph statuses → list_any is_refused statuses ≡ false
built_refuses_none graph statuses said built is =
    elim (cases_Bool (list_any is_refused statuses)) [
      | inl refused ↦ absurd (subst HasBuilt (is ∙ cond-true (list_any is_refused statuses) (outcome.Refused (refusal.Compiler (refused_files graph statuses))) outcome.Done refused) built)
      | inr none ↦ none
    ]

-- a step from a disk of true records is right
right_step : (scan : List ℕ → Finding) (compiler : Request → Exit) (order : Option Order) (run : ProgramRun) (first : DiskState) → IsReadable first → RunStep (world_of scan compiler) order run first → IsFaithfulDisk compiler records_in_image first →
    IsRightStep (world_of scan compiler) order run first
right_step scan compiler order run first readable step faithful = run_right (world_of scan compiler) order run first readable faithful step

-- moments to which nothing was written, in a run that ended only after an answer
pub writes_nothing : {T F : Type 0} (result : Result T F) (old new : Moments) (ended : Type 0) → (ended → (value : T) × (result ≡ Ok value)) → Rests result old new → WritesNothing ended old.now (added_since old new) new.now
writes_nothing {T} {F} result old new ended ends rests = record {
  fewer = subst (Shrinks old.now) (sym (added_is old new rests.goes.inside rests.goes.added)) rests.goes.shrinks;
  same = λ is. subst (λ (r : Result T F). OnOk r (new.now ≡ settled_disk (reads_of old.now))) (ends is).1 rests.same;
}

module _ (scan : List ℕ → Finding) (answer : Request → Exit) (order : Order) (warnings : List ℕ) (result : Result (List FileStatus) RunFault) (failed : Bool) (old new : Moments) (sound : AreSound old) (events : List Event)
    (over : BuildsOver records_in_image answer order result failed old new events) (tests : List Event) (words : List (List ℕ)) (said : Outcome) where
  abbrev s : Work
  s = work_over records_in_image order old.now

  compiled : compile_part events ≡ events
  compiled = (build_parts s events over.lawful).0

  abbrev run : ProgramRun
  run = record { words = words; outcome = said; disk_failed = failed; events = compile_part events; tests = tests; later = added_since old new }

  -- the events of compilers are those of the build
  moved : (P : List Event → Type 0) → P events → P (compile_part events)
  moved P p = subst P (sym compiled) p

  module _ (no_memory : result ≡ Err fault.NoMemory → said ≡ outcome.NoMemory) where
    module _ (compiler : Request → Exit) (is_compiler : IsCompilerOf compiler answer) where
      answers : Answered compiler (compile_part events)
      answers = moved (λ l. Answered compiler l) (answered_by_compiler compiler answer is_compiler s events over.lawful over.answered)

      build_step : RunStep (world_of scan compiler) (Some order) run old.now
      build_step = inr (record {
        graph = over.graph_form;
        lawful = moved (λ l. Lawful s l) over.lawful;
        answered = answers;
        readable = over.readable;
        acknowledged = over.acknowledged;
        phases = moved (λ l. HasPhases records_in_image order.clean over.acknowledged (commits s l) old.now (added_since old new)) over.phases;
        waits = moved (λ l. Waits s over.acknowledged l) over.waits;
        all = λ disk memory. moved (λ l. over.acknowledged ≡ length (commits s l)) (over.all disk (λ is. memory (no_memory is)));
      })

    pub runs_over : (HasEnded said → (statuses : List FileStatus) × (result ≡ Ok statuses)) → (HasBuilt said → list_any is_refused (statuses_of s events) ≡ false) →
        (order.clean ≡ false → IsRestingDisk old.now → commits s events ≡ [] → WritesNothing (HasEnded said) old.now (added_since old new) new.now) → RunsBy scan answer (Builds order warnings) run old new
    runs_over ends done rests = record { follows = over.follows; by = λ compiler is_compiler. all_of_it compiler is_compiler } where
      all_of_it : (compiler : Request → Exit) → IsCompilerOf compiler answer → RunsAs scan compiler (Builds order warnings) run old.now new.now
      all_of_it compiler is_compiler =
          let whole : HasEnded said → IsWhole s events = λ is. subst (λ (r : Result (List FileStatus) RunFault). OnOk r (IsWhole s events)) (ends is).1 over.whole in
          let answered : Answered compiler (compile_part events) = answers compiler is_compiler in
          record {
            step = build_step compiler is_compiler;
            ends = last_is old new over.follows;
            graph = λ is. over.graph_form;
            whole = λ is. moved (λ l. IsWhole s l) (whole is);
            recorded = λ is. moved (λ l. (position : ℕ) → position < length order.graph → is_some (artefact_after s l position) ≡ true → IsDurablyRecorded records_in_image new.now order.graph position)
                (subst (λ (r : Result (List FileStatus) RunFault). OnOk r ((position : ℕ) → position < length order.graph → is_some (artefact_after s events position) ≡ true → IsDurablyRecorded records_in_image new.now order.graph position)) (ends is).1 over.recorded);
            emptied = λ is. moved (λ l. order.clean ≡ true → EachImage (λ image. records_in_image image ≡ commits s l) new.now)
                (subst (λ (r : Result (List FileStatus) RunFault). OnOk r (order.clean ≡ true → EachImage (λ image. records_in_image image ≡ commits s events) new.now)) (ends is).1 over.emptied);
            rests = λ clean resting none. rests clean resting (ap (commits s) (sym compiled) ∙ none);
            right = right_step scan compiler (Some order) run old.now (readable_now old sound) (build_step compiler is_compiler);
            exact = λ is none. record {
              started = all_started compiler s over.graph_form (compile_part events) (moved (λ l. IsWhole s l) (whole is)) answered none;
              steady = all_steady compiler s over.graph_form (compile_part events) (moved (λ l. IsWhole s l) (whole is)) answered none;
            };
            made = λ is. all_files_made compiler s over.graph_form (compile_part events) (moved (λ l. IsWhole s l) (whole (built_ended said is))) answered
                (moved (λ l. list_any is_refused (statuses_of s l) ≡ false) (done is));
          }

-- the statuses of a build are those of what its compilers did
pub has_status_over : (answer : Request → Exit) (order : Order) (statuses : List FileStatus) (failed : Bool) (old new : Moments) (events : List Event) → BuildsOver records_in_image answer order (Ok statuses) failed old new events → statuses ≡ statuses_of (work_over records_in_image order old.now) (compile_part events)
has_status_over answer order statuses failed old new events over = over.statuses ∙ ap (statuses_of (work_over records_in_image order old.now)) (sym (build_parts (work_over records_in_image order old.now) events over.lawful).0)

-- a run whose build ended by itself
pub ended_over : (scan : List ℕ → Finding) (answer : Request → Exit) (order : Order) (warnings : List ℕ) (statuses : List FileStatus) (failed : Bool) (old new : Moments) → AreSound old → (events : List Event) → BuildsOver records_in_image answer order (Ok statuses) failed old new events → (words : List (List ℕ)) (said : Outcome)
    → (IsSaid said → said ≡ build_outcome order.graph statuses) → RestsOver {T = List FileStatus} {E = RunFault} records_in_image (λ image. IsResting image) order (Ok statuses) old new events → RunsBy scan answer (Builds order warnings) (run_of words said failed events (added_since old new)) old new
ended_over scan answer order warnings statuses failed old new sound events over words said answered rests =
    runs_over scan answer order warnings (Ok statuses) failed old new sound events over (test_part events) words said (λ is. let nothing : ⊥ = cc in absurd nothing) (λ is. (statuses, refl)) (λ is.
    subst (λ (m : List FileStatus). list_any is_refused m ≡ false) over.statuses (built_refuses_none order.graph statuses said is (answered (built_said said is))))
    (λ clean resting none. writes_nothing {T = List FileStatus} {F = RunFault} (Ok statuses) old new (HasEnded said) (λ is. (statuses, refl)) (rests clean resting none))

-- a run whose build had a fault
pub faulted_over : (scan : List ℕ → Finding) (answer : Request → Exit) (order : Order) (warnings : List ℕ) (why : RunFault) (failed : Bool) (old new : Moments) → AreSound old → (events : List Event) → BuildsOver records_in_image answer order (Err why) failed old new events → (words : List (List ℕ)) (said : Outcome)
    → (HasEnded said → ⊥) → (why ≡ fault.NoMemory → said ≡ outcome.NoMemory) → RestsOver {T = List FileStatus} records_in_image (λ image. IsResting image) order (Err why) old new events → RunsBy scan answer (Builds order warnings) (run_of words said failed events (added_since old new)) old new
faulted_over scan answer order warnings why failed old new sound events over words said fails memory rests =
    runs_over scan answer order warnings (Err why) failed old new sound events over (test_part events) words said (λ is. memory (same_fault why is)) (λ is. absurd (fails is)) (λ is. absurd (fails (built_ended said is)))
    (λ clean resting none. writes_nothing {T = List FileStatus} (Err why) old new (HasEnded said) (λ is. absurd (fails is)) (rests clean resting none)) where
      same_fault : (why : RunFault) → ◌≡◌ {A = Result (List FileStatus) RunFault} (Err why) (Err fault.NoMemory) → why ≡ fault.NoMemory
      same_fault why is = cc

-- a run that did nothing
idle_step : (world : World) (order : Option Order) (run : ProgramRun) (first : DiskState) → IsIdleRun run → RunStep world order run first
idle_step world None run first idle = idle
idle_step world (Some order) run first idle = inl idle

-- nothing follows the moments
follows_idle : (moments : Moments) → Follows moments moments
follows_idle moments = sym (append-nil (all_of moments)) ∙ ap (λ (l : List DiskState). all_of moments ++ l) (sym (nothing_added moments))

no_graph : IsGraph []
no_graph = record { few = omega arith; distinct = λ i j a lt within. absurd (omega arith); each = λ i other lt. absurd (omega arith); small = omega arith }

module _ (scan : List ℕ → Finding) (answer : Request → Exit) (r : Reading) (words : List (List ℕ)) (said : Outcome) (failed : Bool) (journal : List Event) (moments : Moments) (sound : AreSound moments) where
  abbrev rest : ProgramRun
  rest = run_of words said failed (since journal journal) (added_since moments moments)

  nothing : compile_part (since journal journal) ≡ []
  nothing = ap compile_part (since_itself journal)

  idle : IsIdleRun rest
  idle = record { events = nothing; later = nothing_added moments }

  -- nothing is written
  idle_rests : (order : Option Order) → (HasEnded said → order ≡ None) → RestsFrom order rest moments.now moments.now
  idle_rests None unordered = tt
  idle_rests (Some order) unordered = λ clean resting none. record {
    fewer = subst (Shrinks moments.now) (sym (nothing_added moments)) tt;
    same = λ is. let nothing : ⊥ = cc (unordered is) in absurd nothing;
  }

  -- where nothing is to be built, or after a fault or out of memory
  pub runs_idle : (HasEnded said → order_of r ≡ None) → RunsBy scan answer r rest moments moments
  unfolding LawfulMoves GreedyMoves AreRequested EachAfter moves_after next_start first_from after_all
  runs_idle unordered = record { follows = follows_idle moments; by = λ compiler is_compiler. all_of_it compiler } where
    all_of_it : (compiler : Request → Exit) → RunsAs scan compiler r rest moments.now moments.now
    all_of_it compiler =
        let s : Work = work_over records_in_image (order_in r) moments.now in
        let step = idle_step (world_of scan compiler) (order_of r) rest moments.now idle in
        let none : HasEnded said → (order_in r).graph ≡ [] = λ is. ap (λ (o : Option Order). (unwrap_or o no_order).graph) (unordered is) in
        let whole : HasEnded said → IsWhole s [] = λ is. record {
          lawful = record { moves = tt; requests = tt; tickets = tt };
          greedy = tt;
          finished = record { idle = refl; over = rw (none is) refl };
          none_lost = refl;
        } in
        let empty : HasEnded said → IsGraph (order_in r).graph = λ is. subst IsGraph (sym (none is)) no_graph in
        let no_file : HasEnded said → (position : ℕ) → position < length (order_in r).graph → ⊥ = λ is position inside.
        let none_there : position < 0 = subst (λ (g : List Entry). position < length g) (none is) inside in omega (arith, none_there) in
        record {
          step = step;
          ends = ap (last_state moments.now) (nothing_added moments);
          graph = empty;
          whole = λ is. subst (IsWhole s) (sym nothing) (whole is);
          recorded = λ is position inside. absurd (no_file is position inside);
          emptied = λ is clean. absurd (false≢true (sym (ap (λ (o : Option Order). (unwrap_or o no_order).clean) (unordered is)) ∙ clean));
          rests = idle_rests (order_of r) unordered;
          right = right_step scan compiler (order_of r) rest moments.now (readable_now moments sound) step;
          exact = λ is halts. record {
            started = all_started compiler s (empty is) (compile_part (since journal journal)) (subst (IsWhole s) (sym nothing) (whole is)) (subst (Answered compiler) (sym nothing) tt) halts;
            steady = all_steady compiler s (empty is) (compile_part (since journal journal)) (subst (IsWhole s) (sym nothing) (whole is)) (subst (Answered compiler) (sym nothing) tt) halts;
          };
          made = λ is position inside. absurd (no_file (built_ended said is) position inside);
        }

-- the empty disk holds no record of the program's store
pub none_in_empty_image : records_in_image empty_image ≡ []
none_in_empty_image = none_in_empty
