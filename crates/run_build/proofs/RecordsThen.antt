-- What children gave is the latest records of their files, event after event, once all is committed.
use Rattle.std.proofs.Common.{◌≡◌, ℕ, true, false, Bool, eqb, ◌&&◌, List, map, [], ◌∷◌, ◌++◌, Option, Some, None, refl, sym, ap, ◌∙◌, inl, inr}
use Rattle.std.specs.Prelude.{All, slice_get}
use Rattle.std.proofs.lemmas.Grind.{flat_map-append}
use Rattle.std.proofs.lemmas.List.{append-nil}
use Rattle.std.proofs.lemmas.List.Concat.{flat_map-cons}
use Rattle.std.proofs.lemmas.List.Elements.{All-nil, All-head, All-tail, All-cons, All-push, All-weaker}
use Rattle.std.proofs.lemmas.Bool.{cases_Bool, eqb-true, eq-eqb, cond-true, cond-false, and_from, false≢true}
use Rattle.std.proofs.lemmas.Option.{none-some, same_Some}
use Rattle.base.specs.declared.file.FileName.{FileName}
use Rattle.base.specs.declared.graph.Entry.{Entry}
use Rattle.base.specs.declared.graph.BuiltFile.{BuiltFile}
use Rattle.base.specs.declared.child.Exit.{Exit}
use Rattle.base.specs.Graphs.{IsGraph}
use Rattle.outside.specs.Records.{Record, deps_at}
use Rattle.run_spec.specs.ChildJournal.{Work, Run, End, BuildProgress, empty_progress, child_of_end, exit_at, output_at, artefact_so_far, run_of, others_of}
use Rattle.run_spec.proofs.Artefacts.{so_far_stays}
use Rattle.run_spec.proofs.BuiltLists.{has_all_more, built_more}
use Rattle.run_spec.proofs.Steps.{run_found, All-others}
use Rattle.run_spec.specs.Commits.{record_at, commit_of, commits_of}
use Rattle.run_build.specs.Commits.{latest_after}
use Rattle.run_build.specs.UnderWay.{IsDueOver, IsKnown, HasRecords}
use Rattle.run_build.proofs.Latest.{latest_after-append, latest_here, latest_elsewhere}

-- one more end
pub commits_then : (graph : List Entry) (ends : List End) (end : End) → commits_of graph (ends ++ end ∷ []) ≡ commits_of graph ends ++ commit_of graph end
commits_then graph ends end = flat_map-append (commit_of graph) ends (end ∷ []) ∙ ap (λ (l : List Record). commits_of graph ends ++ l) (append-nil (commit_of graph end))

pub record_of_good : (graph : List Entry) (end : End) → eqb end.exit.code 0 ≡ true → commit_of graph end ≡ record_at graph end.position end.below end.exit.output ∷ []
record_of_good graph end good = cond-true (eqb end.exit.code 0) (record_at graph end.position end.below end.exit.output ∷ []) [] good

pub no_record : (graph : List Entry) (end : End) → eqb end.exit.code 0 ≡ false → commit_of graph end ≡ []
no_record graph end bad = cond-false (eqb end.exit.code 0) (record_at graph end.position end.below end.exit.output ∷ []) [] bad

-- the commit of another file doesn't change the latest record of a name
pub committed_elsewhere : (graph : List Entry) → IsGraph graph → (end : End) (k : ℕ) (entry : Entry) → slice_get graph k ≡ Some entry → (end.position ≡ k → ⊥) → (before : FileName → Option Record) → latest_after (commit_of graph end) before entry.name ≡ before entry.name
committed_elsewhere graph is end k entry at other before = by (eqb end.exit.code 0) refl
  where
    by : (good : Bool) → eqb end.exit.code 0 ≡ good → latest_after (commit_of graph end) before entry.name ≡ before entry.name
    by true code =
        ap (λ (l : List Record). latest_after l before entry.name) (record_of_good graph end code)
        ∙ latest_elsewhere graph is end.position k entry at other end.below end.exit.output before
    by false code = ap (λ (l : List Record). latest_after l before entry.name) (no_record graph end code)

-- if no child of a file ended well, commits don't change the latest record of this file
pub uncommitted : (graph : List Entry) → IsGraph graph → (k : ℕ) (entry : Entry) → slice_get graph k ≡ Some entry → (ends : List End) (before : FileName → Option Record) → output_at (map child_of_end ends) k ≡ None → latest_after (commits_of graph ends) before entry.name ≡ before entry.name
unfolding output_at
uncommitted graph is k entry at [] before none = refl
uncommitted graph is k entry at (end ∷ ends) before none =
    elim (cases_Bool (eqb end.position k && eqb end.exit.code 0)) [
      | inl both ↦ absurd (none-some end.exit.output (sym none ∙ cond-true (eqb end.position k && eqb end.exit.code 0) (Some end.exit.output) (output_at (map child_of_end ends) k) both))
      | inr not_both ↦
          let rest : output_at (map child_of_end ends) k ≡ None = sym (cond-false (eqb end.position k && eqb end.exit.code 0) (Some end.exit.output) (output_at (map child_of_end ends) k) not_both) ∙ none in
          ap (λ (l : List Record). latest_after l before entry.name) (flat_map-cons (commit_of graph) end ends)
          ∙ latest_after-append (commit_of graph end) (commits_of graph ends) before entry.name
          ∙ uncommitted graph is k entry at ends (latest_after (commit_of graph end) before) rest
          ∙ here not_both
    ] where
      here : (eqb end.position k && eqb end.exit.code 0) ≡ false → latest_after (commit_of graph end) before entry.name ≡ before entry.name
      here not_both = elim (cases_Bool (eqb end.exit.code 0)) [
        | inr bad ↦ ap (λ (l : List Record). latest_after l before entry.name) (no_record graph end bad)
        | inl good ↦ committed_elsewhere graph is end k entry at (λ same. false≢true (sym not_both ∙ and_from (eqb end.position k) (eqb end.exit.code 0) (eq-eqb end.position k same) good)) before
      ]

-- what was printed for a file is of an end
pub printed_of : (P : End → Type 0) (k : ℕ) (ends : List End) (output : List ℕ) → All P ends → output_at (map child_of_end ends) k ≡ Some output → (end : End) × (end.position ≡ k) × (eqb end.exit.code 0 ≡ true) × (end.exit.output ≡ output) × P end
unfolding output_at
printed_of P k [] output all is = absurd (none-some output is)
printed_of P k (end ∷ ends) output all is =
    elim (cases_Bool (eqb end.position k && eqb end.exit.code 0)) [
      | inl both ↦
          let parts : (eqb end.position k ≡ true) × (eqb end.exit.code 0 ≡ true) = and_both (eqb end.position k) (eqb end.exit.code 0) both in (
            end,
            eqb-true end.position k parts.0,
            parts.1,
            same_Some end.exit.output output (sym (cond-true (eqb end.position k && eqb end.exit.code 0) (Some end.exit.output) (output_at (map child_of_end ends) k) both) ∙ is),
            All-head P end ends all,
          )
      | inr other ↦ printed_of P k ends output (All-tail P end ends all) (sym (cond-false (eqb end.position k && eqb end.exit.code 0) (Some end.exit.output) (output_at (map child_of_end ends) k) other) ∙ is)
    ] where
      and_both : (a b : Bool) → (a && b) ≡ true → (a ≡ true) × (b ≡ true)
      and_both true b h = (refl, h)
      and_both false b h = absurd (false≢true h)

-- after more ends a child is still due over the same files, and no record was current over them
pub due_more : (work : Work) (ends more : List End) (position : ℕ) (below : List BuiltFile) → IsDueOver work ends position below → IsDueOver work (ends ++ more) position below
due_more work ends more position below due =
    let f : ℕ → Option (List ℕ) = artefact_so_far work ends in
    let g : ℕ → Option (List ℕ) = artefact_so_far work (ends ++ more) in
    record {
      all_made = has_all_more f g (λ dep artefact. so_far_stays work ends more dep artefact) (deps_at work.graph position) due.all_made;
      below_is = due.below_is ∙ sym (built_more work.graph f g (λ dep artefact. so_far_stays work ends more dep artefact) (deps_at work.graph position) due.all_made);
      stale = due.stale;
    }

-- no end is of a file of which none is found
none_of_exits : (k : ℕ) (ends : List End) → exit_at ends k ≡ None → All (λ end. end.position ≡ k → ⊥) ends
unfolding exit_at
none_of_exits k [] none = All-nil (λ end. end.position ≡ k → ⊥)
none_of_exits k (end ∷ ends) none =
    elim (cases_Bool (eqb end.position k)) [
      | inl t ↦ absurd (none-some end.exit (sym none ∙ cond-true (eqb end.position k) (Some end.exit) (exit_at ends k) t))
      | inr f ↦ All-cons (λ e. e.position ≡ k → ⊥) end ends (λ same. false≢true (sym f ∙ eq-eqb end.position k same)) (none_of_exits k ends (sym (cond-false (eqb end.position k) (Some end.exit) (exit_at ends k) f) ∙ none))
    ]

module _ (work : Work) (first : FileName → Option Record) where
  abbrev graph : List Entry
  graph = work.graph

  abbrev IsRunDue : List End → Run → Type 0
  IsRunDue ends run = IsDueOver work ends run.position run.below

  abbrev IsEndDue : List End → End → Type 0
  IsEndDue ends end = IsDueOver work ends end.position end.below

  -- at first no child has been started
  pub records_at_first : HasRecords work first empty_progress
  records_at_first = record { runs = All-nil (IsRunDue []); ends = All-nil (IsEndDue []); known = All-nil (IsKnown graph first []) }

  module _ (progress : BuildProgress) (has : HasRecords work first progress) where
    -- after a start
    pub records_started : (run : Run) → IsRunDue progress.ends run → (taken : List ℕ) (halted : Bool) → HasRecords work first (record { taken = taken; runs = progress.runs ++ run ∷ []; ends = progress.ends; halted = halted })
    records_started run due taken halted = record { runs = All-push (IsRunDue progress.ends) progress.runs run has.runs due; ends = has.ends; known = has.known }

    -- after an end that was lost
    pub records_left : (ticket : ℕ) (taken : List ℕ) (halted : Bool) → HasRecords work first (record { taken = taken; runs = others_of ticket progress.runs; ends = progress.ends; halted = halted })
    records_left ticket taken halted = record { runs = All-others (IsRunDue progress.ends) progress.runs ticket has.runs; ends = has.ends; known = has.known }

    -- after an end
    module _ (is : IsGraph graph) (ticket : ℕ) (run : Run) (found : run_of ticket progress.runs ≡ Some run) (exit : Exit) (unended : exit_at progress.ends run.position ≡ None) where
      abbrev end : End
      end = record { position = run.position; request = run.request; below = run.below; exit = exit }

      abbrev ends : List End
      ends = progress.ends ++ end ∷ []

      latest_now : (name : FileName) → latest_after (commits_of graph ends) first name ≡ latest_after (commit_of graph end) (latest_after (commits_of graph progress.ends) first) name
      latest_now name =
          ap (λ (l : List Record). latest_after l first name) (commits_then graph progress.ends end) ∙ latest_after-append (commits_of graph progress.ends) (commit_of graph end) first name

      known_here : IsKnown graph first ends end
      known_here entry at good =
          latest_now entry.name
          ∙ ap (λ (l : List Record). latest_after l (latest_after (commits_of graph progress.ends) first) entry.name) (record_of_good graph end good)
          ∙ latest_here graph run.position entry at run.below exit.output (latest_after (commits_of graph progress.ends) first)

      known_still : (old : End) → IsKnown graph first progress.ends old → (old.position ≡ run.position → ⊥) → IsKnown graph first ends old
      known_still old known other entry at good =
          latest_now entry.name
          ∙ committed_elsewhere graph is end old.position entry at (λ same. other (sym same)) (latest_after (commits_of graph progress.ends) first)
          ∙ known entry at good

      all_known : (olds : List End) → All (IsKnown graph first progress.ends) olds → All (λ old. old.position ≡ run.position → ⊥) olds → All (IsKnown graph first ends) olds
      all_known [] known others = All-nil (IsKnown graph first ends)
      all_known (old ∷ olds) known others =
          All-cons (IsKnown graph first ends) old olds (known_still old (All-head (IsKnown graph first progress.ends) old olds known) (All-head (λ o. o.position ≡ run.position → ⊥) old olds others))
          (all_known olds (All-tail (IsKnown graph first progress.ends) old olds known) (All-tail (λ o. o.position ≡ run.position → ⊥) old olds others))

      pub records_ended : (taken : List ℕ) (halted : Bool) → HasRecords work first (record { taken = taken; runs = others_of ticket progress.runs; ends = ends; halted = halted })
      records_ended taken halted =
          let due : IsRunDue progress.ends run = run_found (IsRunDue progress.ends) progress.runs ticket run found has.runs in
          record {
            runs = All-weaker (IsRunDue progress.ends) (IsRunDue ends) (λ r d. due_more work progress.ends (end ∷ []) r.position r.below d) (others_of ticket progress.runs) (All-others (IsRunDue progress.ends) progress.runs ticket has.runs);
            ends = All-push (IsEndDue ends) progress.ends end (All-weaker (IsEndDue progress.ends) (IsEndDue ends) (λ e d. due_more work progress.ends (end ∷ []) e.position e.below d) progress.ends has.ends)
                (due_more work progress.ends (end ∷ []) run.position run.below due);
            known = All-push (IsKnown graph first ends) progress.ends end (all_known progress.ends has.known (none_of_exits run.position progress.ends unended)) known_here;
          }
