-- Two builds: the first is over no record and compiles all files, and the second is over what the first has committed. With an edit
-- between them the second compiles exactly the files that the edit touches.
use Rattle.std.proofs.Common.{◌≡◌, ℕ, true, false, cond, List, map, length, Option, ap, ◌∙◌}
use Rattle.std.specs.Prelude.{All, count_by}
use Rattle.std.specs.List.{list_all}
use Rattle.base.specs.declared.file.FileName.{FileName}
use Rattle.base.specs.declared.graph.Entry.{Entry}
use Rattle.base.specs.declared.child.Request.{Request}
use Rattle.base.specs.declared.child.Exit.{Exit}
use Rattle.base.specs.declared.child.Event.{Event}
use Rattle.base.specs.PresentGraph.{below}
use Rattle.outside.specs.Records.{Record, latest}
use Rattle.run_spec.specs.CleanBuild.{RecordsClean}
use Rattle.run_spec.specs.ChildJournal.{Work, Answered, IsWhole}
use Rattle.run_spec.specs.Commits.{work_of, commits}
use Rattle.run_spec.specs.Faithful.{IsTrueRecord}
use Rattle.run_spec.specs.declared.statuses.FileStatus.TheVariants as status
use Rattle.run_spec.specs.Statuses.{statuses_of}
use Rattle.run_laws.proofs.CleanCommits.{commits_true}
use Rattle.run_laws.proofs.TrueRecords.{records_clean, All-latest}
use Rattle.run_build.specs.Ran.{is_made}
use Rattle.generated_laws.specs.Compiled.{CompilesOnly}
use Rattle.generated_laws.specs.Edits.{MakesAll, ChangesFile, is_touched, touched_files}
use Rattle.generated_laws.proofs.CompiledFiles.{bare, bare_clean, none_current, all_made, all_compiled, compiled}
use Rattle.generated_laws.proofs.CommittedRecords.{latest_is}
use Rattle.generated_laws.proofs.AskedAgain.{tells}

module _ (answer : Request → Exit) (slots : ℕ) (before : List Entry) (makes : MakesAll answer before) (first : List Event) (whole : IsWhole (bare slots before) first) (answered : Answered answer first) where
  -- the first build makes all files
  pub first_made : list_all is_made (statuses_of (bare slots before) first) ≡ true
  first_made = all_made answer (bare slots before) makes.graph_form makes.accepts (bare_clean answer slots before makes.graph_form) first whole answered

  -- and compiles them
  pub first_compiled : CompilesOnly before (λ at. true) (length before) (statuses_of (bare slots before) first)
  first_compiled = all_compiled answer slots before makes.graph_form makes.accepts first whole answered

  abbrev records : List Record
  records = commits (bare slots before) first

  abbrev latest_of : FileName → Option Record
  latest_of name = latest name records

  are_true : All (IsTrueRecord answer) records
  are_true = commits_true answer (bare slots before) makes.graph_form first whole.lawful answered

  module _ (after : List Entry) (makes_after : MakesAll answer after) where
    abbrev again : Work
    again = work_of latest_of after slots false

    pub again_clean : RecordsClean answer after again.current
    again_clean = records_clean answer latest_of after makes_after.graph_form (λ name kept is. All-latest (IsTrueRecord answer) name records kept are_true is)

    module _ (second : List Event) (whole_again : IsWhole again second) (answered_again : Answered answer second) where
      -- the second build makes all files
      pub second_made : list_all is_made (statuses_of again second) ≡ true
      second_made = all_made answer again makes_after.graph_form makes_after.accepts again_clean second whole_again answered_again

      -- and compiles exactly the files that the edit touches
      pub second_compiled : (edited : ℕ) → ChangesFile answer edited before after → CompilesOnly before (is_touched before edited) (touched_files before edited) (statuses_of again second)
      second_compiled edited changes =
          let is : CompilesOnly after (is_touched before edited) (count_by (is_touched before edited) (below (length after))) (statuses_of again second) =
          compiled answer again makes_after.graph_form makes_after.accepts again_clean second whole_again answered_again (is_touched before edited)
          (tells edited before after changes.edit answer makes.graph_form makes_after.graph_form makes.accepts makes_after.accepts latest_of
          (λ at entry found. latest_is answer (bare slots before) makes.graph_form makes.accepts (bare_clean answer slots before makes.graph_form) first whole answered at entry found (none_current before at)) changes.differs) in
          record {
            statuses_are = is.statuses_are ∙ ap (λ (count : ℕ). map (λ at. cond (is_touched before edited at) status.Compiled status.Fresh) (below count)) changes.edit.count;
            count_is = is.count_is ∙ ap (λ (count : ℕ). count_by (is_touched before edited) (below count)) changes.edit.count;
          }
