-- Which objects a call leaves unchanged, by what it touches.
use Rattle.std.proofs.Common.{◌≡◌, Bool, true, false, Option, None, Result, Ok, Err, refl, sym, ap, ◌∙◌}
use Rattle.std.specs.Prelude.{ℕ, List, if◌then◌else◌, nat_lt}
use Rattle.std.proofs.lemmas.Bool.{false≢true}
use Rattle.base.specs.declared.child.MaybeText.{MaybeText}
use Rattle.base.specs.declared.child.MaybeText.TheVariants.{Given, Nothing}
use Rattle.base.specs.declared.limits.TheConstants.{FILE_LIMIT, SLOT_LIMIT}
use Rattle.base_outcomes.specs.declared.outcome.Limit.TheVariants as limits
use Rattle.project_reading.specs.Reading.{SourceReading}
use Rattle.project_reading.specs.Reading as sources
use Rattle.run_spec.specs.JournalParts.{is_given}
use Rattle.vunit_arguments.specs.declared.setting.Setting.{Setting}
use Rattle.vunit_top.specs.declared.words.Task.{Task}
use Rattle.vunit_top.specs.declared.words.Task.TheVariants as task
use Rattle.vunit_top.specs.Acts.{Object, Input, Tree, Disk, Children, Out, Reports}
use Rattle.vunit_top.specs.Reading.{Reading, Bad, Child, Compiler, Simulator, Stops, Over, Lists, ListsTests, Exports, Builds, Runs, Generates, is_build, may_write, generates, generate_options_of, generate_task, setting_task, task_of, task_reading}
use Rattle.vunit_top.specs.Said.{order_of, report_path_of}
use Rattle.vunit_top.specs.Touches.{is_child, touches, may_touch}

-- by one object after the other
pub each_row : (same : Object → Type 0) (test : Object → Bool) → (test Input ≡ false → same Input) → (test Tree ≡ false → same Tree) → (test Disk ≡ false → same Disk) → (test Children ≡ false → same Children) → (test Out ≡ false → same Out) → (test Reports ≡ false → same Reports) →
    (object : Object) → test object ≡ false → same object
each_row same test input tree disk children out reports Input = input
each_row same test input tree disk children out reports Tree = tree
each_row same test input tree disk children out reports Disk = disk
each_row same test input tree disk children out reports Children = children
each_row same test input tree disk children out reports Out = out
each_row same test input tree disk children out reports Reports = reports

-- what is touched is not said to be untouched
pub not_so : {A : Type 0} → true ≡ false → A
not_so e = absurd (false≢true (sym e))

pub no_order_if : (r : Reading) → touches r Disk ≡ false → order_of r ≡ None
no_order_if Bad e = refl
no_order_if (Child Compiler) e = refl
no_order_if (Child Simulator) e = refl
no_order_if (Stops reason) e = refl
no_order_if (Over limit number) e = refl
no_order_if (Lists graph) e = refl
no_order_if (ListsTests tests) e = refl
no_order_if (Exports path text) e = refl
no_order_if (Builds order warnings) e = not_so e
no_order_if (Runs asked) e = not_so e
no_order_if (Generates options) e = refl

pub no_order_by : (r : Reading) → touches r Children ≡ false → order_of r ≡ None
no_order_by Bad e = refl
no_order_by (Child Compiler) e = refl
no_order_by (Child Simulator) e = refl
no_order_by (Stops reason) e = refl
no_order_by (Over limit number) e = refl
no_order_by (Lists graph) e = refl
no_order_by (ListsTests tests) e = refl
no_order_by (Exports path text) e = refl
no_order_by (Builds order warnings) e = not_so e
no_order_by (Runs asked) e = not_so e
no_order_by (Generates options) e = refl

not_given : (path : MaybeText) → is_given path ≡ false → path ≡ Nothing
not_given Nothing e = refl
not_given (Given path) e = not_so e

pub no_report_if : (r : Reading) → touches r Reports ≡ false → report_path_of r ≡ Nothing
no_report_if Bad e = refl
no_report_if (Child Compiler) e = refl
no_report_if (Child Simulator) e = not_so e
no_report_if (Stops reason) e = refl
no_report_if (Over limit number) e = refl
no_report_if (Lists graph) e = refl
no_report_if (ListsTests tests) e = refl
no_report_if (Exports path text) e = not_so e
no_report_if (Builds order warnings) e = refl
no_report_if (Runs asked) e = not_given asked.report e
no_report_if (Generates options) e = refl

-- What is done with sources makes the program no child, generates no project, and reads the tree.
pub record IsOfTask (r : Reading) : Type 0 where
  pub no_child : is_child r ≡ false
  pub plain : generates (Err r) ≡ false
  pub reads : touches r Tree ≡ true

pub of_task : (job : Task) (found : SourceReading) → IsOfTask (task_reading job found)
of_task (task.ListFiles query) (sources.Stops reason) = record { no_child = refl; plain = refl; reads = refl }
of_task (task.ListFiles query) (sources.Over limit number) = record { no_child = refl; plain = refl; reads = refl }
of_task (task.ListFiles query) (sources.Found read) = record { no_child = refl; plain = refl; reads = refl }
of_task (task.ListTests query) (sources.Stops reason) = record { no_child = refl; plain = refl; reads = refl }
of_task (task.ListTests query) (sources.Over limit number) = record { no_child = refl; plain = refl; reads = refl }
of_task (task.ListTests query) (sources.Found read) = record { no_child = refl; plain = refl; reads = refl }
of_task (task.Export path query) (sources.Stops reason) = record { no_child = refl; plain = refl; reads = refl }
of_task (task.Export path query) (sources.Over limit number) = record { no_child = refl; plain = refl; reads = refl }
of_task (task.Export path query) (sources.Found read) = record { no_child = refl; plain = refl; reads = refl }
of_task (task.Build options query) (sources.Stops reason) = record { no_child = refl; plain = refl; reads = refl }
of_task (task.Build options query) (sources.Over limit number) = record { no_child = refl; plain = refl; reads = refl }
of_task (task.Build options query) (sources.Found read) = record { no_child = refl; plain = refl; reads = refl }
of_task (task.Run options) (sources.Stops reason) = record { no_child = refl; plain = refl; reads = refl }
of_task (task.Run options) (sources.Over limit number) = record { no_child = refl; plain = refl; reads = refl }
of_task (task.Run options) (sources.Found read) = record { no_child = refl; plain = refl; reads = refl }

either : (P : Result Task Reading → Type 0) (is : Bool) (x y : Result Task Reading) → P x → P y → P (if is then x else y)
either P true x y px py = px
either P false x y px py = py

-- no setting makes the program a child
pub no_child_set : (setting : Setting) → may_touch (setting_task setting) Input ≡ false
no_child_set setting =
    either (λ job. may_touch job Input ≡ false) (nat_lt SLOT_LIMIT setting.num_threads) (Err (Over limits.Slots SLOT_LIMIT)) (if nat_lt 0 setting.generate then generate_task setting else Ok (task_of setting)) refl
    (either (λ job. may_touch job Input ≡ false) (nat_lt 0 setting.generate) (generate_task setting) (Ok (task_of setting))
    (either (λ job. may_touch job Input ≡ false) (nat_lt setting.generate FILE_LIMIT) (Err (Generates (generate_options_of setting))) (Err (Over limits.Files FILE_LIMIT)) refl refl) refl)

-- a call leaves the objects unchanged that neither its task nor its words alone let it touch
pub settled_frame : (same : Object → Type 0) (job : Result Task Reading) → same Input → ((r : Reading) → job ≡ Err r → same Tree × same Disk × same Children × same Reports) →
    ((todo : Task) → job ≡ Ok todo → is_build todo ≡ false → same Disk × same Children) → ((todo : Task) → job ≡ Ok todo → may_write todo ≡ false → same Reports) →
    (object : Object) → may_touch job object ≡ false → same object
settled_frame same (Ok todo) input alone unbuilt unwritten =
    each_row same (may_touch (Ok todo)) (λ e. input) (λ e. not_so e) (λ e. (unbuilt todo refl e).0) (λ e. (unbuilt todo refl e).1) (λ e. not_so e) (λ e. unwritten todo refl e)
settled_frame same (Err r) input alone unbuilt unwritten =
    each_row same (may_touch (Err r)) (λ e. input) (λ e. (alone r refl).0) (λ e. (alone r refl).1) (λ e. (alone r refl).2) (λ e. not_so e) (λ e. (alone r refl).3)
