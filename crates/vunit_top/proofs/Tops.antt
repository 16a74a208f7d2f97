-- What words say alone, and a child whose input is too long.
use Rattle.std.proofs.Common.{◌≡◌, ℕ, Bool, leb, List, [], ◌∷◌, ◌++◌, length, ◌<◌, ◌≤◌, Option, Some, None, Result, Ok, Err, true, false, sym, ap, ◌∙◌, inl, inr, refl}
use Rattle.std.specs.Prelude.{if◌then◌else◌, codes}
use Rattle.std.proofs.Math.Dec.{ltb}
use Rattle.std.proofs.lemmas.Bool.{cases_Bool, cond-true, cond-false, lt-ltb, le-ltb, false≢true}
use Rattle.base_outcomes.specs.declared.outcome.Outcome.TheVariants as outcome
use Rattle.base_outcomes.specs.declared.outcome.Limit.TheVariants as limits
use Rattle.base.specs.declared.limits.TheConstants.{FILE_LIMIT, SLOT_LIMIT}
use Rattle.base.specs.declared.child.Exit.{Exit}
use Rattle.child_test_request.specs.Reading.{bench_at}
use Rattle.child_tools.specs.Benches.{simulation}
use Rattle.outside.specs.declared.streams.TakeEnd.TheVariants.{Got, TooLong}
use Rattle.outside.specs.Streams.{take_end}
use Rattle.report.specs.Texts.{bad_request}
use Rattle.vunit_arguments.specs.declared.setting.Setting.{Setting}
use Rattle.vunit_arguments.specs.declared.setting.ArgumentsFault.TheVariants as words
use Rattle.vunit_arguments.specs.Arguments.{setting_of, ReadsArguments}
use Rattle.vunit_top.specs.declared.words.Task.{Task}
use Rattle.generated_runs.specs.declared.options.GenerateOptions.{GenerateOptions}
use Rattle.vunit_top.specs.Reading.{Reading, Bad, Child, Compiler, Simulator, Over, Generates, begins_as_compiler, begins_as_simulator, task_of, generate_task, generate_options_of, generates, may_test, setting_task, maybe_task, words_task}
use Rattle.vunit_top.specs.Said.{Said, child_said, child_results, exit_said, left_results, input_bytes}

got_is_short : (input : List ℕ) → TooLong ≡ Got input → ⊥
got_is_short input e = cc

same_input : (input other : List ℕ) → Got input ≡ Got other → input ≡ other
same_input input other e = cc

module _ (input : List ℕ) where
  abbrev is_short : Bool
  is_short = leb (length input) input_bytes

  long_is : TooLong ≡ take_end input input_bytes → is_short ≡ false
  long_is h =
      elim (cases_Bool is_short) [
        | inl t ↦ absurd (got_is_short input (h ∙ cond-true is_short (Got input) TooLong t))
        | inr f ↦ f
      ]

  short_is : (taken : List ℕ) → Got taken ≡ take_end input input_bytes → is_short ≡ true
  short_is taken h =
      elim (cases_Bool is_short) [
        | inl t ↦ t
        | inr f ↦ absurd (got_is_short taken (sym (h ∙ cond-false is_short (Got input) TooLong f)))
      ]

  taken_is : (taken : List ℕ) → Got taken ≡ take_end input input_bytes → taken ≡ input
  taken_is taken h = same_input taken input (h ∙ cond-true is_short (Got input) TooLong (short_is taken h))

  pub too_long : (answer : List ℕ → Exit) → TooLong ≡ take_end input input_bytes → child_said answer input ≡ record { outcome = outcome.Child 2; text = codes "bad request" ++ 10 ∷ [] }
  unfolding bad_request
  too_long answer h = cond-false is_short (exit_said (answer input)) _ (long_is h)

  pub no_results : TooLong ≡ take_end input input_bytes → child_results input ≡ None
  no_results h = cond-false is_short (left_results (bench_at input) (simulation input).results) None (long_is h)

  pub taken_said : (answer : List ℕ → Exit) (taken : List ℕ) → Got taken ≡ take_end input input_bytes → exit_said (answer taken) ≡ child_said answer input
  taken_said answer taken h =
      ap (λ (i : List ℕ). exit_said (answer i)) (taken_is taken h)
      ∙ sym (cond-true is_short (exit_said (answer input)) (record { outcome = outcome.Child 2; text = bad_request }) (short_is taken h))

  pub taken_results : (taken : List ℕ) → Got taken ≡ take_end input input_bytes → left_results (bench_at taken) (simulation taken).results ≡ child_results input
  taken_results taken h =
      ap (λ (i : List ℕ). left_results (bench_at i) (simulation i).results) (taken_is taken h)
      ∙ sym (cond-true is_short (left_results (bench_at input) (simulation input).results) None (short_is taken h))

-- with too long an input something is put
not_empty : codes "bad request" ++ 10 ∷ [] ≡ [] → ⊥
not_empty e = cc

pub long_is_said : (answer : List ℕ → Exit) (input : List ℕ) → TooLong ≡ take_end input input_bytes → (child_said answer input).text ≡ [] → ⊥
long_is_said answer input long none = not_empty (sym (ap (λ (said : Said). said.text) (too_long input answer long)) ∙ none)

pub some_said : (x y : Said) → ◌≡◌ {A = Option Said} (Some x) (Some y) → x ≡ y
some_said x y e = cc

module _ (setting : Setting) where
  pub over_slots : SLOT_LIMIT < setting.num_threads → setting_task setting ≡ Err (Over limits.Slots SLOT_LIMIT)
  over_slots over = rw (lt-ltb SLOT_LIMIT setting.num_threads over) refl

  module _ (few : setting.num_threads ≤ SLOT_LIMIT) where
    abbrev settled : Task → Result Task Reading
    settled j = Ok j

    abbrev by_mode : Result Task Reading
    by_mode = if ltb 0 setting.generate then generate_task setting else Ok (task_of setting)

    within : setting_task setting ≡ by_mode
    within = cond-false (ltb SLOT_LIMIT setting.num_threads) (Err (Over limits.Slots SLOT_LIMIT)) by_mode (le-ltb SLOT_LIMIT setting.num_threads few)

    pub known_task : (j : Task) → setting.generate ≤ 0 → j ≡ task_of setting → setting_task setting ≡ Ok j
    known_task j none is = within ∙ cond-false (ltb 0 setting.generate) (generate_task setting) (Ok (task_of setting)) (le-ltb 0 setting.generate none) ∙ ap settled (sym is)

    named : 0 < setting.generate → setting_task setting ≡ generate_task setting
    named some = within ∙ cond-true (ltb 0 setting.generate) (generate_task setting) (Ok (task_of setting)) (lt-ltb 0 setting.generate some)

    pub to_generate : 0 < setting.generate → setting.generate < FILE_LIMIT → setting_task setting ≡ Err (Generates (generate_options_of setting))
    to_generate some fits = named some ∙ cond-true (ltb setting.generate FILE_LIMIT) (Err (Generates (generate_options_of setting))) (Err (Over limits.Files FILE_LIMIT)) (lt-ltb setting.generate FILE_LIMIT fits)

    pub over_files : 0 < setting.generate → FILE_LIMIT ≤ setting.generate → setting_task setting ≡ Err (Over limits.Files FILE_LIMIT)
    over_files some over = named some ∙ cond-false (ltb setting.generate FILE_LIMIT) (Err (Generates (generate_options_of setting))) (Err (Over limits.Files FILE_LIMIT)) (le-ltb setting.generate FILE_LIMIT over)

    -- what names the mode and generates nothing passes the limit
    pub over_if_plain : 0 < setting.generate → generates (setting_task setting) ≡ false → setting_task setting ≡ Err (Over limits.Files FILE_LIMIT)
    over_if_plain some plain =
        elim (cases_Bool (ltb setting.generate FILE_LIMIT)) [
          | inl fits ↦ absurd (false≢true (sym plain ∙ ap generates (named some ∙ cond-true (ltb setting.generate FILE_LIMIT) (Err (Generates (generate_options_of setting))) (Err (Over limits.Files FILE_LIMIT)) fits)))
          | inr over ↦ named some ∙ cond-false (ltb setting.generate FILE_LIMIT) (Err (Generates (generate_options_of setting))) (Err (Over limits.Files FILE_LIMIT)) over
        ]

-- words that generate a project may start a test
pub not_untested : (j : Result Task Reading) (options : GenerateOptions) → j ≡ Err (Generates options) → may_test j ≡ false → ⊥
not_untested j options is none = false≢true (sym none ∙ ap may_test is)

module _ (all : List (List ℕ)) where
  pub child_task : begins_as_compiler all ≡ true → words_task all ≡ Err (Child Compiler)
  child_task child = cond-true (begins_as_compiler all) (Err (Child Compiler)) (if begins_as_simulator all then Err (Child Simulator) else maybe_task (setting_of all)) child

  module _ (no_child : begins_as_compiler all ≡ false) where
    no_child_task : words_task all ≡ (if begins_as_simulator all then Err (Child Simulator) else maybe_task (setting_of all))
    no_child_task = cond-false (begins_as_compiler all) (Err (Child Compiler)) (if begins_as_simulator all then Err (Child Simulator) else maybe_task (setting_of all)) no_child

    pub bench_job : begins_as_simulator all ≡ true → words_task all ≡ Err (Child Simulator)
    bench_job bench = no_child_task ∙ cond-true (begins_as_simulator all) (Err (Child Simulator)) (maybe_task (setting_of all)) bench

    module _ (no_bench : begins_as_simulator all ≡ false) where
      read_task : (s : Option Setting) → setting_of all ≡ s → words_task all ≡ maybe_task s
      read_task s is = no_child_task ∙ cond-false (begins_as_simulator all) (Err (Child Simulator)) (maybe_task (setting_of all)) no_bench ∙ ap maybe_task is

      pub setting_read : (setting : Setting) → ReadsArguments (setting_of all) (Ok setting) → words_task all ≡ setting_task setting
      setting_read setting read = read_task (Some setting) read

      pub bad_read : ReadsArguments (setting_of all) (Err words.Bad) → words_task all ≡ Err Bad
      bad_read read = read_task None read
