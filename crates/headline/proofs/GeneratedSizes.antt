-- Which sizes words may say that generate a project.
use Rattle.std.proofs.Common.{◌≡◌, ℕ, ◌<◌, ◌≤◌, Bool, true, false, List, Option, Some, None, Result, Ok, Err, refl, subst, arith, ltb-true}
use Rattle.std.specs.Prelude.{nat_lt, if◌then◌else◌}
use Rattle.base.specs.declared.limits.TheConstants.{FILE_LIMIT, SLOT_LIMIT}
use Rattle.base_outcomes.specs.declared.outcome.Limit.TheVariants as limit
use Rattle.vunit_arguments.specs.Arguments.{setting_of}
use Rattle.vunit_arguments.specs.declared.setting.Setting.{Setting}
use Rattle.vunit_top.specs.declared.words.Task.{Task}
use Rattle.vunit_top.specs.Reading.{Child, Compiler, Generates, Over, Reading, Simulator, begins_as_compiler, begins_as_simulator, generate_task, generate_options_of, task_of, maybe_task, setting_task, words_task}
use Rattle.generated_runs.specs.declared.options.GenerateOptions.{GenerateOptions}

-- the size that is said, and 1 where none is
abbrev size_in : Result Task Reading → ℕ
size_in (Err (Generates options)) = options.packages
size_in said = 1

abbrev IsSize : Result Task Reading → Type 0
IsSize said = (1 ≤ size_in said) × (size_in said ≤ 4095)

either : (test : Bool) (one other : Result Task Reading) → (test ≡ true → IsSize one) → (test ≡ false → IsSize other) → IsSize (if test then one else other)
either true one other passes fails = passes refl
either false one other passes fails = fails refl

-- no size is said
none : (1 ≤ 1) × (1 ≤ 4095)
none = (omega arith, omega arith)

sized : (setting : Setting) → nat_lt 0 setting.generate ≡ true → nat_lt setting.generate FILE_LIMIT ≡ true → (1 ≤ setting.generate) × (setting.generate ≤ 4095)
sized setting some few = let more : 0 < setting.generate = ltb-true 0 setting.generate some in let less : setting.generate < FILE_LIMIT = ltb-true setting.generate FILE_LIMIT few in (omega (arith, more), omega (arith, less))

of_setting : (setting : Setting) → IsSize (setting_task setting)
of_setting setting =
    either (nat_lt SLOT_LIMIT setting.num_threads) (Err (Over limit.Slots SLOT_LIMIT)) (if nat_lt 0 setting.generate then generate_task setting else Ok (task_of setting)) (λ _. none)
    (λ _. either (nat_lt 0 setting.generate) (generate_task setting) (Ok (task_of setting))
    (λ some. either (nat_lt setting.generate FILE_LIMIT) (Err (Generates (generate_options_of setting))) (Err (Over limit.Files FILE_LIMIT)) (sized setting some) (λ _. none))
    (λ _. none))

of_maybe : (setting : Option Setting) → IsSize (maybe_task setting)
of_maybe None = none
of_maybe (Some setting) = of_setting setting

of_words : (words : List (List ℕ)) → IsSize (words_task words)
of_words words =
    either (begins_as_compiler words) (Err (Child Compiler)) (if begins_as_simulator words then Err (Child Simulator) else maybe_task (setting_of words)) (λ _. none)
    (λ _. either (begins_as_simulator words) (Err (Child Simulator)) (maybe_task (setting_of words)) (λ _. none) (λ _. of_maybe (setting_of words)))

pub size_within : (words : List (List ℕ)) (options : GenerateOptions) → words_task words ≡ Err (Generates options) → (1 ≤ options.packages) × (options.packages ≤ 4095)
size_within words options is = subst IsSize is (of_words words)
