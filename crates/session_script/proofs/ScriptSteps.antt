-- The script of lines, one line after the other.
use Rattle.std.proofs.Common.{◌≡◌, ℕ, ◌+◌, true, false, List, [], ◌∷◌, ◌++◌, Option, Some, refl, sym, ap, ◌∙◌}
use Rattle.std.proofs.lemmas.Bool.{cond-true, cond-false}
use Rattle.outside.specs.Streams.{after_line}
use Rattle.session_script.specs.declared.lines.Ending.{Ending}
use Rattle.session_script.specs.declared.lines.Ending.TheVariants.{Unended}
use Rattle.session_script.specs.declared.lines.NextLine.TheVariants.{Got, Ends}
use Rattle.session_script.specs.declared.puts.Added.{Added}
use Rattle.session_script.specs.declared.puts.Added.TheVariants.{More, TooMuch, Done}
use Rattle.session_script.specs.declared.puts.PutStep.TheVariants.{Took}
use Rattle.session_script.specs.Commands.{is_put_end, text_line}
use Rattle.session_script.specs.Scripts.{Script, OpenPut, Put, end_in, ends, lines_of, next_line, next_of, script_after, script_in, script_of_put, then_line, then_next, with_command}
use Rattle.session_script.specs.Steps.{AddsLine, PassesLine}
use Rattle.session_script.proofs.FirstLines.{lines_first}

-- a script whose lines follow some taken lines and begin at some bytes
abbrev rest_at : ℕ → List ℕ → Option OpenPut → Script
rest_at taken left = λ put. script_in put taken (lines_of left)

-- the script of an input is its next line, and then the script of the lines after it
pub script_step : (put : Option OpenPut) (taken : ℕ) (input : List ℕ) → script_in put taken (lines_of input) ≡ then_next (next_line (end_in put) taken input) (λ line. then_line put line (λ following. script_in following (taken + 1) (lines_of (after_line input))))
unfolding script_in lines_of
script_step put taken [] = refl
script_step put taken (byte ∷ bytes) =
    let first = lines_first byte bytes in
    ap (script_in put taken) first
    ∙ sym (ap (λ lines. then_next (next_of (end_in put) taken lines) (λ line. then_line put line (rest_at (taken + 1) (after_line (byte ∷ bytes))))) first)

-- the input ends inside a put
pub put_ends : (put : OpenPut) (taken : ℕ) (input : List ℕ) (ending : Ending) → Ends ending ≡ next_line Unended taken input → script_in (Some put) taken (lines_of input) ≡ ends ending
put_ends put taken input ending e = script_step (Some put) taken input ∙ sym (ap (λ next. then_next next (λ line. then_line (Some put) line (rest_at (taken + 1) (after_line input)))) e)

-- a line is taken inside a put
pub put_line : (put : OpenPut) (taken new : ℕ) (input left line : List ℕ) → Got line ≡ next_line Unended taken input → new ≡ taken + 1 → left ≡ after_line input → script_in (Some put) taken (lines_of input) ≡ then_line (Some put) line (λ following. script_in following new (lines_of left))
put_line put taken new input left line e counted rest =
    script_step (Some put) taken input
    ∙ sym (ap (λ next. then_next next (λ line. then_line (Some put) line (rest_at (taken + 1) (after_line input)))) e)
    ∙ sym (ap (λ n. then_line (Some put) line (rest_at n (after_line input))) counted)
    ∙ sym (ap (λ bytes. then_line (Some put) line (rest_at new bytes)) rest)

-- a taken line adds to the text of a put
pub put_more : (path text : List ℕ) (taken new : ℕ) (input left line : List ℕ) → Got line ≡ next_line Unended taken input → new ≡ taken + 1 → left ≡ after_line input → is_put_end line ≡ false → script_of_put path text taken input ≡ script_of_put path (text ++ text_line line) new left
put_more path text taken new input left line e counted rest more =
    put_line (record { path = path; text = text }) taken new input left line e counted rest
    ∙ cond-false (is_put_end line) (with_command (Put path text) (script_after new left)) (script_of_put path (text ++ text_line line) new left) more

-- a taken line ends a put
pub put_done : (path text : List ℕ) (taken new : ℕ) (input left line : List ℕ) → Got line ≡ next_line Unended taken input → new ≡ taken + 1 → left ≡ after_line input → is_put_end line ≡ true → script_of_put path text taken input ≡ with_command (Put path text) (script_after new left)
put_done path text taken new input left line e counted rest done =
    put_line (record { path = path; text = text }) taken new input left line e counted rest
    ∙ cond-true (is_put_end line) (with_command (Put path text) (script_after new left)) (script_of_put path (text ++ text_line line) new left) done

-- the script of a put continues after one line
pub passes_line : (limit : ℕ) (path : List ℕ) (added : Added) (old new line : List ℕ) (taken now : ℕ) (input left : List ℕ) → Got line ≡ next_line Unended taken input → now ≡ taken + 1 → left ≡ after_line input → AddsLine limit line added old new → PassesLine limit path (Took added) old new (script_of_put path old taken input) now left
passes_line limit path More old new line taken now input left e counted rest adds =
    put_more path old taken now input left line e counted rest adds.0
    ∙ sym (ap (λ text. script_of_put path text now left) adds.1)
passes_line limit path TooMuch old new line taken now input left e counted rest adds =
    record { text = old ++ text_line line; long = adds.1; more = put_more path old taken now input left line e counted rest adds.0 }
passes_line limit path Done old new line taken now input left e counted rest adds =
    put_done path old taken now input left line e counted rest adds.0
    ∙ sym (ap (λ text. with_command (Put path text) (script_after now left)) adds.1)
