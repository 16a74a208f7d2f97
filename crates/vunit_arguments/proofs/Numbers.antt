-- The number that a text is.
use Rattle.std.proofs.Common.{◌≡◌, ℕ, ◌^◌, ◌-◌, Bool, true, false, List, Some, None, cond, refl}
use Rattle.std.specs.Str.Parse.{digits_value, without_leading_plus}
use Rattle.clap.specs.ValueTests.{is_unsigned_in}
use Rattle.clap.specs.Values.{IsUnsignedIn}
use Rattle.clap.specs.declared.builder.value_parser.ValueParser.TheVariants as vp
use Rattle.clap.proofs.ValueTestLemmas.{Accepts-accepts, accepts-Accepts}
use Rattle.vunit_arguments.specs.Arguments.{number_of}

pub number_some : (text : List ℕ) → IsUnsignedIn 1 (2 ^ 64 - 1) text → Some (digits_value 10 (without_leading_plus text)) ≡ number_of text
number_some text is = rw (Accepts-accepts false (vp.Unsigned 1 (2 ^ 64 - 1)) text is) refl

pub number_none : (text : List ℕ) → (IsUnsignedIn 1 (2 ^ 64 - 1) text → ⊥) → None ≡ number_of text
number_none text no_number = go (is_unsigned_in 1 (2 ^ 64 - 1) text) refl
  where
    go : (b : Bool) → is_unsigned_in 1 (2 ^ 64 - 1) text ≡ b → None ≡ cond b (Some (digits_value 10 (without_leading_plus text))) None
    go false e = refl
    go true e = absurd (no_number (accepts-Accepts false (vp.Unsigned 1 (2 ^ 64 - 1)) text e))
