-- What words say, by whether they are UTF-8 and whether the command takes them.
use Rattle.std.proofs.Common.{◌≡◌, Bool, true, false, List, [], ◌∷◌, cond, refl, inl, inr}
use Rattle.std.specs.List.{list_all}
use Rattle.std.specs.Str.{is_utf8}
use Rattle.std.specs.Prelude.{◌&&◌, ◌≢◌, None, Err}
use Rattle.clap.specs.Words.{HasKind, Kinds, Text, fault_of, is_simple_and_free, is_simple, kind_of, matches_of}
use Rattle.clap.specs.declared.error.Error.{Error}
use Rattle.clap.specs.declared.error.kind.ErrorKind.TheVariants.{OutOfMemory}
use Rattle.vunit_arguments.specs.declared.setting.ArgumentsFault.{ArgumentsFault}
use Rattle.vunit_arguments.specs.declared.setting.ArgumentsFault.TheVariants as fault
use Rattle.vunit_arguments.specs.Arguments.{AreNoText, ReadsArguments, command_line, has_none, setting_in, setting_of}

pub simple_and_free : is_simple_and_free command_line ≡ true
simple_and_free = refl

pub simple : is_simple command_line ≡ true
simple = refl

said_of_no_text : (arguments : List Text) → list_all is_utf8 arguments ≡ false → setting_of arguments ≡ None
unfolding setting_of
said_of_no_text arguments none = rw none refl

other : {X Y : Type 0} (b : Bool) (xs : List X) (y z : Y) → (xs ≡ [] → ⊥) → cond (b && has_none xs) y z ≡ z
other false xs y z some = refl
other true [] y z some = absurd (some refl)
other true (x ∷ xs) y z some = refl

said_of_fault : (arguments : List Text) → (fault_of command_line arguments ≡ [] → ⊥) → setting_of arguments ≡ None
unfolding setting_of
said_of_fault arguments some = other (list_all is_utf8 arguments) (fault_of command_line arguments) (setting_in (matches_of command_line arguments)) None some

first : {X Y : Type 0} (b : Bool) (xs : List X) (y z : Y) → b ≡ true → xs ≡ [] → cond (b && has_none xs) y z ≡ y
first b xs y z is none = rw (is, none) refl

-- words that are taken say what is found
pub said : (arguments : List Text) → list_all is_utf8 arguments ≡ true → fault_of command_line arguments ≡ [] → setting_of arguments ≡ setting_in (matches_of command_line arguments)
unfolding setting_of
said arguments texts taken = first (list_all is_utf8 arguments) (fault_of command_line arguments) (setting_in (matches_of command_line arguments)) None texts taken

-- the fault for arguments that aren't UTF-8 is the right one
pub no_text_read : (arguments : List Text) (why : ArgumentsFault) → AreNoText arguments why → ReadsArguments (setting_of arguments) (Err why)
no_text_read arguments fault.NoMemory are = tt
no_text_read arguments fault.Bad are = said_of_no_text arguments are

-- the fault for arguments that the command line rejects is the right one
pub fault_read : (arguments : List Text) (why : ArgumentsFault) (e : Error) → HasKind (fault_of command_line arguments) e → (why ≡ fault.Bad → kind_of e ≢ OutOfMemory) → ReadsArguments (setting_of arguments) (Err why)
fault_read arguments fault.NoMemory e has other_kind = tt
fault_read arguments fault.Bad e has other_kind = said_of_fault arguments (λ none. go (fault_of command_line arguments) none has)
  where
    go : (kinds : Kinds) → kinds ≡ [] → HasKind kinds e → ⊥
    go [] none (inl memory) = other_kind refl memory
    go [] none (inr nothing) = elim nothing [ ]
    go (k ∷ ks) none has = cc
