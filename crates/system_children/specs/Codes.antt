-- How a child ended, as a number.
use Rattle.std.specs.Prelude.{ℕ, ◌==◌, Bool, true, false, ℤ, pos, negsuc, Option, Some, None, if◌then◌else◌}
use Rattle.base.specs.declared.child.MaybeText.{MaybeText}
use Rattle.base.specs.declared.child.MaybeText.TheVariants.{Nothing, Given}

-- the code of a child; 257 instead of 0 if its output is cut and no path for results was requested
abbrev pub cut_code : ℕ → Bool → MaybeText → ℕ
cut_code code true Nothing = if code == 0 then 257 else code
cut_code code true (Given path) = code
cut_code code false results = code

-- the code of a child, where it has one; whether its output is cut; where it was to leave results
abbrev pub child_code : Option ℤ → Bool → MaybeText → ℕ
child_code None more results = 256
child_code (Some (pos code)) more results = cut_code code more results
child_code (Some (negsuc code)) more results = 256

-- the code of a child that has no answer to give
abbrev pub no_answer : ℕ
no_answer = 75
