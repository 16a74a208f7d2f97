-- The reserved words of VHDL and its names (IEEE Std 1076-2008, clauses 15.4 and 15.10).
use Rattle.std.specs.Prelude.{ℕ, Bool, List, [], ◌∷◌, map, bytes_eq, codes}
use Rattle.std.specs.List.{list_any}
use Rattle.std.specs.Char.{to_ascii_lowercase}

-- the reserved words, in lower case
unfoldable pub reserved_words : List (List ℕ)
reserved_words =
    codes "abs" ∷ codes "access" ∷ codes "after" ∷ codes "alias" ∷ codes "all" ∷ codes "and" ∷ codes "architecture" ∷
    codes "array" ∷ codes "assert" ∷ codes "assume" ∷ codes "assume_guarantee" ∷ codes "attribute" ∷ codes "begin" ∷
    codes "block" ∷ codes "body" ∷ codes "buffer" ∷ codes "bus" ∷ codes "case" ∷ codes "component" ∷
    codes "configuration" ∷ codes "constant" ∷ codes "context" ∷ codes "cover" ∷ codes "default" ∷
    codes "disconnect" ∷ codes "downto" ∷ codes "else" ∷ codes "elsif" ∷ codes "end" ∷ codes "entity" ∷ codes "exit" ∷
    codes "fairness" ∷ codes "file" ∷ codes "for" ∷ codes "force" ∷ codes "function" ∷ codes "generate" ∷
    codes "generic" ∷ codes "group" ∷ codes "guarded" ∷ codes "if" ∷ codes "impure" ∷ codes "in" ∷ codes "inertial" ∷
    codes "inout" ∷ codes "is" ∷ codes "label" ∷ codes "library" ∷ codes "linkage" ∷ codes "literal" ∷ codes "loop" ∷
    codes "map" ∷ codes "mod" ∷ codes "nand" ∷ codes "new" ∷ codes "next" ∷ codes "nor" ∷ codes "not" ∷ codes "null" ∷
    codes "of" ∷ codes "on" ∷ codes "open" ∷ codes "or" ∷ codes "others" ∷ codes "out" ∷ codes "package" ∷
    codes "parameter" ∷ codes "port" ∷ codes "postponed" ∷ codes "procedure" ∷ codes "process" ∷ codes "property" ∷
    codes "protected" ∷ codes "pure" ∷ codes "range" ∷ codes "record" ∷ codes "register" ∷ codes "reject" ∷
    codes "release" ∷ codes "rem" ∷ codes "report" ∷ codes "restrict" ∷ codes "restrict_guarantee" ∷ codes "return" ∷
    codes "rol" ∷ codes "ror" ∷ codes "select" ∷ codes "sequence" ∷ codes "severity" ∷ codes "shared" ∷
    codes "signal" ∷ codes "sla" ∷ codes "sll" ∷ codes "sra" ∷ codes "srl" ∷ codes "strong" ∷ codes "subtype" ∷
    codes "then" ∷ codes "to" ∷ codes "transport" ∷ codes "type" ∷ codes "unaffected" ∷ codes "units" ∷
    codes "until" ∷ codes "use" ∷ codes "variable" ∷ codes "vmode" ∷ codes "vprop" ∷ codes "vunit" ∷ codes "wait" ∷
    codes "when" ∷ codes "while" ∷ codes "with" ∷ codes "xnor" ∷ codes "xor" ∷ []

-- words are compared without case
abbrev pub lower_case : List ℕ → List ℕ
lower_case word = map to_ascii_lowercase word

-- whether a word is reserved, in letters of any case
abbrev pub is_reserved : List ℕ → Bool
is_reserved word = list_any (bytes_eq (lower_case word)) reserved_words
