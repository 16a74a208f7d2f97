-- The scans of the files of two packages, worked out by hand: of the first one, and of an edited one that uses another.
use Rattle.std.specs.Prelude.{◌≡◌, ◌+◌, ◌∷◌, ℕ, [], codes, true, false}
use Rattle.base.specs.declared.child.MaybeText.TheVariants.{Nothing}
use Rattle.base.specs.declared.design.UnitKind.TheVariants.{Package}
use Rattle.base.specs.declared.lexical.Token.{Token}
use Rattle.base.specs.declared.lexical.TokenKind.TheVariants.{Number, Symbol, Word}
use Rattle.generated_project.specs.Files.{package_text}
use Rattle.generated_sources.specs.PackageLinks.{package_refs}
use Rattle.generated_sources.specs.PackageScans.{package_comments, package_tokens, package_unit}

-- a word token over the bytes from `start` up to before `end`
abbrev word : ℕ → ℕ → Token
word start end = record { kind = Word; start = start; end = end }

-- a token of one byte that is a delimiter, at an offset
abbrev symbol : ℕ → Token
symbol start = record { kind = Symbol; start = start; end = start + 1 }

-- the first package uses none
pub record FirstPackage : Type 0 where
  pub text : package_text 1 false ≡ codes "package p1 is\n  constant c : integer := 0;\nend package p1;\n"
  pub tokens : package_tokens 1 ≡
      word 0 7 ∷ word 8 10 ∷ word 11 13 ∷ word 16 24 ∷ word 25 26 ∷ symbol 27 ∷ word 29 36 ∷ symbol 37 ∷ symbol 38 ∷
      record { kind = Number; start = 40; end = 41 } ∷ symbol 41 ∷ word 43 46 ∷ word 47 54 ∷ word 55 57 ∷ symbol 57 ∷ []
  pub comments : package_comments 1 false ≡ []
  pub unit : package_unit 1 ≡ record { kind = Package; name = codes "p1"; owner = Nothing; lead = 0; first = 0; last = 14 }
  pub refs : package_refs 1 ≡ []

-- the twelfth uses the sixth
pub record TwelfthPackage : Type 0 where
  pub text : package_text 12 true ≡
      codes "library lib;\nuse lib.p6.all;\npackage p12 is\n  constant c : integer := 0;\nend package p12;\n-- child: note 1\n"
  pub tokens : package_tokens 12 ≡
      word 0 7 ∷ word 8 11 ∷ symbol 11 ∷ word 13 16 ∷ word 17 20 ∷ symbol 20 ∷ word 21 23 ∷ symbol 23 ∷ word 24 27 ∷ symbol 27 ∷
      word 29 36 ∷ word 37 40 ∷ word 41 43 ∷ word 46 54 ∷ word 55 56 ∷ symbol 57 ∷ word 59 66 ∷ symbol 67 ∷ symbol 68 ∷
      record { kind = Number; start = 70; end = 71 } ∷ symbol 71 ∷ word 73 76 ∷ word 77 84 ∷ word 85 88 ∷ symbol 88 ∷ []
  pub comments : package_comments 12 true ≡ record { start = 90; end = 106 } ∷ []
  pub unit : package_unit 12 ≡ record { kind = Package; name = codes "p12"; owner = Nothing; lead = 0; first = 10; last = 24 }
  pub refs : package_refs 12 ≡
      record { library = codes "lib"; name = codes "p6"; architecture = Nothing; strict = true; at = 4 } ∷ []
