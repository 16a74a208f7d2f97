-- A byte of the table, and any other.
use Rattle.vhdl_lex.proofs.DelimiterRoles.{delimiter_role}
use Rattle.vhdl_lex.proofs.roles.symbol_role.Goals as goal

pub returns-then-byte-lt64 : goal.returns-then-byte-lt64
returns-then-byte-lt64 c = delimiter_role c.args.byte c.if-byte-lt64.true
