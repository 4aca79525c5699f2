use Rattle.std.proofs.Common.{◌+◌, ◌*◌, length}
use Rattle.c_reader.proofs.declarator.+declarator.Given as goal

abbrev pub decreases-read_declarator : goal.decreases-read_declarator
decreases-read_declarator l = 2 * length l.tokens.now + 1

abbrev pub decreases-read_direct : goal.decreases-read_direct
decreases-read_direct l = 2 * length l.tokens.now
