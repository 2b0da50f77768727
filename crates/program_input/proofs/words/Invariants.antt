-- After i turns the words of the first i pairs of bytes stand at the front of the room.
use Rattle.std.proofs.Common.{◌≡◌}
use Rattle.std.proofs.Math.Seq.{paste}
use Rattle.program_input.specs.Input.{words_of}
use Rattle.program_input.proofs.words.Given as goal

abbrev pub invariant-loop-i : goal.invariant-loop-i
invariant-loop-i l = l.room ≡ paste l.initial.room 0 (words_of l.bytes) l.i
