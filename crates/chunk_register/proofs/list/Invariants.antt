-- The loop that fills the register: after k turns the first k chunks stand in it (`Filling`).
use Rattle.chunk_register.proofs.Filling.{Filling}
use Rattle.chunk_register.proofs.list.Given as goal

abbrev pub invariant-loop-entry : goal.invariant-loop-entry
invariant-loop-entry l = Filling l.sync l.recording l.reply.chunks l.entry-items l.entry-index l.at.0
