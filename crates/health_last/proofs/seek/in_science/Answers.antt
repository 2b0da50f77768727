-- The chunk that decides gives the answer, where it has one, and else the search chunk by chunk.
use Rattle.std.proofs.Common.{sym, ap, ◌∙◌, subst}
use Rattle.health_places.specs.Packets.{sound_of}
use Rattle.health_last.specs.Packets.{science_end}
use Rattle.health_last.specs.Seek.{wanted, Answers, Decided}
use Rattle.health_last.proofs.seek.in_science.Goals as goal

pub returns-in_err-holder : goal.returns-in_err-holder
unfolding science_end
returns-in_err-holder c =
    let a = c.args in
    let none = subst (Decided a.sync a.words.now a.packet_type) c.in_err-holder.was c.last_holder.ensures in
    subst (Answers a.sync a.words.now a.packet_type) (sym c.from_residual.ensures) (sym none, sym (ap (science_end a.sync a.words.now) none))

pub returns-in-Some : goal.returns-in-Some
unfolding sound_of wanted
returns-in-Some c =
    let a = c.args in
    let decides = subst (Decided a.sync a.words.now a.packet_type) c.in_ok-holder.was c.last_holder.ensures in
    decides.answers c.in-Some.at (sym c.in_chunk.ensures ∙ c.in-Some.is)
