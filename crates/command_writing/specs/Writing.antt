-- FORMAT, "Commands": what the writer answers and writes.
use Rattle.std.specs.Prelude.{ℕ, ◌+◌, Bool, not, ◌||◌, List, [], ◌∷◌, ◌++◌, length, ltb}
use Rattle.base.specs.Refusal.{Causes, verdict, answer, no_room}
use Rattle.base_room.specs.Room.{put}
use Rattle.space_packet.specs.declared.Sent.{Sent}
use Rattle.space_packet.specs.Header.{sequence_counts}
use Rattle.space_packet.specs.Reply.{settled}
use Rattle.command.specs.declared.Fields.{Fields}
use Rattle.command.specs.Layout.{least_bytes, command_bytes}
use Rattle.command_catalogue.specs.Rules.{asked_wrong}
use Rattle.command.specs.Asking.{first_causes, last_causes}

-- a sequence count up to 16,383
abbrev pub count_wrong : Fields → Bool
count_wrong f = not (ltb f.sequence sequence_counts)

-- the reader's refusals for what it would write
abbrev pub ask_causes : ℕ → ℕ → Fields → List ℕ → Causes
ask_causes catalogue mode f xs =
    first_causes (asked_wrong catalogue mode || count_wrong f) catalogue (least_bytes + length xs) ++ last_causes catalogue mode f xs

-- and a room of so many bytes last
abbrev pub write_causes : ℕ → ℕ → Fields → List ℕ → ℕ → Causes
write_causes catalogue mode f xs room = ask_causes catalogue mode f xs ++ (no_room, ltb room (least_bytes + length xs)) ∷ []

unfoldable pub write_reply : ℕ → ℕ → Fields → List ℕ → ℕ → Sent
write_reply catalogue mode f xs room = settled (verdict (write_causes catalogue mode f xs room)) (least_bytes + length xs)

-- the room after the call
unfoldable pub write_room : ℕ → ℕ → Fields → List ℕ → List ℕ → List ℕ
write_room catalogue mode f xs room = answer (verdict (write_causes catalogue mode f xs (length room))) (λ x. room) (put (command_bytes f xs) 0 room)
