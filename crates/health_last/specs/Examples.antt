-- For worked examples, which proofs/Examples.antt has: a packet, and what is answered of a science recording of one health chunk and a health recording of one packet.
use Rattle.std.specs.Prelude.{ℕ, List, ◌∷◌, replicate}
use Rattle.health.specs.Packet.{body_width}
use Rattle.health.specs.Writing.{packet_from}
use Rattle.health_last.specs.declared.Place.{Place}
use Rattle.health_last.specs.Last.{last_place_reply}

-- a packet of this type and time
unfoldable pub packet : ℕ → ℕ → List ℕ
packet t time = packet_from t time (replicate body_width 0)

-- what is answered about type 4
unfoldable pub asked : List ℕ → List ℕ → Place
asked science health = last_place_reply 0x5AF3 science health 4

-- and of two packets, of time s in the science recording and of time h in the health recording
unfoldable pub between : ℕ → ℕ → Place
between s h = asked (0x5AF3 ∷ 0x8020 ∷ packet 4 s) (packet 4 h)
