-- Each contract is the tie itself.
use Rattle.promises.specs.Ties.{Determined}
use Rattle.promises.specs.calls.SpacePacket as calls
use Rattle.promises.proofs.Ties.{determined}

pub word-at : Determined calls.word_at
word-at = determined calls.word_at (λ κs a. tt) λ κs a x e p. p

pub long-at : Determined calls.long_at
long-at = determined calls.long_at (λ κs a. tt) λ κs a x e p. p

pub header-wrong : Determined calls.header_wrong
header-wrong = determined calls.header_wrong (λ κs a. tt) λ κs a x e p. p

pub crc-wrong : Determined calls.crc_wrong
crc-wrong = determined calls.crc_wrong (λ κs a. tt) λ κs a x e p. p

pub settle : Determined calls.settle
settle = determined calls.settle (λ κs a. tt) λ κs a x e p. p

pub put-sealed : Determined calls.put_sealed
put-sealed = determined calls.put_sealed (λ κs a. tt) λ κs a x e p. p
