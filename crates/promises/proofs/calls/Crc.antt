-- Each contract is the tie itself.
use Rattle.promises.specs.Ties.{Determined}
use Rattle.promises.specs.calls.Crc as calls
use Rattle.promises.proofs.Ties.{determined}

pub eight : Determined calls.eight
eight = determined calls.eight (λ κs a. tt) λ κs a x e p. p

pub sixteen : Determined calls.sixteen
sixteen = determined calls.sixteen (λ κs a. tt) λ κs a x e p. p

pub sixty-four : Determined calls.sixty_four
sixty-four = determined calls.sixty_four (λ κs a. tt) λ κs a x e p. p

pub words : Determined calls.words
words = determined calls.words (λ κs a. tt) λ κs a x e p. p

pub bytes : Determined calls.bytes
bytes = determined calls.bytes (λ κs a. tt) λ κs a x e p. p
