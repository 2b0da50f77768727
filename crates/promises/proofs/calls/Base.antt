-- Each contract is the tie itself; of a function for items of any type, it is asked that the type outlives the call, as numbers do.
use borrow.Author.Rules.{rules}
use Rattle.promises.specs.Ties.{Determined}
use Rattle.promises.specs.calls.Base as calls
use Rattle.promises.proofs.Ties.{determined}

pub cause : Determined calls.cause
cause = determined calls.cause (λ κs a. tt) λ κs a x e p. p

pub settle : Determined calls.settle
settle = determined calls.settle (λ κs a. tt) λ κs a x e p. p

pub too_long : Determined calls.too_long
too_long = determined calls.too_long (λ κs a. tt) λ κs a x e p. p

pub word : Determined calls.word
word = determined calls.word (λ κs a. tt) λ κs a x e p. p

pub high_byte : Determined calls.high_byte
high_byte = determined calls.high_byte (λ κs a. tt) λ κs a x e p. p

pub low-byte : Determined calls.low_byte
low-byte = determined calls.low_byte (λ κs a. tt) λ κs a x e p. p

pub low-word : Determined calls.low_word
low-word = determined calls.low_word (λ κs a. tt) λ κs a x e p. p

pub either : Determined calls.either
either = determined calls.either (λ κs a. tt) λ κs a x e p. p

pub word-at : Determined calls.word_at
word-at = determined calls.word_at (λ κs a. search rules) λ κs a x e p. p

pub byte-at : Determined calls.byte_at
byte-at = determined calls.byte_at (λ κs a. search rules) λ κs a x e p. p

pub put-words : Determined calls.put_words
put-words = determined calls.put_words (λ κs a. search rules) λ κs a x e p. p

pub put-joined : Determined calls.put_joined
put-joined = determined calls.put_joined (λ κs a. search rules) λ κs a x e p. p

pub put-bytes : Determined calls.put_bytes
put-bytes = determined calls.put_bytes (λ κs a. search rules) λ κs a x e p. p
