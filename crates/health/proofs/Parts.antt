-- Parts of a packet: its body is all that follows the first three words, and the CRC goes part by part.
use Rattle.std.proofs.Common.{◌≡◌, ℕ, List, length, take, drop, sym, ap, ◌∙◌, arith, length-drop}
use Rattle.std.proofs.lemmas.List.{take_all}
use Rattle.base.specs.Size.{packet_width}
use Rattle.crc.specs.Crc.{crc_words, crc_start}
use Rattle.crc.proofs.Laws.{crc-append}
use Rattle.health.specs.Packet.{packet_crc}

-- the 29 words after a packet's first three are all that are left
pub body : (p : List ℕ) → length p ≡ packet_width → take 29 (drop 3 p) ≡ drop 3 p
body p h = take_all 29 (drop 3 p) (omega (arith, length-drop 3 p))

-- the CRC goes over word 0, and from there over the words after the CRC
pub crc_parts : (p : List ℕ) → length p ≡ packet_width → crc_words (crc_words crc_start (take 1 p)) (take 30 (drop 2 p)) ≡ packet_crc p
unfolding packet_crc
crc_parts p h =
    ap (crc_words (crc_words crc_start (take 1 p))) (take_all 30 (drop 2 p) (omega (arith, length-drop 2 p)))
    ∙ sym (crc-append 16 crc_start (take 1 p) (drop 2 p))
