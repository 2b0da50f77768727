-- The check value that catalogues of CRCs give, by computation.
use Rattle.std.specs.Prelude.{◌≡◌, refl, [], ◌∷◌}
use Rattle.crc.specs.Crc.{crc_start, crc_bit, crc_step, crc_bytes}

-- of the digits "123456789"
check : crc_bytes crc_start (0x31 ∷ 0x32 ∷ 0x33 ∷ 0x34 ∷ 0x35 ∷ 0x36 ∷ 0x37 ∷ 0x38 ∷ 0x39 ∷ []) ≡ 0x29B1
unfolding crc_bit crc_step
check = refl
