-- FORMAT, "CRC": the definitions stand with the division by the polynomial, in `crc_division`; here they are handed on.
pub use Rattle.crc_division.specs.Crc.{crc_start, crc_polynomial, crc_bits, crc_over, crc_words, crc_bytes, bytes_of}
unfoldable pub use Rattle.crc_division.specs.Crc.{crc_bit, crc_step}
