-- The functions of `crc_division` and `crc`: the contract, what the caller sees, and the definition that says it.
use Rattle.crc_division.specs.Crc.{crc_bits, crc_words, crc_bytes}
use Rattle.crc_division.specs.Blocks.{after_block}
use Rattle.crc_division.specs.contracts.eight as eight_contract
use Rattle.crc_division.proofs.eight.Reads as eight_reads
use Rattle.crc_division.specs.contracts.sixteen as sixteen_contract
use Rattle.crc_division.proofs.sixteen.Reads as sixteen_reads
use Rattle.crc_division.specs.contracts.sixty_four as sixty_four_contract
use Rattle.crc_division.proofs.sixty_four.Reads as sixty_four_reads
use Rattle.crc.specs.contracts.words as words_contract
use Rattle.crc.proofs.words.Reads as words_reads
use Rattle.crc.specs.contracts.bytes as bytes_contract
use Rattle.crc.proofs.bytes.Reads as bytes_reads
use Rattle.promises.specs.Ties.{Function, replies}

-- `crc_division::eight`
abbrev pub eight : Function
eight =
    replies eight_contract.ended eight_reads.Asked eight_reads.Post
    λ κs (r, _). crc_bits 8 r

-- `crc_division::sixteen`
abbrev pub sixteen : Function
sixteen =
    replies sixteen_contract.ended sixteen_reads.Asked sixteen_reads.Post
    λ κs (r, _). crc_bits 16 r

-- `crc_division::sixty_four`
abbrev pub sixty_four : Function
sixty_four =
    replies sixty_four_contract.ended sixty_four_reads.Asked sixty_four_reads.Post
    λ κs (r, (block, _)). after_block r block

-- `crc::words`
abbrev pub words : Function
words =
    replies words_contract.ended words_reads.Asked words_reads.Post
    λ κs (start, (message, _)). crc_words start message.now

-- `crc::bytes`
abbrev pub bytes : Function
bytes =
    replies bytes_contract.ended bytes_reads.Asked bytes_reads.Post
    λ κs (start, (message, _)). crc_bytes start message.now
