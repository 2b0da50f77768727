-- How much of a clean stretch can be lost: a recording that hides a chunk which begins 8,174 words after the stretch's start. The sync word 1FF8h is
-- itself a legal header word, of size 8,184. One such word before the stretch makes, with the stretch's first word, a header whose chunk reaches
-- 8,185 words into the stretch and ends where a chunk of it begins, and so is confirmed. No chunk is lost that begins later: the law `chunk-listed`.
use Rattle.std.specs.Prelude.{ℕ, ◌+◌, ◌≡◌, refl, true, false, List, [], ◌∷◌, ◌++◌, replicate}
use Rattle.chunk.specs.Header.{legal, legal_size, headed, ends, confirmed, at_end}
use Rattle.chunk.specs.Reading.{entry, listed, reading}
use Rattle.chunk_laws.specs.Stretch.{Laid, words, offset, lacks, clean}

abbrev pub sync : ℕ
sync = 0x1FF8

-- an image chunk of camera 1 with n words 0: its header word is 2000h and n
abbrev pub blank : ℕ → Laid
blank n = record { header = 8192 + n; payload = replicate n 0 }

-- 742 chunks of size 9, one of size 10
abbrev pub before : List Laid
before = replicate 742 (blank 9) ++ blank 10 ∷ []

-- and then the chunk that is hidden, and one that is not
abbrev pub stretch : List Laid
stretch = before ++ blank 9 ∷ blank 9 ∷ []

pub stretch-clean : clean sync stretch ≡ true
unfolding clean lacks legal legal_size
stretch-clean = refl

pub hidden-begins : offset sync before ≡ 8174
hidden-begins = refl

-- what is listed is the chunk that hides the others, and then the stretch's last
pub hidden : reading sync (sync ∷ words sync stretch) ≡ entry 0 sync false ∷ entry 8186 0x2009 true ∷ []
unfolding listed at_end confirmed headed ends legal legal_size
hidden = refl
