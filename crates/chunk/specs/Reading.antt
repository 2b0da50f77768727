-- FORMAT, "Chunks": the reading of a recording, by place. Every definition goes through the words one at a time; `left` is the number of words
-- ahead that belong to a chunk which is listed already.
use Rattle.std.specs.Prelude.{ℕ, zero, suc, ◌+◌, Bool, true, false, cond, ◌&&◌, ◌||◌, List, [], ◌∷◌, get_or, drop, leb, ltb, eqb, Option, Some, None}
use Rattle.base.specs.declared.Words.{Words}
use Rattle.chunk.specs.declared.Entry.{Entry}
use Rattle.chunk.specs.Header.{size, span, confirmed, at_end}

-- the entry of a chunk: its position, its header word, and whether it ends with the recording
abbrev pub entry : ℕ → ℕ → Bool → Entry
entry at h end = record { position = record { 0 = at }; header = h; end = end }

-- Where a chunk is confirmed it is listed and reading goes on at its end; otherwise it goes on one word further. The first word stands at `at`.
unfoldable pub listed : ℕ → ℕ → ℕ → List ℕ → List Entry
listed sync at left [] = []
listed sync at (suc left) (w ∷ ws) = listed sync (suc at) left ws
listed sync at zero (w ∷ ws) =
    elim (confirmed sync (w ∷ ws)) [
      | true ↦ entry at (get_or ws 0 0) (at_end (w ∷ ws)) ∷ listed sync (suc at) (suc (size (get_or ws 0 0))) ws
      | false ↦ listed sync (suc at) zero ws
    ]

-- the chunks of a recording: reading starts at position 0
abbrev pub reading : ℕ → List ℕ → List Entry
reading sync ws = listed sync 0 0 ws

-- one of these chunks ends with the recording
unfoldable pub any_end : List Entry → Bool
any_end [] = false
any_end (e ∷ es) = e.end || any_end es

-- The words inside no listed chunk, counted at the places where they stand.
unfoldable pub skipped_from : ℕ → ℕ → List ℕ → ℕ
skipped_from sync left [] = 0
skipped_from sync (suc left) (w ∷ ws) = skipped_from sync left ws
skipped_from sync zero (w ∷ ws) =
    elim (confirmed sync (w ∷ ws)) [
      | true ↦ skipped_from sync (suc (size (get_or ws 0 0))) ws
      | false ↦ suc (skipped_from sync zero ws)
    ]

abbrev pub skipped : ℕ → List ℕ → ℕ
skipped sync ws = skipped_from sync 0 ws

-- the words of the chunks of a list
unfoldable pub listed_words : List Entry → ℕ
listed_words [] = 0
listed_words (e ∷ es) = span e.header + listed_words es

-- the place p lies inside the chunk of this entry
abbrev pub within : ℕ → Entry → Bool
within p e = leb e.position.0 p && ltb p (e.position.0 + span e.header)

-- The state of the reading at the place p: how many words are left there of a chunk that is listed already.
unfoldable pub left_at : ℕ → ℕ → List ℕ → ℕ → ℕ
left_at sync left ws zero = left
left_at sync left [] (suc p) = 0
left_at sync (suc left) (w ∷ ws) (suc p) = left_at sync left ws p
left_at sync zero (w ∷ ws) (suc p) = left_at sync (cond (confirmed sync (w ∷ ws)) (suc (size (get_or ws 0 0))) 0) ws p

-- a chunk is listed at the place p: no chunk that is listed before reaches over it, and one is confirmed there
unfoldable pub listed_at : ℕ → List ℕ → ℕ → Bool
listed_at sync ws p = eqb (left_at sync 0 ws p) 0 && confirmed sync (drop p ws)

-- what the search tells of a chunk: its entry, and the place past its words, where reading goes on
abbrev pub chunk_at : ℕ → ℕ → Bool → Option (Entry × Words)
chunk_at at h end = Some (entry at h end, record { 0 = at + span h })

-- The search: one word at a time until a chunk is confirmed or no words are left. The first word stands at `at`.
unfoldable pub found : ℕ → ℕ → List ℕ → Option (Entry × Words)
found sync at [] = None
found sync at (w ∷ ws) = elim (confirmed sync (w ∷ ws)) [ true ↦ chunk_at at (get_or ws 0 0) (at_end (w ∷ ws)) | false ↦ found sync (suc at) ws ]

-- the next confirmed chunk at or after the place p
abbrev pub next_from : ℕ → List ℕ → ℕ → Option (Entry × Words)
next_from sync ws p = found sync p (drop p ws)

-- the number of each answer of the search
abbrev pub found_number : Option (Entry × Words) → ℕ
found_number None = 0
found_number (Some (e, next)) = 1

-- and its values: the chunk's position, its header word, 1 where it ends with the recording, and the place past it
abbrev pub found_values : Option (Entry × Words) → List ℕ
found_values None = []
found_values (Some (e, next)) = e.position.0 ∷ e.header ∷ cond e.end 1 0 ∷ next.0 ∷ []
