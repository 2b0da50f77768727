-- A row of whole chunks from the first word on is listed whole, with no word skipped: reading goes from the end of a chunk to the next, so what
-- stands inside the payloads does not matter. A written chunk, alone or before another, is such a row.
use mathlib.Core.Path.{◌≡◌, refl, ap, ap₂, ◌∙◌}
use mathlib.Core.Bool.{Bool, true}
use mathlib.Core.List.{List, [], ◌∷◌, ◌++◌, append_assoc}
use Prim.Native.Nat.{ℕ, suc, ◌+◌, ◌≤◌}
use native.Mathlib.Omega.{arith}
use native.Mathlib.Nat.{zero-add, suc-add}
use lib.ListN.{length, drop, take, length-append}
use lib.Seq.{drop-append_seam, drop_at, take_at}
use lib.Dec.{eqb, eqb-suc-suc}
use borrow.Author.Tests.{eqb-true, eq-eqb, ne_eqb}
use Rattle.base.proofs.Booleans.{and_left, and_right, and_both, or_right}
use Rattle.chunk.specs.declared.Entry.{Entry}
use Rattle.chunk.specs.Header.{size, span, legal, headed, ends, confirmed, at_end}
use Rattle.chunk.specs.Reading.{entry, listed, skipped_from, skipped, left_at, listed_at}
use Rattle.chunk.proofs.Steps.{listed-on, skipped-on, left_split, listed-one, skipped-one, left_one, listed-at-yes}
use Rattle.chunk_laws.specs.Stretch.{Laid, words, offset, empty, entries, whole, whole_row}
use Rattle.chunk_laws.proofs.ByPlace.{left_end}

-- ---- what a whole chunk has

pub whole-legal : (c : Laid) → whole c ≡ true → legal c.header ≡ true
whole-legal c k = and_left (legal c.header) _ k

pub whole_length : (c : Laid) → whole c ≡ true → length c.payload ≡ size c.header
whole_length c k = eqb-true (length c.payload) (size c.header) (and_right (legal c.header) _ k)

pub row_first : (c : Laid) (cs : List Laid) → whole_row (c ∷ cs) ≡ true → whole c ≡ true
unfolding whole_row
row_first c cs k = and_left (whole c) _ k

pub row-rest : (c : Laid) (cs : List Laid) → whole_row (c ∷ cs) ≡ true → whole_row cs ≡ true
unfolding whole_row
row-rest c cs k = and_right (whole c) _ k

-- ---- the end of a chunk, past words that stand before it

pub ends-step : (sync n w : ℕ) (ws : List ℕ) → ends sync (suc n) (w ∷ ws) ≡ ends sync n ws
unfolding ends
ends-step sync n w ws = rw eqb-suc-suc

pub ends-past : (sync k : ℕ) (xs ws : List ℕ) → ends sync (length xs + k) (xs ++ ws) ≡ ends sync k ws
ends-past sync k [] ws = rw zero-add
ends-past sync k (x ∷ xs) ws = rw (suc-add (length xs) k, ends-step) (ends-past sync k xs ws)

-- a legal header stands where a whole chunk does
pub headed-here : (sync : ℕ) (c : Laid) (ws : List ℕ) → whole c ≡ true → headed sync (sync ∷ c.header ∷ ws) ≡ true
unfolding headed
headed-here sync c ws k = and_both (eqb sync sync) _ (eq-eqb sync sync refl) (whole-legal c k)

-- what stands where a chunk of the row ends: the recording's end, or the next chunk's header
ends-here : (sync : ℕ) (cs : List Laid) → whole_row cs ≡ true → ends sync 0 (words sync cs) ≡ true
unfolding ends
ends-here sync [] k = refl
ends-here sync (c ∷ cs) k = or_right (eqb 0 (offset sync (c ∷ cs))) _ (headed-here sync c (c.payload ++ words sync cs) (row_first c cs k))

pub row-confirmed : (sync : ℕ) (c : Laid) (cs : List Laid) → whole_row (c ∷ cs) ≡ true → confirmed sync (words sync (c ∷ cs)) ≡ true
unfolding confirmed
row-confirmed sync c cs k =
    let ws : List ℕ = words sync cs in
    let t : whole c ≡ true = row_first c cs k in
    let n : span c.header ≡ length (sync ∷ c.header ∷ c.payload) + 0 = omega (arith, whole_length c t) in
    and_both (headed sync (words sync (c ∷ cs))) _ (headed-here sync c (c.payload ++ ws) t)
    (ap (λ (m : ℕ). ends sync m (words sync (c ∷ cs))) n ∙ ends-past sync 0 (sync ∷ c.header ∷ c.payload) ws ∙ ends-here sync cs (row-rest c cs k))

-- the words after the first chunk
pub row_drop : (sync : ℕ) (c : Laid) (cs : List Laid) → whole c ≡ true → drop (size c.header) (c.payload ++ words sync cs) ≡ words sync cs
row_drop sync c cs k = drop_at c.payload (words sync cs) (size c.header) (whole_length c k)

within-row : (sync : ℕ) (c : Laid) (cs : List Laid) → whole c ≡ true → size c.header ≤ length (c.payload ++ words sync cs)
within-row sync c cs k = omega (arith, length-append c.payload (words sync cs), whole_length c k)

offset-cons : (sync : ℕ) (c : Laid) (cs : List Laid) → whole c ≡ true → offset sync (c ∷ cs) ≡ span c.header + offset sync cs
offset-cons sync c cs k = omega (arith, length-append c.payload (words sync cs), whole_length c k)

-- the first chunk ends with the row exactly where no other comes after it
pub row-mark : (sync : ℕ) (c : Laid) (cs : List Laid) → whole c ≡ true → at_end (words sync (c ∷ cs)) ≡ empty cs
unfolding at_end
row-mark sync c [] k = eq-eqb (span c.header) (offset sync (c ∷ [])) (omega (arith, offset-cons sync c [] k))
row-mark sync c (d ∷ ds) k = ne_eqb (span c.header) (offset sync (c ∷ d ∷ ds)) (λ e. omega (arith, offset-cons sync c (d ∷ ds) k))

-- ---- the row is listed whole

pub lists-row : (sync at : ℕ) (cs : List Laid) → whole_row cs ≡ true → listed sync at 0 (words sync cs) ≡ entries at cs
unfolding listed
lists-row sync at [] k = refl
lists-row sync at (c ∷ cs) k =
    let t : whole c ≡ true = row_first c cs k in
    let n : suc (suc at) + size c.header ≡ at + span c.header = omega arith in
    listed-one sync at sync (c.header ∷ (c.payload ++ words sync cs)) true (row-confirmed sync c cs k)
    ∙ ap₂ (λ (m : Bool) (l : List Entry). entry at c.header m ∷ l) (row-mark sync c cs t)
    (rw (listed-on sync (suc (suc at)) (size c.header) (c.payload ++ words sync cs) (within-row sync c cs t), row_drop sync c cs t, n)
    (lists-row sync (at + span c.header) cs (row-rest c cs k)))

pub skips-none : (sync : ℕ) (cs : List Laid) → whole_row cs ≡ true → skipped sync (words sync cs) ≡ 0
unfolding skipped_from
skips-none sync [] k = refl
skips-none sync (c ∷ cs) k =
    let t : whole c ≡ true = row_first c cs k in
    skipped-one sync sync (c.header ∷ (c.payload ++ words sync cs)) true (row-confirmed sync c cs k)
    ∙ rw (skipped-on sync (size c.header) (c.payload ++ words sync cs) (within-row sync c cs t), row_drop sync c cs t)
    (skips-none sync cs (row-rest c cs k))

-- ---- a chunk inside a row

pub words-parts : (sync : ℕ) (before after : List Laid) → words sync (before ++ after) ≡ words sync before ++ words sync after
words-parts sync [] after = refl
words-parts sync (c ∷ before) after = rw (words-parts sync before after, append_assoc c.payload (words sync before) (words sync after))

-- the words from a chunk of the row on
pub row_at : (sync : ℕ) {cs : List Laid} (before after : List Laid) → cs ≡ before ++ after
    → drop (offset sync before) (words sync cs) ≡ words sync after
row_at sync before after e = rw (e, words-parts sync before after) (drop-append_seam (words sync before) (words sync after))

pub row-after : (before after : List Laid) → whole_row (before ++ after) ≡ true → whole_row after ≡ true
row-after [] after k = k
row-after (c ∷ before) after k = row-after before after (row-rest c (before ++ after) k)

-- the payload of a chunk, as the words from its place on have it
pub payload-there : (sync : ℕ) (c : Laid) (cs : List Laid) → whole c ≡ true → take (size c.header) (drop 2 (words sync (c ∷ cs))) ≡ c.payload
payload-there sync c cs k = take_at c.payload (words sync cs) (size c.header) (whole_length c k)

-- ---- the state of the reading in a row: no words are left where a chunk begins, and there one is listed

pub left-rest : (sync : ℕ) (c : Laid) (cs : List Laid) → whole_row (c ∷ cs) ≡ true → (k : ℕ)
    → left_at sync 0 (words sync (c ∷ cs)) (span c.header + k) ≡ left_at sync 0 (words sync cs) k
left-rest sync c cs t k =
    let inner : List ℕ = c.header ∷ (c.payload ++ words sync cs) in
    let n : ℕ = suc (size c.header) in
    left_split sync 0 (span c.header) k (words sync (c ∷ cs))
    ∙ rw (left_one sync n sync inner true (row-confirmed sync c cs t) ∙ left_end sync n inner, row_drop sync c cs (row_first c cs t))

left-row : (sync : ℕ) (before after : List Laid) → whole_row (before ++ after) ≡ true
    → left_at sync 0 (words sync (before ++ after)) (offset sync before) ≡ 0
unfolding left_at
left-row sync [] after k = refl
left-row sync (c ∷ before) after k =
    ap (λ (n : ℕ). left_at sync 0 (words sync (c ∷ before ++ after)) n) (offset-cons sync c before (row_first c (before ++ after) k))
    ∙ left-rest sync c (before ++ after) k (offset sync before)
    ∙ left-row sync before after (row-rest c (before ++ after) k)

pub row_listed : (sync : ℕ) (before : List Laid) (c : Laid) (after : List Laid) → whole_row (before ++ c ∷ after) ≡ true
    → listed_at sync (words sync (before ++ c ∷ after)) (offset sync before) ≡ true
row_listed sync before c after k =
    listed-at-yes sync (offset sync before) (words sync (before ++ c ∷ after)) (left-row sync before (c ∷ after) k)
    (ap (confirmed sync) (row_at sync before (c ∷ after) refl) ∙ row-confirmed sync c after (row-after before (c ∷ after) k))
