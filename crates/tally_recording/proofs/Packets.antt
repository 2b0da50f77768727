-- The packets of a row, counted: what is counted so far and the packets from `i` on give the numbers of all.
use mathlib.Core.Path.{◌≡◌, refl, sym, ap, ◌∙◌}
use mathlib.Core.Bool.{Bool, true, false, cond, ◌&&◌}
use mathlib.Core.List.{List, [], ◌∷◌, ◌++◌}
use Prim.Native.Nat.{ℕ, zero, suc, ◌+◌, ◌-◌, ◌*◌, ◌/◌, ◌≤◌, ◌<◌}
use native.Mathlib.Omega.{arith}
use lib.ListN.{length, get_or, set, take, drop, length-take, length-drop}
use lib.Seq.{drop-drop}
use lib.Dec.{eqb}
use borrow.Author.Tests.{eqb-true, eqb-false}
use Rattle.std.specs.Simd.{first_chunks}
use Rattle.std.proofs.lemmas.List.{take-take, drop-take}
use Rattle.base.proofs.Booleans.{by-test}
use Rattle.health.specs.Packet.{sound_packet, packet_at, type_of_packet}
use Rattle.health_places.specs.Packets.{packet_places, sound_of}
use Rattle.health_places.proofs.Places.{other-type, own-type}
use Rattle.tally_recording.specs.Numbers.{how_often, each, sums, largest, any_past}
use Rattle.tally_recording.specs.Tally.{packet_numbers}
use Rattle.tally_recording.specs.Walk.{SoundNone, SoundOne}
use Rattle.tally_recording.proofs.Rows.{often-append, each-length, each_same, sums-each, sums-zeros, counted-at, place-fits}

-- ---- the numbers of places

pub packets-length : (ws ps : List ℕ) → length (packet_numbers ws ps) ≡ 15
unfolding packet_numbers
packets-length ws ps = each-length 1 15 (λ t. how_often (sound_of ws t) ps)

pub packets-append : (ws ps qs : List ℕ) → packet_numbers ws (ps ++ qs) ≡ sums (packet_numbers ws ps) (packet_numbers ws qs)
unfolding packet_numbers
packets-append ws ps qs =
    each_same 1 15 _ _ (λ t a b. often-append (sound_of ws t) ps qs)
    ∙ sym (sums-each 1 15 (λ t. how_often (sound_of ws t) ps) (λ t. how_often (sound_of ws t) qs))

pub no-packets-counted : (ws a : List ℕ) → length a ≡ 15 → sums a (packet_numbers ws []) ≡ a
unfolding packet_numbers how_often
no-packets-counted ws a h = sums-zeros a 1 15 h

-- ---- one place

-- a packet counts under a type exactly where the word there is that type and the packet is sound
by-type : (ws : List ℕ) (p t : ℕ) → sound_packet (packet_at ws p) ≡ true → sound_of ws t p ≡ eqb (get_or ws p 0) t
by-type ws p t s =
    by-test (eqb (get_or ws p 0) t) (λ e. own-type t ws p (eqb-true _ _ e) ∙ s ∙ sym e) (λ e. other-type t ws p (eqb-false _ _ e) ∙ sym e)

module _ (ws : List ℕ) (p t : ℕ) (w : t ≡ get_or ws p 0) where
  pub sound_here : 1 ≤ t → t ≤ 15 → sound_packet (packet_at ws p) ≡ true → SoundOne ws p t
  sound_here l m s = record { least = l; most = m; told = λ k a b. by-type ws p k s ∙ ap (λ (v : ℕ). eqb v k) (sym w) }

  pub spare_below : (1 ≤ t → ⊥) → SoundNone ws p
  spare_below n k a b = other-type k ws p (λ e. omega (arith, n, a, e, w))

  pub spare_above : (t ≤ 15 → ⊥) → SoundNone ws p
  spare_above n k a b = other-type k ws p (λ e. omega (arith, n, b, e, w))

pub unsound_here : (ws : List ℕ) (p : ℕ) → sound_packet (packet_at ws p) ≡ false → SoundNone ws p
unsound_here ws p s k a b = by-test (eqb (get_or ws p 0) k) (λ e. own-type k ws p (eqb-true _ _ e) ∙ s) (λ e. other-type k ws p (eqb-false _ _ e))

module _ (ws : List ℕ) (p : ℕ) (ps : List ℕ) (a : List ℕ) (h : length a ≡ 15) where
  none-there : SoundNone ws p → sums a (packet_numbers ws ps) ≡ sums a (packet_numbers ws (p ∷ ps))
  unfolding packet_numbers how_often
  none-there none =
      ap (sums a)
      (each_same 1 15 (λ k. how_often (sound_of ws k) ps) (λ k. how_often (sound_of ws k) (p ∷ ps)) (λ k l m. rw (none k l (omega arith)) (omega arith)))

  module _ (t : ℕ) (one : SoundOne ws p t) where
    numbers-one : packet_numbers ws (p ∷ ps) ≡ each 1 15 (λ k. cond (eqb t k) 1 0 + how_often (sound_of ws k) ps)
    unfolding packet_numbers how_often
    numbers-one = each_same 1 15 _ _ (λ k a b. ap (λ (x : Bool). cond x 1 0 + how_often (sound_of ws k) ps) (one.told k a (omega arith)))

    one-there : sums (set a (t - 1) (get_or a (t - 1) 0 + 1)) (packet_numbers ws ps) ≡ sums a (packet_numbers ws (p ∷ ps))
    unfolding packet_numbers
    one-there =
        counted-at a 1 15 t (t - 1) (λ k. how_often (sound_of ws k) ps) h (omega (arith, one.least)) (omega (arith, one.most, one.least))
        ∙ ap (sums a) (sym numbers-one)

    -- so the number there is below the largest
    one-fits : any_past (sums a (packet_numbers ws (p ∷ ps))) ≡ false → get_or a (t - 1) 0 + 1 ≤ largest
    one-fits n =
        place-fits a 1 15 t (t - 1) (λ k. how_often (sound_of ws k) ps) h (omega (arith, one.least)) (omega (arith, one.most, one.least))
        (ap (λ (x : List ℕ). any_past (sums a x)) (sym numbers-one) ∙ n)

-- ---- a row of packets

-- from its packet i on
row_on : (n i from : ℕ) → i < n → packet_places (n - i) (from + 32 * i) ≡ (from + 32 * i) ∷ packet_places (n - (i + 1)) (from + 32 * (i + 1))
unfolding packet_places
row_on n i from h =
    let m : n - i ≡ suc (n - (i + 1)) = omega arith in
    let q : from + 32 * i + 32 ≡ from + 32 * (i + 1) = omega arith in
    ap (λ (k : ℕ). packet_places k (from + 32 * i)) m ∙ ap (λ (k : ℕ). (from + 32 * i) ∷ packet_places (n - (i + 1)) k) q

row-over : (n i from : ℕ) → n ≤ i → packet_places (n - i) (from + 32 * i) ≡ []
unfolding packet_places
row-over n i from h = let z : n - i ≡ 0 = omega arith in ap (λ (k : ℕ). packet_places k (from + 32 * i)) z

-- the i-th of n packets, taken out of the words, is the one that stands there
chunk-at : (n i : ℕ) (xs : List ℕ) → i < n → get_or (first_chunks 32 n xs) i [] ≡ take 32 (drop (32 * i) xs)
chunk-at zero i xs h = absurd (omega arith)
chunk-at (suc n) zero xs h = refl
chunk-at (suc n) (suc i) xs h =
    let on : 32 + 32 * i ≡ 32 * suc i = omega arith in
    chunk-at n i (drop 32 xs) (omega arith) ∙ ap (take 32) (drop-drop (32 * i) 32 xs ∙ ap (λ (m : ℕ). drop m xs) on)

module _ (ws : List ℕ) (from n e : ℕ) (b : from + 32 * n ≤ length ws) (q : e ≡ 32 * n) where
  pub row-length : length (take e (drop from ws)) / 32 ≡ n
  row-length = omega (arith, length-take e (drop from ws), length-drop from ws)

  module _ (i : ℕ) (h : i < n) (row : List (List ℕ)) (r : row ≡ first_chunks 32 (length (take e (drop from ws)) / 32) (take e (drop from ws))) where
    same-packet : packet_at (get_or row i []) 0 ≡ packet_at ws (from + 32 * i)
    same-packet =
        let split : e ≡ 32 * i + 32 * (n - i) = omega arith in
        rw (r, row-length) (ap (take 32) (chunk-at n i (take e (drop from ws)) h)
        ∙ take-take 32 32 (drop (32 * i) (take e (drop from ws))) (omega arith)
        ∙ ap (λ (k : ℕ). take 32 (drop (32 * i) (take k (drop from ws)))) split
        ∙ ap (take 32) (drop-take (32 * i) (32 * (n - i)) (drop from ws))
        ∙ take-take 32 (32 * (n - i)) (drop (32 * i) (drop from ws)) (omega arith)
        ∙ ap (take 32) (drop-drop (32 * i) from ws))

    same-sound : (t : ℕ) → sound_of (get_or row i []) t 0 ≡ sound_of ws t (from + 32 * i)
    unfolding sound_of
    same-sound t = ap (λ (x : List ℕ). eqb (type_of_packet x) t && sound_packet x) same-packet

    pub none-in-row : SoundNone (get_or row i []) 0 → SoundNone ws (from + 32 * i)
    none-in-row s k a b = sym (same-sound k) ∙ s k a b

    pub one-in-row : (t : ℕ) → SoundOne (get_or row i []) 0 t → SoundOne ws (from + 32 * i) t
    one-in-row t s = record { least = s.least; most = s.most; told = λ k a b. sym (same-sound k) ∙ s.told k a b }

-- the numbers of the packets from i on
abbrev pub left : List ℕ → ℕ → ℕ → ℕ → List ℕ
left ws from n i = packet_numbers ws (packet_places (n - i) (from + 32 * i))

module _ (ws : List ℕ) (from n i : ℕ) (a all : List ℕ) (h : length a ≡ 15) (rest : sums a (left ws from n i) ≡ all) where
  -- with the packet at the place they are those from the place on
  on : i < n → sums a (packet_numbers ws ((from + 32 * i) ∷ packet_places (n - (i + 1)) (from + 32 * (i + 1)))) ≡ all
  on l = ap (λ (ps : List ℕ). sums a (packet_numbers ws ps)) (sym (row_on n i from l)) ∙ rest

  pub row-none : i < n → SoundNone ws (from + 32 * i) → sums a (left ws from n (i + 1)) ≡ all
  row-none l none = none-there ws (from + 32 * i) _ a h none ∙ on l

  module _ (l : i < n) (t : ℕ) (one : SoundOne ws (from + 32 * i) t) where
    pub row-one : sums (set a (t - 1) (get_or a (t - 1) 0 + 1)) (left ws from n (i + 1)) ≡ all
    row-one = one-there ws (from + 32 * i) _ a h t one ∙ on l

    pub row-fits : any_past all ≡ false → get_or a (t - 1) 0 + 1 ≤ largest
    row-fits none = one-fits ws (from + 32 * i) _ a h t one (ap any_past (on l) ∙ none)

  pub row-all : n ≤ i → a ≡ all
  row-all l = sym (no-packets-counted ws a h) ∙ ap (λ (ps : List ℕ). sums a (packet_numbers ws ps)) (sym (row-over n i from l)) ∙ rest
