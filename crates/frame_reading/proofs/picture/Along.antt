-- The walk over chunks that stand end to end. The invariants: the chunks that are left lie within the words that are left, and their units, with what was
-- found so far, give the whole answer.
use mathlib.Core.Path.{◌≡◌, refl, sym, ap, ◌∙◌}
use mathlib.Core.Bool.{Bool, false, ◌||◌, or_assoc, or-false}
use mathlib.Core.List.{List, ◌++◌}
use Prim.Native.Nat.{ℕ, zero, suc, ◌+◌, ◌-◌, ◌≤◌, ◌<◌}
use native.Mathlib.Omega.{arith}
use lib.ListN.{length, get_or, take, drop, length-drop}
use Rattle.base.proofs.Booleans as booleans
use Rattle.base_room.specs.Room.{put}
use Rattle.base_room.proofs.Filling as filling
use Rattle.base_room.proofs.Filling.{Filled}
use Rattle.chunk.specs.Header.{size, span}
use Rattle.parity_units.specs.Split.{units_in, any_damaged, given_data, data_words}
use Rattle.parity_units.specs.declared.Harm.{Harm}
use Rattle.parity_units.specs.Replies.{join_reply, join_room, any_touched, harm_to}
use Rattle.parity_units.proofs.Split.{damaged-append, given-append, words_append, given-words}
use Rattle.parity_units.proofs.Joining.{room-enough, touched-append}
use Rattle.frame_reading.specs.Along.{words_along, units_along}

-- n chunks lie within the words
abbrev pub Within : ℕ → List ℕ → Type 0
Within n ws = words_along n ws ≤ length ws

-- so the first of them does
some-within : (left : ℕ) (ws : List ℕ) → Within left ws → 0 < left → span (get_or ws 1 0) ≤ length ws
unfolding words_along
some-within zero ws k l = absurd (omega arith)
some-within (suc left) ws k l = omega arith

pub first-within : (n i : ℕ) (ws : List ℕ) → i < n → Within (n - i) ws → span (get_or ws 1 0) ≤ length ws
first-within n i ws h k = some-within (n - i) ws k (omega arith)

-- and the others in the words after it, whose units follow those of its payload
record Step (left less : ℕ) (ws payload rest : List ℕ) : Type 0 where
  after : Within less rest
  units : units_along left ws ≡ units_in payload ++ units_along less rest

step-on : (less : ℕ) (ws : List ℕ) → Within (suc less) ws
    → Step (suc less) less ws (take (size (get_or ws 1 0)) (drop 2 ws)) (drop (span (get_or ws 1 0)) ws)
unfolding words_along units_along
step-on less ws k = record { after = omega (arith, length-drop (span (get_or ws 1 0)) ws); units = refl }

module _ (n i : ℕ) (ws payload rest : List ℕ) (h : i < n) (p : payload ≡ take (size (get_or ws 1 0)) (drop 2 ws)) (r : rest ≡ drop (span (get_or ws 1 0)) ws) where
  step : Within (n - i) ws → Step (n - i) (n - (i + 1)) ws payload rest
  step k =
      let m : n - i ≡ suc (n - (i + 1)) = omega arith in
      let s = step-on (n - (i + 1)) ws (rw m at k) in
      rw (m, p, r) s

-- ---- judging

-- d and t say what was found of the chunks before those that are left
pub record Inspected (all : List (List ℕ)) (left : ℕ) (ws : List ℕ) (d t : Bool) : Type 0 where
  pub within : Within left ws
  pub damage : d || any_damaged (units_along left ws) ≡ any_damaged all
  pub touch : t || any_touched (units_along left ws) ≡ any_touched all

pub none-inspected : (ws : List ℕ) (n : ℕ) → Within n ws → Inspected (units_along n ws) (n - 0) ws false false
none-inspected ws n h = let z : n - 0 ≡ n = omega arith in rw z (record { within = h; damage = refl; touch = refl })

module _ (all : List (List ℕ)) (n i : ℕ) (ws : List ℕ) (d t : Bool) (k : Inspected all (n - i) ws d t) where
  module _ (payload rest : List ℕ) (h : i < n) (p : payload ≡ take (size (get_or ws 1 0)) (drop 2 ws)) (r : rest ≡ drop (span (get_or ws 1 0)) ws) where
    pub chunk-inspected : (f : Harm) → f ≡ harm_to (units_in payload) → Inspected all (n - (i + 1)) rest (d || f.damaged) (t || f.touched)
    chunk-inspected f j =
        let s = step n i ws payload rest h p r k.within in
        let here = units_in payload in
        let more = units_along (n - (i + 1)) rest in
        record {
          within = s.after;
          damage =
              or_assoc d f.damaged (any_damaged more)
              ∙ ap (λ (b : Bool). d || b)
              (ap (λ (x : Harm). x.damaged || any_damaged more) j ∙ sym (damaged-append here more) ∙ ap any_damaged (sym s.units))
              ∙ k.damage;
          touch =
              or_assoc t f.touched (any_touched more)
              ∙ ap (λ (b : Bool). t || b)
              (ap (λ (x : Harm). x.touched || any_touched more) j ∙ sym (touched-append here more) ∙ ap any_touched (sym s.units))
              ∙ k.touch;
        }

  pub all-inspected : n ≤ i → (d ≡ any_damaged all) × (t ≡ any_touched all)
  unfolding any_damaged any_touched units_along
  all-inspected h =
      let z : n - i ≡ 0 = omega arith in (
        sym (or-false d) ∙ ap (λ (m : ℕ). d || any_damaged (units_along m ws)) (sym z) ∙ k.damage,
        sym (or-false t) ∙ ap (λ (m : ℕ). t || any_touched (units_along m ws)) (sym z) ∙ k.touch,
      )

-- ---- giving the data

-- the data of the chunks before stand in the room; `touched` is false only where no data of the chunks that are left are touched
pub record Given (all : List (List ℕ)) (touched : Bool) (room₀ room : List ℕ) (left : ℕ) (ws : List ℕ) (place : ℕ) : Type 0 where
  pub within : Within left ws
  pub touch : touched ≡ false → any_touched (units_along left ws) ≡ false
  pub fits : place + data_words (units_along left ws) ≤ length room
  pub filled : Filled (given_data all) room₀ 0 (given_data (units_along left ws)) room place

pub none-given : (ws room : List ℕ) (n : ℕ) (touched : Bool) → Within n ws → data_words (units_along n ws) ≤ length room
    → (touched ≡ false → any_touched (units_along n ws) ≡ false) → Given (units_along n ws) touched room room (n - 0) ws 0
none-given ws room n touched h d t =
    let z : n - 0 ≡ n = omega arith in
    rw z (
    record {
      within = h;
      touch = t;
      fits = omega arith;
      filled = filling.filled_none (given_data (units_along n ws)) room 0 (omega (arith, given-words (units_along n ws)));
    }
    )

module _ (all : List (List ℕ)) (touched : Bool) (room₀ room : List ℕ) (n i : ℕ) (ws : List ℕ) (place : ℕ) (k : Given all touched room₀ room (n - i) ws place) where
  module _ (payload rest : List ℕ) (h : i < n) (p : payload ≡ take (size (get_or ws 1 0)) (drop 2 ws)) (r : rest ≡ drop (span (get_or ws 1 0)) ws) where
    abbrev more : List (List ℕ)
    more = units_along (n - (i + 1)) rest

    given-step : Step (n - i) (n - (i + 1)) ws payload rest
    given-step = step n i ws payload rest h p r k.within

    data-here : given_data (units_along (n - i) ws) ≡ given_data (units_in payload) ++ given_data more
    data-here = ap given_data given-step.units ∙ given-append (units_in payload) more

    touch-here : touched ≡ false → (any_touched (units_in payload) ≡ false) × (any_touched more ≡ false)
    touch-here t =
        booleans.or-false (any_touched (units_in payload)) (any_touched more) (sym (touched-append (units_in payload) more) ∙ ap any_touched (sym given-step.units) ∙ k.touch t)

    pub untouched-here : touched ≡ false → any_touched (units_in payload) ≡ false
    untouched-here t = (touch-here t).0

    words-here : data_words (units_along (n - i) ws) ≡ data_words (units_in payload) + data_words more
    words-here = ap data_words given-step.units ∙ words_append (units_in payload) more

    module _ (m : ℕ) (q : m ≡ join_reply payload place (length room)) where
      enough : (join_reply payload place (length room) ≡ length (given_data (units_in payload))) × (join_room payload place room ≡ put (given_data (units_in payload)) place room)
      unfolding join_reply join_room
      enough = room-enough given_data payload room place (omega (arith, k.fits, words-here))

      pub room-left : place + m ≤ length room
      room-left = omega (arith, k.fits, words-here, given-words (units_in payload), q, enough.0)

      pub chunk-given : (room₁ : List ℕ) → room₁ ≡ join_room payload place room → Given all touched room₀ room₁ (n - (i + 1)) rest (place + m)
      chunk-given room₁ w =
          let f =
          filling.filled_more (given_data all) room₀ 0 (given_data (units_along (n - i) ws)) room place k.filled (given_data (units_in payload)) (given_data more) data-here
          room₁ (w ∙ enough.1) (place + m) (ap (λ (j : ℕ). place + j) (q ∙ enough.0)) in
          record {
            within = given-step.after;
            touch = λ t. (touch-here t).1;
            fits = omega (arith, k.fits, words-here, given-words (units_in payload), q, enough.0, f.long, k.filled.long);
            filled = f;
          }

  pub all-given : n ≤ i → room ≡ put (given_data all) 0 room₀
  unfolding given_data units_along
  all-given h =
      let z : n - i ≡ 0 = omega arith in
      (filling.filled-all (given_data all) room₀ 0 (given_data (units_along (n - i) ws)) room place k.filled (ap (λ (j : ℕ). given_data (units_along j ws)) z)).0
