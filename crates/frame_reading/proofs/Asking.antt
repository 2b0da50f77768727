-- What an asked frame's calls answer, each from the one before it: a refusal is kept, and where nothing is refused the further causes decide.
use mathlib.Core.Path.{◌≡◌, refl, sym, ap, ap₂, subst, ◌∙◌}
use mathlib.Core.Bool.{Bool, true, false, cond, not, ◌&&◌}
use mathlib.Core.List.{List, [], ◌∷◌, ◌++◌}
use Prim.Native.Nat.{ℕ, ◌+◌, ◌-◌, ◌≤◌, ◌<◌}
use native.Mathlib.Omega.{arith}
use lib.ListN.{length, take, drop, get_or, length-drop}
use lib.Seq.{get_or-drop}
use lib.Dec.{ltb, eqb}
use Rattle.std.specs.Prelude.{Option, Some, None}
use borrow.Author.Tests.{not-false, lt-ltb, le-ltb, ltb-false}
use Rattle.base.proofs.Booleans.{and_left, and_right}
use Rattle.base_room.proofs.RoomLaws.{to_end}
use Rattle.base.specs.Refusal.{Causes, verdict, answer, wrong_length, nothing_there, frame_cut, wrong_parity, no_room}
use Rattle.base.specs.Limit.{too_long}
use Rattle.base_room.specs.Room.{put}
use Rattle.base.proofs.Refused.{numbered, spared, answer-no, answer-yes, answer-number, verdict-kept, verdict-further}
use Rattle.base.specs.declared.Words.{Words}
use Rattle.chunk.specs.declared.Entry.{Entry}
use Rattle.chunk.specs.Header.{confirmed}
use Rattle.chunk.specs.Reading.{left_at, listed_at}
use Rattle.chunk.proofs.Steps.{confirmed-bounds}
use Rattle.parity_units.specs.declared.Harm.{Harm}
use Rattle.parity_units.specs.Split.{any_damaged, given_data, data_words}
use Rattle.parity_units.specs.Replies.{any_touched, harm_to}
use Rattle.frame.specs.declared.Description.{Description}
use Rattle.frame.specs.declared.Piece.{Piece}
use Rattle.frame.specs.Shape.{starts, frame_chunks, complete}
use Rattle.frame.specs.Picture.{frame_units, frame_length, frame_data}
use Rattle.frame.specs.Described.{described}
use Rattle.frame.specs.Pieces.{frame_there, next_piece}
use Rattle.frame.specs.Walk.{starts_frame}
use Rattle.frame_reading.specs.declared.Frame.{Frame}
use Rattle.frame_reading.specs.Along.{words_along, units_along}
use Rattle.frame_reading.specs.Replies.{refused, told, at_causes, at_reply, judge_causes, judge_reply, read_causes, read_reply, read_room}
use Rattle.frame.proofs.Joining.{entry_at, confirmed-inside, next_here}
use Rattle.frame.proofs.Walking.{longer-than-header}
use Rattle.frame.proofs.Stepping.{frame-next}
use Rattle.frame_reading.proofs.Rows.{frame-units, frame-within, frame-data}

-- a refusal is no 0
pub refused_not : (n : ℕ) → 0 < n → (r : Frame) → r ≡ refused n → r.refusal ≡ 0 → ⊥
refused_not n h r e z = omega (arith, ap (λ (f : Frame). f.refusal) e)

-- ---- the place

-- a frame that starts at the front of words is the next piece
first_piece : (sync : ℕ) (vs : List ℕ) → starts_frame sync vs ≡ true → next_piece sync vs 0 ≡ Some (frame_there sync vs 0)
first_piece sync vs s =
    let h : ℕ = get_or vs 1 0 in
    frame-next sync vs 0 (entry_at vs 0 h) _ (next_here sync vs 0 (and_left (confirmed sync vs) (starts h) s)) (and_right (confirmed sync vs) (starts h) s)

module _ (sync p : ℕ) (ws : List ℕ) where
  listed-confirmed : listed_at sync ws p ≡ true → confirmed sync (drop p ws) ≡ true
  unfolding listed_at
  listed-confirmed e = and_right (eqb (left_at sync 0 ws p) 0) (confirmed sync (drop p ws)) e

  -- the header word of a listed chunk lies within the words
  pub listed_inside : listed_at sync ws p ≡ true → p + 1 < length ws
  listed_inside e =
      let c = listed-confirmed e in
      omega (arith, (confirmed-bounds sync ws p (confirmed-inside sync ws p c) c).0)

  pub when_too_long : too_long ws ≡ true → wrong_length ≡ verdict (at_causes sync ws p)
  when_too_long h = simp h

  module _ (h : too_long ws ≡ false) where
    pub by-start : listed_at sync ws p ≡ true → (b : Bool) → b ≡ starts (get_or ws (p + 1) 0) → cond (not b) nothing_there 0 ≡ verdict (at_causes sync ws p)
    by-start e b s = simp (h, e, s, get_or-drop p ws 1 0)

  -- ---- what a frame is

  -- the words from the place on
  abbrev here : List ℕ
  here = drop p ws

  -- these words, as a part of the recording
  abbrev pub part : List ℕ
  part = take (length ws - p) (drop p ws)

  module _ (v : verdict (at_causes sync ws p) ≡ 0) where
    starts-here : starts_frame sync here ≡ true
    starts-here =
        let s = spared (at_causes sync ws p) refl v in
        let b = not-false (listed_at sync ws p && starts (get_or here 1 0)) s.1.0 in
        ap₂ ◌&&◌ (listed-confirmed (and_left (listed_at sync ws p) (starts (get_or here 1 0)) b)) (and_right (listed_at sync ws p) (starts (get_or here 1 0)) b)

    pub place_inside : p ≤ length ws
    place_inside = omega (arith, longer-than-header sync here starts-here, length-drop p ws)

    module _ (x : Option Piece) (q : x ≡ next_piece sync part 0) where
      piece-here : x ≡ Some (frame_there sync here 0)
      piece-here = q ∙ ap (λ (vs : List ℕ). next_piece sync vs 0) (to_end p ws) ∙ first_piece sync here starts-here

      pub at_given : (a b : Words) (d : Description) → x ≡ Some (Piece.Frame a d b) → told d ≡ at_reply sync ws p
      unfolding at_reply
      at_given a b d t =
          let e : d ≡ described sync here = cc piece-here in
          ap told e ∙ sym (answer-yes (verdict (at_causes sync ws p)) refused (told (described sync here)) v)

      pub no_stray : (a : Entry) (b : Words) → x ≡ Some (Piece.Stray a b) → ⊥
      no_stray a b t = let z : ◌≡◌ {A = ℕ} 0 1 = cc piece-here in omega arith

      pub no_end : x ≡ None → ⊥
      no_end t = let z : ◌≡◌ {A = ℕ} 0 1 = cc piece-here in omega arith

  pub at_refused : (n : ℕ) → n ≡ verdict (at_causes sync ws p) → (n ≡ 0 → ⊥) → refused n ≡ at_reply sync ws p
  unfolding at_reply
  at_refused n e h =
      ap refused e ∙ sym (answer-no (verdict (at_causes sync ws p)) refused (told (described sync here)) (λ z. h (e ∙ z)))

  -- the number in a reply, and the reply where it is 0
  module _ (cs : Causes) (r : Frame) (e : r ≡ answer (verdict cs) refused (told (described sync here))) where
    refusal-in-reply : r.refusal ≡ verdict cs
    unfolding described
    refusal-in-reply = ap (λ (f : Frame). f.refusal) e ∙ answer-number (λ (f : Frame). f.refusal) (verdict cs) refused (told (described sync here)) refl (λ z. refl)

    -- a refusal stands, whatever further causes there are
    refusal-kept : (ds : Causes) → (r.refusal ≡ 0 → ⊥) → r ≡ answer (verdict (cs ++ ds)) refused (told (described sync here))
    refusal-kept ds h = e ∙ ap (λ (v : ℕ). answer v refused (told (described sync here))) (sym (verdict-kept cs ds (λ z. h (refusal-in-reply ∙ z))))

    module _ (z : r.refusal ≡ 0) where
      nothing-refused : verdict cs ≡ 0
      nothing-refused = sym refusal-in-reply ∙ z

      reply-described : r ≡ told (described sync here)
      reply-described = e ∙ answer-yes (verdict cs) refused (told (described sync here)) nothing-refused

      -- else the further causes decide
      further-causes : (ds : Causes) → numbered cs ≡ true → answer (verdict ds) refused r ≡ answer (verdict (cs ++ ds)) refused (told (described sync here))
      further-causes ds k = ap₂ (λ (v : ℕ) (f : Frame). answer v refused f) (sym (verdict-further cs ds k nothing-refused)) reply-described

  -- the chunks of a frame that starts here, as many as it says
  module _ (s : starts_frame sync here ≡ true) (r : Frame) (e : r ≡ told (described sync here)) where
    chunks-here : r.chunks ≡ length (frame_chunks sync here)
    unfolding described
    chunks-here = ap (λ (f : Frame). f.chunks) e

    units-here : units_along r.chunks part ≡ frame_units sync here
    units-here = ap₂ units_along chunks-here (to_end p ws) ∙ frame-units sync here s

    within-here : words_along r.chunks part ≤ length part
    within-here =
        subst (λ (vs : List ℕ). words_along r.chunks vs ≤ length vs) (sym (to_end p ws))
        (subst (λ (n : ℕ). words_along n here ≤ length here) (sym chunks-here) (frame-within sync here s))

  -- ---- whether its data can be had

  abbrev cut_or_damaged : Causes
  cut_or_damaged = (frame_cut, not (complete sync here)) ∷ (wrong_parity, any_damaged (frame_units sync here)) ∷ []

  module _ (r : Frame) (e : r ≡ at_reply sync ws p) where
    pub judge_kept : (r.refusal ≡ 0 → ⊥) → r ≡ judge_reply sync ws p
    unfolding judge_reply at_reply
    judge_kept = refusal-kept (at_causes sync ws p) r e cut_or_damaged

    module _ (z : r.refusal ≡ 0) where
      at-accepted : verdict (at_causes sync ws p) ≡ 0
      unfolding at_reply
      at-accepted = nothing-refused (at_causes sync ws p) r e z

      as-described : r ≡ told (described sync here)
      unfolding at_reply
      as-described = reply-described (at_causes sync ws p) r e z

      pub judged_inside : p ≤ length ws
      judged_inside = place_inside at-accepted

      pub chunks_within : words_along r.chunks part ≤ length part
      chunks_within = within-here (starts-here at-accepted) r as-described

      by-cut-and-damage : answer (verdict cut_or_damaged) refused r ≡ judge_reply sync ws p
      unfolding judge_reply at_reply
      by-cut-and-damage = further-causes (at_causes sync ws p) r e z cut_or_damaged refl

      complete-here : r.complete ≡ complete sync here
      unfolding described
      complete-here = ap (λ (f : Frame). f.complete) as-described

      pub cut : r.complete ≡ false → refused frame_cut ≡ judge_reply sync ws p
      unfolding answer
      cut c = ap (λ (b : Bool). answer (verdict ((frame_cut, not b) ∷ (wrong_parity, any_damaged (frame_units sync here)) ∷ [])) refused r) (sym c ∙ complete-here) ∙ by-cut-and-damage

      -- what is found of the chunks is found of the frame's units
      pub harm_here : {h : Harm} → h ≡ harm_to (units_along r.chunks part) → h ≡ harm_to (frame_units sync here)
      harm_here e = e ∙ ap harm_to (units-here (starts-here at-accepted) r as-described)

      pub touched_here : (h : Harm) → h ≡ harm_to (units_along r.chunks part) → h.touched ≡ any_touched (frame_units sync here)
      touched_here h e = ap (λ (x : Harm). x.touched) (harm_here e)

      module _ (c : r.complete ≡ true) (b : Bool) (d : b ≡ any_damaged (frame_units sync here)) where
        by-damage : answer (verdict ((frame_cut, not true) ∷ (wrong_parity, b) ∷ [])) refused r ≡ judge_reply sync ws p
        by-damage =
            ap₂ (λ (x y : Bool). answer (verdict ((frame_cut, not x) ∷ (wrong_parity, y) ∷ [])) refused r) (sym c ∙ complete-here) d
            ∙ by-cut-and-damage

        pub damaged : b ≡ true → refused wrong_parity ≡ judge_reply sync ws p
        unfolding answer
        damaged t = ap (λ (x : Bool). answer (verdict ((frame_cut, not true) ∷ (wrong_parity, x) ∷ [])) refused r) (sym t) ∙ by-damage

        pub undamaged : b ≡ false → r ≡ judge_reply sync ws p
        unfolding answer
        undamaged t = ap (λ (x : Bool). answer (verdict ((frame_cut, not true) ∷ (wrong_parity, x) ∷ [])) refused r) (sym t) ∙ by-damage

  -- ---- its data

  abbrev too_small : ℕ → Causes
  too_small m = (no_room, ltb m (frame_length sync here)) ∷ []

  module _ (m : ℕ) (r : Frame) (e : r ≡ judge_reply sync ws p) where
    pub look_kept : (r.refusal ≡ 0 → ⊥) → r ≡ read_reply sync ws p m
    unfolding judge_reply read_reply
    look_kept = refusal-kept (judge_causes sync ws p) r e (too_small m)

    module _ (z : r.refusal ≡ 0) where
      by-room : answer (verdict ((no_room, ltb m r.length.0) ∷ [])) refused r ≡ read_reply sync ws p m
      unfolding judge_reply read_reply described
      by-room =
          ap (λ (n : ℕ). answer (verdict ((no_room, ltb m n) ∷ [])) refused r) (ap (λ (f : Frame). f.length.0) (reply-described (judge_causes sync ws p) r e z))
          ∙ further-causes (judge_causes sync ws p) r e z (too_small m) refl

      pub when_too_small : m < r.length.0 → refused no_room ≡ read_reply sync ws p m
      unfolding answer
      when_too_small h = ap (λ (b : Bool). answer (cond b no_room 0) refused r) (sym (lt-ltb m r.length.0 h)) ∙ by-room

      pub enough : r.length.0 ≤ m → r ≡ read_reply sync ws p m
      unfolding answer
      enough h = ap (λ (b : Bool). answer (cond b no_room 0) refused r) (sym (le-ltb m r.length.0 h)) ∙ by-room

  module _ (room : List ℕ) (r : Frame) (e : r ≡ read_reply sync ws p (length room)) where
    abbrev causes : Causes
    causes = read_causes sync ws p (length room)

    pub untouched : (r.refusal ≡ 0 → ⊥) → room ≡ read_room sync ws p room
    unfolding read_reply read_room
    untouched h =
        sym (answer-no (verdict causes) (λ v. room) (put (frame_data sync here) 0 room) (λ z. h (refusal-in-reply causes r e ∙ z)))

    module _ (z : r.refusal ≡ 0) where
      read-accepted : verdict causes ≡ 0
      unfolding read_reply
      read-accepted = nothing-refused causes r e z

      at-accepted-too : verdict (at_causes sync ws p) ≡ 0
      at-accepted-too = let s = spared causes refl read-accepted in rw (s.0, s.1.0)

      as_read : r ≡ told (described sync here)
      unfolding read_reply
      as_read = reply-described causes r e z

      units-read : units_along r.chunks part ≡ frame_units sync here
      units-read = units-here (starts-here at-accepted-too) r as_read

      pub read_inside : p ≤ length ws
      read_inside = place_inside at-accepted-too

      pub read_untouched : (t : Bool) → t ≡ any_touched (frame_units sync here) → t ≡ false → any_touched (units_along r.chunks part) ≡ false
      read_untouched t e f = ap any_touched units-read ∙ sym e ∙ f

      -- what is asked for the data
      pub words_ready : words_along r.chunks part ≤ length part
      words_ready = within-here (starts-here at-accepted-too) r as_read

      pub room_ready : data_words (units_along r.chunks part) ≤ length room
      room_ready =
          let n : frame_length sync here ≤ length room = ltb-false (length room) (frame_length sync here) (spared causes refl read-accepted).1.1.1.1.0 in
          omega (arith, ap data_words units-read)

      pub written : (room₁ : List ℕ) → room₁ ≡ put (given_data (units_along r.chunks part)) 0 room → room₁ ≡ read_room sync ws p room
      unfolding read_room
      written room₁ w =
          let d : any_damaged (frame_units sync here) ≡ false = (spared causes refl read-accepted).1.1.1.0 in
          w ∙ ap (λ (x : List ℕ). put x 0 room) (ap given_data units-read ∙ frame-data sync here (starts-here at-accepted-too) d)
          ∙ sym (answer-yes (verdict causes) (λ v. room) (put (frame_data sync here) 0 room) read-accepted)
