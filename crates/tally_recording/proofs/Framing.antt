-- The pass over the frames and strays: what is counted up to `at` and the frames and strays from there on are all.
use mathlib.Core.Path.{◌≡◌, refl, sym, ap, ap₂, subst, ◌∙◌}
use mathlib.Core.Bool.{Bool, true, false, cond, not, ◌&&◌}
use mathlib.Core.List.{List, [], ◌∷◌}
use Prim.Native.Nat.{ℕ, suc, ◌+◌, ◌≤◌}
use native.Mathlib.Omega.{arith}
use lib.ListN.{get_or, drop}
use Rattle.std.specs.Prelude.{Some, None}
use Rattle.base.specs.declared.Words.{Words}
use Rattle.base.specs.Limit.{too_long, recording_limit}
use Rattle.chunk.specs.declared.Entry.{Entry}
use Rattle.frame.specs.declared.Description.{Description}
use Rattle.frame.specs.declared.Piece.{Piece}
use Rattle.frame.specs.Shape.{starts, complete}
use Rattle.frame.specs.Described.{described}
use Rattle.frame.specs.Pieces.{pieces_of, pieces_from, next_piece}
use Rattle.frame.specs.Said.{piece_entry, Says}
use Rattle.frame.proofs.Stepping.{starts_none}
use Rattle.frame.proofs.Said.{pieces-said}
use Rattle.tally_recording.specs.declared.pieces.Framed.{Framed}
use Rattle.tally_recording.specs.Numbers.{how_often}
use Rattle.tally_recording.specs.Tally.{is_complete, is_cut, is_stray, tally_of}
use Rattle.tally_recording.specs.Walk.{framed_of}
use Rattle.tally_recording.proofs.Bound.{pieces-fit}

pub record Framing (sync : ℕ) (ws : List ℕ) (whole cut strays at : ℕ) : Type 0 where
  pub wholes : whole + how_often (is_complete sync ws) (pieces_from sync ws at) ≡ how_often (is_complete sync ws) (pieces_of sync ws)
  pub cuts : cut + how_often (is_cut sync ws) (pieces_from sync ws at) ≡ how_often (is_cut sync ws) (pieces_of sync ws)
  pub lone : strays + how_often is_stray (pieces_from sync ws at) ≡ how_often is_stray (pieces_of sync ws)

module _ (sync : ℕ) (ws : List ℕ) where
  -- the first of the frames and strays and the others
  often-first : (test : Entry → Bool) (at : ℕ) (e : Entry) (n : ℕ) → pieces_from sync ws at ≡ e ∷ pieces_from sync ws n → (b : Bool) → test e ≡ b
      → how_often test (pieces_from sync ws at) ≡ cond b 1 0 + how_often test (pieces_from sync ws n)
  unfolding how_often
  often-first test at e n l b t = ap (how_often test) l ∙ ap (λ (x : Bool). cond x 1 0 + how_often test (pieces_from sync ws n)) t

  module _ (whole cut strays at : ℕ) (c : Framing sync ws whole cut strays at) where
    module _ (p : Words) (d : Description) (end : Words) (q : next_piece sync ws at ≡ Some (Piece.Frame p d end)) where
      frame-says : Says sync ws at (Some (Piece.Frame p d end))
      frame-says = subst (Says sync ws at) q (pieces-said.says sync ws at)

      lists : pieces_from sync ws at ≡ piece_entry ws (Some (Piece.Frame p d end)) ∷ pieces_from sync ws end.0
      lists = frame-says.first (λ z. omega (arith, z))

      begins : starts (get_or ws (suc p.0) 0) ≡ true
      begins = (frame-says.is_frame refl).0

      told : complete sync (drop p.0 ws) ≡ d.complete
      unfolding described
      told = sym (ap (λ (x : Description). x.complete) (frame-says.is_frame refl).1)

      module _ (x y : ℕ) (one : x ≡ cond d.complete 1 0) (other : y ≡ cond (not d.complete) 1 0) where
        pub frame-framed : Framing sync ws (whole + x) (cut + y) strays end.0
        frame-framed =
            record {
              wholes = omega (arith, c.wholes, one, often-first (is_complete sync ws) at _ end.0 lists d.complete (ap₂ (λ (u v : Bool). u && v) begins told));
              cuts = omega (arith, c.cuts, other, often-first (is_cut sync ws) at _ end.0 lists (not d.complete) (ap₂ (λ (u v : Bool). u && not v) begins told));
              lone = omega (arith, c.lone, often-first is_stray at _ end.0 lists false (ap not begins));
            }

        pub frame-fits : too_long ws ≡ false → (whole + x ≤ recording_limit) × (cut + y ≤ recording_limit)
        frame-fits h = (omega (arith, frame-framed.wholes, pieces-fit sync ws h (is_complete sync ws)), omega (arith, frame-framed.cuts, pieces-fit sync ws h (is_cut sync ws)))

    module _ (e : Entry) (end : Words) (q : next_piece sync ws at ≡ Some (Piece.Stray e end)) where
      stray-says : Says sync ws at (Some (Piece.Stray e end))
      stray-says = subst (Says sync ws at) q (pieces-said.says sync ws at)

      stray-lists : pieces_from sync ws at ≡ piece_entry ws (Some (Piece.Stray e end)) ∷ pieces_from sync ws end.0
      stray-lists = stray-says.first (λ z. omega (arith, z))

      no-frame : starts (get_or ws (suc e.position.0) 0) ≡ false
      no-frame = starts_none (get_or ws (suc e.position.0) 0) (stray-says.is_stray refl).0

      pub stray-framed : Framing sync ws whole cut (strays + 1) end.0
      stray-framed =
          record {
            wholes = omega (arith, c.wholes, often-first (is_complete sync ws) at _ end.0 stray-lists false (ap (λ (x : Bool). x && complete sync (drop e.position.0 ws)) no-frame));
            cuts = omega (arith, c.cuts, often-first (is_cut sync ws) at _ end.0 stray-lists false (ap (λ (x : Bool). x && not (complete sync (drop e.position.0 ws))) no-frame));
            lone = omega (arith, c.lone, often-first is_stray at _ end.0 stray-lists true (ap not no-frame));
          }

      pub stray-fits : too_long ws ≡ false → strays + 1 ≤ recording_limit
      stray-fits h = omega (arith, stray-framed.lone, pieces-fit sync ws h is_stray)

    module _ (q : next_piece sync ws at ≡ None) where
      none_left : pieces_from sync ws at ≡ []
      none_left = (subst (Says sync ws at) q (pieces-said.says sync ws at)).none refl

      abbrev framed : ℕ → ℕ → ℕ → Framed
      framed x y z = record { complete = x; cut = y; strays = z }

      pub all-framed : framed whole cut strays ≡ framed_of sync ws
      unfolding how_often tally_of
      all-framed =
          let x : whole ≡ how_often (is_complete sync ws) (pieces_of sync ws) = omega (arith, c.wholes, ap (how_often (is_complete sync ws)) none_left) in
          let y : cut ≡ how_often (is_cut sync ws) (pieces_of sync ws) = omega (arith, c.cuts, ap (how_often (is_cut sync ws)) none_left) in
          let z : strays ≡ how_often is_stray (pieces_of sync ws) = omega (arith, c.lone, ap (how_often is_stray) none_left) in
          ap (λ (n : ℕ). framed n cut strays) x ∙ ap₂ (framed (how_often (is_complete sync ws) (pieces_of sync ws))) y z
