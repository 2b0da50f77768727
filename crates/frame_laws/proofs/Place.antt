-- The law of place. A chunk that is listed at a place is confirmed there, so it is the first that is listed in the words from there on.
use mathlib.Core.Path.{◌≡◌, refl, sym, ◌∙◌}
use mathlib.Core.Bool.{true}
use mathlib.Core.List.{List}
use Prim.Native.Nat.{ℕ}
use native.Mathlib.Omega.{arith}
use lib.ListN.{length, drop, length-drop}
use lib.Dec.{eqb}
use borrow.Author.Tests.{le-ltb}
use Rattle.base.specs.Limit.{recording_limit, too_long}
use Rattle.base.proofs.Booleans.{and_right}
use Rattle.chunk.specs.Header.{confirmed}
use Rattle.chunk.specs.Reading.{left_at, listed_at}
use Rattle.frame_laws.specs.Place.{FramesByPlace}
use Rattle.frame_laws.proofs.Resync.{same-frame}

listed-first : (sync p : ℕ) (ws : List ℕ) → listed_at sync ws p ≡ true → listed_at sync (drop p ws) 0 ≡ true
unfolding listed_at left_at
listed-first sync p ws l = and_right (eqb (left_at sync 0 ws p) 0) (confirmed sync (drop p ws)) l

pub frames-by-place : FramesByPlace
frames-by-place sync ws p short l =
    let long : too_long (drop p ws) ≡ too_long ws =
    le-ltb recording_limit (length (drop p ws)) (omega (arith, length-drop p ws)) ∙ sym (le-ltb recording_limit (length ws) short) in
    same-frame sync 0 (drop p ws) p ws long (listed-first sync p ws l ∙ sym l) refl
