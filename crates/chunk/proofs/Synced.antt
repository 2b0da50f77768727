-- What the check at the next sync word tells of the search.
use mathlib.Core.Path.{◌≡◌, sym, ap, ap₂, ◌∙◌}
use mathlib.Core.Bool.{Bool, true, false}
use mathlib.Core.List.{List}
use Prim.Native.Nat.{ℕ, suc, ◌+◌}
use native.Mathlib.Numerals.{add-one}
use native.Mathlib.Omega.{arith}
use lib.ListN.{get_or, drop}
use Rattle.std.specs.Prelude.{Option, Some}
use Rattle.base.specs.declared.Words.{Words}
use Rattle.chunk.specs.declared.Entry.{Entry}
use Rattle.chunk.specs.declared.Check.{Check}
use Rattle.chunk.specs.Header.{size, span, confirmed, check_at, is_chunk, is_at_end}
use Rattle.chunk.specs.Reading.{entry, chunk_at, next_from}
use Rattle.chunk.specs.Within.{Synced}
use Rattle.chunk.proofs.Headers.{check-chunk, check-end}
use Rattle.chunk.proofs.Steps.{found_here, found-later}

module _ (sync : ℕ) (ws : List ℕ) (p at : ℕ) (s : Synced sync ws p at) (check : Check) (told : check ≡ check_at sync (drop at ws)) where
  told-confirmed : is_chunk check ≡ confirmed sync (drop at ws)
  told-confirmed = ap is_chunk told ∙ check-chunk sync (drop at ws)

  -- a chunk there is the one that the search finds
  pub chunk_found : (end : Bool) (n : ℕ) → is_chunk check ≡ true → end ≡ is_at_end check → n ≡ size (get_or ws (at + 1) 0)
      → ◌≡◌ {A = Option (Entry × Words)} (Some (entry at (get_or ws (at + 1) 0) end, record { 0 = at + 2 + n })) (next_from sync ws p)
  chunk_found end n is mark long =
      let here : confirmed sync (drop at ws) ≡ true = sym told-confirmed ∙ is in
      let word : get_or ws (at + 1) 0 ≡ get_or ws (suc at) 0 = ap (λ (i : ℕ). get_or ws i 0) (add-one at) in
      let past : at + 2 + n ≡ at + span (get_or ws (at + 1) 0) = omega arith in
      ap (λ (i : ℕ). Some (entry at (get_or ws (at + 1) 0) end, record { 0 = i })) past
      ∙ ap₂ (chunk_at at) word (mark ∙ ap is_at_end told ∙ check-end sync (drop at ws) here)
      ∙ sym (found_here sync ws at (omega (arith, s.room)) here)
      ∙ sym s.same

  -- and where it is none the search goes on behind the sync word
  pub none_found : is_chunk check ≡ false → next_from sync ws (at + 1) ≡ next_from sync ws p
  none_found is =
      ap (next_from sync ws) (add-one at)
      ∙ sym (found-later sync ws at (omega (arith, s.room)) (sym told-confirmed ∙ is))
      ∙ sym s.same
