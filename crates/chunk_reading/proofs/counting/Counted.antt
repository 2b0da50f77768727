-- The loop that counts: what is counted up to `at` and what the reading gives from there on are all. `words` are those of the chunks so far.
use mathlib.Core.Path.{◌≡◌, sym, ap, ◌∙◌}
use mathlib.Core.Bool.{Bool, ◌||◌, or_assoc, or-false}
use mathlib.Core.List.{List}
use Prim.Native.Nat.{ℕ, ◌+◌, ◌-◌, ◌≤◌}
use native.Mathlib.Omega.{arith}
use lib.ListN.{length, drop}
use Rattle.chunk.specs.declared.Entry.{Entry}
use Rattle.chunk.specs.Reading.{listed, reading, any_end, skipped_from, skipped}
use Rattle.chunk.proofs.Steps.{Next, Last}

pub record Counted (sync : ℕ) (ws : List ℕ) (chunks words : ℕ) (end : Bool) (at : ℕ) : Type 0 where
  pub within : at ≤ length ws
  pub few : chunks ≤ at
  pub less : words ≤ at
  pub many : chunks + length (listed sync at 0 (drop at ws)) ≡ length (reading sync ws)
  pub missed : at + skipped_from sync 0 (drop at ws) ≡ words + skipped sync ws
  pub marked : end || any_end (listed sync at 0 (drop at ws)) ≡ any_end (reading sync ws)

module _ (sync : ℕ) (ws : List ℕ) where
  module _ (chunks words : ℕ) (end : Bool) (at : ℕ) (c : Counted sync ws chunks words end at) where
    pub chunk-counted : (e : Entry) (n : ℕ) → Next sync ws at e n → Counted sync ws (chunks + 1) (words + (n - e.position.0)) (end || e.end) n
    unfolding any_end
    chunk-counted e n s =
        record {
          within = s.within;
          few = omega (arith, c.few, s.ahead, s.end);
          less = omega (arith, c.less, s.ahead, s.end);
          many = omega (arith, c.many, ap length s.lists);
          missed = omega (arith, c.missed, s.skips, s.ahead, s.end);
          marked = or_assoc end e.end _ ∙ ap (λ (es : List Entry). end || any_end es) (sym s.lists) ∙ c.marked;
        }

    pub all-chunks : Last sync ws at → chunks ≡ length (reading sync ws)
    all-chunks l = omega (arith, c.many, ap length l.lists)

    pub all-skipped : Last sync ws at → length ws - words ≡ skipped sync ws
    all-skipped l = omega (arith, c.missed, c.within, l.skips)

    pub any-end : Last sync ws at → end ≡ any_end (reading sync ws)
    unfolding any_end
    any-end l = sym (or-false end) ∙ ap (λ (es : List Entry). end || any_end es) (sym l.lists) ∙ c.marked
