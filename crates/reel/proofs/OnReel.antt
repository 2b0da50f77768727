-- Laws of what stands on a reel: the words of an index, and two words at a place.
use mathlib.Core.Path.{◌≡◌, refl, ap, ◌∙◌}
use mathlib.Core.List.{List, [], ◌∷◌}
use Prim.Native.Nat.{ℕ, suc, ◌+◌, ◌*◌, ◌≤◌}
use native.Mathlib.Omega.{arith}
use lib.ListN.{length, get_or, take, drop}
use lib.Seq.{drop-cons}
use Rattle.chunk.specs.declared.Entry.{Entry}
use Rattle.reel.specs.Layout.{entry_width, index_words}

pub index-length : (es : List Entry) → length (index_words es) ≡ entry_width * length es
unfolding index_words
index-length [] = refl
index-length (e ∷ es) = omega (arith, index-length es)

-- two words at a place
pub two-words : (d : List ℕ) (k : ℕ) → k + 2 ≤ length d → take 2 (drop k d) ≡ get_or d k 0 ∷ get_or d (k + 1) 0 ∷ []
two-words d k h = ap (take 2) (drop-cons d k 0 (omega arith) ∙ ap (λ (l : List ℕ). get_or d k 0 ∷ l) (drop-cons d (suc k) 0 (omega arith))) ∙ ap (λ (m : ℕ). get_or d k 0 ∷ get_or d m 0 ∷ []) (omega arith)
